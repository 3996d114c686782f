-- Passages, pushed one after another.
use Rattle.std.proofs.Common.{◌≡◌, refl, sym, ◌∙◌, ap, subst, ℕ, zero, suc, ◌+◌, ◌-◌, ◌<◌, ◌≤◌, true, cond, nat_lt, lt-ltb, List, [], ◌∷◌, ◌++◌, length, get_or, take, append_assoc, arith}
use Rattle.std.specs.List.{flat_map}
use Rattle.std.proofs.lemmas.List.{get_or_default, take_more, take_all, flat_map_more, reverse-reverse}
use Rattle.std.proofs.lemmas.Bool.{ltb-true}
use Rattle.map_base.specs.declared.ids.LineId.{LineId}
use Rattle.feed_courses.specs.declared.courses.Course.{Course}
use Rattle.way_network.specs.declared.way.Way.{Way}
use Rattle.way_network.specs.declared.way.Passage.{Passage}
use Rattle.way_network.specs.Joins.{passages_along}
use Rattle.way_network.specs.Segments.{reversed, second_of}
use Rattle.line_graph.specs.Legs.{Leg, legs_of}
use Rattle.line_graph.specs.Handing.{directed, handed_over, passages_between}
use Rattle.line_graph.specs.StretchTables.{StretchTable, directed_between, passage_over, path_in, points_at}
use Rattle.line_graph.specs.Premises.{HasHops}
use Rattle.line_graph.proofs.TableSteps.{leg_at, legs_at, length-legs}

abbrev passage_at : LineId → ℕ → ℕ → ℕ → Passage
passage_at line at from to = record { line = line; at = at; from = from; to = to }

-- one more point of a way
along_more : (line : LineId) (k : ℕ) (points : List ℕ) → suc (suc k) < length points →
    passages_along line (take (suc (suc (suc k))) points) ≡ passages_along line (take (suc (suc k)) points) ++ passage_at line (get_or points (suc k) 0) (get_or points k 0) (get_or points (suc (suc k)) 0) ∷ []
along_more line k [] below = absurd (omega (arith, below))
along_more line k (a ∷ []) below = absurd (omega (arith, below))
along_more line k (a ∷ b ∷ []) below = absurd (omega (arith, below))
along_more line zero (a ∷ b ∷ c ∷ rest) below = refl
along_more line (suc k) (a ∷ b ∷ c ∷ rest) below = ap (λ xs. passage_at line b a c ∷ xs) (along_more line k (b ∷ c ∷ rest) (omega (arith, below)))

pub along_step : (line : LineId) (k : ℕ) (points : List ℕ) (start before after : List Passage) → 2 ≤ k → k < length points → before ≡ start ++ passages_along line (take k points) →
    after ≡ before ++ record { line = line; at = get_or points (k - 1) 0; from = get_or points (k - 2) 0; to = get_or points k 0 } ∷ [] → after ≡ start ++ passages_along line (take (k + 1) points)
along_step line zero points start before after some below so_far is = absurd (omega (arith, some))
along_step line (suc zero) points start before after some below so_far is = absurd (omega (arith, some))
along_step line (suc (suc k)) points start before after some below so_far is =
    let three : suc (suc k) + 1 ≡ suc (suc (suc k)) = omega arith in
    let one : suc (suc k) - 1 ≡ suc k = omega arith in
    let two : suc (suc k) - 2 ≡ k = omega arith in
    is ∙ ap (λ xs. xs ++ passage_at line (get_or points (suc (suc k) - 1) 0) (get_or points (suc (suc k) - 2) 0) (get_or points (suc (suc k)) 0) ∷ []) so_far
    ∙ ap (λ n. (start ++ passages_along line (take (suc (suc k)) points)) ++ passage_at line (get_or points n 0) (get_or points (suc (suc k) - 2) 0) (get_or points (suc (suc k)) 0) ∷ []) one
    ∙ ap (λ n. (start ++ passages_along line (take (suc (suc k)) points)) ++ passage_at line (get_or points (suc k) 0) (get_or points n 0) (get_or points (suc (suc k)) 0) ∷ []) two
    ∙ append_assoc start (passages_along line (take (suc (suc k)) points)) (passage_at line (get_or points (suc k) 0) (get_or points k 0) (get_or points (suc (suc k)) 0) ∷ [])
    ∙ ap (λ xs. start ++ xs) (sym (along_more line k points below)) ∙ ap (λ n. start ++ passages_along line (take n points)) (sym three)

-- one more leg of a course
between_more : (path : Leg → List ℕ) (legs : List Leg) (k : ℕ) (d : Leg) → suc k < length legs →
    passages_between path (take (suc (suc k)) legs)
    ≡ passages_between path (take (suc k) legs) ++ handed_over (get_or legs k d) (directed (get_or legs k d) (path (get_or legs k d))) (directed (get_or legs (suc k) d) (path (get_or legs (suc k) d))) ∷ []
between_more path [] k d below = absurd (omega (arith, below))
between_more path (a ∷ []) k d below = absurd (omega (arith, below))
between_more path (a ∷ b ∷ rest) zero d below = refl
between_more path (a ∷ b ∷ rest) (suc k) d below = ap (λ xs. handed_over a (directed a (path a)) (directed b (path b)) ∷ xs) (between_more path (b ∷ rest) k d (omega (arith, below)))

-- what is handed over between two legs
abbrev handed : (Leg → List ℕ) → Leg → Leg → Passage
handed path a b = handed_over a (directed a (path a)) (directed b (path b))

pub between_step : (table : StretchTable) (ways : List Way) (course : Course) (k : ℕ) (stops : List ℕ) (start before after : List Passage) (passage : Passage) → HasHops course → stops ≡ course.stops → 2 ≤ k → k < length stops →
    before ≡ start ++ passages_between (path_in table ways) (take (k - 1) (legs_of course)) → passage ≡ passage_over table ways course.line (get_or stops (k - 2) 0) (get_or stops (k - 1) 0) (get_or stops k 0) →
    after ≡ before ++ passage ∷ [] → after ≡ start ++ passages_between (path_in table ways) (take (k + 1 - 1) (legs_of course))
between_step table ways course zero stops start before after passage each same some below so_far is pushed = absurd (omega (arith, some))
between_step table ways course (suc zero) stops start before after passage each same some below so_far is pushed = absurd (omega (arith, some))
between_step table ways course (suc (suc k)) stops start before after passage each same some below so_far is pushed =
    pushed ∙ ap (λ xs. xs ++ passage ∷ []) so_far ∙ ap (λ n. (start ++ passages_between path (take n legs)) ++ passage ∷ []) one
    ∙ ap (λ x. (start ++ passages_between path (take (suc k) legs)) ++ x ∷ []) (is ∙ here)
    ∙ append_assoc start (passages_between path (take (suc k) legs)) (handed path a b ∷ [])
    ∙ ap (λ xs. start ++ xs) (sym more) ∙ ap (λ n. start ++ passages_between path (take n legs)) (sym two)
  where
    path : Leg → List ℕ
    path = path_in table ways

    legs : List Leg
    legs = legs_of course

    a : Leg
    a = leg_at course.line course.stops course.hops k

    b : Leg
    b = leg_at course.line course.stops course.hops (suc k)

    one : suc (suc k) - 1 ≡ suc k
    one = omega arith

    less : suc (suc k) - 2 ≡ k
    less = omega arith

    two : suc (suc k) + 1 - 1 ≡ suc (suc k)
    two = omega arith

    in_stops : suc (suc k) < length course.stops
    in_stops = subst (λ (xs : List ℕ). suc (suc k) < length xs) same below

    in_hops : suc k < length course.hops
    in_hops = omega (arith, each, in_stops)

    here : passage_over table ways course.line (get_or stops (suc (suc k) - 2) 0) (get_or stops (suc (suc k) - 1) 0) (get_or stops (suc (suc k)) 0) ≡ handed path a b
    here =
        ap (λ n. passage_over table ways course.line (get_or stops n 0) (get_or stops (suc (suc k) - 1) 0) (get_or stops (suc (suc k)) 0)) less
        ∙ ap (λ n. passage_over table ways course.line (get_or stops k 0) (get_or stops n 0) (get_or stops (suc (suc k)) 0)) one
        ∙ ap (λ (xs : List ℕ). passage_over table ways course.line (get_or xs k 0) (get_or xs (suc k) 0) (get_or xs (suc (suc k)) 0)) same

    more : passages_between path (take (suc (suc k)) legs) ≡ passages_between path (take (suc k) legs) ++ handed path a b ∷ []
    more =
        between_more path legs k a (omega (arith, length-legs course.line course.stops course.hops each, in_hops))
        ∙ ap (λ (x : Leg). passages_between path (take (suc k) legs) ++ handed path x (get_or legs (suc k) a) ∷ []) (legs_at course.line course.stops course.hops k a each (omega (arith, in_hops)))
        ∙ ap (λ (x : Leg). passages_between path (take (suc k) legs) ++ handed path a x ∷ []) (legs_at course.line course.stops course.hops (suc k) a each in_hops)

pub between_whole : (table : StretchTable) (ways : List Way) (course : Course) (k : ℕ) (stops : List ℕ) (start before : List Passage) → HasHops course → stops ≡ course.stops → length stops ≤ k →
    before ≡ start ++ passages_between (path_in table ways) (take (k - 1) (legs_of course)) → before ≡ start ++ passages_between (path_in table ways) (legs_of course)
between_whole table ways course k stops start before each same all so_far =
    let in_stops : length course.stops ≤ k = subst (λ (xs : List ℕ). length xs ≤ k) same all in
    so_far ∙ ap (λ xs. start ++ passages_between (path_in table ways) xs) (take_all (k - 1) (legs_of course) (omega (arith, length-legs course.line course.stops course.hops each, each, in_stops)))

-- the first leg is left by no passage
pub between_none : (path : Leg → List ℕ) (legs : List Leg) → passages_between path (take 1 legs) ≡ []
between_none path [] = refl
between_none path (a ∷ rest) = refl

-- the points of a way that is found
pub way_found : (ways : List Way) (place : ℕ) (way : Way) → true ≡ nat_lt place (length ways) → way ≡ get_or ways place way → way.points ≡ points_at ways place
way_found ways place way there is =
    ap (λ (w : Way). w.points) (is ∙ get_or_default ways place way (record { line = record { 0 = 0 }; points = [] }) (ltb-true place (length ways) (sym there)))

-- points from the other end
pub second_back : (from to : ℕ) (points : List ℕ) → to < from → second_of points ≡ second_of (reversed (directed_between from to points))
second_back from to points back = sym (ap (λ b. second_of (reversed (cond b (reversed points) points))) (lt-ltb to from back) ∙ ap second_of (reverse-reverse points))

-- one more list of a course
pub flat_more : {X Y : Type 0} (f : X → List Y) (xs : List X) (k : ℕ) (d : X) (before after : List Y) → k < length xs → before ≡ flat_map f (take k xs) → after ≡ before ++ f (get_or xs k d) →
    after ≡ flat_map f (take (k + 1) xs)
flat_more f xs k d before after below so_far is =
    is ∙ ap (λ ys. ys ++ f (get_or xs k d)) so_far ∙ flat_map_more f [] (take k xs) (get_or xs k d) ∙ ap (flat_map f) (sym (take_more xs k d below))
