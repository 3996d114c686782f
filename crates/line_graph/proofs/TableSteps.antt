-- One more leg in a table of stretches.
use Rattle.std.proofs.Common.{◌≡◌, refl, sym, ◌∙◌, ap, subst, ℕ, zero, suc, ◌+◌, ◌<◌, ◌≤◌, ◌⊎◌, inl, inr, Bool, true, false, cond, not, ◌||◌, lt-ltb, List, [], ◌∷◌, ◌++◌, length, get_or, set, take, fold, position, Option, Some, None, arith}
use Rattle.std.specs.Option.{unwrap_or}
use Rattle.std.specs.List.{list_any}
use Rattle.std.proofs.lemmas.Bool.{cases_lt, le-ltb}
use Rattle.std.proofs.lemmas.List.{get_or_default, take_all}
use Rattle.std.proofs.lemmas.List.Sums.{fold_more, prefix_len-le-length}
use Rattle.map_base.specs.declared.ids.LineId.{LineId}
use Rattle.map_base.specs.declared.point.Point.{Point}
use Rattle.feed_courses.specs.declared.courses.Course.{Course}
use Rattle.line_graph.specs.declared.stretches.Stretch.{Stretch}
use Rattle.line_graph.specs.Legs.{Leg, legs_between, legs_of}
use Rattle.line_graph.specs.StretchTables.{StretchTable, stretch_between, is_stretch, place_in, noted, extended, with_samples, with_leg}
use Rattle.line_graph.specs.Premises.{HasHops}

-- behind the last corridor a new one begins
pub extended_new : (cs : List (List Point)) (n : ℕ) (samples : List Point) → n ≡ length cs → cs ++ samples ∷ [] ≡ extended cs n samples
extended_new [] n samples e = refl
extended_new (c ∷ cs) zero samples e = absurd (omega (arith, e))
extended_new (c ∷ cs) (suc n) samples e = ap (λ xs. c ∷ xs) (extended_new cs n samples (omega (arith, e)))

-- one of them goes on
pub extended_at : (cs : List (List Point)) (n : ℕ) (samples : List Point) → n < length cs → set cs n (get_or cs n [] ++ samples) ≡ extended cs n samples
extended_at [] n samples below = absurd (omega (arith, below))
extended_at (c ∷ cs) zero samples below = refl
extended_at (c ∷ cs) (suc n) samples below = ap (λ xs. c ∷ xs) (extended_at cs n samples (omega (arith, below)))

-- the place of a stretch behind another
pub place_here : (s x : Stretch) (xs : List Stretch) → is_stretch s x ≡ true → place_in (x ∷ xs) s ≡ 0
place_here s x xs e = ap (λ b. cond (not b) (1 + place_in xs s) 0) e

pub place_later : (s x : Stretch) (xs : List Stretch) → is_stretch s x ≡ false → place_in (x ∷ xs) s ≡ suc (place_in xs s)
place_later s x xs e = ap (λ b. cond (not b) (1 + place_in xs s) 0) e ∙ one_more (place_in xs s)
  where
    one_more : (n : ℕ) → 1 + n ≡ suc n
    one_more n = omega arith

pub noted_here : (s x : Stretch) (xs : List Stretch) → is_stretch s x ≡ true → noted (x ∷ xs) s ≡ x ∷ xs
noted_here s x xs e = ap (λ b. cond (b || list_any (is_stretch s) xs) (x ∷ xs) (x ∷ xs ++ s ∷ [])) e

pub noted_later : (s x : Stretch) (xs : List Stretch) → is_stretch s x ≡ false → noted (x ∷ xs) s ≡ x ∷ noted xs s
noted_later s x xs e = ap (λ b. cond (b || list_any (is_stretch s) xs) (x ∷ xs) (x ∷ xs ++ s ∷ [])) e ∙ inside (list_any (is_stretch s) xs)
  where
    inside : (b : Bool) → cond b (x ∷ xs) (x ∷ xs ++ s ∷ []) ≡ x ∷ cond b xs (xs ++ s ∷ [])
    inside true = refl
    inside false = refl

pub place_within : (xs : List Stretch) (s : Stretch) → place_in xs s ≤ length xs
place_within xs s = prefix_len-le-length (λ x. not (is_stretch s x)) xs

-- each stretch has its corridor
pub each_kept : (xs : List Stretch) (cs : List (List Point)) (s : Stretch) (samples : List Point) → length xs ≡ length cs → length (noted xs s) ≡ length (extended cs (place_in xs s) samples)
each_kept [] [] s samples e = refl
each_kept [] (c ∷ cs) s samples e = absurd (omega (arith, e))
each_kept (x ∷ xs) [] s samples e = absurd (omega (arith, e))
each_kept (x ∷ xs) (c ∷ cs) s samples e = of_test (is_stretch s x) refl (each_kept xs cs s samples (omega (arith, e)))
  where
    of_test : (b : Bool) → is_stretch s x ≡ b → length (noted xs s) ≡ length (extended cs (place_in xs s) samples) → length (noted (x ∷ xs) s) ≡ length (extended (c ∷ cs) (place_in (x ∷ xs) s) samples)
    of_test true here rest = ap length (noted_here s x xs here) ∙ e ∙ sym (ap (λ n. length (extended (c ∷ cs) n samples)) (place_here s x xs here))
    of_test false later rest =
        ap length (noted_later s x xs later) ∙ ap suc rest ∙ sym (ap (λ n. length (extended (c ∷ cs) n samples)) (place_later s x xs later))

-- the place of a stretch, by a search that may find none
pub place_found : (xs : List Stretch) (s : Stretch) → unwrap_or (position (is_stretch s) xs) (length xs) ≡ place_in xs s
place_found xs s = of_order (cases_lt (place_in xs s) (length xs))
  where
    of_order : (place_in xs s < length xs) ⊎ (length xs ≤ place_in xs s) → unwrap_or (position (is_stretch s) xs) (length xs) ≡ place_in xs s
    of_order (inl h) = ap (λ b. unwrap_or (cond b (Some (place_in xs s)) None) (length xs)) (lt-ltb (place_in xs s) (length xs) h)
    of_order (inr h) =
        ap (λ b. unwrap_or (cond b (Some (place_in xs s)) None) (length xs)) (le-ltb (place_in xs s) (length xs) h)
        ∙ (let most = place_within xs s in omega (arith, most, h))

pub place_told : (xs : List Stretch) (s : Stretch) (found : Option ℕ) (count place : ℕ) → place ≡ unwrap_or found count → found ≡ position (is_stretch s) xs → count ≡ length xs → place ≡ place_in xs s
place_told xs s found count place is is_found is_count =
    is ∙ ap (λ (o : Option ℕ). unwrap_or o count) is_found ∙ ap (λ (n : ℕ). unwrap_or (position (is_stretch s) xs) n) is_count ∙ place_found xs s

-- ---- legs, by their places

-- the leg at a place
abbrev pub leg_at : LineId → List ℕ → List (List Point) → ℕ → Leg
leg_at line stops hops k = record { line = line; from = get_or stops k 0; to = get_or stops (suc k) 0; samples = get_or hops k [] }

pub legs_at : (line : LineId) (stops : List ℕ) (hops : List (List Point)) (k : ℕ) (d : Leg) → length hops + 1 ≡ length stops → k < length hops →
    get_or (legs_between line stops hops) k d ≡ leg_at line stops hops k
legs_at line [] hops k d each below = absurd (omega (arith, each))
legs_at line (s ∷ []) hops k d each below = absurd (omega (arith, each, below))
legs_at line (s ∷ t ∷ rest) [] k d each below = absurd (omega (arith, below))
legs_at line (s ∷ t ∷ rest) (hop ∷ hops) zero d each below = refl
legs_at line (s ∷ t ∷ rest) (hop ∷ hops) (suc k) d each below = legs_at line (t ∷ rest) hops k d (omega (arith, each)) (omega (arith, below))

pub length-legs : (line : LineId) (stops : List ℕ) (hops : List (List Point)) → length hops + 1 ≡ length stops → length (legs_between line stops hops) ≡ length hops
length-legs line [] hops each = absurd (omega (arith, each))
length-legs line (s ∷ []) [] each = refl
length-legs line (s ∷ []) (hop ∷ hops) each = absurd (omega (arith, each))
length-legs line (s ∷ t ∷ rest) [] each = absurd (omega (arith, each))
length-legs line (s ∷ t ∷ rest) (hop ∷ hops) each = ap suc (length-legs line (t ∷ rest) hops (omega (arith, each)))

next_place : (k : ℕ) → k + 1 ≡ suc k
next_place k = omega arith

-- one more leg of a course
pub table_more : (table : StretchTable) (course : Course) (k : ℕ) (before after : StretchTable) (stops : List ℕ) (hops : List (List Point)) (s : Stretch) (hop samples : List Point) → HasHops course →
    stops ≡ course.stops → hops ≡ course.hops → k < length hops → before ≡ fold with_leg table (take k (legs_of course)) → s ≡ stretch_between course.line (get_or stops k 0) (get_or stops (k + 1) 0) →
    hop ≡ get_or hops k hop → samples ≡ hop → after ≡ with_samples before s samples → after ≡ fold with_leg table (take (k + 1) (legs_of course))
table_more table course k before after stops hops s hop samples each same_stops same_hops below so_far is_s is_hop is_samples is =
    is ∙ ap (λ t. with_samples t s samples) so_far ∙ ap (λ x. with_samples earlier x samples) stretch_is ∙ ap (λ xs. with_samples earlier (stretch_between course.line leg.from leg.to) xs) samples_are
    ∙ sym (fold_more with_leg table legs k leg in_legs ∙ ap (with_leg earlier) (legs_at course.line course.stops course.hops k leg each in_hops))
  where
    legs : List Leg
    legs = legs_of course

    leg : Leg
    leg = leg_at course.line course.stops course.hops k

    earlier : StretchTable
    earlier = fold with_leg table (take k legs)

    in_hops : k < length course.hops
    in_hops = subst (λ (xs : List (List Point)). k < length xs) same_hops below

    in_legs : k < length legs
    in_legs = omega (arith, length-legs course.line course.stops course.hops each, in_hops)

    stretch_is : s ≡ stretch_between course.line leg.from leg.to
    stretch_is =
        is_s ∙ ap (λ (xs : List ℕ). stretch_between course.line (get_or xs k 0) (get_or xs (k + 1) 0)) same_stops
        ∙ ap (λ n. stretch_between course.line (get_or course.stops k 0) (get_or course.stops n 0)) (next_place k)

    samples_are : samples ≡ leg.samples
    samples_are = is_samples ∙ is_hop ∙ get_or_default hops k hop [] below ∙ ap (λ (xs : List (List Point)). get_or xs k []) same_hops

-- all legs of a course
pub table_whole : (table : StretchTable) (course : Course) (k : ℕ) (before : StretchTable) (hops : List (List Point)) → HasHops course → hops ≡ course.hops → length hops ≤ k →
    before ≡ fold with_leg table (take k (legs_of course)) → before ≡ fold with_leg table (legs_of course)
table_whole table course k before hops each same_hops all so_far =
    let in_hops : length course.hops ≤ k = subst (λ (xs : List (List Point)). length xs ≤ k) same_hops all in
    so_far ∙ ap (fold with_leg table) (take_all k (legs_of course) (omega (arith, length-legs course.line course.stops course.hops each)))
