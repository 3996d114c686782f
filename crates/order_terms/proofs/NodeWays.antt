-- The ways out of the segments of a round, by their places: one join more.
use Rattle.std.proofs.Common.{◌≡◌, ◌≢◌, ℕ, ◌+◌, ◌<◌, ◌==◌, Bool, true, false, cond, List, [], ◌∷◌, ◌++◌, length, get_or, set, take, refl, sym, ◌∙◌, ap, subst, arith, eqb-true, append-nil}
use Rattle.std.specs.List.{All, Contains, flat_map}
use Rattle.std.proofs.lemmas.Bool.{eqb-false}
use Rattle.std.proofs.lemmas.List.{length-set, length-map, map-set, get_or-map, get_or-set_same, get_or-set_other, take_more}
use Rattle.std.proofs.lemmas.List.Concat.{flat_map-append}
use Rattle.std.proofs.lemmas.List.Elements.{All-get_or, All-contains, Contains-get_or}
use Rattle.std.specs.Prelude.{Vec}
use Rattle.std.specs.Global.{Global}
use Rattle.map_base.specs.declared.ids.SegId.{SegId}
use Rattle.map_base.specs.declared.ids.LineId.{LineId}
use Rattle.graph_core.specs.declared.parts.Join.{Join}
use Rattle.graph_core.specs.Consistent.{IsJoin}
use Rattle.order_terms.specs.declared.found.Way.{Way}
use Rattle.order_terms.specs.declared.found.Found.{Found}
use Rattle.order_terms.specs.Terms.{place_in, way, way_by, ways_from}
use Rattle.order_terms.specs.WaysByPlace.{way_lists, with_way, with_ways_by, TellPlaces, IsBetween, AreWays}
use Rattle.order_terms.proofs.Rounds.{seg_of, place_within, same_place, told_at}

-- One way more in one list.

way_here : (round : List SegId) (line : LineId) (e f s : SegId) (lists : List (List Way)) → length lists ≡ length round → Contains round e → e ≡ s
    → get_or (with_way round line e f lists) (place_in round s) [] ≡ get_or lists (place_in round s) [] ++ way round s line f ∷ []
way_here round line e f s lists each here same =
    let within : place_in round s < length lists = subst (λ (t : SegId). place_in round t < length lists) same (omega (arith, each, place_within round e here)) in
    ap (λ (t : SegId). get_or (with_way round line t f lists) (place_in round s) []) same
    ∙ get_or-set_same lists (place_in round s) (get_or lists (place_in round s) [] ++ way round s line f ∷ []) [] within

way_elsewhere : (round : List SegId) (line : LineId) (e f s : SegId) (lists : List (List Way)) → Contains round s → e.0 ≢ s.0
    → get_or (with_way round line e f lists) (place_in round s) [] ≡ get_or lists (place_in round s) []
way_elsewhere round line e f s lists there differ =
    get_or-set_other lists (place_in round e) (place_in round s) (get_or lists (place_in round e) [] ++ way round e line f ∷ []) []
    (λ same. differ (sym (same_place round s e (place_within round s there) same)))

way_at : (round : List SegId) (line : LineId) (e f s : SegId) (lists : List (List Way)) → length lists ≡ length round → Contains round e → Contains round s
    → get_or (with_way round line e f lists) (place_in round s) []
    ≡ cond (e.0 == s.0) (get_or lists (place_in round s) [] ++ way round s line f ∷ []) (get_or lists (place_in round s) [])
way_at round line e f s lists each here there = by_test (e.0 == s.0) refl
  where
    by_test : (b : Bool) → (e.0 == s.0) ≡ b → get_or (with_way round line e f lists) (place_in round s) []
        ≡ cond b (get_or lists (place_in round s) [] ++ way round s line f ∷ []) (get_or lists (place_in round s) [])
    by_test true p = way_here round line e f s lists each here (ap seg_of (eqb-true e.0 s.0 p))
    by_test false p = way_elsewhere round line e f s lists there (eqb-false e.0 s.0 p)

-- Both ways of a join.

both_ways : (a b : Bool) (ys : List Way) (p q : Way) → (a ≡ true → b ≡ true → ⊥)
    → cond b (cond a (ys ++ p ∷ []) ys ++ q ∷ []) (cond a (ys ++ p ∷ []) ys) ≡ ys ++ (cond a (p ∷ []) (cond b (q ∷ []) []) ++ [])
both_ways true true ys p q h = absurd (h refl refl)
both_ways true false ys p q h = refl
both_ways false true ys p q h = refl
both_ways false false ys p q h = sym (append-nil ys)

ways_at : (round : List SegId) (joins : List Join) (j : Join) (lists : List (List Way)) (s : SegId) → AreWays round joins lists → IsBetween round j → Contains round s
    → get_or (with_ways_by round j lists) (place_in round s) [] ≡ ways_from round (joins ++ j ∷ []) s
ways_at round joins j lists s ok between there =
    let first : List (List Way) = with_way round j.line j.e j.f lists in
    let each : length first ≡ length round = length-set lists (place_in round j.e) (get_or lists (place_in round j.e) [] ++ way round j.e j.line j.f ∷ []) ∙ ok.each in
    let ways : get_or lists (place_in round s) [] ≡ ways_from round joins s =
    All-contains (λ (t : SegId). get_or lists (place_in round t) [] ≡ ways_from round joins t) round s ok.at there in
    way_at round j.line j.f j.e s first each between.greater there
    ∙ ap (λ (xs : List Way). cond (j.f.0 == s.0) (xs ++ way round s j.line j.e ∷ []) xs) (way_at round j.line j.e j.f s lists ok.each between.lesser there)
    ∙ both_ways (j.e.0 == s.0) (j.f.0 == s.0) (get_or lists (place_in round s) []) (way round s j.line j.f) (way round s j.line j.e)
    (λ p q. between.differ (eqb-true j.e.0 s.0 p ∙ sym (eqb-true j.f.0 s.0 q)))
    ∙ ap (λ (xs : List Way). xs ++ (way_by round s j ++ [])) ways
    ∙ sym (flat_map-append (way_by round s) joins (j ∷ []))

one_join_more : (round : List SegId) (joins : List Join) (j : Join) (lists : List (List Way)) → AreWays round joins lists → IsBetween round j
    → AreWays round (joins ++ j ∷ []) (with_ways_by round j lists)
one_join_more round joins j lists ok between = record {
  each = length-set (with_way round j.line j.e j.f lists) (place_in round j.f) _
      ∙ length-set lists (place_in round j.e) (get_or lists (place_in round j.e) [] ++ way round j.e j.line j.f ∷ []) ∙ ok.each;
  at = λ k d below. ways_at round joins j lists (get_or round k d) ok between (Contains-get_or round k d below);
}

-- the loop's step
pub next_join : (round : List SegId) (joins : List Join) (i : ℕ) (d : Join) (old new : List (List Way)) → i < length joins → All (IsBetween round) joins
    → AreWays round (take i joins) old → new ≡ with_ways_by round (get_or joins i d) old → AreWays round (take (i + 1) joins) new
next_join round joins i d old new below between ok is =
    rw (take_more joins i d below, is) (one_join_more round (take i joins) (get_or joins i d) old ok (All-get_or (IsBetween round) joins i d below between))

-- Lists of ways.

length-way_lists : (lists : List (Vec Way Global)) → length (way_lists lists) ≡ length lists
length-way_lists lists = length-map lists (λ (ways : Vec Way Global). ways.items)

list_at : (lists : List (Vec Way Global)) (i : ℕ) (ways : Vec Way Global) → i < length lists → get_or lists i ways ≡ ways → get_or (way_lists lists) i [] ≡ ways.items
list_at lists i ways below is = get_or-map (λ (w : Vec Way Global). w.items) lists i ways [] below ∙ ap (λ (w : Vec Way Global). w.items) is

-- one list grows
pub list_grown : (lists : List (Vec Way Global)) (i : ℕ) (old grown : Vec Way Global) (w : Way) → i < length lists → get_or lists i old ≡ old → grown.items ≡ old.items ++ w ∷ []
    → way_lists (set lists i grown) ≡ set (way_lists lists) i (get_or (way_lists lists) i [] ++ w ∷ [])
list_grown lists i old grown w below is more =
    map-set (λ (ways : Vec Way Global). ways.items) lists i grown ∙ ap (set (way_lists lists) i) (more ∙ ap (λ (xs : List Way). xs ++ w ∷ []) (sym (list_at lists i old below is)))

-- A join of a graph is between two segments of the round.

pub joins_between : (lines : List (List LineId)) (round : List SegId) (joins : List Join) → All (IsJoin lines round) joins → All (IsBetween round) joins
joins_between lines round joins ok k d below = (let j = ok k d below in record { differ = λ e. omega (arith, e, j.order); lesser = j.lesser; greater = j.greater })

-- What is read of the ways by a table that tells places.

pub ways_told : (round : List SegId) (joins : List Join) (lists : List (List Way)) (table : List ℕ) (s : SegId) → TellPlaces round table → AreWays round joins lists → Contains round s
    → get_or lists (get_or table s.0 0) [] ≡ ways_from round joins s
ways_told round joins lists table s tell ok here =
    ap (λ (k : ℕ). get_or lists k []) (told_at round table s tell here).1
    ∙ All-contains (λ (t : SegId). get_or lists (place_in round t) [] ≡ ways_from round joins t) round s ok.at here

pub told_within : (round : List SegId) (joins : List Join) (lists : List (Vec Way Global)) (table : List ℕ) (s : SegId) → TellPlaces round table → AreWays round joins (way_lists lists) → Contains round s
    → get_or table s.0 0 < length lists
told_within round joins lists table s tell ok here =
    let told = told_at round table s tell here in omega (arith, told.1, told.2, ok.each, length-way_lists lists)

-- what is found at the segments so far, and at one more
pub found_next : (f : SegId → List Found) (round : List SegId) (i : ℕ) (d : SegId) (old new more : List Found) → i < length round
    → old ≡ flat_map f (take i round) → new ≡ old ++ more → more ≡ f (get_or round i d) → new ≡ flat_map f (take (i + 1) round)
found_next f round i d old new more below is grown what =
    grown ∙ ap (λ (xs : List Found). xs ++ more) is ∙ ap (λ (ys : List Found). flat_map f (take i round) ++ ys) (what ∙ sym (append-nil (f (get_or round i d))))
    ∙ sym (ap (flat_map f) (take_more round i d below) ∙ flat_map-append f (take i round) (get_or round i d ∷ []))
