-- Places in a round: they are told by a table that is filled from the round's end, and different segments have
-- different ones.
use Rattle.std.proofs.Common.{◌≡◌, ◌≢◌, ℕ, zero, suc, ◌+◌, ◌<◌, ◌==◌, Bool, true, false, cond, List, [], ◌∷◌, length, get_or, refl, sym, ◌∙◌, ap, inl, inr, arith, eqb-true}
use Rattle.std.specs.List.{All, Contains}
use Rattle.std.proofs.lemmas.Bool.{cases_eq, eqb-false}
use Rattle.std.proofs.lemmas.List.Elements.{All-contains}
use Rattle.map_base.specs.declared.ids.SegId.{SegId}
use Rattle.order_terms.specs.Terms.{place_in}
use Rattle.order_terms.specs.WaysByPlace.{TellPlaces}

abbrev pub no_segment : SegId
no_segment = record { 0 = 0 }

abbrev pub seg_of : ℕ → SegId
seg_of n = record { 0 = n }

place_first : (r : SegId) (rs : List SegId) (s : SegId) → r.0 ≡ s.0 → place_in (r ∷ rs) s ≡ 0
place_first r rs s e = by_test (r.0 == s.0) refl
  where
    by_test : (b : Bool) → (r.0 == s.0) ≡ b → cond b 0 (1 + place_in rs s) ≡ 0
    by_test true p = refl
    by_test false p = absurd (eqb-false r.0 s.0 p e)

place_later : (r : SegId) (rs : List SegId) (s : SegId) → r.0 ≢ s.0 → place_in (r ∷ rs) s ≡ 1 + place_in rs s
place_later r rs s e = by_test (r.0 == s.0) refl
  where
    by_test : (b : Bool) → (r.0 == s.0) ≡ b → cond b 0 (1 + place_in rs s) ≡ 1 + place_in rs s
    by_test true p = absurd (e (eqb-true r.0 s.0 p))
    by_test false p = refl

-- the table tells the places of these segments, the first of which stands at place n
abbrev pub TellFrom : ℕ → List SegId → List ℕ → Type 0
TellFrom n round table = All (λ (s : SegId). get_or table s.0 0 ≡ n + place_in round s) round

-- What is told of a segment of the round.

place_below : (round : List SegId) (s : SegId) (k : ℕ) (d : SegId) → k < length round → (get_or round k d).0 ≡ s.0 → place_in round s < length round
place_below [] s k d below is = absurd (omega arith)
place_below (r ∷ rs) s zero d below is = omega (arith, place_first r rs s is)
place_below (r ∷ rs) s (suc k) d below is = elim (cases_eq r.0 s.0) [
  | inl e ↦ omega (arith, place_first r rs s e)
  | inr n ↦ omega (arith, place_later r rs s n, place_below rs s k d (omega arith) is)
]

pub place_within : (round : List SegId) (s : SegId) → Contains round s → place_in round s < length round
place_within round s here = place_below round s here.0 s here.1 (ap (λ (t : SegId). t.0) here.2)

-- the segment at a segment's place is this one
at_place : (round : List SegId) (s : SegId) (d : SegId) → place_in round s < length round → (get_or round (place_in round s) d).0 ≡ s.0
at_place [] s d below = absurd (omega arith)
at_place (r ∷ rs) s d below = elim (cases_eq r.0 s.0) [
  | inl e ↦ rw (place_first r rs s e) e
  | inr n ↦ (let later : place_in (r ∷ rs) s ≡ suc (place_in rs s) = omega (arith, place_later r rs s n) in
      ap (λ (k : ℕ). (get_or (r ∷ rs) k d).0) later ∙ at_place rs s d (omega (arith, later)))
]

-- segments of one place are one segment
pub same_place : (round : List SegId) (s t : SegId) → place_in round s < length round → place_in round s ≡ place_in round t → s.0 ≡ t.0
same_place round s t below e =
    sym (at_place round s no_segment below) ∙ ap (λ (k : ℕ). (get_or round k no_segment).0) e ∙ at_place round t no_segment (omega (arith, e))

pub told_at : (round : List SegId) (table : List ℕ) (s : SegId) → TellPlaces round table → Contains round s
    → (s.0 < length table) × (get_or table s.0 0 ≡ place_in round s) × (place_in round s < length round)
told_at round table s tell here = (
  All-contains (λ (t : SegId). t.0 < length table) round s tell.known here,
  All-contains (λ (t : SegId). get_or table t.0 0 ≡ place_in round t) round s tell.at here,
  place_within round s here,
)
