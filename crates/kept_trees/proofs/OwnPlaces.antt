-- The places of a part's segments, which rise.
use Rattle.std.proofs.Common.{◌≡◌, ℕ, zero, suc, ◌+◌, ◌<◌, ◌≤◌, ◌==◌, Bool, true, false, cond, List, [], ◌∷◌, length, get_or, refl, sym, ◌∙◌, ap, arith, inl, inr, ◌⊎◌, Err}
use Rattle.std.specs.Ordering.{nat_cmp, ordering_index, is_lt}
use Rattle.std.specs.declared.cmp.Ordering.TheVariants.{Less, Equal, Greater}
use Rattle.std.specs.Cmp.{nat_cmp_total}
use Rattle.std.specs.List.Sorted.{IsSortedBy, IsNonDecreasingBy, IsBinarySearchResult}
use Rattle.std.proofs.lemmas.Bool.{cases_lt, le-ltb}
use Rattle.std.proofs.lemmas.Cmp.{ranked}
use Rattle.std.proofs.lemmas.List.{length-map}
use Rattle.std.proofs.lemmas.List.Sorted.{searchable_from_sorted}
use Rattle.map_base.specs.declared.ids.SegId.{SegId}
use Rattle.order_model.specs.Parts.{IsRisingPart}
use Rattle.order_model.specs.PartTerms.{is_in}
use Rattle.order_search.specs.ByItself.{place_among, place_in, seg_numbers}
use Rattle.order_search.proofs.OwnParts.{at_number, numbers_of_segments}
use Rattle.order_search.proofs.RisingNumbers.{RisesFrom, not_below, is_number, placed_within, placed_at, place_back, segs_rise}

-- a number that stands later is greater
pub greater_later : (k : ℕ) (ns : List ℕ) (i j : ℕ) → RisesFrom k ns → i < j → j < length ns
    → get_or ns i 0 < get_or ns j 0
greater_later k [] i j rises less below = absurd (omega (arith, below))
greater_later k (n ∷ ns) zero zero rises less below = absurd (omega (arith, less))
greater_later k (n ∷ ns) zero (suc j) rises less below = omega (arith, not_below (n + 1) ns j rises.1 (omega (arith, below)))
greater_later k (n ∷ ns) (suc i) zero rises less below = absurd (omega (arith, less))
greater_later k (n ∷ ns) (suc i) (suc j) rises less below = greater_later (n + 1) ns i j rises.1 (omega (arith, less)) (omega (arith, below))

pub numbers_count : (part : List SegId) → length (seg_numbers part) ≡ length part
numbers_count part = length-map part (λ (s : SegId). s.0)

pub among_numbers : (part : List SegId) (s : SegId) → is_in part s ≡ true → is_number (seg_numbers part) s.0 ≡ true
among_numbers part s among = sym (numbers_of_segments part s) ∙ among

pub place_within : (part : List SegId) (s : SegId) → is_in part s ≡ true → place_in part s < length part
place_within part s among = omega (arith, numbers_count part, placed_within (seg_numbers part) s.0 (among_numbers part s among))

-- the segment at the place of a segment is that segment
pub place_at : (part : List SegId) (s d : SegId) → is_in part s ≡ true → (get_or part (place_in part s) d).0 ≡ s.0
place_at part s d among =
    sym (at_number part (place_in part s) d (place_within part s among)) ∙ placed_at (seg_numbers part) s.0 (among_numbers part s among)

-- the place of the segment at a place is that place
pub place_of : (part : List SegId) (s : SegId) (i : ℕ) (d : SegId) → IsRisingPart part → i < length part
    → (get_or part i d).0 ≡ s.0 → place_in part s ≡ i
place_of part s i d rising below here =
    ap (place_among (seg_numbers part)) (sym (at_number part i d below ∙ here))
    ∙ place_back (seg_numbers part) i (segs_rise part rising) (omega (arith, numbers_count part, below))

-- a segment that is less stands earlier
pub place_less : (part : List SegId) (s t : SegId) → IsRisingPart part → is_in part s ≡ true → is_in part t ≡ true
    → s.0 < t.0 → place_in part s < place_in part t
place_less part s t rising among also less = elim (cases_lt (place_in part s) (place_in part t)) [
  | inl before ↦ before
  | inr after ↦ absurd (not_after (cases_lt (place_in part t) (place_in part s)) after)
]
  where
    at_s : get_or (seg_numbers part) (place_in part s) 0 ≡ s.0
    at_s = placed_at (seg_numbers part) s.0 (among_numbers part s among)

    at_t : get_or (seg_numbers part) (place_in part t) 0 ≡ t.0
    at_t = placed_at (seg_numbers part) t.0 (among_numbers part t also)

    not_after : (place_in part t < place_in part s) ⊎ (place_in part s ≤ place_in part t)
        → place_in part t ≤ place_in part s → ⊥
    not_after (inl more) after =
        omega (
          arith,
          less,
          at_s,
          at_t,
          greater_later 0 (seg_numbers part) (place_in part t) (place_in part s) (segs_rise part rising) more
              (placed_within (seg_numbers part) s.0 (among_numbers part s among)),
        )
    not_after (inr same) after =
        let one : place_in part s ≡ place_in part t = omega (arith, same, after) in omega (arith, less, at_s, at_t, ap (λ k. get_or (seg_numbers part) k 0) one)

-- The search by halving.

not_lt : (x y : ℕ) → y ≤ x → is_lt (nat_cmp x y) ≡ false
not_lt x y least = ap (λ b. is_lt (cond b Less (cond (x == y) Equal Greater))) (le-ltb x y least) ∙ by_test (x == y)
  where
    by_test : (b : Bool) → is_lt (cond b Equal Greater) ≡ false
    by_test true = refl
    by_test false = refl

sorted : (part : List SegId) → IsRisingPart part → IsSortedBy (λ (a b : SegId). is_lt (nat_cmp a.0 b.0)) part
sorted part rising k d low below =
    not_lt (get_or part (k + 1) d).0 (get_or part k d).0
    (omega (
      arith,
      at_number part k d (omega (arith, below)),
      at_number part (k + 1) d below,
      greater_later 0 (seg_numbers part) k (k + 1) (segs_rise part rising) (omega arith) (omega (arith, below, numbers_count part)),
    ))

searchable : (part : List SegId) (s : SegId) → IsRisingPart part
    → IsNonDecreasingBy (λ (y : SegId). ordering_index (nat_cmp y.0 s.0)) part
searchable part s rising = searchable_from_sorted nat_cmp_total (λ (y : SegId). y.0) part s.0 (sorted part rising)

-- a segment of the part is met
pub met : (part : List SegId) (s : SegId) (i : ℕ) → IsRisingPart part → is_in part s ≡ true
    → IsBinarySearchResult (λ (y : SegId). nat_cmp y.0 s.0) part (Err i) → ⊥
met part s i rising among found =
    let gap = found (searchable part s rising) in
    let within : place_in part s < length part = place_within part s among in
    let here : (get_or part (place_in part s) s).0 ≡ s.0 = place_at part s s among in
    elim (cases_lt (place_in part s) i) [
      | inl before ↦ (let less = ranked (get_or part (place_in part s) s).0 s.0 Less (sym (gap.0 (place_in part s) s (omega arith) before)) in omega (arith, less, here))
      | inr after ↦ (let more = ranked (get_or part (place_in part s) s).0 s.0 Greater (sym (gap.1 (place_in part s) s after within)) in omega (arith, more, here))
    ]

pub found_at : (part : List SegId) (s : SegId) (i : ℕ) → IsRisingPart part → i < length part
    → ((d : SegId) → nat_cmp (get_or part i d).0 s.0 ≡ Equal) → place_in part s ≡ i
found_at part s i rising below found = place_of part s i s rising below (ranked (get_or part i s).0 s.0 Equal (sym (found s)))
