-- What is known of least shares stays so where neither the prices nor the pairs of a segment change.
use Rattle.std.proofs.Common.{◌≡◌, ℕ, zero, suc, ◌+◌, ◌*◌, ◌-◌, ◌<◌, ◌≤◌, ◌==◌, ◌||◌, Bool, true, false, cond, List, [], ◌∷◌, ◌++◌, length, map, filter, take, get_or, set, refl, sym, ◌∙◌, ap, subst, arith, ◌⊎◌, inl, inr, true≢false, eq-eqb, eqb-true, get_or-set_same, get_or-set_other, Option, Some, None}
use Rattle.std.specs.Prelude.{ℤ, pos, ◌+ℤ◌, ◌-ℤ◌}
use Rattle.std.specs.List.{All, AllByRecursion}
use Rattle.std.proofs.lemmas.Bool.{cases_eq, cases_lt, ne_eqb}
use Rattle.std.proofs.lemmas.List.{take_more, get_or_default}
use Rattle.std.proofs.lemmas.List.Elements.{All-get_or}
use Rattle.map_base.specs.declared.ids.SegId.{SegId}
use Rattle.map_base.specs.declared.ids.LineId.{LineId}
use Rattle.order_model.specs.declared.term.Term.{Term}
use Rattle.order_model.specs.declared.term.Term.TheVariants.{Side, Link, Apart}
use Rattle.order_model.specs.Problems.{lines_on}
use Rattle.order_model.specs.Costs.{comes_before, are_neighbours, seg_of, other_of}
use Rattle.order_model.specs.Parts.{IsRisingPart}
use Rattle.order_model.specs.PartTerms.{is_in, no_term, terms_by_number, part_numbers, part_terms}
use Rattle.order_model.proofs.Lines.{neither}
use Rattle.order_model.proofs.KeptTerms.{part_terms_by_number}
use Rattle.order_values.specs.PriceLists.{price_at}
use Rattle.least_orders.specs.Arrangements.{kept_orders}
use Rattle.least_orders.specs.LeastOrders.{least_value}
use Rattle.least_orders.proofs.LeastValues.{least_value_same}
use Rattle.dual_bound.specs.declared.settled.SettledPair.{SettledPair}
use Rattle.dual_bound.specs.Settled.{settled_on}
use Rattle.dual_bound.specs.Shares.{thousand, where_so, x_of, z_of, term_share, share_of}
use Rattle.dual_bound.specs.Values.{least_share}
use Rattle.dual_shares.specs.Groups.{is_on}
use Rattle.dual_shares.specs.GroupSteps.{IsPlaceInPart}
use Rattle.dual_shares.proofs.Grouping.{places_rise}
use Rattle.dual_check.specs.declared.asked.Asked.{Asked}
use Rattle.dual_check.specs.declared.node.KnownShare.{KnownShare}
use Rattle.dual_check.specs.declared.node.KnownShare.TheVariants.{Unknown}
use Rattle.dual_check.specs.Settling.{pairs_of}
use Rattle.dual_check.specs.Nodes.{IsSo, known_at, segment_at, share_at, Forgets, IsForgotten, IsTermForgotten, ArePricedOff}
use Rattle.dual_check.proofs.Walks.{pushed_pairs}

-- A term that is not on a segment adds nothing there.

off_share : (p : ℤ) (s : SegId) (o : List LineId) (t : Term) → is_on s t ≡ false → term_share p s o t ≡ pos 0
off_share p s o (Side seg first second w) h =
    ap (λ b. cond b (where_so (comes_before o second first) (pos (thousand * w))) (pos 0)) (neither (seg.0 == s.0) (seg.0 == s.0) h).0
off_share p s o (Link seg other flip a b w) h =
    ap (λ c. cond c (where_so (z_of o flip a b) p) (pos 0) -ℤ cond (seg.0 == s.0) (where_so (x_of o a b) p) (pos 0)) (neither (seg.0 == s.0) (other.0 == s.0) h).1
    ∙ ap (λ c. pos 0 -ℤ cond c (where_so (x_of o a b) p) (pos 0)) (neither (seg.0 == s.0) (other.0 == s.0) h).0
off_share p s o (Apart seg other a b w) h =
    ap (λ c. cond c (where_so (are_neighbours o a b) p) (pos 0) -ℤ cond (seg.0 == s.0) (where_so (are_neighbours o a b) p) (pos 0)) (neither (seg.0 == s.0) (other.0 == s.0) h).1
    ∙ ap (λ c. pos 0 -ℤ cond c (where_so (are_neighbours o a b) p) (pos 0)) (neither (seg.0 == s.0) (other.0 == s.0) h).0

-- so shares are the same under prices that agree on the terms of the segment
module _ (terms : List Term) (f g : ℕ → ℤ) (s : SegId) (same : (n : ℕ) → is_on s (get_or terms n no_term) ≡ true → f n ≡ g n) where
  share_same : (numbers : List ℕ) (o : List LineId) → share_of (terms_by_number terms numbers) f s o ≡ share_of (terms_by_number terms numbers) g s o
  share_same [] o = refl
  share_same (n ∷ numbers) o =
      ap (λ v. v +ℤ share_of (terms_by_number terms numbers) f s o) (by_test (is_on s (get_or terms n no_term)) refl)
      ∙ ap (λ v. term_share (g n) s o (get_or terms n no_term) +ℤ v) (share_same numbers o)
    where
      by_test : (b : Bool) → is_on s (get_or terms n no_term) ≡ b → term_share (f n) s o (get_or terms n no_term) ≡ term_share (g n) s o (get_or terms n no_term)
      by_test true e = ap (λ p. term_share p s o (get_or terms n no_term)) (same n e)
      by_test false e = off_share (f n) s o (get_or terms n no_term) e ∙ sym (off_share (g n) s o (get_or terms n no_term) e)

  least_share_same : (segs : List (List LineId)) (numbers : List ℕ) (settled : List SettledPair)
      → least_share segs (terms_by_number terms numbers) f settled s ≡ least_share segs (terms_by_number terms numbers) g settled s
  least_share_same segs numbers settled =
      least_value_same (share_of (terms_by_number terms numbers) f s) (share_of (terms_by_number terms numbers) g s) (kept_orders (settled_on settled s) (lines_on segs s))
      (each (kept_orders (settled_on settled s) (lines_on segs s)))
    where
      each : (os : List (List LineId)) → AllByRecursion (λ o. share_of (terms_by_number terms numbers) f s o ≡ share_of (terms_by_number terms numbers) g s o) os
      each [] = tt
      each (o ∷ os) = (share_same numbers o, each os)

pub share_at_priced : (asked : Asked) (settled : List SettledPair) (p q : List (ℕ × ℤ)) (k : ℕ)
    → ((n : ℕ) → is_on (segment_at asked.part.now k) (get_or asked.problem.now.terms n no_term) ≡ true → price_at p n ≡ price_at q n) → share_at asked settled p k ≡ share_at asked settled q k
share_at_priced asked settled p q k same =
    let s : SegId = segment_at asked.part.now k in
    subst (λ (ts : List (ℕ × Term)). least_share asked.problem.now.segs ts (price_at p) (pairs_of settled) s ≡ least_share asked.problem.now.segs ts (price_at q) (pairs_of settled) s)
    (part_terms_by_number asked.part.now asked.problem.now.terms)
    (least_share_same asked.problem.now.terms (price_at p) (price_at q) s same asked.problem.now.segs (part_numbers asked.problem.now.terms asked.part.now) (pairs_of settled))

-- Pairs on other segments count nothing.

other_pairs : (p : SettledPair) (settled : List SettledPair) (s : SegId) → (p.seg.0 == s.0) ≡ false → settled_on (p ∷ settled) s ≡ settled_on settled s
other_pairs p settled s h =
    ap (λ b. map (λ (r : SettledPair). (r.first, r.second)) (cond b (p ∷ filter (λ (r : SettledPair). r.seg.0 == s.0) settled) (filter (λ (r : SettledPair). r.seg.0 == s.0) settled))) h

turned : (a b : ℕ) (t : Bool) → (a == b) ≡ t → (b == a) ≡ t
turned a b true h = eq-eqb b a (sym (eqb-true a b h))
turned a b false h = ne_eqb b a (λ e. absurd (true≢false (sym (eq-eqb a b (sym e)) ∙ h)))

pub share_at_settled : (asked : Asked) (stack : List SettledPair) (pair : SettledPair) (prices : List (ℕ × ℤ)) (k : ℕ) → ((segment_at asked.part.now k).0 == pair.seg.0) ≡ false
    → share_at asked (stack ++ pair ∷ []) prices k ≡ share_at asked stack prices k
share_at_settled asked stack pair prices k apart =
    let s : SegId = segment_at asked.part.now k in
    let terms : List (ℕ × Term) = part_terms asked.problem.now.terms asked.part.now in
    ap (λ ps. least_share asked.problem.now.segs terms (price_at prices) ps s) (pushed_pairs stack pair)
    ∙ ap (λ (l : List (LineId × LineId)). least_value (share_of terms (price_at prices) s) (kept_orders l (lines_on asked.problem.now.segs s)))
    (other_pairs pair (pairs_of stack) s (turned s.0 pair.seg.0 false apart))

-- What is known is so after less is known.

so_unknown : (x : KnownShare) (share : Option ℤ) → x ≡ Unknown → IsSo x share
so_unknown x share h = subst (λ y. IsSo y share) (sym h) tt

so_still : (x y : KnownShare) (share other : Option ℤ) → y ≡ x → other ≡ share → IsSo x share → IsSo y other
so_still x y share other e f h = subst (λ v. IsSo v other) (sym e) (subst (λ o. IsSo x o) (sym f) h)

pub forgets_none : (shares : List KnownShare) → Forgets shares shares
forgets_none shares k = inl refl

pub forgets_both : (a b c : List KnownShare) → Forgets a b → Forgets b c → Forgets a c
forgets_both a b c h g k = elim (g k) [
  | inl same ↦ elim (h k) [ inl is ↦ inl (same ∙ is) | inr none ↦ inr (same ∙ none) ]
  | inr none ↦ inr none
]

-- where nothing was known, nothing is
pub still_unknown : (old new : List KnownShare) (k : ℕ) → Forgets old new → known_at old k ≡ Unknown → known_at new k ≡ Unknown
still_unknown old new k h none = elim (h k) [ inl same ↦ same ∙ none | inr gone ↦ gone ]

abbrev pub AreSo : Asked → List SettledPair → List (ℕ × ℤ) → List KnownShare → Type 0
AreSo asked settled prices shares = (k : ℕ) → k < length asked.part.now → IsSo (known_at shares k) (share_at asked settled prices k)

pub so_settled : (asked : Asked) (stack : List SettledPair) (pair : SettledPair) (prices : List (ℕ × ℤ)) (old new : List KnownShare) → Forgets old new → IsForgotten asked.part.now pair.seg new
    → AreSo asked stack prices old → AreSo asked (stack ++ pair ∷ []) prices new
so_settled asked stack pair prices old new fewer gone so k below = by_test ((segment_at asked.part.now k).0 == pair.seg.0) refl (fewer k)
  where
    by_test : (b : Bool) → ((segment_at asked.part.now k).0 == pair.seg.0) ≡ b → (known_at new k ≡ known_at old k) ⊎ (known_at new k ≡ Unknown) → IsSo (known_at new k) (share_at asked (stack ++ pair ∷ []) prices k)
    by_test true e h = so_unknown (known_at new k) (share_at asked (stack ++ pair ∷ []) prices k) (gone k below e)
    by_test false e (inl same) = so_still (known_at old k) (known_at new k) (share_at asked stack prices k) (share_at asked (stack ++ pair ∷ []) prices k) same (share_at_settled asked stack pair prices k e) (so k below)
    by_test false e (inr none) = so_unknown (known_at new k) (share_at asked (stack ++ pair ∷ []) prices k) none

pub so_taken_back : (asked : Asked) (stack : List SettledPair) (pair : SettledPair) (prices : List (ℕ × ℤ)) (old new : List KnownShare) → Forgets old new → IsForgotten asked.part.now pair.seg new
    → AreSo asked (stack ++ pair ∷ []) prices old → AreSo asked stack prices new
so_taken_back asked stack pair prices old new fewer gone so k below = by_test ((segment_at asked.part.now k).0 == pair.seg.0) refl (fewer k)
  where
    by_test : (b : Bool) → ((segment_at asked.part.now k).0 == pair.seg.0) ≡ b → (known_at new k ≡ known_at old k) ⊎ (known_at new k ≡ Unknown) → IsSo (known_at new k) (share_at asked stack prices k)
    by_test true e h = so_unknown (known_at new k) (share_at asked stack prices k) (gone k below e)
    by_test false e (inl same) = so_still (known_at old k) (known_at new k) (share_at asked (stack ++ pair ∷ []) prices k) (share_at asked stack prices k) same (sym (share_at_settled asked stack pair prices k e)) (so k below)
    by_test false e (inr none) = so_unknown (known_at new k) (share_at asked stack prices k) none

pub so_priced : (asked : Asked) (settled : List SettledPair) (p q : List (ℕ × ℤ)) (old between new : List KnownShare) → Forgets old between → ArePricedOff asked p between → Forgets between new → ArePricedOff asked q new
    → AreSo asked settled p old → AreSo asked settled q new
so_priced asked settled p q old between new one off two off_too so k below = elim (off_too k below) [
  | inl none ↦ so_unknown (known_at new k) (share_at asked settled q k) none
  | inr new_off ↦ elim (two k) [
    | inr none ↦ so_unknown (known_at new k) (share_at asked settled q k) none
    | inl same ↦ elim (one k) [
      | inr none ↦ so_unknown (known_at new k) (share_at asked settled q k) (same ∙ none)
      | inl is ↦ elim (off k below) [
        | inl none ↦ so_unknown (known_at new k) (share_at asked settled q k) (same ∙ none)
        | inr old_off ↦
            so_still (known_at old k) (known_at new k) (share_at asked settled p k) (share_at asked settled q k) (same ∙ is)
            (share_at_priced asked settled q p k (λ n on. new_off n on ∙ sym (old_off n on))) (so k below)
      ]
    ]
  ]
]

-- Forgetting.

pub same_place : (part : List SegId) (i j : ℕ) → IsRisingPart part → i < length part → j < length part → (segment_at part i).0 ≡ (segment_at part j).0 → i ≡ j
same_place part i j rising here there same = elim (cases_lt i j) [
  | inl less ↦ (let rise = places_rise part i j (record { 0 = 0 }) rising less there in absurd (omega (arith, rise, same)))
  | inr over ↦ elim (cases_lt j i) [
    | inl more ↦ (let rise = places_rise part j i (record { 0 = 0 }) rising more here in absurd (omega (arith, rise, same)))
    | inr under ↦ omega (arith, over, under)
  ]
]

place_above : (part : List SegId) (k : ℕ) → IsRisingPart part → k < length part → k ≤ (segment_at part k).0
place_above part zero rising below = omega arith
place_above part (suc k) rising below =
    let rise = places_rise part k (suc k) (record { 0 = 0 }) rising (omega arith) below in let rest = place_above part k rising (omega (arith, below)) in omega (arith, rise, rest)

-- a part has no more segments than there are
pub part_few : (part : List SegId) (n : ℕ) → IsRisingPart part → All (λ (s : SegId). s.0 < n) part → length part ≤ n
part_few part n rising known = elim (cases_lt 0 (length part)) [
  | inl some ↦
      let last : length part - 1 < length part = omega (arith, some) in
      let above = place_above part (length part - 1) rising last in
      let within = All-get_or (λ (s : SegId). s.0 < n) part (length part - 1) (record { 0 = 0 }) last known in
      omega (arith, some, above, within)
  | inr none ↦ omega (arith, none)
]

not_in : (part : List SegId) (s : SegId) (k : ℕ) → is_in part s ≡ false → k < length part → ((segment_at part k).0 == s.0) ≡ false
not_in [] s k h below = absurd (omega (arith, below))
not_in (t ∷ part) s zero h below = (neither (t.0 == s.0) (is_in part s) h).0
not_in (t ∷ part) s (suc k) h below = not_in part s k (neither (t.0 == s.0) (is_in part s) h).1 (omega (arith, below))

-- a segment that is not of the part
pub forgotten_none : (part : List SegId) (s : SegId) (shares : List KnownShare) → IsPlaceInPart part s None → IsForgotten part s shares
forgotten_none part s shares none k below here = absurd (true≢false (sym here ∙ not_in part s k none below))

-- the one place of another
pub forgotten_at : (part : List SegId) (s : SegId) (place : ℕ) (shares : List KnownShare) → IsRisingPart part → IsPlaceInPart part s (Some place) → place < length shares
    → IsForgotten part s (set shares place Unknown)
forgotten_at part s place shares rising is room k below here =
    let there : segment_at part place ≡ s = get_or_default part place (record { 0 = 0 }) s is.0 ∙ is.1 in
    let same : k ≡ place = same_place part k place rising below is.0 (eqb-true (segment_at part k).0 s.0 here ∙ sym (ap (λ (u : SegId). u.0) there)) in
    ap (known_at (set shares place Unknown)) same ∙ get_or-set_same shares place Unknown Unknown room

pub forgets_at : (shares : List KnownShare) (place : ℕ) → place < length shares → Forgets shares (set shares place Unknown)
forgets_at shares place room k = elim (cases_eq k place) [
  | inl same ↦ inr (ap (known_at (set shares place Unknown)) same ∙ get_or-set_same shares place Unknown Unknown room)
  | inr apart ↦ inl (get_or-set_other shares place k Unknown Unknown apart)
]

either : (a b : Bool) → (a || b) ≡ true → (a ≡ true) ⊎ (b ≡ true)
either true b h = inl refl
either false b h = inr h

-- both ends of a term
pub term_forgotten : (asked : Asked) (n : ℕ) (between new : List KnownShare) → IsForgotten asked.part.now (seg_of (get_or asked.problem.now.terms n no_term)) between → Forgets between new
    → IsForgotten asked.part.now (other_of (get_or asked.problem.now.terms n no_term)) new → IsTermForgotten asked n new
term_forgotten asked n between new one fewer two k below on =
    let t : Term = get_or asked.problem.now.terms n no_term in
    elim (either ((seg_of t).0 == (segment_at asked.part.now k).0) ((other_of t).0 == (segment_at asked.part.now k).0) on) [
      | inl here ↦ still_unknown between new k fewer (one k below (turned (seg_of t).0 (segment_at asked.part.now k).0 true here))
      | inr there ↦ two k below (turned (other_of t).0 (segment_at asked.part.now k).0 true there)
    ]

-- Prices, one after another.

price_behind : (prices : List (ℕ × ℤ)) (q : ℕ × ℤ) (n : ℕ) → (q.0 == n) ≡ false → price_at (prices ++ q ∷ []) n ≡ price_at prices n
price_behind [] q n h = ap (λ b. cond b q.1 (pos 0)) h
price_behind (p ∷ prices) q n h = ap (λ v. cond (p.0 == n) p.1 v) (price_behind prices q n h)

pub priced_off_none : (asked : Asked) (prices : List (ℕ × ℤ)) (shares : List KnownShare) → ArePricedOff asked (take 0 prices) shares
priced_off_none asked prices shares k below = inr (λ n on. refl)

pub priced_off_more : (asked : Asked) (prices : List (ℕ × ℤ)) (i : ℕ) (q : ℕ × ℤ) (old new : List KnownShare) → i < length prices → q ≡ get_or prices i q → Forgets old new → IsTermForgotten asked q.0 new
    → ArePricedOff asked (take i prices) old → ArePricedOff asked (take (i + 1) prices) new
priced_off_more asked prices i q old new below is fewer gone off k within = by_test (is_on (segment_at asked.part.now k) (get_or asked.problem.now.terms q.0 no_term)) refl (fewer k) (off k within)
  where
    pushed : take (i + 1) prices ≡ take i prices ++ q ∷ []
    pushed = take_more prices i q below ∙ ap (λ p. take i prices ++ p ∷ []) (sym is)

    by_test : (b : Bool) → is_on (segment_at asked.part.now k) (get_or asked.problem.now.terms q.0 no_term) ≡ b → (known_at new k ≡ known_at old k) ⊎ (known_at new k ≡ Unknown)
        → (known_at old k ≡ Unknown) ⊎ ((n : ℕ) → is_on (segment_at asked.part.now k) (get_or asked.problem.now.terms n no_term) ≡ true → price_at (take i prices) n ≡ pos 0)
        → (known_at new k ≡ Unknown) ⊎ ((n : ℕ) → is_on (segment_at asked.part.now k) (get_or asked.problem.now.terms n no_term) ≡ true → price_at (take (i + 1) prices) n ≡ pos 0)
    by_test true e h g = inl (gone k within e)
    by_test false e (inr none) g = inl none
    by_test false e (inl same) (inl none) = inl (same ∙ none)
    by_test false e (inl same) (inr zeros) = inr (λ n on.
        ap (λ l. price_at l n) pushed
        ∙ (price_behind (take i prices) q n (ne_eqb q.0 n (λ f. absurd (true≢false (sym on ∙ (ap (λ m. is_on (segment_at asked.part.now k) (get_or asked.problem.now.terms m no_term)) (sym f) ∙ e)))))
        ∙ zeros n on))
