-- Slots with shares of prices.
use Rattle.std.proofs.Common.{◌≡◌, ℕ, ◌+◌, ◌*◌, ◌<◌, ◌≤◌, ◌==◌, Bool, true, false, cond, ◌||◌, List, [], ◌∷◌, ◌++◌, length, map, take, get_or, refl, sym, ap, subst, ◌∙◌, arith, eqb-true, true≢false}
use Rattle.std.specs.Prelude.{ℤ, pos, ◌+ℤ◌, ◌-ℤ◌}
use Rattle.std.specs.Int.{int_min}
use Rattle.std.specs.List.{All, AllByRecursion}
use Rattle.std.proofs.lemmas.Int.{ints, clamps}
use Rattle.std.proofs.lemmas.Bool.{or_parts}
use Rattle.std.proofs.lemmas.List.{take_more}
use Rattle.std.proofs.lemmas.List.Elements.{All-nil, All-cons, All-head, All-tail}
use lib.Signed.{◌≤ℤ◌}
use Rattle.map_base.specs.declared.ids.SegId.{SegId}
use Rattle.order_model.specs.PartTerms.{is_in}
use Rattle.pair_bounds.specs.declared.slots.Slot.{Slot}
use Rattle.order_bound.specs.declared.pairs.OpenLink.{OpenLink}
use Rattle.order_bound.specs.Values.{where_one, is_one, is_one_there, share, least_answer}
use Rattle.whole_sums.specs.Sums.{int_sum}
use Rattle.order_bound.specs.CanonicalPrices.{ends_at, shares, rise_of, price_for, priced}
use Rattle.order_bound.specs.declared.pairs.ChildLink.{ChildLink}
use Rattle.pair_bounds.specs.Slots.{slot_at, slot_shared, rise_in, with_child, with_children, slot_least, IsSmall}
use Rattle.whole_sums.proofs.Sums.{int_sum-append}
use Rattle.pair_bounds.proofs.Mapped.{all_at}
use Rattle.order_bound.proofs.Pricing.{below_cost}
use Rattle.order_bound.proofs.Worth.{price_within}

pub children_push : (children : List ChildLink) (c : ChildLink) (slots : List Slot) → with_children (children ++ c ∷ []) slots ≡ with_children children (with_child c slots)
children_push [] c slots = refl
children_push (d ∷ children) c slots = ap (with_child d) (children_push children c slots)

-- What slots come to.

abbrev pub slots_with : (ℕ → ℕ) → (SegId → Bool → ℤ) → List SegId → List Slot
slots_with label cost segs = map (slot_at label cost) segs

pub rise_found : (label : ℕ → ℕ) (cost : SegId → Bool → ℤ) (segs : List SegId) (s : SegId) → is_in segs s ≡ true → rise_in (slots_with label cost segs) s ≡ rise_of (cost s)
rise_found label cost [] s h = absurd (true≢false (sym h))
rise_found label cost (t ∷ segs) s h = by_test (t.0 == s.0) refl h (rise_found label cost segs s)
  where
    by_test : (b : Bool) → (t.0 == s.0) ≡ b → (b || is_in segs s) ≡ true → (is_in segs s ≡ true → rise_in (slots_with label cost segs) s ≡ rise_of (cost s))
        → cond b (cost t false -ℤ cost t true) (rise_in (slots_with label cost segs) s) ≡ rise_of (cost s)
    by_test true e h rest = let P : ℕ → SegId = λ n. record { 0 = n } in ap (λ u. rise_of (cost u)) (ap P (eqb-true t.0 s.0 e))
    by_test false e h rest = rest h

moved : (a b c : ℤ) → (a +ℤ b) +ℤ c ≡ a +ℤ (c +ℤ b)
moved a b c = omega (arith, ints)

shared_slots : (label : ℕ → ℕ) (cost : SegId → Bool → ℕ) (below : List (OpenLink × ℤ)) (l : OpenLink) (y : ℤ) (segs : List SegId)
    → map (slot_shared l y) (slots_with label (below_cost cost below) segs) ≡ slots_with label (below_cost cost ((l, y) ∷ below)) segs
shared_slots label cost below l y [] = refl
shared_slots label cost below l y (s ∷ segs) =
    let Q : ℤ → ℤ → Slot = λ a b. record { seg = s; label = label s.0; lesser_first = a; greater_first = b } in
    ap (λ a. Q a (below_cost cost below s false +ℤ share y l s false) ∷ map (slot_shared l y) (slots_with label (below_cost cost below) segs)) (moved (pos (cost s true)) (shares below s true) (share y l s true))
    ∙ (ap (λ b. Q (below_cost cost ((l, y) ∷ below) s true) b ∷ map (slot_shared l y) (slots_with label (below_cost cost below) segs)) (moved (pos (cost s false)) (shares below s false) (share y l s false))
    ∙ ap (λ r. Q (below_cost cost ((l, y) ∷ below) s true) (below_cost cost ((l, y) ∷ below) s false) ∷ r) (shared_slots label cost below l y segs))

none_shared : (label : ℕ → ℕ) (cost : SegId → Bool → ℕ) (segs : List SegId) → slots_with label (λ s x. pos (cost s x)) segs ≡ slots_with label (below_cost cost []) segs
none_shared label cost [] = refl
none_shared label cost (s ∷ segs) =
    let Q : ℕ → ℕ → Slot = λ m n. record { seg = s; label = label s.0; lesser_first = pos m; greater_first = pos n } in
    ap (λ m. Q m (cost s false) ∷ slots_with label (λ s x. pos (cost s x)) segs) (none (cost s true))
    ∙ (ap (λ n. Q (cost s true + 0) n ∷ slots_with label (λ s x. pos (cost s x)) segs) (none (cost s false)) ∙ ap (λ r. Q (cost s true + 0) (cost s false + 0) ∷ r) (none_shared label cost segs))
  where
    none : (n : ℕ) → n ≡ n + 0
    none n = omega arith

none_more : (a z : ℤ) → z ≡ pos 0 → a ≡ a +ℤ z
none_more a z e = omega (arith, ints)

-- a slot at which a Link doesn't end has no share of its price
pub unshared : (l : OpenLink) (y : ℤ) (slot : Slot) → ends_at slot.seg l ≡ false → slot ≡ slot_shared l y slot
unshared l y slot h =
    let parts = or_parts (l.seg.0 == slot.seg.0) (l.other.0 == slot.seg.0) h in
    let none : (x : Bool) → share y l slot.seg x ≡ pos 0 = λ x. rw (parts.0, parts.1) refl in
    let Q : ℤ → ℤ → Slot = λ a b. record { seg = slot.seg; label = slot.label; lesser_first = a; greater_first = b } in
    ap (λ a. Q a slot.greater_first) (none_more slot.lesser_first (share y l slot.seg true) (none true))
    ∙ ap (λ b. Q (slot.lesser_first +ℤ share y l slot.seg true) b) (none_more slot.greater_first (share y l slot.seg false) (none false))

-- slots with the prices of children
pub children_priced : (label : ℕ → ℕ) (cost : SegId → Bool → ℕ) (segs : List SegId) (children : List ChildLink) → AllByRecursion (λ (c : ChildLink). is_in segs c.child ≡ true) children
    → with_children children (slots_with label (λ s x. pos (cost s x)) segs) ≡ slots_with label (below_cost cost (priced cost children)) segs
children_priced label cost segs [] h = none_shared label cost segs
children_priced label cost segs (c ∷ later) h =
    ap (with_child c) (children_priced label cost segs later h.1)
    ∙ (ap (λ d. map (slot_shared c.link (price_for c d)) (slots_with label (below_cost cost (priced cost later)) segs)) (rise_found label (below_cost cost (priced cost later)) segs c.child h.0)
    ∙ shared_slots label cost (priced cost later) c.link (price_for c (rise_of (below_cost cost (priced cost later) c.child))) segs)

pub least_slots : (label : ℕ → ℕ) (cost : SegId → Bool → ℤ) (segs : List SegId) → int_sum slot_least (slots_with label cost segs) ≡ int_sum (λ s. least_answer (cost s)) segs
least_slots label cost [] = refl
least_slots label cost (s ∷ segs) = ap (λ k. least_answer (cost s) +ℤ k) (least_slots label cost segs)

-- Costs stay small.

share_low : (y : ℤ) (l : OpenLink) (s : SegId) (x : Bool) → (pos 0 -ℤ pos 256000) ≤ℤ y → y ≤ℤ pos 256000 → (pos 0 -ℤ pos 524288) ≤ℤ share y l s x
share_low y l s x low high = by_tests (l.seg.0 == s.0) (is_one x) (l.other.0 == s.0) (is_one_there l x)
  where
    by_tests : (a b c d : Bool) → (pos 0 -ℤ pos 524288) ≤ℤ (cond a (where_one b (pos 0 -ℤ y)) (pos 0) +ℤ cond c (where_one d y) (pos 0))
    by_tests true true true true = omega (arith, ints)
    by_tests true true true false = omega (arith, ints)
    by_tests true true false d = omega (arith, ints)
    by_tests true false true true = omega (arith, ints)
    by_tests true false true false = omega (arith, ints)
    by_tests true false false d = omega (arith, ints)
    by_tests false b true true = omega (arith, ints)
    by_tests false b true false = omega (arith, ints)
    by_tests false b false d = omega (arith, ints)

share_high : (y : ℤ) (l : OpenLink) (s : SegId) (x : Bool) → (pos 0 -ℤ pos 256000) ≤ℤ y → y ≤ℤ pos 256000 → share y l s x ≤ℤ pos 524288
share_high y l s x low high = by_tests (l.seg.0 == s.0) (is_one x) (l.other.0 == s.0) (is_one_there l x)
  where
    by_tests : (a b c d : Bool) → (cond a (where_one b (pos 0 -ℤ y)) (pos 0) +ℤ cond c (where_one d y) (pos 0)) ≤ℤ pos 524288
    by_tests true true true true = omega (arith, ints)
    by_tests true true true false = omega (arith, ints)
    by_tests true true false d = omega (arith, ints)
    by_tests true false true true = omega (arith, ints)
    by_tests true false true false = omega (arith, ints)
    by_tests true false false d = omega (arith, ints)
    by_tests false b true true = omega (arith, ints)
    by_tests false b true false = omega (arith, ints)
    by_tests false b false d = omega (arith, ints)

low_sum : (m : ℕ) (a b : ℤ) → (pos 0 -ℤ pos m) ≤ℤ a → (pos 0 -ℤ pos 524288) ≤ℤ b → (pos 0 -ℤ pos (m + 524288)) ≤ℤ (a +ℤ b)
low_sum m a b p q = omega (arith, ints)

high_sum : (m : ℕ) (a b : ℤ) → a ≤ℤ pos m → b ≤ℤ pos 524288 → (a +ℤ b) ≤ℤ pos (m + 524288)
high_sum m a b p q = omega (arith, ints)

shared_small : (m : ℕ) (l : OpenLink) (y : ℤ) (slots : List Slot) → (pos 0 -ℤ pos 256000) ≤ℤ y → y ≤ℤ pos 256000 → All (IsSmall m) slots → All (IsSmall (m + 524288)) (map (slot_shared l y) slots)
shared_small m l y [] low high h = All-nil (IsSmall (m + 524288))
shared_small m l y (s ∷ slots) low high h =
    let small = All-head (IsSmall m) s slots h in
    All-cons (IsSmall (m + 524288)) (slot_shared l y s) (map (slot_shared l y) slots)
    (record {
      lesser_low = low_sum m s.lesser_first (share y l s.seg true) small.lesser_low (share_low y l s.seg true low high);
      lesser_high = high_sum m s.lesser_first (share y l s.seg true) small.lesser_high (share_high y l s.seg true low high);
      greater_low = low_sum m s.greater_first (share y l s.seg false) small.greater_low (share_low y l s.seg false low high);
      greater_high = high_sum m s.greater_first (share y l s.seg false) small.greater_high (share_high y l s.seg false low high);
    }) (shared_small m l y slots low high (All-tail (IsSmall m) s slots h))

low_price : (w : ℕ) (y : ℤ) → w ≤ 256000 → (pos 0 -ℤ pos w) ≤ℤ y → (pos 0 -ℤ pos 256000) ≤ℤ y
low_price w y h p = omega (arith, ints)

high_price : (w : ℕ) (y : ℤ) → w ≤ 256000 → y ≤ℤ pos w → y ≤ℤ pos 256000
high_price w y h p = omega (arith, ints)

pub child_small : (m : ℕ) (c : ChildLink) (slots : List Slot) → c.link.weight ≤ 256000 → All (IsSmall m) slots → All (IsSmall (m + 524288)) (with_child c slots)
child_small m c slots light h =
    let within = price_within c (rise_in slots c.child) in
    shared_small m c.link (price_for c (rise_in slots c.child)) slots (low_price c.link.weight (price_for c (rise_in slots c.child)) light within.low) (high_price c.link.weight (price_for c (rise_in slots c.child)) light within.high) h

-- Least sums.

int_sum_last : (xs : List Slot) (x : Slot) → int_sum slot_least (xs ++ x ∷ []) ≡ int_sum slot_least xs +ℤ slot_least x
int_sum_last xs x = int_sum-append slot_least xs (x ∷ []) ∙ ap (λ k. int_sum slot_least xs +ℤ k) (one (slot_least x))
  where
    one : (y : ℤ) → y +ℤ pos 0 ≡ y
    one y = omega (arith, ints)

least_low : (m : ℕ) (a b : ℤ) → (pos 0 -ℤ pos m) ≤ℤ a → (pos 0 -ℤ pos m) ≤ℤ b → (pos 0 -ℤ pos m) ≤ℤ int_min a b
least_low m a b p q = omega (arith, ints, clamps)

least_high : (m : ℕ) (a b : ℤ) → a ≤ℤ pos m → b ≤ℤ pos m → int_min a b ≤ℤ pos m
least_high m a b p q = omega (arith, ints, clamps)

next_low : (n i : ℕ) (a b : ℤ) → (pos 0 -ℤ pos (8796093022208 * i)) ≤ℤ a → (pos 0 -ℤ pos 8796093022208) ≤ℤ b → (pos 0 -ℤ pos (8796093022208 * (i + 1))) ≤ℤ (a +ℤ b)
next_low n i a b p q = omega (arith, ints)

next_high : (i : ℕ) (a b : ℤ) → a ≤ℤ pos (8796093022208 * i) → b ≤ℤ pos 8796093022208 → (a +ℤ b) ≤ℤ pos (8796093022208 * (i + 1))
next_high i a b p q = omega (arith, ints)

pub least_total : (slots : List Slot) (i : ℕ) (d : Slot) (total r t : ℤ) → i < length slots → total ≡ int_sum slot_least (take i slots) → r ≡ slot_least (get_or slots i d) → t ≡ total +ℤ r
    → t ≡ int_sum slot_least (take (i + 1) slots)
least_total slots i d total r t h e1 e2 e3 =
    e3 ∙ (ap (λ k. k +ℤ r) e1 ∙ (ap (λ k. int_sum slot_least (take i slots) +ℤ k) e2 ∙ (sym (int_sum_last (take i slots) (get_or slots i d)) ∙ ap (int_sum slot_least) (sym (take_more slots i d h)))))

pub least_total_low : (slots : List Slot) (i : ℕ) (d : Slot) (total r t : ℤ) → i < length slots → All (IsSmall 8796093022208) slots → (pos 0 -ℤ pos (8796093022208 * i)) ≤ℤ total → r ≡ slot_least (get_or slots i d)
    → t ≡ total +ℤ r → (pos 0 -ℤ pos (8796093022208 * (i + 1))) ≤ℤ t
least_total_low slots i d total r t h all low e2 e3 =
    let slot : Slot = get_or slots i d in
    let small = all_at (IsSmall 8796093022208) slots i d all h in
    subst (λ k. (pos 0 -ℤ pos (8796093022208 * (i + 1))) ≤ℤ k) (sym (e3 ∙ ap (λ k. total +ℤ k) e2)) (next_low 0 i total (slot_least slot) low (least_low 8796093022208 slot.lesser_first slot.greater_first small.lesser_low small.greater_low))

pub least_total_high : (slots : List Slot) (i : ℕ) (d : Slot) (total r t : ℤ) → i < length slots → All (IsSmall 8796093022208) slots → total ≤ℤ pos (8796093022208 * i) → r ≡ slot_least (get_or slots i d)
    → t ≡ total +ℤ r → t ≤ℤ pos (8796093022208 * (i + 1))
least_total_high slots i d total r t h all high e2 e3 =
    let slot : Slot = get_or slots i d in
    let small = all_at (IsSmall 8796093022208) slots i d all h in
    subst (λ k. k ≤ℤ pos (8796093022208 * (i + 1))) (sym (e3 ∙ ap (λ k. total +ℤ k) e2)) (next_high i total (slot_least slot) high (least_high 8796093022208 slot.lesser_first slot.greater_first small.lesser_high small.greater_high))
