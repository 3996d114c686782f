-- Sets of rules that wait: what an insertion adds, what the first key leaves, and the least key.
use Rattle.std.proofs.Common.{◌≡◌, ℕ, ◌+◌, ◌<◌, ◌≤◌, ◌==◌, nat_lt, Bool, true, false, cond, ◌||◌, Some, List, [], ◌∷◌, length, get_or, take, drop, refl, sym, ap, subst, ◌∙◌, arith, inl, inr, ◌⊎◌, true≢false, eqb-true}
use Rattle.std.specs.Prelude.{slice_get}
use Rattle.std.specs.List.{All, AllByRecursion, list_any}
use Rattle.std.specs.declared.cmp.Ordering.{Ordering}
use Rattle.std.specs.declared.cmp.Ordering.TheVariants.{Less, Equal, Greater}
use Rattle.std.specs.Ordering.{nat_cmp, ordering_then, is_gt, match_ordering}
use Rattle.std.specs.BTreeSet.{insert_key}
use Rattle.std.proofs.lemmas.Bool.{ltb-true}
use Rattle.std.proofs.lemmas.List.Elements.{recursion_from_All, All-more, All-weaker}
use Rattle.std.proofs.lemmas.List.{take_all}
use Rattle.std.proofs.lemmas.Map.Lookups.{CmpEqualImpliesEq, exact_unsigned, exact_pairs}
use Rattle.order_model.specs.declared.term.Term.{Term}
use Rattle.order_model.specs.declared.term.Term.TheVariants.{Side, Link, Apart}
use Rattle.order_model.proofs.Lines.{either_true, both_true}
use Rattle.order_untangle.specs.Waits.{is_merge, has_merge, has_divide, IsLeastMerge, IsLeastDivide, StillWait, LinkWaits}

or_absorb : (a b : Bool) → (a || b) ≡ (a || (a || b))
or_absorb true b = refl
or_absorb false b = refl

or_swap : (a b c : Bool) → (a || (b || c)) ≡ (b || (a || c))
or_swap true true c = refl
or_swap true false c = refl
or_swap false b c = refl

inserted : {K : Type 0} (cmp : K → K → Ordering) → CmpEqualImpliesEq cmp → (p : K → Bool) (ks : List K) (k : K) → list_any p (insert_key cmp ks k) ≡ (p k || list_any p ks)
inserted cmp exact p [] k = refl
inserted {K} cmp exact p (x ∷ xs) k = by_order (cmp k x) refl (inserted cmp exact p xs k)
  where
    by_order : (o : Ordering) → cmp k x ≡ o → list_any p (insert_key cmp xs k) ≡ (p k || list_any p xs)
        → list_any p (match_ordering o (k ∷ x ∷ xs) (x ∷ xs) (x ∷ insert_key cmp xs k)) ≡ (p k || (p x || list_any p xs))
    by_order Less h rest = refl
    by_order Equal h rest = or_absorb (p x) (list_any p xs) ∙ ap (λ (y : K). p y || (p x || list_any p xs)) (sym (exact k x h))
    by_order Greater h rest = ap (λ (b : Bool). p x || b) rest ∙ or_swap (p x) (p k) (list_any p xs)

abbrev pair_cmp : ℕ × ℕ → ℕ × ℕ → Ordering
pair_cmp x y = ordering_then (nat_cmp x.0 y.0) (nat_cmp x.1 y.1)

pub merge_added : (old new : List (ℕ × ℕ)) (m : ℕ × ℕ) → new ≡ insert_key (λ (x y : ℕ × ℕ). ordering_then (nat_cmp x.0 y.0) (nat_cmp x.1 y.1)) old m
    → (e f : ℕ) → has_merge new e f ≡ (is_merge e f m || has_merge old e f)
merge_added old new m is e f =
    ap (list_any (is_merge e f)) is
    ∙ inserted (λ (x y : ℕ × ℕ). ordering_then (nat_cmp x.0 y.0) (nat_cmp x.1 y.1)) (exact_pairs nat_cmp nat_cmp exact_unsigned exact_unsigned) (is_merge e f) old m

pub divide_added : (old new : List ℕ) (s : ℕ) → new ≡ insert_key nat_cmp old s → (e : ℕ) → has_divide new e ≡ (s == e || has_divide old e)
divide_added old new s is e = ap (list_any (λ k. k == e)) is ∙ inserted nat_cmp exact_unsigned (λ k. k == e) old s

-- The least.

le_test : (a b : ℕ) → is_gt (nat_cmp a b) ≡ false → a ≤ b
le_test a b h = by_tests (nat_lt a b) (a == b) refl refl h
  where
    by_tests : (c d : Bool) → nat_lt a b ≡ c → (a == b) ≡ d → is_gt (cond c Less (cond d Equal Greater)) ≡ false → a ≤ b
    by_tests true d k m h = let below : a < b = ltb-true a b k in omega (arith, below)
    by_tests false true k m h = let same : a ≡ b = eqb-true a b m in omega (arith, same)
    by_tests false false k m h = absurd (true≢false h)

pair_test : (a b c d : ℕ) → is_gt (ordering_then (nat_cmp a c) (nat_cmp b d)) ≡ false → (a < c) ⊎ ((a ≡ c) × (b ≤ d))
pair_test a b c d h = by_tests (nat_lt a c) (a == c) refl refl h
  where
    by_tests : (x y : Bool) → nat_lt a c ≡ x → (a == c) ≡ y → is_gt (ordering_then (cond x Less (cond y Equal Greater)) (nat_cmp b d)) ≡ false → (a < c) ⊎ ((a ≡ c) × (b ≤ d))
    by_tests true y k m h = inl (ltb-true a c k)
    by_tests false true k m h = inr (eqb-true a c m, le_test b d h)
    by_tests false false k m h = absurd (true≢false h)

merge_least : (e f : ℕ) (ms : List (ℕ × ℕ)) → AllByRecursion (λ q. is_gt (ordering_then (nat_cmp e q.0) (nat_cmp f q.1)) ≡ false) ms → IsLeastMerge ms e f
merge_least e f [] all d g h = absurd (true≢false (sym h))
merge_least e f (m ∷ ms) all d g h = elim (either_true (is_merge d g m) (has_merge ms d g) h) [
  | inl here ↦ (
      let parts = both_true (m.0 == d) (m.1 == g) here in
      let first : m.0 ≡ d = eqb-true m.0 d parts.0 in
      let second : m.1 ≡ g = eqb-true m.1 g parts.1 in
      elim (pair_test e f m.0 m.1 all.0) [
        | inl below ↦ inl (omega (arith, below, first))
        | inr same ↦ inr (same.0 ∙ first, omega (arith, same.1, second))
      ])
  | inr later ↦ merge_least e f ms all.1 d g later
]

pub least_merge : (m : ℕ × ℕ) (ms : List (ℕ × ℕ)) → All (λ q. is_gt (ordering_then (nat_cmp m.0 q.0) (nat_cmp m.1 q.1)) ≡ false) ms → IsLeastMerge ms m.0 m.1
least_merge m ms all =
    merge_least m.0 m.1 ms (recursion_from_All (λ (q : ℕ × ℕ). is_gt (ordering_then (nat_cmp m.0 q.0) (nat_cmp m.1 q.1)) ≡ false) ms all)

divide_least : (e : ℕ) (ks : List ℕ) → AllByRecursion (λ q. is_gt (nat_cmp e q) ≡ false) ks → IsLeastDivide ks e
divide_least e [] all d h = absurd (true≢false (sym h))
divide_least e (k ∷ ks) all d h = elim (either_true (k == d) (has_divide ks d) h) [
  | inl here ↦ (let same : k ≡ d = eqb-true k d here in let below : e ≤ k = le_test e k all.0 in omega (arith, same, below))
  | inr later ↦ divide_least e ks all.1 d later
]

pub least_divide : (s : ℕ) (ks : List ℕ) → All (λ q. is_gt (nat_cmp s q) ≡ false) ks → IsLeastDivide ks s
least_divide s ks all = divide_least s ks (recursion_from_All (λ (q : ℕ). is_gt (nat_cmp s q) ≡ false) ks all)

pub first_key : {K : Type 0} (ks : List K) (k : K) → slice_get ks 0 ≡ Some k → ks ≡ k ∷ drop 1 ks
first_key {K} [] k h = absurd cc
first_key {K} (x ∷ xs) k h = let same : x ≡ k = cc in ap (λ (y : K). y ∷ xs) same

-- The merges of Links.

link_still : (old new : List (ℕ × ℕ)) → StillWait old new → (t : Term) → LinkWaits old t → LinkWaits new t
link_still old new still (Side seg first second w) h = tt
link_still old new still (Link seg other flip a b w) h = (still seg.0 other.0 h.0, still other.0 seg.0 h.1)
link_still old new still (Apart seg other a b w) h = tt

pub links_more : (old new : List (ℕ × ℕ)) (terms : List Term) (i : ℕ) (d : Term) → i < length terms → StillWait old new
    → All (LinkWaits old) (take i terms) → LinkWaits new (get_or terms i d) → All (LinkWaits new) (take (i + 1) terms)
links_more old new terms i d below still all one =
    All-more (LinkWaits new) terms i d below (All-weaker (LinkWaits old) (LinkWaits new) (link_still old new still) (take i terms) all) one

pub links_all : (merges : List (ℕ × ℕ)) (terms : List Term) (i : ℕ) → length terms ≤ i → All (LinkWaits merges) (take i terms) → All (LinkWaits merges) terms
links_all merges terms i done all = subst (All (LinkWaits merges)) (take_all i terms done) all
