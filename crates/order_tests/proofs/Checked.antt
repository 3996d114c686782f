-- Small problems that are tested before they are made.
use Rattle.std.proofs.Common.{◌≡◌, ℕ, ◌+◌, ◌<◌, ◌≤◌, ◌==◌, ◌∙◌, nat_lt, true, List, [], ◌∷◌, length, get_or, take, sym, subst, arith, inl, inr, true≢false}
use Rattle.std.specs.List.{All, Contains, sum_by}
use Rattle.std.proofs.lemmas.Bool.{ltb-true}
use Rattle.std.proofs.lemmas.List.{take_all}
use Rattle.std.proofs.lemmas.List.Elements.{All-more}
use Rattle.std.proofs.lemmas.List.Sums.{sum_by-le}
use Rattle.std.proofs.lemmas.List.Sorted.{IsPermutation-refl}
use Rattle.map_base.specs.declared.ids.LineId.{LineId}
use Rattle.graph_core.specs.Consistent.{AreRising}
use Rattle.order_model.specs.Places.{has_line}
use Rattle.order_model.proofs.Lines.{both_true, either_true, same_line}
use Rattle.order_model.proofs.RisingLines.{contains_first, contains_later}
use Rattle.order_rules.specs.Dividing.{is_rising}
use Rattle.order_model.specs.Costs.{AreOrders}
use Rattle.order_model.specs.Problems.{choices}

pub rising_lines : (lines : List LineId) → is_rising lines ≡ true → AreRising lines
rising_lines [] h = tt
rising_lines (a ∷ []) h = tt
rising_lines (a ∷ b ∷ rest) h = let parts = both_true (nat_lt a.0 b.0) (is_rising (b ∷ rest)) h in (ltb-true a.0 b.0 parts.0, rising_lines (b ∷ rest) parts.1)

pub has_contains : (xs : List LineId) (a : LineId) → has_line xs a ≡ true → Contains xs a
has_contains [] a h = absurd (true≢false (sym h))
has_contains (x ∷ xs) a h = elim (either_true (x.0 == a.0) (has_line xs a) h) [
  | inl here ↦ subst (Contains (x ∷ xs)) (same_line x a here) (contains_first x xs)
  | inr later ↦ contains_later x a xs (has_contains xs a later)
]

-- few segments with few lines each leave few choices
pub few : (segs : List (List LineId)) → length segs ≤ 10000 → All (λ lines. choices lines ≤ 1000) segs → length segs + sum_by choices segs ≤ 20000000
few segs most each = omega (arith, most, sum_by-le choices 1000 segs each)

own_orders : (segs : List (List LineId)) → AreOrders segs segs
own_orders [] = tt
own_orders (lines ∷ segs) = (IsPermutation-refl lines, own_orders segs)

-- the number order
pub same_orders : (segs lists : List (List LineId)) → lists ≡ segs → AreOrders segs lists
same_orders segs lists h = subst (AreOrders segs) (sym h) (own_orders segs)

-- what holds of the lists so far holds with one more
pub one_more : (P : List LineId → Type 0) (segs : List (List LineId)) (i : ℕ) (x seen : List LineId) → i < length segs → x ≡ get_or segs i x → seen ≡ x → All P (take i segs) → P seen → All P (take (i + 1) segs)
one_more P segs i x seen lt is same so p = All-more P segs i x lt so (subst P (same ∙ is) p)

-- at the end it holds of all
pub of_all : (P : List LineId → Type 0) (segs : List (List LineId)) (i : ℕ) → length segs ≤ i → All P (take i segs) → All P segs
of_all P segs i h so = subst (All P) (take_all i segs (omega (arith, h))) so
