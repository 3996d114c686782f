-- Courses and nodes that are there, and lines near the middle of their segments: there are at most 1,000 different lines.
use Rattle.std.proofs.Common.{◌≡◌, refl, sym, ◌∙◌, ap, subst, ℕ, zero, suc, ◌<◌, ◌≤◌, ◌==◌, unsigned_abs, Bool, true, false, ◌||◌, List, [], ◌∷◌, length, All, Some, arith, eqb-true, eq-eqb}
use Rattle.std.specs.Prelude.{Contains, IsPermutation}
use Rattle.std.specs.List.{slice_get, list_any}
use Rattle.std.specs.Cmp.{IsEquivalence}
use Rattle.std.proofs.lemmas.Bool.Decides.{nat_tests}
use Rattle.std.proofs.lemmas.Int.{ints}
use Rattle.std.proofs.lemmas.List.Elements.{All-get_or, All-head, All-tail, All-weaker}
use Rattle.std.proofs.lemmas.List.Sorted.{list_any-IsPermutation}
use Rattle.std.proofs.lemmas.Map.Made.{length-le_from_is_member}
use Rattle.std.proofs.lemmas.Option.{get_or_from_slice_get, slice_get_within}
use Rattle.std.proofs.lemmas.Map.Views.{list_any-from_Contains}
use Rattle.map_base.specs.declared.ids.LineId.{LineId}
use Rattle.map_base.specs.declared.point.Point.{Point}
use Rattle.graph_core.specs.declared.parts.GraphParts.{GraphParts}
use Rattle.graph_core.specs.Consistent.{AreRising, IsConsistent, IsNear}
use Rattle.order_model.specs.Costs.{AreOrders}
use Rattle.order_model.proofs.Lines.{order_distinct}
use Rattle.geo_lines.specs.Courses.{IsCourse, IsNearPlane}
use Rattle.svg_writer.specs.Courses.{order_at, gauge, AreInReach}
use Rattle.geo_map.specs.GeoMap.{IsNearMiddle}

-- a course that is there is one
pub course_there : (lines : List (List Point)) (s : ℕ) (course : List Point) → All IsCourse lines → slice_get lines s ≡ Some course → IsCourse course
course_there lines s course all is = subst IsCourse (get_or_from_slice_get lines s course course is) (All-get_or IsCourse lines s course (slice_get_within lines s course is) all)

-- and so a node lies near the plane
near_point : (p : Point) → IsNear p → IsNearPlane p
near_point p near = record { across = omega (arith, ints, near.0, near.1); along = omega (arith, ints, near.2, near.3) }

pub near_place : (places : List Point) (n : ℕ) (p : Point) → All IsNear places → slice_get places n ≡ Some p → IsNearPlane p
near_place places n p all is =
    near_point p (subst IsNear (get_or_from_slice_get places n p p is) (All-get_or IsNear places n p (slice_get_within places n p is) all))

gauge_small : (n i : ℕ) → i ≤ n → n ≤ 1000 → unsigned_abs (gauge n i) ≤ 10000
gauge_small n i within few = omega (arith, ints, within, few)

abbrev same : LineId → LineId → Bool
same a b = a.0 == b.0

same_true : (a b : LineId) → same a b ≡ true → a ≡ b
same_true a b e = ap (λ n. record { 0 = n }) (eqb-true a.0 b.0 e)

same-equivalence : IsEquivalence same
same-equivalence = record {
  refl = λ a. eq-eqb a.0 a.0 refl;
  symm = λ a b. flips a.0 b.0;
  congr = λ a b d e. ap (λ x. same x d) (same_true a b e);
}
  where
    flips : (m n : ℕ) → (m == n) ≡ (n == m)
    flips m n = grind (arith, nat_tests)

-- a line of an order is one of those that hold the segment's lines
held_line : (known lines : List LineId) (q : LineId) → All (Contains known) lines → list_any (same q) lines ≡ true → list_any (same q) known ≡ true
held_line known [] q held there = cc
held_line known (x ∷ lines) q held there =
    by_test (same q x) refl (held_line known lines q (All-tail (Contains known) x lines held))
  where
    by_test : (b : Bool) → same q x ≡ b → (list_any (same q) lines ≡ true → list_any (same q) known ≡ true) → list_any (same q) known ≡ true
    by_test true e later =
        subst (λ (y : LineId). list_any (same y) known ≡ true) (sym (same_true q x e)) (list_any-from_Contains same-equivalence x known (All-head (Contains known) x lines held))
    by_test false e later = later (sym (ap (λ t. t || list_any (same q) lines) e) ∙ there)

-- an order of a segment's lines is no longer than there are lines on all segments together
order_few : (known lines order : List LineId) → length known ≤ 1000 → All (Contains known) lines → AreRising lines → IsPermutation lines order → length order ≤ 1000
order_few known lines order few held rising is =
    let within = length-le_from_is_member same-equivalence order known (order_distinct lines order rising is)
    (λ q there. held_line known lines q held (list_any-IsPermutation (same q) lines order is ∙ there)) in
    omega (arith, few, within)

orders_few : (known : List LineId) (lines orders : List (List LineId)) → length known ≤ 1000 → All (All (Contains known)) lines → All AreRising lines → AreOrders lines orders
    → (s : ℕ) → length (order_at orders s) ≤ 1000
orders_few known [] [] few held rising are s = omega arith
orders_few known [] (order ∷ orders) few held rising are s = absurd are
orders_few known (ls ∷ lines) [] few held rising are s = absurd are
orders_few known (ls ∷ lines) (order ∷ orders) few held rising are zero =
    order_few known ls order few (All-head (All (Contains known)) ls lines held) (All-head AreRising ls lines rising) are.0
orders_few known (ls ∷ lines) (order ∷ orders) few held rising are (suc s) =
    orders_few known lines orders few (All-tail (All (Contains known)) ls lines held) (All-tail AreRising ls lines rising) are.1 s

pub in_reach : (g : GraphParts) (lines : List (List Point)) (orders : List (List LineId)) → IsConsistent g → All IsCourse lines → AreOrders g.lines orders
    → AreInReach (IsNearMiddle lines) orders
in_reach g lines orders fits courses are =
    λ s i within. record {
      courses = courses;
      near = gauge_small (length (order_at orders s)) i within
          (orders_few fits.few_lines.0 g.lines orders fits.few_lines.1 fits.few_lines.2 (All-weaker (λ ls. (0 < length ls) × AreRising ls) AreRising (λ ls is. is.1) g.lines fits.lines) are s);
    }
