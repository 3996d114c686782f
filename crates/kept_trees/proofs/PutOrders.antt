-- Orders of parts that are put in place.
use Rattle.std.proofs.Common.{◌≡◌, ◌≢◌, ◌∙◌, ap, sym, subst, refl, ℕ, suc, ◌<◌, ◌==◌, ◌⊎◌, inl, inr, Bool, true, false, true≢false, List, [], ◌∷◌, length, get_or, set, get_or-set_same, get_or-set_other, length-set, arith, eqb-true, eq-eqb}
use Rattle.std.specs.List.Sorted.{IsPermutation}
use Rattle.std.proofs.lemmas.List.Sorted.{IsPermutation-refl}
use Rattle.map_base.specs.declared.ids.SegId.{SegId}
use Rattle.map_base.specs.declared.ids.LineId.{LineId}
use Rattle.order_model.specs.Costs.{AreOrders}
use Rattle.order_search.specs.Finding.{with_lists}
use Rattle.order_model.proofs.PlaceCosts.{order_at}

pub length-with_lists : (part : List SegId) (lists orders : List (List LineId))
    → length (with_lists part lists orders) ≡ length orders
length-with_lists [] lists orders = refl
length-with_lists (s ∷ part) [] orders = refl
length-with_lists (s ∷ part) (order ∷ lists) orders = length-set (with_lists part lists orders) s.0 order ∙ length-with_lists part lists orders

pub length-orders : (segs orders : List (List LineId)) → AreOrders segs orders → length orders ≡ length segs
length-orders [] [] are = refl
length-orders [] (o ∷ orders) are = absurd are
length-orders (lines ∷ segs) [] are = absurd are
length-orders (lines ∷ segs) (o ∷ orders) are = ap suc (length-orders segs orders are.1)

pub orders_from : (segs orders : List (List LineId)) → length orders ≡ length segs
    → ((i : ℕ) → i < length segs → IsPermutation (get_or segs i []) (get_or orders i [])) → AreOrders segs orders
orders_from [] [] same each = tt
orders_from [] (o ∷ orders) same each = absurd (omega (arith, same))
orders_from (lines ∷ segs) [] same each = absurd (omega (arith, same))
orders_from (lines ∷ segs) (o ∷ orders) same each =
    (each 0 (omega arith), orders_from segs orders (omega (arith, same)) (λ i below. each (suc i) (omega (arith, below))))

-- what the lists of a part put at a place: over two starts nothing, or the same
put_alike : (part : List SegId) (lists some others : List (List LineId)) (i : ℕ) → i < length some → i < length others
    → ((get_or (with_lists part lists some) i [] ≡ get_or some i []) × (get_or (with_lists part lists others) i [] ≡ get_or others i []))
    ⊎ (get_or (with_lists part lists some) i [] ≡ get_or (with_lists part lists others) i [])
put_alike [] lists some others i below within = inl (refl, refl)
put_alike (s ∷ part) [] some others i below within = inl (refl, refl)
put_alike (s ∷ part) (order ∷ lists) some others i below within = by_test (i == s.0) refl (put_alike part lists some others i below within)
  where
    by_test : (t : Bool) → (i == s.0) ≡ t
        → ((get_or (with_lists part lists some) i [] ≡ get_or some i []) × (get_or (with_lists part lists others) i [] ≡ get_or others i []))
        ⊎ (get_or (with_lists part lists some) i [] ≡ get_or (with_lists part lists others) i [])
        → ((get_or (set (with_lists part lists some) s.0 order) i [] ≡ get_or some i []) × (get_or (set (with_lists part lists others) s.0 order) i [] ≡ get_or others i []))
        ⊎ (get_or (set (with_lists part lists some) s.0 order) i [] ≡ get_or (set (with_lists part lists others) s.0 order) i [])
    by_test true e rest =
        let here : i ≡ s.0 = eqb-true i s.0 e in
        let one : get_or (set (with_lists part lists some) s.0 order) i [] ≡ order =
        subst (λ (n : ℕ). get_or (set (with_lists part lists some) s.0 order) n [] ≡ order) (sym here)
        (get_or-set_same (with_lists part lists some) s.0 order [] (omega (arith, here, below, length-with_lists part lists some))) in
        let other : get_or (set (with_lists part lists others) s.0 order) i [] ≡ order =
        subst (λ (n : ℕ). get_or (set (with_lists part lists others) s.0 order) n [] ≡ order) (sym here)
        (get_or-set_same (with_lists part lists others) s.0 order [] (omega (arith, here, within, length-with_lists part lists others))) in
        inr (one ∙ sym other)
    by_test false e rest =
        let apart : i ≢ s.0 = λ (h : i ≡ s.0). true≢false (sym (eq-eqb i s.0 h) ∙ e) in
        let one = get_or-set_other (with_lists part lists some) s.0 i order [] apart in
        let other = get_or-set_other (with_lists part lists others) s.0 i order [] apart in
        elim rest [
          | inl both ↦ inl (one ∙ both.0, other ∙ both.1)
          | inr same ↦ inr (one ∙ same ∙ sym other)
        ]

-- orders that are some with a part's lists over the number order are some over any orders
pub orders_put : (segs orders : List (List LineId)) (part : List SegId) (lists : List (List LineId))
    → AreOrders segs orders → AreOrders segs (with_lists part lists segs)
    → AreOrders segs (with_lists part lists orders)
orders_put segs orders part lists are attained =
    orders_from segs (with_lists part lists orders) (length-with_lists part lists orders ∙ length-orders segs orders are)
    (λ i below. elim (put_alike part lists orders segs i (omega (arith, below, length-orders segs orders are)) below) [
      | inl both ↦ subst (λ (o : List LineId). IsPermutation (get_or segs i []) o) (sym both.0) (order_at segs orders i are below)
      | inr same ↦ subst (λ (o : List LineId). IsPermutation (get_or segs i []) o) (sym same) (order_at segs (with_lists part lists segs) i attained below)
    ])

-- the lines of each segment in their own order are orders
pub number_orders_are : (segs : List (List LineId)) → AreOrders segs segs
number_orders_are [] = tt
number_orders_are (lines ∷ segs) = (IsPermutation-refl lines, number_orders_are segs)
