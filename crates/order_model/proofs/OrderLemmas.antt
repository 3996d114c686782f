-- Orders of a problem have a list for each of its segments, so its terms can be read over them.
use Rattle.std.proofs.Common.{◌≡◌, ℕ, List, [], ◌∷◌, length, refl, subst, arith}
use Rattle.std.specs.List.{All}
use Rattle.map_base.specs.declared.ids.LineId.{LineId}
use Rattle.order_model.specs.declared.term.Term.{Term}
use Rattle.order_model.specs.declared.term.Term.TheVariants.{Side, Link, Apart}
use Rattle.order_model.specs.Problems.{IsTerm}
use Rattle.order_model.specs.Costs.{AreOrders, IsReadable}

pub length-orders : (segs orders : List (List LineId)) → AreOrders segs orders → length segs ≡ length orders
length-orders [] [] h = refl
length-orders (s ∷ segs) (o ∷ orders) h = let rest = length-orders segs orders h.1 in omega arith
length-orders [] (o ∷ orders) h = absurd h
length-orders (s ∷ segs) [] h = absurd h

pub readable_term : (segs : List (List LineId)) (t : Term) → IsTerm segs t → IsReadable (length segs) t
readable_term segs (Side seg first second w) h = (h.seg_known, h.weight.1)
readable_term segs (Link seg other flip a b w) h = (omega (arith, h.seg_below, h.other_known), h.other_known, h.weight.1)
readable_term segs (Apart seg other a b w) h = (omega (arith, h.seg_below, h.other_known), h.other_known, h.weight.1)

pub readable_terms : (segs orders : List (List LineId)) (terms : List Term) → AreOrders segs orders
    → All (IsTerm segs) terms → All (IsReadable (length orders)) terms
readable_terms segs orders terms o h =
    let n : ℕ = length orders in
    let e : length segs ≡ n = length-orders segs orders o in
    let P : ℕ → Type 0 = λ m. All (IsReadable m) terms in
    subst P e (λ k d below. readable_term segs _ (h k d below))
