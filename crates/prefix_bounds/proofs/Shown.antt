-- What a bound, canonical prices and a value show of a part of a problem.
use Rattle.std.proofs.Common.{◌≡◌, ℕ, ◌≤◌, Bool, true, cond, List, sym, ◌∙◌, ap, arith, Some, None}
use Rattle.std.specs.Prelude.{ℤ, pos, ◌+ℤ◌, ◌≤ℤ◌}
use Rattle.std.proofs.lemmas.Int.{ints}
use Rattle.map_base.specs.declared.ids.SegId.{SegId}
use Rattle.map_base.specs.declared.ids.LineId.{LineId}
use Rattle.order_model.specs.declared.problem.ProblemParts.{ProblemParts}
use Rattle.order_model.specs.declared.term.Term.{Term}
use Rattle.order_model.specs.Problems.{IsProblem}
use Rattle.order_model.specs.Parts.{IsRisingPart}
use Rattle.order_model.specs.PartTerms.{part_terms}
use Rattle.order_bound.specs.Bounds.{bound_of}
use Rattle.order_bound.specs.Decided.{decided_sum}
use Rattle.order_bound.specs.Values.{are_allowed, value, value_of}
use Rattle.order_check.specs.Slots.{slots_of, slots_value}
use Rattle.order_check.proofs.SlotValues.{value_by_slots}
use Rattle.order_bound.specs.CanonicalPrices.{prices_for}
use Rattle.order_bound.proofs.Bounding.{bound_below, value_bounds}
use Rattle.order_bound.proofs.CanonicalValue.{canonical_prices_reach}
use Rattle.order_bound.proofs.Completing.{IsPart}
use Rattle.order_bound.proofs.Parts.{part_of_problem, part_numbered}
use Rattle.part_bounds.specs.PartStates.{PartState}
use Rattle.prefix_bounds.specs.Completed.{CostsAtLeast}

is_part : (p : ProblemParts) (part : List SegId) → IsProblem p → IsRisingPart part → IsPart p.segs part (part_terms p.terms part)
is_part p part ok rising = part_of_problem p.segs p.terms part ok.rising ok.terms rising

-- the same part with the same lines placed
same_state : {A : Type 0} (f : List (List LineId) → List SegId → List (ℕ × Term) → List (List LineId) → A) (p : ProblemParts) (part : List SegId) (placed : List (List LineId)) (b : PartState)
    → b.segs ≡ p.segs → b.part ≡ part → b.terms ≡ part_terms p.terms part → b.placed ≡ placed → f b.segs b.part b.terms b.placed ≡ f p.segs part (part_terms p.terms part) placed
same_state f p part placed b bs bp bt bl =
    ap (λ x. f x b.part b.terms b.placed) bs ∙ ap (λ x. f p.segs x b.terms b.placed) bp ∙ ap (λ x. f p.segs part x b.placed) bt ∙ ap (f p.segs part (part_terms p.terms part)) bl

pub bound_shown : (p : ProblemParts) (part : List SegId) (placed : List (List LineId)) (b : PartState) (bound : ℕ) → IsProblem p → IsRisingPart part
    → b.segs ≡ p.segs → b.part ≡ part → b.terms ≡ part_terms p.terms part → b.placed ≡ placed → bound ≡ bound_of b.segs b.part b.terms b.placed
    → CostsAtLeast p part placed (pos bound)
bound_shown p part placed b bound ok rising bs bp bt bl is orders are done =
    below bound _ _ (is ∙ same_state bound_of p part placed b bs bp bt bl) (bound_below p.segs placed orders part (part_terms p.terms part) (is_part p part ok rising) are done)
  where
    below : (a m n : ℕ) → a ≡ m → m ≤ n → pos a ≤ℤ pos n
    below a m n e h = omega (arith, ints)

pub prices_shown : (p : ProblemParts) (part : List SegId) (placed : List (List LineId)) (b : PartState) (prices : List (ℕ × ℤ)) → IsProblem p → IsRisingPart part
    → b.segs ≡ p.segs → b.part ≡ part → b.terms ≡ part_terms p.terms part → b.placed ≡ placed → prices ≡ prices_for b.segs b.part b.terms b.placed
    → value p.segs part (part_terms p.terms part) placed prices ≡ Some (pos (bound_of p.segs part (part_terms p.terms part) placed))
prices_shown p part placed b prices ok rising bs bp bt bl is =
    ap (value p.segs part (part_terms p.terms part) placed) (is ∙ same_state prices_for p part placed b bs bp bt bl)
    ∙ canonical_prices_reach p.segs placed part (part_terms p.terms part) (is_part p part ok rising) (part_numbered p.terms part)

pub value_shown : (p : ProblemParts) (part : List SegId) (placed : List (List LineId)) (prices : List (ℕ × ℤ)) (v : ℤ) → IsProblem p → IsRisingPart part
    → value p.segs part (part_terms p.terms part) placed prices ≡ Some v → CostsAtLeast p part placed v
value_shown p part placed prices v ok rising is orders are done =
    value_bounds p.segs placed orders part (part_terms p.terms part) prices v (is_part p part ok rising) (part_numbered p.terms part) is are done

-- the decided terms and the least of each slot sum to the value
pub value_is : (p : ProblemParts) (part : List SegId) (placed : List (List LineId)) (prices list : List (ℕ × ℤ)) (allowed : Bool) (decided : ℕ) (least v : ℤ) → IsProblem p → IsRisingPart part
    → list ≡ prices → allowed ≡ are_allowed placed (part_terms p.terms part) list → allowed ≡ true → decided ≡ decided_sum p.segs placed (part_terms p.terms part)
    → least ≡ slots_value placed list (part_terms p.terms part) (slots_of (part_terms p.terms part)) → v ≡ (least +ℤ pos decided)
    → value p.segs part (part_terms p.terms part) placed prices ≡ Some v
value_is p part placed prices list allowed decided least v ok rising same test holds decided_is least_is is =
    ap (λ b. cond b (Some (value_of p.segs part (part_terms p.terms part) placed prices)) None) (ap (are_allowed placed (part_terms p.terms part)) (sym same) ∙ sym test ∙ holds)
    ∙ ap Some (sym (is ∙ turned least (pos decided) ∙ ap (λ n. pos n +ℤ least) decided_is
    ∙ ap (λ x. pos (decided_sum p.segs placed (part_terms p.terms part)) +ℤ x)
    (least_is ∙ ap (λ l. slots_value placed l (part_terms p.terms part) (slots_of (part_terms p.terms part))) same
    ∙ value_by_slots p.segs placed part (part_terms p.terms part) prices (is_part p part ok rising))))
  where
    turned : (a b : ℤ) → (a +ℤ b) ≡ (b +ℤ a)
    turned a b = omega (arith, ints)
