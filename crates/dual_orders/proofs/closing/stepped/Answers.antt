use Rattle.std.proofs.Common.{◌≡◌, cond, slice_index, bit_or, sym, ◌∙◌, ap}
use Rattle.least_orders.specs.Subsets.{has_place}
use Rattle.dual_orders.proofs.Chains.{joined_more}
use Rattle.dual_orders.proofs.closing.stepped.Goals as goal
use Rattle.dual_orders.proofs.closing.stepped.Goals.{then-has_place, else-has_place}

pub loop-k-preserved : goal.loop-k-preserved
loop-k-preserved c =
    let direct = c.args.direct.now in
    let set = c.args.set in
    let k = c.loop-k.k in
    let all = c.loop-k.all in
    let is : c.if-has_place.all ≡ cond (has_place set k) (bit_or all (slice_index direct k)) all =
    elim c.if-has_place.branch [
      | then-has_place w ↦ w.all-is ∙ sym
          (ap (λ b. cond b (bit_or all (slice_index direct k)) all) (sym c.has_place.ensures ∙ w.if-has_place.true))
      | else-has_place w ↦ w.all-is ∙ sym
          (ap (λ b. cond b (bit_or all (slice_index direct k)) all) (sym c.has_place.ensures ∙ w.if-has_place.false))
    ] in
    joined_more direct set k c.args.count all c.if-has_place.all c.loop-k-test.true is ∙ c.loop-k.invariant
