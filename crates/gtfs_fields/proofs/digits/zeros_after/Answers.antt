use Rattle.std.proofs.Common.{◌≡◌, ◌-◌, ◌+◌, suc, sym, ◌∙◌, arith}
use Rattle.gtfs_fields.proofs.DigitLemmas.{zero_taken, zero_refused}
use Rattle.gtfs_fields.proofs.digits.zeros_after.Goals as goal

pub returns-in_err-longer-clause-value : goal.returns-in_err-longer-clause-value
returns-in_err-longer-clause-value c =
    let left : c.args.zeros - c.loop.counter ≡ suc (c.args.zeros - (c.loop.counter + 1)) = omega arith in
    let so_far = rw left at c.loop.invariant.0 in
    rw c.from_residual.ensures (sym (zero_refused c.args.most c.loop.longer _ c.in_err-longer.ensures.value) ∙ so_far)

pub loop-preserved : goal.loop-preserved
loop-preserved c =
    let left : c.args.zeros - c.loop.counter ≡ suc (c.args.zeros - (c.loop.counter + 1)) = omega arith in
    let so_far = rw left at c.loop.invariant.0 in
    (sym (zero_taken c.args.most c.loop.longer c.in_ok-longer.longer _ c.in_ok-longer.ensures.value) ∙ so_far, c.in_ok-longer.ensures.bound)
