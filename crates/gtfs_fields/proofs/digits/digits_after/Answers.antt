use Rattle.std.proofs.Common.{sym, ◌∙◌}
use Rattle.gtfs_fields.proofs.DigitLemmas.{refused_at}
use Rattle.gtfs_fields.proofs.digits.digits_after.Goals as goal

pub returns-in_err-longer-clause-value : goal.returns-in_err-longer-clause-value
returns-in_err-longer-clause-value c =
    rw c.from_residual.ensures (sym (refused_at c.args.most c.loop-byte.longer c.args.text.now c.loop-byte.byte-index c.loop-byte-test.true c.in_err-longer.ensures.value) ∙ c.loop-byte.invariant.0)
