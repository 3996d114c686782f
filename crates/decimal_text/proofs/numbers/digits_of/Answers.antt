use Rattle.std.proofs.Common.{sym, ◌∙◌}
use Rattle.decimal_text.specs.Numbers.{most_number}
use Rattle.decimal_text.proofs.DigitLemmas.{refused_at}
use Rattle.decimal_text.proofs.numbers.digits_of.Goals as goal

pub returns-in_err-number-clause-value : goal.returns-in_err-number-clause-value
returns-in_err-number-clause-value c =
    rw c.from_residual.ensures (sym (refused_at most_number c.loop-byte.number c.args.text.now c.loop-byte.byte-index c.loop-byte-test.true c.in_err-number.ensures.value) ∙ c.loop-byte.invariant.0)
