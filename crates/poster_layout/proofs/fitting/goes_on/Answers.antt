use Rattle.std.proofs.Common.{inl, inr, arith}
use Rattle.poster_layout.proofs.Sharing.{lt_from, not_lt_from}
use Rattle.poster_layout.proofs.fitting.goes_on.Goals as goal

pub returns-then-left-eq0-clause-on : goal.returns-then-left-eq0-clause-on
returns-then-left-eq0-clause-on c = λ e. absurd cc

pub returns-then-left-eq0-clause-off : goal.returns-then-left-eq0-clause-off
returns-then-left-eq0-clause-off c = λ e. inl c.if-left-eq0.true

pub returns-clause-on : goal.returns-clause-on
returns-clause-on c = λ e. (omega (arith, c.if-left-eq0.false), lt_from c.args.pitch 200 e)

pub returns-clause-off : goal.returns-clause-off
returns-clause-off c = λ e. inr (not_lt_from c.args.pitch 200 e)
