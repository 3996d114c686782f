use Rattle.std.proofs.Common.{sym, arith}
use Rattle.line_calls.proofs.Noting.{last_at, last_none}
use Rattle.line_calls.proofs.table.is_last.Goals as goal

pub returns-then-numbers-eq0 : goal.returns-then-numbers-eq0
returns-then-numbers-eq0 c = sym (last_none c.args.number c.args.numbers.now (omega (arith, c.if-numbers-eq0.true)))

pub returns : goal.returns
returns c = sym (last_at c.args.number 0 c.args.numbers.now (omega (arith, c.if-numbers-eq0.false)))
