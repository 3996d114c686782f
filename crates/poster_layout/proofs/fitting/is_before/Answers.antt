use Rattle.std.specs.Prelude.{nat_lt}
use Rattle.poster_layout.proofs.Sharing.{before_other, before_same}
use Rattle.poster_layout.proofs.fitting.is_before.Goals as goal

pub returns-then-a-b : goal.returns-then-a-b
returns-then-a-b c = before_same c.args.a.0 c.args.b.0 (nat_lt c.args.a.1 c.args.b.1) c.if-a-b.true

pub returns : goal.returns
returns c = before_other c.args.a.0 c.args.b.0 (nat_lt c.args.a.1 c.args.b.1) c.if-a-b.false
