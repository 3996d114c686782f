use Rattle.std.proofs.Common.{arith}
use Rattle.poster_graph.proofs.Words.{none_empty, none_second, some_left}
use Rattle.poster_graph.proofs.texts.unless_empty.Goals as goal

pub returns-then-text-eq0 : goal.returns-then-text-eq0
returns-then-text-eq0 c = none_empty c.args.second c.args.text.now (omega (arith, c.if-text-eq0.true))

pub returns-then-second : goal.returns-then-second
returns-then-second c = none_second c.args.second c.args.text.now c.if-second.true

pub returns : goal.returns
returns c = some_left c.args.second c.args.text.now (omega (arith, c.if-text-eq0.false)) c.if-second.false
