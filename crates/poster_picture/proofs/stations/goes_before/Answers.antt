use Rattle.poster_picture.proofs.Sorting.{as_many, not_as_many}
use Rattle.poster_picture.proofs.stations.goes_before.Goals as goal

pub returns-then-first-second : goal.returns-then-first-second
returns-then-first-second c = as_many c.args.graph.now.lines c.args.a c.args.b c.lines_of-first.result.now c.lines_of-second.result.now c.lines_of-first.ensures c.lines_of-second.ensures c.if-first-second.true

pub returns-else-first-second : goal.returns-else-first-second
returns-else-first-second c = not_as_many c.args.graph.now.lines c.args.a c.args.b c.lines_of-first.result.now c.lines_of-second.result.now c.lines_of-first.ensures c.lines_of-second.ensures c.if-first-second.false
