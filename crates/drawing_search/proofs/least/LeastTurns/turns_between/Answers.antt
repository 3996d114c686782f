use Rattle.std.proofs.Common.{ap}
use Rattle.std.specs.Prelude.{slice_index}
use Rattle.drawing_search.proofs.least.LeastTurns.turns_between.Goals as goal

pub returns : goal.returns
returns c = ap (slice_index c.args.self.by) c.straight_way.ensures.value
