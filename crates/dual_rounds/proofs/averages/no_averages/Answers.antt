use Rattle.std.proofs.Common.{take, sym, subst}
use Rattle.std.specs.List.{All}
use Rattle.dual_rounds.specs.Ranges.{IsAverage}
use Rattle.dual_rounds.proofs.SegmentLists.{no_averages_within}
use Rattle.dual_rounds.proofs.averages.no_averages.Goals as goal

pub returns-clause-within : goal.returns-clause-within
returns-clause-within c = subst (All (All IsAverage)) (sym c.loop-lines.invariant) (no_averages_within (take c.loop-lines.lines-index c.args.lists.now))
