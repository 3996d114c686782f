use Rattle.std.proofs.Common.{◌-◌}
use Rattle.drawing_search.proofs.Common.{scale_of, walks_of}
use Rattle.drawing_search.proofs.Searches.{IsBetweenPasses}
use Rattle.drawing_search.proofs.searching.passes.Given as goal

-- the passes that are left come to what all of them come to
abbrev pub invariant-loop-search : goal.invariant-loop-search
invariant-loop-search l =
    IsBetweenPasses (scale_of l.field.by) l.field.graph.now (walks_of l.fn.sketch) l.fn.sketch.bounds l.groups l.at_once l.most l.before l.search.sketch l.search.weight l.search.made

abbrev pub decreases-loop-search : goal.decreases-loop-search
decreases-loop-search l = l.most - l.search.made
