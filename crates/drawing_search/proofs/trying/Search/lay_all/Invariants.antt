use Rattle.std.proofs.Common.{◌≡◌}
use Rattle.drawing_weights.specs.Scales.{scale_of}
use Rattle.drawing_search.proofs.LayLoop.{IsLayingAll}
use Rattle.drawing_search.proofs.trying.Search.lay_all.Given as goal

-- the runs that are left may be laid on what there is, and those that were laid may be taken away
abbrev pub invariant-loop-i : goal.invariant-loop-i
invariant-loop-i l = record {
  laying : IsLayingAll (scale_of l.field.by) l.field.graph.now l.field.first.now l.runs l.least l.initial.self.sketch l.initial.self.weight l.i l.self.sketch l.weight l.ahead;
  kept : l.self.weight ≡ l.initial.self.weight;
  made : l.self.made ≡ l.initial.self.made;
}
