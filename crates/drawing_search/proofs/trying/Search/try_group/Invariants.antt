use Rattle.drawing_weights.specs.Scales.{scale_of}
use Rattle.drawing_search.proofs.TriedGroups.{IsTrying}
use Rattle.drawing_search.proofs.trying.Search.try_group.Given as goal

-- the attempts that are left come to what all of them come to
abbrev pub invariant-loop-i : goal.invariant-loop-i
invariant-loop-i l =
    IsTrying (scale_of l.field.by) l.field.graph.now l.field.first.now l.group l.most (record { sketch = l.fn.self.sketch; made = l.fn.self.made }) l.i l.self.sketch l.self.weight l.self.made l.lifted
