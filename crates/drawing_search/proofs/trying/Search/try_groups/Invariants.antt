use Rattle.drawing_weights.specs.Scales.{scale_of}
use Rattle.drawing_search.proofs.Searches.{IsPassing}
use Rattle.drawing_search.proofs.trying.Search.try_groups.Given as goal

-- the groups that are left come to what all of them come to
abbrev pub invariant-loop-group : goal.invariant-loop-group
invariant-loop-group l =
    IsPassing (scale_of l.field.by) l.field.graph.now l.field.first.now l.most l.groups (record { sketch = l.initial.self.sketch; made = l.initial.self.made }) l.group-index l.self.sketch l.self.weight l.self.made
