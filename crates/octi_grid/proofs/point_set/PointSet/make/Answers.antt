use Rattle.std.proofs.Common.{◌<◌, Bool, List, length, ap, ◌∙◌, arith, false}
use Rattle.std.proofs.lemmas.List.{length-replicate}
use Rattle.octi_grid.specs.PointSets.{is_raised, PointFlags}
use Rattle.octi_grid.proofs.PointSetLemmas.{made_length, made_same, read_none, AreTiles-set}
use Rattle.octi_grid.proofs.point_set.PointSet.make.Goals as goal

pub invariant_of-self : goal.invariant_of-self
invariant_of-self c =
    AreTiles-set c.self.inside.tiles.items c.args.tile c.in_ok-self-inside.field-0 c.self.invariant c.requires
    (ap (λ (fs : List Bool). length fs) c.in_ok-self-inside.ensures ∙ length-replicate 65536 false)

pub returns-clause-same : goal.returns-clause-same
returns-clause-same c = λ t f.
    let tiles = c.self.inside.tiles.items in
    let below : c.args.tile < length tiles = omega (arith, c.requires, c.self.invariant.count) in
    made_same tiles c.args.tile 65536 c.in_ok-self-inside.field-0 below (read_none tiles c.args.tile c.len.result c.index.result.now below c.index.ensures c.len.ensures c.if-len-gt0.false)
    c.in_ok-self-inside.ensures t f
    ∙ ap (λ (ts : PointFlags). is_raised ts t f) c.self.view_is

pub returns-clause-made : goal.returns-clause-made
returns-clause-made c =
    let tiles = c.self.inside.tiles.items in
    made_length tiles c.args.tile 65536 c.in_ok-self-inside.field-0 (omega (arith, c.requires, c.self.invariant.count)) c.in_ok-self-inside.ensures
