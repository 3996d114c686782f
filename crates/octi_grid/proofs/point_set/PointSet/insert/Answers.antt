use Rattle.octi_grid.proofs.PointSetLemmas.{held_after}
use Rattle.octi_grid.proofs.point_set.PointSet.insert.Goals as goal

pub returns-clause-holds : goal.returns-clause-holds
returns-clause-holds c = λ q.
    held_after c.args.self.now c.make.new.self c.raise.new.self c.args.p q c.tile_of-tile.result c.flag_of.result 65536 c.requires c.tile_of-tile.ensures.value c.flag_of.ensures.value c.flag_of.ensures.within
    c.in_ok-make.ensures.made c.raise.ensures.raised c.in_ok-make.ensures.same
