use Rattle.std.proofs.Common.{◌+◌, arith}
use Rattle.std.specs.List.{flat_map, range_with_len}
use Rattle.label_place.specs.Signs.{walk_things}
use Rattle.label_place.proofs.Growing.{adds_more, adds_none}
use Rattle.label_place.proofs.Stepping.{numbered}
use Rattle.label_place.proofs.filling.put_walks.Goals as goal

pub loop-s-init : goal.loop-s-init
loop-s-init c = adds_none c.args.grid.now c.requires

pub loop-s-preserved : goal.loop-s-preserved
loop-s-preserved c =
    let f = walk_things c.args.graph.now c.args.drawing.now.walks in
    let s = c.loop-s.s in
    adds_more c.args.grid.now c.loop-s.grid c.put_walk_of.new.grid (flat_map f (range_with_len 0 s)) (f s) (flat_map f (range_with_len 0 (s + 1))) (numbered f 0 s s (omega arith)) c.loop-s.invariant c.in_ok-put_walk_of.ensures
