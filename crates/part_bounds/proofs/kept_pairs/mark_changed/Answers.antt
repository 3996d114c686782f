use Rattle.part_bounds.proofs.Marks.{marked_more}
use Rattle.part_bounds.proofs.kept_pairs.mark_changed.Goals as goal

pub loop-place-preserved : goal.loop-place-preserved
loop-place-preserved c =
    marked_more c.args.change.now c.args.pairs.now c.loop-place.place c.index-pairs-place.result c.args.stale.now.items c.loop-place.stale.items c.mark_at.new.stale.items c.index-pairs-place.is c.loop-place.invariant
    c.mark_at.ensures.each c.mark_at.ensures.still c.mark_at.ensures.marked
