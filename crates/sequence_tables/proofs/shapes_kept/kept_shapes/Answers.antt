use Rattle.std.proofs.Common.{◌∙◌, ap, arith}
use Rattle.ordered_entries.specs.Entries.{places_of}
use Rattle.sequence_tables.proofs.CourseLemmas.{next_is_new, kept_more, shapes_more}
use Rattle.sequence_tables.proofs.shapes_kept.kept_shapes.Goals as goal

pub keep-requires-clause-new : goal.keep-requires-clause-new
keep-requires-clause-new c =
    next_is_new c.args.named.now c.args.ordered.now c.args.ids.now c.loop-k.kept.ids c.loop-k.k c.at-id.result.now c.requires.new (omega (arith, c.loop-k-test.true, c.len-k-end.ensures)) c.at-id.ensures c.loop-k.invariant.ids

pub loop-k-preserved : goal.loop-k-preserved
loop-k-preserved c =
    let places = c.places_of-places.ensures.places ∙ ap (places_of c.args.ordered.now) c.key_of.ensures in
    record {
      ids = kept_more c.args.named.now c.args.ordered.now c.args.ids.now c.loop-k.kept.ids c.keep.new.kept.ids c.loop-k.k c.at-id.result.now c.places_of-places.result.now (omega (arith, c.loop-k-test.true, c.len-k-end.ensures)) c.at-id.ensures
          places c.loop-k.invariant.ids c.in_ok-keep.ensures.ids;
      shapes = shapes_more c.args.named.now c.args.ordered.now c.args.points.now c.args.ids.now c.loop-k.kept.shapes.items c.keep.new.kept.shapes.items c.loop-k.k c.at-id.result.now c.places_of-places.result.now (omega (arith, c.loop-k-test.true, c.len-k-end.ensures)) c.at-id.ensures
          places c.loop-k.invariant.shapes c.in_ok-keep.ensures.shapes;
    }
