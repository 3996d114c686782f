use Rattle.std.proofs.Common.{◌≡◌, ◌∙◌, ap, sym, length, List, ℕ, add-one}
use Rattle.map_base.specs.declared.ids.SegId.{SegId}
use Rattle.order_model.specs.Gathering.{part_lists, after_segment, places_after}
use Rattle.order_model.proofs.Placing.{placed_after, length-part_lists}
use Rattle.order_model.proofs.parts.gathered.Goals as goal

pub loop-s-preserved : goal.loop-s-preserved
loop-s-preserved c =
    let segs = c.args.segs.now in
    let labels = c.args.labels.now in
    let s : ℕ = c.loop-s.s in
    let old : List (List SegId) = part_lists c.loop-s.parts.items in
    let parts : part_lists c.add_segment.new.parts.items ≡ after_segment segs labels s old = c.in_ok-add_segment.ensures.parts in
    let places : c.add_segment.new.places.items ≡ places_after segs labels s (length old) c.loop-s.places.items =
    c.in_ok-add_segment.ensures.places ∙ ap (λ n. places_after segs labels s n c.loop-s.places.items) (sym (length-part_lists c.loop-s.parts.items)) in (
      rw add-one (parts ∙ ap (after_segment segs labels s) c.loop-s.invariant.0),
      rw (parts, places) (placed_after segs labels s old c.loop-s.places.items c.loop-s.invariant.1 c.loop-s-test.true),
    )
