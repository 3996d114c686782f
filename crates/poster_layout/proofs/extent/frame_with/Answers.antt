use Rattle.std.proofs.Common.{fold, ap, ◌∙◌, arith, List}
use Rattle.std.specs.List.{flat_map}
use Rattle.std.proofs.lemmas.List.{take_all}
use Rattle.eight_sides.specs.declared.shape.Shape.{Shape}
use Rattle.eight_sides.specs.Frames.{frame_of, shape_corners, widened}
use Rattle.poster_plan.specs.declared.plan.Piece.{Piece}
use Rattle.poster_plan.specs.declared.layout.Printed.{Printed}
use Rattle.poster_plan.specs.Placing.{printed_shape}
use Rattle.poster_plan.specs.Pitches.{walked_corners}
use Rattle.poster_layout.proofs.Framing.{frame_more, framed}
use Rattle.poster_layout.proofs.extent.frame_with.Goals as goal

pub loop-name-preserved : goal.loop-name-preserved
loop-name-preserved c =
    let u = c.args.pitch in
    let plan = c.args.plan.now in
    record {
      value = frame_more (frame_of (walked_corners u plan.pieces)) (λ (p : Printed). shape_corners (printed_shape u plan p)) c.args.printed.now c.loop-name.name-index _ c.loop-name.frame c.with_shape-frame.result c.loop-name-test.true c.loop-name.invariant.value
          (c.with_shape-frame.ensures.value ∙ ap (λ (s : Shape). fold widened c.loop-name.frame (shape_corners s)) c.printed_shape.ensures.value);
      near = c.with_shape-frame.ensures.near;
    }

pub returns-clause-value : goal.returns-clause-value
returns-clause-value c =
    let u = c.args.pitch in
    let plan = c.args.plan.now in
    let start = frame_of (walked_corners u plan.pieces) in
    c.loop-name.invariant.value
    ∙ ap (λ (ps : List Printed). fold widened start (flat_map (λ (p : Printed). shape_corners (printed_shape u plan p)) ps)) (take_all c.loop-name.name-index c.args.printed.now (omega arith))
    ∙ framed u plan c.args.printed.now

pub loop-name-init : goal.loop-name-init
loop-name-init c = record { value = c.walked_frame-frame.ensures.value ∙ ap (λ (ps : List Piece). frame_of (walked_corners c.args.pitch ps)) c.as_slice.ensures; near = c.walked_frame-frame.ensures.near }
