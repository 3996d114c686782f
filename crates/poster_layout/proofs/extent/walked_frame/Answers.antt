use Rattle.std.proofs.Common.{fold, ap, ◌∙◌, arith, List}
use Rattle.std.specs.List.{flat_map}
use Rattle.std.proofs.lemmas.List.{take_all}
use Rattle.eight_sides.specs.Frames.{widened}
use Rattle.poster_plan.specs.declared.plan.Piece.{Piece}
use Rattle.poster_layout.specs.Extents.{first_frame, piece_ends}
use Rattle.poster_layout.proofs.Framing.{frame_more, walked}
use Rattle.poster_layout.proofs.extent.walked_frame.Goals as goal

pub loop-piece-preserved : goal.loop-piece-preserved
loop-piece-preserved c = record {
  value = frame_more (first_frame c.args.pitch c.args.pieces.now) (piece_ends c.args.pitch) c.args.pieces.now c.loop-piece.piece-index _ c.loop-piece.frame c.with_piece-frame.result c.loop-piece-test.true c.loop-piece.invariant.value c.with_piece-frame.ensures.value;
  near = c.with_piece-frame.ensures.near;
}

pub returns-clause-value : goal.returns-clause-value
returns-clause-value c =
    c.loop-piece.invariant.value
    ∙ ap (λ (ps : List Piece). fold widened (first_frame c.args.pitch c.args.pieces.now) (flat_map (piece_ends c.args.pitch) ps)) (take_all c.loop-piece.piece-index c.args.pieces.now (omega arith))
    ∙ walked c.args.pitch c.args.pieces.now

pub loop-piece-init : goal.loop-piece-init
loop-piece-init c = record { value = c.first_frame-frame.ensures.value; near = c.first_frame-frame.ensures.near }
