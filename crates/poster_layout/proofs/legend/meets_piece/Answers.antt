use Rattle.std.proofs.Common.{ap, sym, ◌∙◌, arith}
use Rattle.eight_sides.specs.Shapes.{meet}
use Rattle.poster_plan.specs.declared.plan.Piece.{Piece}
use Rattle.poster_plan.specs.Signs.{piece_at}
use Rattle.poster_table.proofs.Finding.{any_here, any_none, any_past}
use Rattle.poster_layout.proofs.legend.meets_piece.Goals as goal

pub loop-piece-preserved : goal.loop-piece-preserved
loop-piece-preserved c =
    any_past (λ (x : Piece). meet c.args.shape (piece_at c.args.pitch x)) c.args.pieces.now c.loop-piece.piece-index _ c.loop-piece-test.true
    (ap (meet c.args.shape) (sym c.piece_at.ensures.value) ∙ sym c.meet.ensures ∙ c.if-meet.false) c.loop-piece.invariant

pub returns-then-meet : goal.returns-then-meet
returns-then-meet c =
    any_here (λ (x : Piece). meet c.args.shape (piece_at c.args.pitch x)) c.args.pieces.now c.loop-piece.piece-index _ c.loop-piece-test.true
    (ap (meet c.args.shape) (sym c.piece_at.ensures.value) ∙ sym c.meet.ensures ∙ c.if-meet.true)

pub returns : goal.returns
returns c = any_none (λ (x : Piece). meet c.args.shape (piece_at c.args.pitch x)) c.args.pieces.now c.loop-piece.piece-index (omega arith) c.loop-piece.invariant
