use Rattle.std.proofs.Common.{◌≡◌, false, take}
use Rattle.std.specs.List.{list_any}
use Rattle.eight_sides.specs.Shapes.{meet}
use Rattle.poster_plan.specs.declared.plan.Piece.{Piece}
use Rattle.poster_plan.specs.Signs.{piece_at}
use Rattle.poster_layout.proofs.legend.meets_piece.Given as goal

-- it meets none of those so far
abbrev pub invariant-loop-piece : goal.invariant-loop-piece
invariant-loop-piece l = list_any (λ (m : Piece). meet l.shape (piece_at l.pitch m)) (take l.piece-index l.pieces) ≡ false
