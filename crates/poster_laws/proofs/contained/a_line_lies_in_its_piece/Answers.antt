use Rattle.std.proofs.Common.{◌*◌, arith}
use Rattle.poster_laws.proofs.Pieces.{as_disc, near_piece}
use Rattle.poster_laws.proofs.contained.a_line_lies_in_its_piece.Goals as goal

pub returns : goal.returns
returns c = λ a b h s u v x y on near.
    near_piece a b h s u v x y on (c.a_disc_lies_in_its_mark.ensures (record { x = u; y = v }) (s * h) 1 x y (omega arith) (as_disc h s u v x y near))
