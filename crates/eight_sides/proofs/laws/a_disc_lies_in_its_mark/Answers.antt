use Rattle.eight_sides.proofs.Discs.{disc_lies}
use Rattle.eight_sides.proofs.laws.a_disc_lies_in_its_mark.Goals as goal

pub returns : goal.returns
returns c = λ centre r s x y some h. disc_lies centre r s x y h
