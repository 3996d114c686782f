use Rattle.start_positions.proofs.SpreadLemmas.{not_spread, sides_kept}
use Rattle.start_positions.proofs.laws.spreading_keeps_sides.Goals as goal

pub returns : goal.returns
returns c = record { sides = sides_kept; none = not_spread }
