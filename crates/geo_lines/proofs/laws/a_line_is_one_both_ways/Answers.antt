use Rattle.geo_lines.proofs.Turning.{turns_round}
use Rattle.geo_lines.proofs.laws.a_line_is_one_both_ways.Goals as goal

pub returns : goal.returns
returns c = turns_round
