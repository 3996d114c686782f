use Rattle.picture_laws.proofs.Shows.{one_path_each, path_there}
use Rattle.picture_laws.proofs.laws.each_line_of_a_segment_has_its_path.Goals as goal

pub returns : goal.returns
returns c = record { one = one_path_each; there = path_there }
