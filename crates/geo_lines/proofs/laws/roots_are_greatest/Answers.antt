use Rattle.geo_lines.proofs.Roots.{root-is}
use Rattle.geo_lines.proofs.laws.roots_are_greatest.Goals as goal

pub returns : goal.returns
returns c = root-is
