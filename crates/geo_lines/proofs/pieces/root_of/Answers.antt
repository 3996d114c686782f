use Rattle.geo_lines.specs.Roots.{root}
use Rattle.geo_lines.proofs.Roots.{one_root, root-is}
use Rattle.geo_lines.proofs.pieces.root_of.Goals as goal

pub returns-clause-value : goal.returns-clause-value
returns-clause-value c =
    one_root c.args.square c.isqrt.result (root c.args.square)
    (record { square_le = c.isqrt.ensures.square_le; next_square_gt = c.isqrt.ensures.next_square_gt }) (root-is c.args.square)
