use Rattle.std.proofs.Common.{◌≡◌, ◌+◌, ◌%◌, pos, w32, to_z, subst, arith}
use Rattle.std.proofs.lemmas.Int.{ints}
use Rattle.start_positions.specs.Nearest.{IsLineAt}
use Rattle.start_positions.proofs.Distances.{line_is}
use Rattle.start_positions.proofs.spot.line_at.Goals as goal

pub returns : goal.returns
returns c =
    let n : pos (c.lines_of-line.result + c.lines_of-line.result % 2) ≡ to_z w32 (c.lines_of-line.result + c.lines_of-line.result % 2) = omega (arith, ints) in
    subst (IsLineAt c.args.side c.args.fineness c.args.at) n (line_is c.args.side c.args.fineness c.args.at c.lines_of-line.result c.requires.side c.lines_of-line.ensures.value)
