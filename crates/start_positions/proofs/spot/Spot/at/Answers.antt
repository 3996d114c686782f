use Rattle.std.proofs.Common.{◌≡◌, w32, to_z, of_z, subst, arith}
use Rattle.std.proofs.lemmas.Int.{ints}
use Rattle.start_positions.specs.Nearest.{IsLineAt}
use Rattle.start_positions.proofs.spot.Spot.at.Goals as goal

pub returns-clause-spot : goal.returns-clause-spot
returns-clause-spot c =
    let column : c.line_at.result ≡ to_z w32 (of_z w32 c.line_at.result) = omega (arith, ints, c.line_at.ensures.least, c.line_at.ensures.most, c.requires.offset.columns) in
    let row : c.line_at-2.result ≡ to_z w32 (of_z w32 c.line_at-2.result) = omega (arith, ints, c.line_at-2.ensures.least, c.line_at-2.ensures.most, c.requires.offset.rows) in
    record {
      in_range = record { fine = c.requires.fine; east = c.requires.offset.wide; north = c.requires.offset.high };
      some = c.requires.side;
      column = subst (IsLineAt c.args.side c.args.fineness c.args.offset.east) column c.line_at.ensures;
      row = subst (IsLineAt c.args.side c.args.fineness c.args.offset.north) row c.line_at-2.ensures;
      left = omega (arith, ints, c.requires.left, c.line_at.ensures.least);
      right = omega (arith, ints, c.requires.offset.east, c.line_at.ensures.most);
      bottom = omega (arith, ints, c.requires.bottom, c.line_at-2.ensures.least);
      top = omega (arith, ints, c.requires.offset.north, c.line_at-2.ensures.most);
    }
