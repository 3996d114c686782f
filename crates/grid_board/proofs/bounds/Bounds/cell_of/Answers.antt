use Rattle.std.proofs.Common.{arith}
use Rattle.std.proofs.lemmas.Int.{ints}
use Rattle.grid_board.proofs.Within.{inside_facts, cell_by_parts}
use Rattle.grid_board.proofs.bounds.Bounds.cell_of.Goals as goal

pub offset-requires-2-clause-order : goal.offset-requires-2-clause-order
offset-requires-2-clause-order c = omega (arith, ints, (inside_facts c.args.self c.args.p c.requires.inside).west)

pub offset-requires-2-clause-high : goal.offset-requires-2-clause-high
offset-requires-2-clause-high c = omega (arith, ints, (inside_facts c.args.self c.args.p c.requires.inside).east)

pub returns-clause-within : goal.returns-clause-within
returns-clause-within c =
    cell_by_parts c.args.self c.args.p (inside_facts c.args.self c.args.p c.requires.inside) c.offset.result c.width.result c.offset-2.result (omega (arith, ints)) c.width.ensures.value
    (omega (arith, ints))
