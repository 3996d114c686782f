use Rattle.std.proofs.Common.{◌*◌, ◌^◌, ◌%◌, arith}
use Rattle.std.proofs.Math.Nat.{mod-le}
use Rattle.dual_orders.proofs.OwnTables.{steps_few}
use Rattle.dual_orders.proofs.part.steps_of.Goals as goal

pub returns-clause-most : goal.returns-clause-most
returns-clause-most c =
    let less = mod-le (1 * 2 ^ c.args.lines) 18446744073709551616 in
    steps_few c.args.lines (1 * 2 ^ c.args.lines % 18446744073709551616) c.requires (omega (arith, less))
