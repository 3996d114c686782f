use Rattle.std.proofs.Common.{◌<◌, ◌/◌, arith, rules}
use Rattle.start_positions.proofs.SpreadLemmas.{part_fits}
use Rattle.start_positions.proofs.spreading.part_of.Goals as goal

pub overflow_cast-result : goal.overflow_cast-result
overflow_cast-result c =
    let fits : c.product.result / c.from.result < 4294967296 =
    part_fits c.args.parts c.args.extent c.args.all c.product.result c.from.result c.requires.parts (omega arith) c.product.ensures (omega arith) in
    search rules
