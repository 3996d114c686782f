use Rattle.std.proofs.Common.{◌<◌, ◌+◌, ◌/◌, arith, rules}
use Rattle.start_positions.proofs.SpreadLemmas.{sum_fits}
use Rattle.start_positions.proofs.spreading.part_way.Goals as goal

pub overflow_add-sum : goal.overflow_add-sum
overflow_add-sum c =
    let fits = sum_fits c.args.percent c.args.from c.args.to c.product-rest.result c.product-way.result c.requires (omega arith) (omega arith) c.product-rest.ensures c.product-way.ensures in
    omega (arith, fits.0)

pub overflow_cast-result : goal.overflow_cast-result
overflow_cast-result c =
    let fits = sum_fits c.args.percent c.args.from c.args.to c.product-rest.result c.product-way.result c.requires (omega arith) (omega arith) c.product-rest.ensures c.product-way.ensures in
    let small : (c.product-rest.result + c.product-way.result) / 100 < 4294967296 = fits.1 in
    search rules
