use Rattle.std.proofs.Common.{◌≢◌, length, refl, arith}
use Rattle.start_positions.proofs.SpreadLemmas.{even_found}
use Rattle.start_positions.proofs.spreading.even_place.Goals as goal

pub returns : goal.returns
returns c =
    let more : length c.args.ats.now ≢ 1 = omega arith in
    even_found c.args.extent c.args.ats.now c.args.at c.below.result c.upto.result (length c.args.ats.now) c.part_of.result c.below.ensures.value c.upto.ensures.value refl more c.part_of.ensures
