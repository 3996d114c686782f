use Rattle.std.proofs.Common.{◌≡◌, ◌*ℤ◌, to_z, of_z, w64, rules}
use Rattle.std.specs.Prelude.{int_div}
use Rattle.geo_lines.proofs.Quotients.{share_small}
use Rattle.geo_lines.proofs.pieces.share.Goals as goal

pub returns-clause-within : goal.returns-clause-within
returns-clause-within c =
    let is : to_z w64 (of_z w64 c.quotient.result) ≡ int_div (c.args.way *ℤ c.args.width) c.args.length = search rules in
    rw is (share_small c.args.way c.args.width c.args.length c.requires.some c.requires.short)
