use Rattle.std.proofs.Common.{◌≡◌, ap, ◌∙◌, arith}
use Rattle.std.proofs.lemmas.Int.{ints}
use Rattle.geo_lines.specs.Roots.{root}
use Rattle.geo_lines.specs.Shifts.{length_of}
use Rattle.geo_lines.proofs.Quotients.{across_short, along_short, some_length}
use Rattle.geo_lines.proofs.pieces.length_of.Goals as goal

pub returns-clause-some : goal.returns-clause-some
returns-clause-some c =
    let is : c.root_of.result ≡ length_of c.args.a c.args.b = c.root_of.ensures.value ∙ ap root c.dist2.ensures.value in
    omega (arith, ints, is, c.root_of.ensures.small, some_length c.args.a c.args.b c.requires.apart)

pub returns-clause-across : goal.returns-clause-across
returns-clause-across c =
    let is : c.root_of.result ≡ length_of c.args.a c.args.b = c.root_of.ensures.value ∙ ap root c.dist2.ensures.value in
    omega (arith, ints, is, c.root_of.ensures.small, across_short c.args.a c.args.b)

pub returns-clause-along : goal.returns-clause-along
returns-clause-along c =
    let is : c.root_of.result ≡ length_of c.args.a c.args.b = c.root_of.ensures.value ∙ ap root c.dist2.ensures.value in
    omega (arith, ints, is, c.root_of.ensures.small, along_short c.args.a c.args.b)
