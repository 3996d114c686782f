use Rattle.std.proofs.Common.{◌≡◌, ℤ, w64, to_z, of_z, ◌+ℤ◌, ◌-ℤ◌, refl, ap, ◌∙◌, arith}
use Rattle.std.proofs.lemmas.Int.{ints}
use Rattle.eight_sides.specs.Shapes.{half_above, half_below}
use Rattle.eight_sides.proofs.Computed.{difference_kept, same_interval, same_shape, sum_kept}
use Rattle.eight_sides.proofs.making.slanted.Goals as goal

pub returns-clause-value : goal.returns-clause-value
returns-clause-value c =
    let d = c.args.difference in
    let s = c.args.sum in
    let x = sum_kept s.least d.least c.requires.sum.least c.requires.difference.least in
    let y = sum_kept s.greatest d.greatest c.requires.sum.greatest c.requires.difference.greatest in
    let z = difference_kept s.least d.greatest c.requires.sum.least c.requires.difference.greatest in
    let w = difference_kept s.greatest d.least c.requires.sum.greatest c.requires.difference.least in
    let a : to_z w64 (of_z w64 c.half_below.result) ≡ c.half_below.result = omega (arith, ints) in
    let b : to_z w64 (of_z w64 c.half_above.result) ≡ c.half_above.result = omega (arith, ints) in
    let e : to_z w64 (of_z w64 c.half_below-2.result) ≡ c.half_below-2.result = omega (arith, ints) in
    let f : to_z w64 (of_z w64 c.half_above-2.result) ≡ c.half_above-2.result = omega (arith, ints) in
    same_shape _ _ d s (record { least = half_below (s.least +ℤ d.least); greatest = half_above (s.greatest +ℤ d.greatest) })
    (record { least = half_below (s.least -ℤ d.greatest); greatest = half_above (s.greatest -ℤ d.least) }) d s
    (same_interval _ _ (half_below (s.least +ℤ d.least)) (half_above (s.greatest +ℤ d.greatest)) (a ∙ c.half_below.ensures.value ∙ ap half_below x) (b ∙ c.half_above.ensures.value ∙ ap half_above y))
    (same_interval _ _ (half_below (s.least -ℤ d.greatest)) (half_above (s.greatest -ℤ d.least)) (e ∙ c.half_below-2.ensures.value ∙ ap half_below z) (f ∙ c.half_above-2.ensures.value ∙ ap half_above w))
    refl refl

pub returns-clause-short : goal.returns-clause-short
returns-clause-short c = record {
  across = record { least = omega (arith, ints, c.half_below.ensures.low, c.half_below.ensures.high); greatest = omega (arith, ints, c.half_above.ensures.low, c.half_above.ensures.high) };
  down = record { least = omega (arith, ints, c.half_below-2.ensures.low, c.half_below-2.ensures.high); greatest = omega (arith, ints, c.half_above-2.ensures.low, c.half_above-2.ensures.high) };
}
