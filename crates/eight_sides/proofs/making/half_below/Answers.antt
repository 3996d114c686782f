use Rattle.std.proofs.Common.{ℤ, ◌≡◌, w64, to_z, of_z, pos, ◌+ℤ◌, ◌*ℤ◌, ◌≤ℤ◌, ap, sym, subst, ◌∙◌, arith}
use Rattle.std.proofs.lemmas.Int.{ints, to_z-of_z}
use Rattle.eight_sides.specs.Shapes.{half_below}
use Rattle.eight_sides.proofs.Computed.{half_parts}
use Rattle.eight_sides.proofs.making.half_below.Goals as goal

pub returns-clause-low : goal.returns-clause-low
returns-clause-low c =
    let parts = half_parts c.args.z c.div_euclid.result (c.div_euclid.ensures ∙ ap half_below (to_z-of_z w64 c.args.z c.ranges.z)) in
    let kept : to_z w64 (of_z w64 c.div_euclid.result) ≡ c.div_euclid.result = omega (arith, ints, parts.0, parts.1, c.requires) in
    subst (λ (v : ℤ). (pos 2 *ℤ v) ≤ℤ c.args.z) (sym kept) parts.0

pub returns-clause-high : goal.returns-clause-high
returns-clause-high c =
    let parts = half_parts c.args.z c.div_euclid.result (c.div_euclid.ensures ∙ ap half_below (to_z-of_z w64 c.args.z c.ranges.z)) in
    let kept : to_z w64 (of_z w64 c.div_euclid.result) ≡ c.div_euclid.result = omega (arith, ints, parts.0, parts.1, c.requires) in
    subst (λ (v : ℤ). c.args.z ≤ℤ (pos 2 *ℤ v +ℤ pos 1)) (sym kept) parts.1
