use Rattle.std.proofs.Common.{◌≡◌, ℤ, w64, to_z, of_z, ap, ◌∙◌, arith}
use Rattle.std.proofs.lemmas.Int.{ints}
use Rattle.eight_sides.specs.declared.interval.Interval.{Interval}
use Rattle.eight_sides.specs.Shapes.{upright}
use Rattle.poster_plan.specs.Legends.{widely}
use Rattle.poster_layout.proofs.legend.legend_shape.Goals as goal

pub returns : goal.returns
returns c =
    let p = c.args.start in
    let w = c.args.width in
    let h = c.args.height in
    let x : to_z w64 (of_z w64 p.x) ≡ p.x = omega (arith, ints) in
    let y : to_z w64 (of_z w64 p.y) ≡ p.y = omega (arith, ints) in
    c.upright.ensures
    ∙ ap (λ (i : Interval). upright i c.widely-low.result) (c.widely-across.ensures.value ∙ ap (λ (z : ℤ). widely z w) x)
    ∙ ap (upright (widely p.x w)) (c.widely-low.ensures.value ∙ ap (λ (z : ℤ). widely z h) y)
