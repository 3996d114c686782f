use Rattle.std.proofs.Common.{◌≡◌, ℤ, ◌*ℤ◌, pos, w32, w64, to_z, of_z, ap, ◌∙◌, arith}
use Rattle.std.proofs.lemmas.Int.{ints, to_z-of_z}
use Rattle.line_offsets.proofs.path.across.Goals as goal

pub returns : goal.returns
returns c =
    let value : c.times.result ≡ c.args.k *ℤ c.args.by =
    c.times.ensures.value ∙ ap (λ (u : ℤ). u *ℤ to_z w64 (of_z w64 c.args.by)) (to_z-of_z w32 c.args.k c.ranges.k) ∙ ap (λ (u : ℤ). c.args.k *ℤ u) (to_z-of_z w64 c.args.by c.ranges.by) in
    let drawn : c.scaled.result ≡ pos c.args.pitch *ℤ c.args.x = c.scaled.ensures.value ∙ ap (λ (u : ℤ). pos c.args.pitch *ℤ u) (to_z-of_z w32 c.args.x c.ranges.x) in
    omega (arith, ints, value, drawn, c.scaled.ensures.small, c.times.ensures.small)
