use Rattle.std.proofs.Common.{◌≤◌, ◌*◌, ◌-ℤ◌, ◌*ℤ◌, pos, ℕ, w32, w64, ℤ, arith, ap, ap₂, ◌∙◌}
use Rattle.std.specs.Prelude.{unsigned_abs}
use Rattle.std.proofs.lemmas.Int.{ints, to_z-of_z, to_z_pos}
use Rattle.std.proofs.lemmas.Nat.{mul-le}
use Rattle.start_positions.proofs.spot.Spot.apart.Goals as goal

pub returns-clause-value : goal.returns-clause-value
returns-clause-value c =
    let few : c.from.result * c.from-2.result ≤ 600000000 * 16 = mul-le c.from.result c.from-2.result 600000000 16 (omega arith) (omega arith) in
    c.abs_diff.ensures
    ∙ ap₂ (λ (a b : ℤ). unsigned_abs (a -ℤ b))
    (to_z-of_z w64 c.scaled.result (record { sfits = c.scaled.type_inv }) ∙ c.scaled.ensures.value ∙ ap (λ (z : ℤ). z *ℤ pos c.args.self.side) (to_z-of_z w32 c.args.line c.ranges.line))
    (to_z_pos w64 (c.from.result * c.from-2.result) (omega arith) ∙ ap pos (ap₂ (λ (a b : ℕ). a * b) c.from.ensures c.from-2.ensures))

pub returns-clause-within : goal.returns-clause-within
returns-clause-within c =
    let h = c.abs_diff.ensures in
    let few : c.from.result * c.from-2.result ≤ 600000000 * 16 = mul-le c.from.result c.from-2.result 600000000 16 (omega arith) (omega arith) in
    omega (arith, ints)
