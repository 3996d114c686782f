use Rattle.std.proofs.Common.{◌≡◌, ℤ, ◌+ℤ◌, ◌-ℤ◌, w64, to_z, of_z, ap, ◌∙◌, arith}
use Rattle.std.proofs.lemmas.Int.{ints}
use Rattle.line_offsets.specs.Shifts.{half}
use Rattle.line_offsets.proofs.shift.diagonals_meet.Goals as goal

pub returns-clause-value : goal.returns-clause-value
returns-clause-value c =
    let less : to_z w64 (of_z w64 (to_z w64 (of_z w64 c.args.sum) -ℤ to_z w64 (of_z w64 c.args.difference))) ≡ c.args.sum -ℤ c.args.difference = omega (arith, ints) in
    let more : to_z w64 (of_z w64 (to_z w64 (of_z w64 c.args.sum) +ℤ to_z w64 (of_z w64 c.args.difference))) ≡ c.args.sum +ℤ c.args.difference = omega (arith, ints) in
    let x : to_z w64 (of_z w64 c.half.result) ≡ c.half.result = omega (arith, ints) in
    let y : to_z w64 (of_z w64 c.half-2.result) ≡ c.half-2.result = omega (arith, ints) in
    let one : to_z w64 (of_z w64 c.half.result) ≡ half (c.args.sum -ℤ c.args.difference) = x ∙ c.half.ensures.value ∙ ap half less in
    let two : to_z w64 (of_z w64 c.half-2.result) ≡ half (c.args.sum +ℤ c.args.difference) = y ∙ c.half-2.ensures.value ∙ ap half more in
    ap (λ (u : ℤ). (u, to_z w64 (of_z w64 c.half-2.result))) one ∙ ap (λ (u : ℤ). (half (c.args.sum -ℤ c.args.difference), u)) two
