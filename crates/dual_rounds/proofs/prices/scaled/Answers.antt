use Rattle.std.proofs.Common.{◌≡◌, ◌≤◌, ◌*ℤ◌, pos, unsigned_abs, to_z, of_z, rules, sym, subst, arith}
use Rattle.std.specs.Int.{w128}
use Rattle.dual_rounds.proofs.Sizes.{product_within}
use Rattle.dual_rounds.proofs.prices.scaled.Goals as goal

pub returns-clause-within : goal.returns-clause-within
returns-clause-within c =
    let value : to_z w128 (of_z w128 c.product.result) ≡ ((pos c.args.step *ℤ c.args.gap) *ℤ pos 64) *ℤ c.args.direction = search rules in
    let one = product_within (pos c.args.step) c.args.gap 1000 6000000000000000 c.requires.step c.requires.gap in
    let two = product_within (pos c.args.step *ℤ c.args.gap) (pos 64) 6000000000000000000 64 one (omega arith) in
    let most = product_within ((pos c.args.step *ℤ c.args.gap) *ℤ pos 64) c.args.direction 384000000000000000000 512 two c.requires.direction in
    subst (λ v. unsigned_abs v ≤ 200000000000000000000000) (sym value) (omega (arith, most))
