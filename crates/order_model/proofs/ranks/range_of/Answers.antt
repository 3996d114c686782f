use Rattle.std.proofs.Common.{◌≡◌, ◌-◌, ◌+◌, ℕ, length, arith}
use Rattle.order_model.proofs.PlaceLemmas.{place_below, place_at_least, place_at_most, rising_by}
use Rattle.order_model.proofs.ranks.range_of.Goals as goal

pub returns-clause-order : goal.returns-clause-order
returns-clause-order c =
    let last : ℕ = length c.args.lines.now - 1 in
    omega (
      arith,
      c.requires.some,
      c.saturating_sub.ensures,
      c.saturating_sub-after.ensures,
      c.saturating_sub-before.ensures,
      c.min.ensures,
      rising_by c.args.lines.now 0 last c.requires.rising (omega arith) (omega (arith, c.requires.some)),
    )

pub returns-clause-least : goal.returns-clause-least
returns-clause-least c = λ on.
    let last : ℕ = length c.args.lines.now - 1 in
    let below = place_below c.args.lines.now c.args.line on in
    let whole : last + 1 ≡ length c.args.lines.now = omega (arith, below) in
    omega (arith, below, whole, c.saturating_sub.ensures, c.saturating_sub-after.ensures, place_at_least c.args.lines.now c.args.line last c.requires.rising on whole)

pub returns-clause-most : goal.returns-clause-most
returns-clause-most c = λ on.
    omega (
      arith,
      place_below c.args.lines.now c.args.line on,
      c.min.ensures,
      c.saturating_sub-before.ensures,
      place_at_most c.args.lines.now c.args.line c.requires.rising on,
    )
