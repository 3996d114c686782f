-- Which term may have a price.
use Rattle.std.specs.Prelude.{ℕ, ◌*◌, ◌≤◌, nat_le, Bool, false, List}
use Rattle.std.specs.Prelude.{ℤ, unsigned_abs}
use Rattle.order_values.specs.PriceLists.{price_at}
use Rattle.order_model.specs.declared.term.Term.{Term}
use Rattle.order_model.specs.declared.term.Term.TheVariants.{Side, Link, Apart}

-- a Link or an Apart, where the price is at most 1000 times its weight either way
abbrev pub may_have : Term → ℤ → Bool
may_have (Side seg first second w) p = false
may_have (Link seg other flip a b w) p = nat_le (unsigned_abs p) (1000 * w)
may_have (Apart seg other a b w) p = nat_le (unsigned_abs p) (1000 * w)

-- no price is greater than 1000 times the greatest weight
abbrev pub AreSmallPrices : List (ℕ × ℤ) → Type 0
AreSmallPrices prices = (k : ℕ) → unsigned_abs (price_at prices k) ≤ 256000000
