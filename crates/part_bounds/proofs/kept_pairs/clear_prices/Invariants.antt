use Rattle.std.proofs.Common.{◌≡◌, ◌<◌, ℕ, length, take}
use Rattle.pair_bounds.specs.PriceNotes.{price_noted}
use Rattle.part_bounds.specs.Kept.{cleared}
use Rattle.part_bounds.proofs.kept_pairs.clear_prices.Given as goal

abbrev pub invariant-loop-number : goal.invariant-loop-number
invariant-loop-number l = record {
  each : length l.noted.prices.items ≡ length l.fn.noted.prices.items;
  gone : (k : ℕ) → k < length l.fn.noted.prices.items → price_noted l.noted.prices.items k ≡ cleared (take l.number-index l.terms) (price_noted l.fn.noted.prices.items) k;
}
