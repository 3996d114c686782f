use Rattle.std.proofs.Common.{ℕ, ℤ, List, sym, ◌∙◌, ap, subst, arith}
use Rattle.std.proofs.lemmas.List.{take_all}
use Rattle.order_values.specs.PriceLists.{AreRisingPrices}
use Rattle.order_search.specs.ByItself.{number_from, prices_by}
use Rattle.kept_trees.proofs.tree_numbers.renumbered_prices.Goals as goal

pub of-requires : goal.of-requires
of-requires c =
    let numbered : List (ℕ × ℤ) → List (ℕ × ℤ) = prices_by (number_from c.args.numbers.now) in
    let list : List (ℕ × ℤ) = c.as_slice-list.result.now in
    let whole = c.loop-price.invariant ∙ ap numbered (take_all c.loop-price.price-index list (omega (arith, c.loop-price-test.false)) ∙ c.as_slice-list.ensures.list) in
    subst AreRisingPrices (sym whole) c.requires
