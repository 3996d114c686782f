use Rattle.std.proofs.Common.{◌∙◌, sym}
use Rattle.dual_check.proofs.PriceTests.{allowed_are_prices}
use Rattle.dual_check.proofs.value.is_stopped.Goals as goal

pub take_prices-requires-clause-prices : goal.take_prices-requires-clause-prices
take_prices-requires-clause-prices c =
    allowed_are_prices c.args.asked.now c.args.prices.now c.requires.asked c.requires.rising (sym c.are_allowed.ensures ∙ c.if-not-are_allowed.false)
