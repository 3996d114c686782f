use Rattle.std.proofs.Common.{get_or, pos}
use Rattle.std.proofs.lemmas.List.{get_or_default}
use Rattle.dual_check.proofs.Known.{forgets_none, forgets_both, priced_off_none, priced_off_more}
use Rattle.dual_check.proofs.node.forget_priced.Goals as goal

pub loop-price-init : goal.loop-price-init
loop-price-init c = record { fewer = forgets_none c.args.shares.now; off = priced_off_none c.args.asked.now c.args.prices.now c.args.shares.now }

pub loop-price-preserved : goal.loop-price-preserved
loop-price-preserved c = record {
  fewer = forgets_both c.args.shares.now c.loop-price.shares c.forget_term.new.shares c.loop-price.invariant.fewer c.forget_term.ensures.fewer;
  off = priced_off_more c.args.asked.now c.args.prices.now c.loop-price.price-index (get_or c.args.prices.now c.loop-price.price-index (0, pos 0)) c.loop-price.shares c.forget_term.new.shares c.loop-price-test.true (get_or_default c.args.prices.now c.loop-price.price-index (0, pos 0) (get_or c.args.prices.now c.loop-price.price-index (0, pos 0)) c.loop-price-test.true)
      c.forget_term.ensures.fewer c.forget_term.ensures.off c.loop-price.invariant.off;
}
