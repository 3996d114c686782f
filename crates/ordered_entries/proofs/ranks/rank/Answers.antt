use Rattle.std.proofs.Common.{◌∙◌, ap, arith, ltb, ℕ}
use Rattle.ordered_entries.proofs.OrderLemmas.{narrower}
use Rattle.ordered_entries.proofs.ranks.rank.Goals as goal

pub loop-low-preserved : goal.loop-low-preserved
loop-low-preserved c =
    (narrower c.args.entries.now c.args.order.now c.requires c.args.key c.loop-low.low c.loop-low.high _ _ c.narrowed.result c.loop-low.invariant (omega arith) (omega arith)
    (ap (λ (k : ℕ). ltb k c.args.key) (c.from.ensures ∙ c.key_at.ensures)) c.narrowed.ensures).0
