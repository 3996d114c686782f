use Rattle.std.proofs.Common.{◌*◌, Bool, ◌&&◌, ap, sym, ◌∙◌}
use Rattle.std.specs.Prelude.{nat_le}
use Rattle.poster_layout.proofs.fitting.suits.Goals as goal

pub returns-then-not-is_share : goal.returns-then-not-is_share
returns-then-not-is_share c = sym (ap (λ (b : Bool). b && nat_le (30 * c.args.laid.now.small_left) c.args.names) (sym c.is_share.ensures ∙ c.if-not-is_share.true))

pub returns : goal.returns
returns c = c.is_share-2.ensures ∙ sym (ap (λ (b : Bool). b && nat_le (30 * c.args.laid.now.small_left) c.args.names) (sym c.is_share.ensures ∙ c.if-not-is_share.false))
