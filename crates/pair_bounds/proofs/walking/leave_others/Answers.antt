use Rattle.std.proofs.Common.{not, rules}
use Rattle.std.proofs.lemmas.Fn.{filter_same}
use Rattle.order_bound.specs.CanonicalPrices.{ends_at}
use Rattle.pair_bounds.proofs.walking.leave_others.Goals as goal

pub returns-clause-items : goal.returns-clause-items
returns-clause-items c = filter_same _ (λ l. not (ends_at c.args.parent l)) _ (λ x b q h. (search rules, search rules)) _ _ c.retain.ensures.filtered
