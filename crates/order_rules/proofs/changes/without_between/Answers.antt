use Rattle.std.proofs.Common.{rules, not}
use Rattle.std.proofs.lemmas.Fn.{filter_same}
use Rattle.order_model.specs.Parts.{is_between}
use Rattle.order_rules.proofs.changes.without_between.Goals as goal

pub returns : goal.returns
returns c = filter_same _ (λ t. not (is_between t c.args.into.0 c.args.from.0)) _ (λ x b q h. (search rules, search rules)) _ _ c.retain.ensures.filtered
