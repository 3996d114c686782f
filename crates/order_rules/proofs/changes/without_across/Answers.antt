use Rattle.std.proofs.Common.{rules, not}
use Rattle.std.proofs.lemmas.Fn.{filter_same}
use Rattle.order_rules.specs.Dividing.{is_across}
use Rattle.order_rules.proofs.changes.without_across.Goals as goal

pub returns : goal.returns
returns c = filter_same _ (λ t. not (is_across c.args.seg c.args.group.now c.args.rest.now t)) _ (λ x b q h. (search rules, search rules)) _ _ c.retain.ensures.filtered
