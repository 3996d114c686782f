use Rattle.std.proofs.Common.{sym, ap, ◌∙◌}
use Rattle.order_rules.specs.Untangling.{after_rule}
use Rattle.order_rules.proofs.changes.apply_rule.Goals as goal

pub returns-in-Merge : goal.returns-in-Merge
returns-in-Merge c = c.merged.ensures ∙ ap (after_rule c.args.problem) (sym c.in-Merge.is)
