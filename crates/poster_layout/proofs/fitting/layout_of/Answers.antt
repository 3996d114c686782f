use Rattle.std.proofs.Common.{ℕ, ap, ◌∙◌}
use Rattle.poster_plan.specs.Placing.{printed_names}
use Rattle.poster_layout.proofs.fitting.layout_of.Goals as goal

pub returns-clause-printed : goal.returns-clause-printed
returns-clause-printed c = c.of.ensures ∙ c.in_ok-best.ensures.laid.printed ∙ ap (λ (u : ℕ). printed_names u c.args.plan.now) c.in_ok-best.ensures.pitch

pub returns-clause-pitch : goal.returns-clause-pitch
returns-clause-pitch c = c.in_ok-best.ensures.pitch

pub returns-clause-small : goal.returns-clause-small
returns-clause-small c = c.in_ok-best.ensures.laid.pitch

pub best_or_first-requires-clause-laid : goal.best_or_first-requires-clause-laid
best_or_first-requires-clause-laid c = c.in_ok-first.ensures.laid

pub best_or_first-requires-clause-first : goal.best_or_first-requires-clause-first
best_or_first-requires-clause-first c = c.in_ok-first.ensures.pitch
