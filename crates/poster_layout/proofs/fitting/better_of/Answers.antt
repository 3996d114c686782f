use Rattle.std.proofs.Common.{Bool, cond, ap, sym, ◌∙◌}
use Rattle.poster_layout.proofs.fitting.better_of.Goals as goal

pub returns-then-is_better-clause-pitch : goal.returns-then-is_better-clause-pitch
returns-then-is_better-clause-pitch c =
    sym (ap (λ (b : Bool). cond b c.args.laid.pitch c.args.best.pitch) (sym (c.is_better.ensures c.args.plan.now c.requires.laid c.requires.best) ∙ c.if-is_better.true))

pub returns-clause-pitch : goal.returns-clause-pitch
returns-clause-pitch c =
    sym (ap (λ (b : Bool). cond b c.args.laid.pitch c.args.best.pitch) (sym (c.is_better.ensures c.args.plan.now c.requires.laid c.requires.best) ∙ c.if-is_better.false))
