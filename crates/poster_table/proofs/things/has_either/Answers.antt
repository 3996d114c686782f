use Rattle.std.proofs.Common.{Bool, ◌||◌, ap, sym, ◌∙◌}
use Rattle.poster_plan.specs.Things.{has_node}
use Rattle.poster_table.proofs.things.has_either.Goals as goal

pub returns-then-has_node : goal.returns-then-has_node
returns-then-has_node c = sym (ap (λ (b : Bool). b || has_node c.args.m c.args.kin) (sym c.has_node.ensures ∙ c.if-has_node.true))

pub returns : goal.returns
returns c = c.has_node-2.ensures ∙ sym (ap (λ (b : Bool). b || has_node c.args.m c.args.kin) (sym c.has_node.ensures ∙ c.if-has_node.false))
