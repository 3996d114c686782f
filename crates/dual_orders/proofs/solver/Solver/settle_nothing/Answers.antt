use Rattle.std.proofs.Common.{[], sym, ◌∙◌, subst}
use Rattle.std.proofs.lemmas.List.{with_items_is}
use Rattle.dual_shares.specs.SettledSets.{TellAhead}
use Rattle.dual_shares.proofs.Ahead.{tell_nothing}
use Rattle.dual_orders.proofs.solver.Solver.settle_nothing.Goals as goal

pub returns-clause-told : goal.returns-clause-told
returns-clause-told c =
    subst (TellAhead [] c.args.lines.now)
    (sym (with_items_is c.args.self.now.ahead c.clear.new.ahead (c.clear.auto.ahead ∙ c.as_mut_slice.ensures.len)))
    (tell_nothing c.args.lines.now c.clear.new.ahead c.clear.ensures)
