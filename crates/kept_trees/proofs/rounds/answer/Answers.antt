use Rattle.std.proofs.Common.{length, sym, ◌∙◌, ap}
use Rattle.order_model.proofs.OrderLemmas.{length-orders}
use Rattle.kept_trees.proofs.rounds.answer.Goals as goal

pub value_of-requires-clause-orders : goal.value_of-requires-clause-orders
value_of-requires-clause-orders c =
    ap length c.as_slice.ensures.value
    ∙ sym (length-orders c.args.search.now.part.problem.now.segs c.answer.new.self.orders.items
    c.answer.ensures.answers.orders)
