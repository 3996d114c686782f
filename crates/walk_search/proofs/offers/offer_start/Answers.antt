use Rattle.std.proofs.Common.{sym, ◌∙◌, ap₂, ℕ, ◌+◌}
use Rattle.std.proofs.lemmas.Result.{on_ok_weaker}
use Rattle.walk_search.specs.Asking.{question}
use Rattle.walk_search.proofs.Offered.{offered_start}
use Rattle.walk_search.proofs.offers.offer_start.Goals as goal

pub returns-clause-lowered : goal.returns-clause-lowered
returns-clause-lowered c =
    on_ok_weaker c.offer.result
    (λ h. offered_start (question c.args.asked.now) c.args.p c.args.group c.args.dir c.args.cost (c.args.cost + (c.from.result + c.turn_from.result)) c.args.known.now c.offer.new.known c.args.queue.now c.offer.new.queue
    (sym c.allows_start.ensures ∙ c.if-not-allows_start.false) (ap₂ (λ (x y : ℕ). c.args.cost + (x + y)) (c.from.ensures ∙ c.step_cost.ensures.cost) c.turn_from.ensures.value) h)
    c.offer.ensures.lowered
