use Rattle.std.proofs.Common.{sym, ◌∙◌, ap, ℕ, ◌+◌}
use Rattle.std.proofs.lemmas.Result.{on_ok_weaker}
use Rattle.walk_search.specs.Asking.{question}
use Rattle.walk_search.proofs.Offered.{offered_seat}
use Rattle.walk_search.proofs.offers.offer_seat.Goals as goal

pub returns-clause-lowered : goal.returns-clause-lowered
returns-clause-lowered c =
    on_ok_weaker c.lower.result
    (λ h. offered_seat (question c.args.asked.now) c.args.spot c.args.cost c.args.i c.args.known.now c.lower.new.known c.args.queue.now c.lower.new.queue c.before-2.result (c.args.cost + (c.start_cost.result + 1))
    (sym c.starts_at.ensures ∙ c.if-not-starts_at.false) c.before-2.ensures.value (ap (λ (n : ℕ). c.args.cost + (n + 1)) c.start_cost.ensures.value) h)
    c.lower.ensures.lowered
