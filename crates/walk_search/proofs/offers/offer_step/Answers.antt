use Rattle.std.proofs.Common.{sym, ◌∙◌}
use Rattle.std.proofs.lemmas.Result.{on_ok_weaker}
use Rattle.walk_search.specs.Asking.{question}
use Rattle.walk_search.proofs.Offered.{offered_back}
use Rattle.walk_search.proofs.offers.offer_step.Goals as goal

pub returns-clause-lowered : goal.returns-clause-lowered
returns-clause-lowered c =
    on_ok_weaker c.offer_start.result
    (λ h. offered_back (question c.args.asked.now) c.args.p c.args.group c.args.dir c.args.cost c.args.known.now c.offer_passing.new.known c.offer_start.new.known c.args.queue.now c.offer_passing.new.queue c.offer_start.new.queue
    (sym c.is_open.ensures ∙ c.if-not-is_open.false) c.in_ok-offer_passing.ensures.lowered h)
    c.offer_start.ensures.lowered
