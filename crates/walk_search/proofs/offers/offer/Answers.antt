use Rattle.std.proofs.lemmas.Result.{on_ok_weaker}
use Rattle.walk_search.specs.Asking.{question}
use Rattle.walk_search.proofs.Offered.{offered_spot}
use Rattle.walk_search.proofs.offers.offer.Goals as goal

pub returns-clause-lowered : goal.returns-clause-lowered
returns-clause-lowered c =
    on_ok_weaker c.lower.result
    (λ h. offered_spot (question c.args.asked.now) c.args.spot c.args.known.now c.lower.new.known c.args.queue.now c.lower.new.queue c.ahead_at.result c.number_of-number.result c.args.cost c.requires.spot c.ahead_at.ensures.value c.number_of-number.ensures.value h)
    c.lower.ensures.lowered
