use Rattle.std.proofs.Common.{sym}
use Rattle.walk_search.specs.Asking.{question}
use Rattle.walk_search.proofs.Moving.{moved}
use Rattle.walk_search.proofs.walk.move_by.Goals as goal

pub number_of-requires : goal.number_of-requires
number_of-requires c =
    (moved (question c.args.asked.now) c.args.asked.now.asked.asked c.args.at c.args.label c.in_ok-landing.cost c.in_ok-landing.landing c.requires.at (sym c.in_ok-landing.ensures)).spot
