use Rattle.segment_router.proofs.ShownLemmas.{home_free}
use Rattle.segment_router.proofs.laws.homes_stay_free.Goals as goal

pub returns : goal.returns
returns c = home_free
