use Rattle.dual_ascent.proofs.Results.{reached_shown}
use Rattle.dual_ascent.proofs.laws.searches_show_their_targets.Goals as goal

pub returns : goal.returns
returns c = reached_shown
