use Rattle.std.proofs.Common.{◌∙◌, ap, ℕ, get_or}
use Rattle.way_network.proofs.Walking.{last_of_at}
use Rattle.way_network.proofs.segments.last_of.Goals as goal

pub returns : goal.returns
returns c = c.point_of.ensures ∙ ap (λ (n : ℕ). get_or c.args.chain.now n 0) c.saturating_sub.ensures ∙ last_of_at c.args.chain.now
