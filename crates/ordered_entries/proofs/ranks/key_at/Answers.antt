use Rattle.ordered_entries.proofs.OrderLemmas.{place_within}
use Rattle.ordered_entries.proofs.ranks.key_at.Goals as goal

pub bounds-entries-order : goal.bounds-entries-order
bounds-entries-order c = place_within c.args.entries.now c.args.order.now c.requires.order c.args.at c.requires.within
