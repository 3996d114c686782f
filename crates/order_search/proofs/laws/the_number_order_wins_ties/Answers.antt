use Rattle.order_model.specs.Prefixes.{none_placed}
use Rattle.order_search.specs.Left.{room_of}
use Rattle.order_search.specs.LiveTrees.{number_order}
use Rattle.order_search.proofs.Falls.{live_no_worse}
use Rattle.order_search.proofs.laws.the_number_order_wins_ties.Goals as goal

pub returns : goal.returns
returns c q same = let is = live_no_worse (room_of q.segs q.part (none_placed q.segs)) q (none_placed q.segs) (number_order q) in is.tie same
