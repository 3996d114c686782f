use Rattle.order_model.specs.Prefixes.{none_placed}
use Rattle.order_search.specs.LiveTrees.{number_order}
use Rattle.order_search.proofs.OneLive.{only, lives}
use Rattle.order_search.proofs.Roots.{none_each}
use Rattle.order_search.proofs.laws.each_part_has_one_live_tree.Goals as goal

pub returns-clause-lives : goal.returns-clause-lives
returns-clause-lives c q known = let is = lives q known (none_placed q.segs) (number_order q) (none_each q.segs) in is.0

pub returns-clause-only : goal.returns-clause-only
returns-clause-only c q tree known live = let is = only q known tree (none_placed q.segs) (number_order q) (none_each q.segs) live in is.0

pub returns-clause-best : goal.returns-clause-best
returns-clause-best c q known = let is = lives q known (none_placed q.segs) (number_order q) (none_each q.segs) in is.1
