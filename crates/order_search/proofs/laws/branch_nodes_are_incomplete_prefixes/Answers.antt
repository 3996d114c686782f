use Rattle.order_search.proofs.Roots.{root_counted}
use Rattle.order_search.proofs.laws.branch_nodes_are_incomplete_prefixes.Goals as goal

pub returns : goal.returns
returns c q rising known part_rises = root_counted q rising known part_rises
