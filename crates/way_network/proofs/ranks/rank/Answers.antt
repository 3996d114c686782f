use Rattle.std.proofs.Common.{rules}
use Rattle.std.proofs.lemmas.List.Sorted.{IsPartitionPoint-from_clause}
use Rattle.way_network.specs.Uses.{stands_before}
use Rattle.way_network.proofs.UseOrder.{uses_parted}
use Rattle.way_network.proofs.ranks.rank.Goals as goal

pub returns-clause-parted : goal.returns-clause-parted
returns-clause-parted c =
    IsPartitionPoint-from_clause (stands_before c.args.p c.args.q) c.args.uses.now c.partition_point.result c.partition_point.ensures.partitioned
    (uses_parted c.args.uses.now c.args.p c.args.q c.requires) (λ a r q called. search rules)
