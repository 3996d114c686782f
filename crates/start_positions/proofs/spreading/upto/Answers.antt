use Rattle.std.proofs.Common.{◌≡◌, ◌<◌, ℕ, leb, sym, subst, rules}
use Rattle.std.proofs.lemmas.List.Sorted.{IsPartitionPoint-from_clause, IsPartitionedBy-leb}
use Rattle.start_positions.specs.Spreads.{upto}
use Rattle.start_positions.proofs.SpreadLemmas.{counted, upto_some}
use Rattle.start_positions.proofs.spreading.upto.Goals as goal

pub returns : goal.returns
returns c =
    let ats = c.args.ats.now in
    let at = c.args.at in
    let found : upto ats at ≡ c.partition_point.result =
    counted (λ (a : ℕ). leb a at) ats c.partition_point.result c.partition_point.ensures.bound
    (IsPartitionPoint-from_clause (λ (a : ℕ). leb a at) ats c.partition_point.result c.partition_point.ensures.partitioned (IsPartitionedBy-leb (λ (a : ℕ). a) ats at c.requires.order) (λ a r q called. search rules)) in
    record { value = sym found; some = subst (λ (n : ℕ). 0 < n) found (upto_some ats at c.requires.among); all = c.partition_point.ensures.bound }
