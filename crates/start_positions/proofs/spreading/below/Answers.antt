use Rattle.std.proofs.Common.{◌≡◌, ◌<◌, ℕ, ltb, length, sym, subst, rules}
use Rattle.std.proofs.lemmas.List.Sorted.{IsPartitionPoint-from_clause, IsPartitionedBy-ltb}
use Rattle.start_positions.specs.Spreads.{below}
use Rattle.start_positions.proofs.SpreadLemmas.{below_fewer, counted}
use Rattle.start_positions.proofs.spreading.below.Goals as goal

pub returns : goal.returns
returns c =
    let ats = c.args.ats.now in
    let at = c.args.at in
    let found : below ats at ≡ c.partition_point.result =
    counted (λ (a : ℕ). ltb a at) ats c.partition_point.result c.partition_point.ensures.bound
    (IsPartitionPoint-from_clause (λ (a : ℕ). ltb a at) ats c.partition_point.result c.partition_point.ensures.partitioned (IsPartitionedBy-ltb (λ (a : ℕ). a) ats at c.requires.order) (λ a r q called. search rules)) in
    record { value = sym found; fewer = subst (λ (n : ℕ). n < length ats) found (below_fewer ats at c.requires.among) }
