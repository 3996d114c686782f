use Rattle.std.proofs.Common.{◌≡◌, ◌==◌, ◌≤◌, count_by, take}
use Rattle.dual_bound.specs.declared.settled.SettledPair.{SettledPair}
use Rattle.dual_orders.proofs.open_pairs.count_on.Given as goal

abbrev pub invariant-loop-pair : goal.invariant-loop-pair
invariant-loop-pair l = (l.count ≡ count_by (λ (q : SettledPair). q.seg.0 == l.s.0)
    (take l.pair-index l.settled)) × (l.count ≤ l.pair-index)
