use Rattle.std.proofs.Common.{◌≡◌, drop}
use Rattle.order_rules.specs.PairWeights.{all_pairs}
use Rattle.order_rules.specs.Merging.{outweighs}
use Rattle.order_sums.proofs.outweighing.all_outweigh.Given as goal

abbrev pub invariant-loop-i : goal.invariant-loop-i
invariant-loop-i l = all_pairs (outweighs l.fn.into l.fn.from l.fn.terms) l.lines ≡ all_pairs (outweighs l.fn.into l.fn.from l.fn.terms) (drop l.i l.lines)
