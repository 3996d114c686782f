use Rattle.std.proofs.Common.{arith}
use Rattle.std.specs.List.{sum_by}
use Rattle.order_model.specs.Problems.{choices}
use Rattle.order_rules.proofs.laws.untangling_ends.Goals as goal
use Rattle.order_rules.proofs.UntanglingLaws.{untangled_ends}

pub returns : goal.returns
returns c = record {
  apply = λ p is. (untangled_ends (sum_by choices p.segs) p is (omega arith)).apply;
  last = λ p is. (untangled_ends (sum_by choices p.segs) p is (omega arith)).last;
  ends = λ p is. (untangled_ends (sum_by choices p.segs) p is (omega arith)).ends;
}
