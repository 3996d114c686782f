use Rattle.std.proofs.Common.{[]}
use Rattle.poster_plan.specs.declared.layout.Step.TheVariants.{Full, Small, Over}
use Rattle.poster_plan.specs.Placing.{in_full, in_order, in_small}
use Rattle.poster_plan.proofs.Taken.{over_last, step_taken}
use Rattle.poster_plan.proofs.laws.names_lie_over_lines_last.Goals as goal

pub returns : goal.returns
returns c = record {
  full = λ u plan. step_taken u plan Full (in_order u plan) [];
  small = λ u plan. step_taken u plan Small (in_full u plan).left (in_full u plan).printed;
  over = λ u plan. step_taken u plan Over (in_small u plan).left (in_small u plan).printed;
  last = λ u plan. over_last u plan;
}
