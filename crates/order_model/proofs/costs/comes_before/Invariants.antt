use Rattle.std.proofs.Common.{◌≡◌, drop}
use Rattle.order_model.specs.Costs.{comes_before}
use Rattle.order_model.proofs.costs.comes_before.Given as goal

abbrev pub invariant-loop-line : goal.invariant-loop-line
invariant-loop-line l = comes_before l.order l.a l.b ≡ comes_before (drop l.line-index l.order) l.a l.b
