use Rattle.std.proofs.Common.{List, ◌∙◌, sym, subst}
use Rattle.std.specs.List.{Contains}
use Rattle.map_base.specs.declared.ids.LineId.{LineId}
use Rattle.order_tests.proofs.Checked.{has_contains}
use Rattle.order_tests.proofs.problems.is_on.Goals as goal

pub returns : goal.returns
returns c = λ h. subst (λ (xs : List LineId). Contains xs c.args.line) c.lines_on.ensures (has_contains c.lines_on.result.now c.args.line (sym c.has_line.ensures ∙ h))
