use Rattle.std.proofs.Common.{◌∙◌, sym}
use Rattle.order_tests.proofs.Checked.{rising_lines}
use Rattle.order_tests.proofs.problems.rise.Goals as goal

pub returns : goal.returns
returns c = λ h. rising_lines c.args.lines.now (sym c.are_rising.ensures ∙ h)
