use Rattle.std.proofs.Common.{◌≡◌, ◌∙◌, ◌<◌, ◌^◌, sym, ap, arith, rules, Some}
use Rattle.std.specs.Result.{result_err}
use Rattle.order_rules.specs.Untangling.{first_refused}
use Rattle.order_check.proofs.RuleTurns.{refused_early}
use Rattle.order_check.proofs.rules.after_rules.Goals as goal

pub overflow_cast-result : goal.overflow_cast-result
overflow_cast-result c =
    let refused : first_refused 0 c.args.problem c.args.rules.now ≡ Some c.in-Err.index = sym c.in_ok-last.ensures.refused ∙ ap result_err c.in-Err.is in
    let below : c.in-Err.index < 2 ^ 32 = omega (arith, refused_early 0 c.args.problem c.args.rules.now c.in-Err.index c.requires refused, c.requires.few_choices) in
    search rules
