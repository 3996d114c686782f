use Rattle.std.proofs.Common.{◌≡◌, ◌<◌, ◌^◌, sym, ap, subst, ◌∙◌, length, arith}
use Rattle.order_values.specs.declared.rule.Rule.TheVariants.{Divide}
use Rattle.order_model.specs.declared.problem.ProblemParts.{ProblemParts}
use Rattle.order_model.specs.Problems.{IsProblem}
use Rattle.order_rules.specs.Dividing.{divided}
use Rattle.order_rules.proofs.DivideRule.{divides}
use Rattle.order_rules.proofs.RuleLaws.{keeps}
use Rattle.order_rules.proofs.changes.divided.Goals as goal

pub divided_parts-requires-clause-known : goal.divided_parts-requires-clause-known
divided_parts-requires-clause-known c =
    let L : ProblemParts → Type 0 = λ p. c.args.seg.0 < length p.segs in
    subst L (sym c.into_parts-parts.ensures.parts) (divides c.args.problem c.args.seg c.args.group.now c.into_parts-parts.ensures.fits c.requires).known

pub divided_parts-requires-clause-few : goal.divided_parts-requires-clause-few
divided_parts-requires-clause-few c =
    let F : ProblemParts → Type 0 = λ p. length p.segs < 2 ^ 32 in
    subst F (sym c.into_parts-parts.ensures.parts) (omega (arith, c.into_parts-parts.ensures.fits.few_choices))

pub new-requires : goal.new-requires
new-requires c =
    let is : c.in_ok-divided.divided ≡ divided c.args.problem c.args.seg c.args.group.now =
    c.in_ok-divided.ensures ∙ ap (λ (p : ProblemParts). divided p c.args.seg c.args.group.now) c.into_parts-parts.ensures.parts in
    subst IsProblem (sym is) (keeps c.args.problem (Divide c.args.seg c.args.group.now) c.into_parts-parts.ensures.fits c.requires).problem
