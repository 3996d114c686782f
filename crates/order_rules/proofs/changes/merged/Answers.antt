use Rattle.std.proofs.Common.{◌≡◌, ◌<◌, sym, ap, subst, ◌∙◌, length}
use Rattle.order_values.specs.declared.rule.Rule.TheVariants.{Merge}
use Rattle.order_model.specs.declared.problem.ProblemParts.{ProblemParts}
use Rattle.order_model.specs.Problems.{IsProblem}
use Rattle.order_rules.specs.Merging.{merged}
use Rattle.order_rules.proofs.MergeRule.{merges}
use Rattle.order_rules.proofs.RuleLaws.{keeps}
use Rattle.order_rules.proofs.changes.merged.Goals as goal

pub merged_parts-merged-requires : goal.merged_parts-merged-requires
merged_parts-merged-requires c =
    let L : ProblemParts → Type 0 = λ p. c.args.from.0 < length p.segs in
    subst L (sym c.into_parts-parts.ensures.parts) (merges c.args.problem c.args.into c.args.from c.args.flip c.into_parts-parts.ensures.fits c.requires).known.f_known

pub new-requires : goal.new-requires
new-requires c =
    let is : c.merged_parts-merged.result ≡ merged c.args.problem c.args.into c.args.from c.args.flip =
    c.merged_parts-merged.ensures ∙ ap (λ (p : ProblemParts). merged p c.args.into c.args.from c.args.flip) c.into_parts-parts.ensures.parts in
    subst IsProblem (sym is) (keeps c.args.problem (Merge c.args.into c.args.from c.args.flip) c.into_parts-parts.ensures.fits c.requires).problem
