use Rattle.std.proofs.Common.{ℕ, ◌∙◌, sym}
use Rattle.std.specs.Prelude.{pos}
use Rattle.std.specs.List.{list_any}
use Rattle.order_model.specs.declared.term.Term.{Term}
use Rattle.order_model.specs.PartTerms.{part_terms}
use Rattle.order_bound.specs.Values.{allows}
use Rattle.prefix_bounds.proofs.AllowedPrices.{all_more, small_more}
use Rattle.prefix_bounds.proofs.allowed.are_allowed.Goals as goal

pub loop-entry-preserved : goal.loop-entry-preserved
loop-entry-preserved c = (
  all_more (λ q. list_any (λ (t : ℕ × Term). allows c.args.prefix.now.placed q t.0 t.1) (part_terms c.args.problem.now.terms c.args.part.now)) c.args.list.now c.loop-entry.entry-index (0, pos 0)
      c.loop-entry-test.true c.loop-entry.invariant.0 (sym c.is_allowed.ensures.allowed ∙ c.if-not-is_allowed.false),
  small_more c.args.list.now c.loop-entry.entry-index (0, pos 0) c.loop-entry-test.true c.loop-entry.invariant.1 (c.is_allowed.ensures.small c.if-not-is_allowed.false),
)
