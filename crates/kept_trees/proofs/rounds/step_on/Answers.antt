use Rattle.std.proofs.Common.{ℤ, List, length, w64, to_z, of_z, sym, ◌∙◌, ap, subst}
use Rattle.std.proofs.lemmas.List.{with_items_is}
use Rattle.std.specs.List.{All}
use Rattle.order_model.specs.declared.problem.ProblemParts.{ProblemParts}
use Rattle.dual_ascent.specs.DualSteps.{AreWithin}
use Rattle.dual_ascent.proofs.Pricing.{next_within}
use Rattle.dual_rounds.specs.Ranges.{IsPrice}
use Rattle.dual_orders.proofs.Pricing.{length_within, prices_small}
use Rattle.kept_trees.proofs.Composing.{incumbent_within}
use Rattle.kept_trees.proofs.rounds.step_on.Goals as goal

pub gap_of-gap-requires-clause-target : goal.gap_of-gap-requires-clause-target
gap_of-gap-requires-clause-target c = incumbent_within c.args.search.now.part.problem.now c.args.now.now.incumbent
    c.requires.search.part.fits c.requires.now.incumbent

pub step_prices-requires-clause-each : goal.step_prices-requires-clause-each
step_prices-requires-clause-each c =
    ap length c.as_mut_slice.ensures.value
    ∙ length_within c.args.search.now.part.problem.now.terms c.args.ascent.now.prices.items c.requires.ascent.prices

pub step_prices-requires-clause-within : goal.step_prices-requires-clause-within
step_prices-requires-clause-within c =
    let p : ProblemParts = c.args.search.now.part.problem.now in
    subst (λ (l : List ℤ). All IsPrice l) (sym c.as_mut_slice.ensures.value)
    (prices_small p.segs p.terms c.args.ascent.now.prices.items c.requires.search.part.fits.terms
    c.requires.ascent.prices)

pub returns-clause-ascent : goal.returns-clause-ascent
returns-clause-ascent c =
    let p : ProblemParts = c.args.search.now.part.problem.now in
    let r = c.requires.ascent in
    record {
      prices =
          subst (AreWithin p.terms)
          (sym (with_items_is c.args.ascent.now.prices c.step_prices.new.prices
          (c.step_prices.auto.prices ∙ c.as_mut_slice.ensures.len) ∙ c.step_prices.ensures))
          (next_within p c.args.ascent.now.step
          (to_z w64 (of_z w64 c.gap_of-gap.result)) c.as_mut_slice.result.now c.as_slice-2.result.now);
      kept = r.kept;
      directions = r.directions;
      each = r.each;
      averages = r.averages;
      pairs = r.pairs;
      each_segment = r.each_segment;
      step = r.step;
      stale = r.stale;
    }
