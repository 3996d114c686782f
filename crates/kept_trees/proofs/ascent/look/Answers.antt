use Rattle.std.proofs.Common.{◌≡◌, ℤ, List, length, w64, to_z, of_z, sym, ◌∙◌, ap, subst}
use Rattle.std.proofs.lemmas.Int.{to_z-of_z}
use Rattle.std.specs.List.{All}
use Rattle.std.proofs.lemmas.List.{with_items_is}
use Rattle.std.specs.Vec.{with_items}
use Rattle.order_model.specs.declared.problem.ProblemParts.{ProblemParts}
use Rattle.dual_ascent.specs.declared.pair_average.PairAverage.{PairAverage}
use Rattle.dual_ascent.specs.Averages.{ArePairs, averages_after}
use Rattle.dual_ascent.specs.Rounds.{with_value}
use Rattle.dual_ascent.proofs.Pairs.{pairs_after}
use Rattle.dual_rounds.specs.Ranges.{IsAverage, averages_of}
use Rattle.dual_rounds.proofs.SegmentLists.{length_of_averages, length_averages}
use Rattle.kept_trees.specs.Searching.{ascent_of}
use Rattle.kept_trees.proofs.Composing.{with_averages}
use Rattle.kept_trees.proofs.ascent.look.Goals as goal
use Rattle.kept_trees.proofs.ascent.look.Goals.{After-average_in}

-- the averages that are kept
averaged : (c : After-average_in)
    → averages_of (with_items c.args.ascent.now.averages c.average_in.new.averages).items
    ≡ averages_after c.args.search.now.part.problem.now c.args.ascent.now.round c.args.orders.now
    (averages_of c.args.ascent.now.averages.items)
averaged c =
    ap averages_of
    (with_items_is c.args.ascent.now.averages c.average_in.new.averages
    (c.average_in.auto.averages ∙ c.as_mut_slice.ensures.len))
    ∙ c.average_in.ensures.value
    ∙ ap (λ l. averages_after c.args.search.now.part.problem.now c.args.ascent.now.round c.args.orders.now (averages_of l))
    c.as_mut_slice.ensures.value

pub keep_value-requires-clause-ascent : goal.keep_value-requires-clause-ascent
keep_value-requires-clause-ascent c =
    let p : ProblemParts = c.args.search.now.part.problem.now in
    let r = c.requires.ascent in
    let earlier = averages_of c.args.ascent.now.averages.items in
    let is = averaged (goal.at.keep_value-requires-clause-ascent c).After-average_in in
    record {
      prices = r.prices;
      kept = r.kept;
      directions = r.directions;
      each = r.each;
      averages = subst (λ l. All (All IsAverage) (averages_of l))
          (sym (with_items_is c.args.ascent.now.averages c.average_in.new.averages
          (c.average_in.auto.averages ∙ c.as_mut_slice.ensures.len))) c.average_in.ensures.within;
      pairs = subst (ArePairs p) (sym is) (pairs_after p c.args.ascent.now.round c.args.orders.now earlier r.pairs);
      each_segment =
          sym (length_of_averages (with_items c.args.ascent.now.averages c.average_in.new.averages).items)
          ∙ (ap length is ∙ length_averages p c.args.ascent.now.round c.args.orders.now earlier);
      step = r.step;
      stale = r.stale;
    }

pub returns-clause-looked : goal.returns-clause-looked
returns-clause-looked c =
    let is = averaged (goal.at.returns-clause-looked c).After-average_in in
    let same : to_z w64 (of_z w64 c.args.value)
    ≡ c.args.value = to_z-of_z w64 c.args.value (record { sfits = c.ranges.value.sfits }) in
    λ now. c.keep_value.ensures.kept now
    ∙ (ap (λ (v : ℤ). with_value v
    (with_averages (averages_of (with_items c.args.ascent.now.averages c.average_in.new.averages).items)
    (ascent_of now c.args.ascent.now))) same
    ∙ ap (λ (l : List (List PairAverage)). with_value c.args.value (with_averages l (ascent_of now c.args.ascent.now)))
    is)
