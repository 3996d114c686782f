use Rattle.std.proofs.Common.{◌≤◌, ◌∙◌, ◌+◌, ◌<◌, ◌^◌, List, [], length, take, sym, ap, subst, arith, rules}
use Rattle.std.specs.List.{All}
use Rattle.std.specs.Prelude.{Contains}
use Rattle.std.proofs.lemmas.List.Elements.{All-nil, All-contains_itself}
use Rattle.std.proofs.lemmas.List.Sums.{sum_by-take-le}
use Rattle.std.proofs.lemmas.Result.{err_from_is_err_and}
use Rattle.map_base.specs.declared.ids.SegId.{SegId}
use Rattle.order_model.specs.declared.term.Term.{Term}
use Rattle.order_model.specs.Parts.{IsRisingPart}
use Rattle.order_model.specs.PartTerms.{part_numbers}
use Rattle.order_model.proofs.Placing.{length-part_lists}
use Rattle.order_model.proofs.PartLists.{part_at, part_known_at, parts_few_at}
use Rattle.order_model.proofs.KeptTerms.{group_items}
use Rattle.kept_trees.specs.OwnTrees.{held_as}
use Rattle.kept_trees.specs.Keeping.{branches_to_meet}
use Rattle.kept_trees.proofs.HeldLists.{fewer_to_meet}
use Rattle.graph_maps.specs.declared.solution.Solution.{Solution}
use Rattle.graph_maps.specs.Solving.{parts_in}
use Rattle.graph_maps.specs.Stages.{IsMore, IsUnsolved}
use Rattle.kept_trees.proofs.PutOrders.{number_orders_are}
use Rattle.graph_maps.proofs.KeepLemmas.{AreHeld, still_held, all_held, one_held, held_before, held_all}
use Rattle.graph_maps.proofs.SolveLemmas.{none_solved, one_solved, unsolved_ends, all_solved, part_here, steps_more}
use Rattle.graph_maps.proofs.solving.solve_all.Goals as goal

pub loop-k-init : goal.loop-k-init
loop-k-init g c =
    let segs = c.args.problem.now.segs in
    let orders = c.in_ok-number_orders.ensures ∙ c.segs.ensures.lists in
    record {
      solved = none_solved c.args.plan c.args.problem.now (record { orders = c.in_ok-number_orders.field-0; parts = c.in_ok-with_capacity.field-0 }) orders c.in_ok-with_capacity.ensures.items;
      orders = rw orders (number_orders_are segs);
      kept = All-contains_itself c.args.kept.now;
      held = All-nil (λ (q : List SegId). Contains c.args.kept.now (held_as c.args.plan c.args.problem.now q));
      steps = omega arith;
    }

pub overflow_cast-k : goal.overflow_cast-k
overflow_cast-k g c =
    let few = parts_few_at c.args.problem.now.segs c.args.problem.now.terms c.args.parts.now c.requires.classes in
    let below : c.loop-k.k < 2 ^ 32 = omega (arith, few, c.loop-k-test.true, c.segs.ensures.fits.few_choices) in
    search rules

pub solve_part-requires-clause-rising : goal.solve_part-requires-clause-rising
solve_part-requires-clause-rising g c =
    subst IsRisingPart (part_at c.args.parts.now c.loop-k.k c.index-parts-k.result c.loop-k-test.true c.index-parts-k.is ∙ sym c.as_slice.ensures.value)
    (c.requires.classes.rising c.loop-k.k [] (omega (arith, length-part_lists c.args.parts.now, c.loop-k-test.true)))

pub solve_part-requires-clause-known : goal.solve_part-requires-clause-known
solve_part-requires-clause-known g c =
    subst (λ (p : List SegId). All (λ (s : SegId). s.0 < length c.args.problem.now.segs) p) (sym c.as_slice.ensures.value)
    (part_known_at c.args.problem.now.segs c.args.problem.now.terms c.args.parts.now c.loop-k.k c.index-parts-k.result c.requires.classes c.loop-k-test.true c.index-parts-k.is)

pub solve_part-requires-clause-numbers : goal.solve_part-requires-clause-numbers
solve_part-requires-clause-numbers g c =
    let terms : List Term = c.args.problem.now.terms in
    c.as_slice-in-loop-k.ensures.value
    ∙ group_items terms c.args.parts.now c.args.terms.now c.loop-k.k c.index-parts-k.result c.index-terms-k.result c.requires.terms c.loop-k-test.true c.index-parts-k.is c.index-terms-k.is
    ∙ sym (ap (part_numbers terms) c.as_slice.ensures.value)

pub loop-k-preserved : goal.loop-k-preserved
loop-k-preserved g c =
    let p = c.args.problem.now in
    let part = c.index-parts-k.result in
    let here = part_here p c.args.parts.now c.loop-k.k part c.requires.parts c.loop-k-test.true c.index-parts-k.is in
    let more = subst (λ (q : List SegId). IsMore c.args.plan p q c.loop-k.solution c.solve_part.new.solution) c.as_slice.ensures.value c.in_ok-solve_part.ensures.more in
    let held = subst (λ (q : List SegId). Contains c.solve_part.new.kept (held_as c.args.plan p q)) c.as_slice.ensures.value c.in_ok-solve_part.ensures.held in
    let taken = subst (λ (q : List SegId). c.solve_part.new.steps ≤ c.loop-k.steps + branches_to_meet c.loop-k.kept c.args.plan p q) c.as_slice.ensures.value c.solve_part.ensures.steps in
    record {
      solved = one_solved c.args.plan p c.loop-k.k part.items c.loop-k.solution c.solve_part.new.solution here.0 here.1 more c.loop-k.invariant.solved;
      orders = c.in_ok-solve_part.ensures.orders;
      kept = still_held c.args.kept.now c.loop-k.kept c.solve_part.new.kept c.loop-k.invariant.kept c.solve_part.ensures.kept;
      held = one_held c.args.plan c.loop-k.kept c.solve_part.new.kept p c.loop-k.k part.items here.0 here.1 c.solve_part.ensures.kept held c.loop-k.invariant.held;
      steps = omega (
        arith,
        taken,
        c.loop-k.invariant.steps,
        fewer_to_meet c.args.kept.now c.loop-k.kept c.args.plan p part.items c.loop-k.invariant.kept,
        steps_more (branches_to_meet c.args.kept.now c.args.plan p) p c.loop-k.k part.items here.0 here.1,
      );
    }

pub returns-in_err-solve_part-clause-solved : goal.returns-in_err-solve_part-clause-solved
returns-in_err-solve_part-clause-solved g c =
    let p = c.args.problem.now in
    let part = c.index-parts-k.result in
    let here = part_here p c.args.parts.now c.loop-k.k part c.requires.parts c.loop-k-test.true c.index-parts-k.is in
    let e = c.in_err-solve_part.field-0.0 in
    let why = subst (λ (q : List SegId). IsUnsolved c.args.plan p c.loop-k.k q e) c.as_slice.ensures.value c.in_err-solve_part.ensures.unsolved in
    let same = err_from_is_err_and c.from_residual-in_err-solve_part.result c.from_residual-in_err-solve_part.ensures.1 in
    rw (same.1, same.2)
    (unsolved_ends c.args.plan p c.loop-k.k part.items c.loop-k.solution e here.0 here.1 why c.loop-k.invariant.solved)

pub returns-in_err-solve_part-clause-kept : goal.returns-in_err-solve_part-clause-kept
returns-in_err-solve_part-clause-kept g c = still_held c.args.kept.now c.loop-k.kept c.solve_part.new.kept c.loop-k.invariant.kept c.solve_part.ensures.kept

pub returns-in_err-solve_part-clause-finished : goal.returns-in_err-solve_part-clause-finished
returns-in_err-solve_part-clause-finished g c =
    let p = c.args.problem.now in
    let part = c.index-parts-k.result in
    let here = part_here p c.args.parts.now c.loop-k.k part c.requires.parts c.loop-k-test.true c.index-parts-k.is in
    let e = c.in_err-solve_part.field-0.0 in
    let why = subst (λ (q : List SegId). IsUnsolved c.args.plan p c.loop-k.k q e) c.as_slice.ensures.value c.in_err-solve_part.ensures.unsolved in
    let before : AreHeld c.args.plan c.solve_part.new.kept p (take c.loop-k.k (parts_in p)) =
    all_held c.args.plan c.loop-k.kept c.solve_part.new.kept p (take c.loop-k.k (parts_in p)) c.solve_part.ensures.kept c.loop-k.invariant.held in
    let same = err_from_is_err_and c.from_residual-in_err-solve_part.result c.from_residual-in_err-solve_part.ensures.1 in
    rw (same.1, same.2)
    (held_before c.args.plan Solution p c.loop-k.k part.items c.solve_part.new.kept e here.0 here.1 why before)

pub returns-in_err-solve_part-clause-steps : goal.returns-in_err-solve_part-clause-steps
returns-in_err-solve_part-clause-steps g c =
    let p = c.args.problem.now in
    let part = c.index-parts-k.result in
    let here = part_here p c.args.parts.now c.loop-k.k part c.requires.parts c.loop-k-test.true c.index-parts-k.is in
    let taken = subst (λ (q : List SegId). c.solve_part.new.steps ≤ c.loop-k.steps + branches_to_meet c.loop-k.kept c.args.plan p q) c.as_slice.ensures.value c.solve_part.ensures.steps in
    omega (
      arith,
      taken,
      c.loop-k.invariant.steps,
      fewer_to_meet c.args.kept.now c.loop-k.kept c.args.plan p part.items c.loop-k.invariant.kept,
      steps_more (branches_to_meet c.args.kept.now c.args.plan p) p c.loop-k.k part.items here.0 here.1,
      sum_by-take-le (branches_to_meet c.args.kept.now c.args.plan p) (parts_in p) (c.loop-k.k + 1),
    )

pub returns-clause-solved : goal.returns-clause-solved
returns-clause-solved g c =
    let p = c.args.problem.now in
    let over : length (parts_in p) ≤ c.loop-k.k =
    subst (λ (ps : List (List SegId)). length ps ≤ c.loop-k.k) c.requires.parts (omega (arith, length-part_lists c.args.parts.now, c.loop-k-test.false)) in
    all_solved c.args.plan p c.loop-k.k c.loop-k.solution over c.loop-k.invariant.solved

pub returns-clause-finished : goal.returns-clause-finished
returns-clause-finished g c =
    let p = c.args.problem.now in
    let over : length (parts_in p) ≤ c.loop-k.k =
    subst (λ (ps : List (List SegId)). length ps ≤ c.loop-k.k) c.requires.parts (omega (arith, length-part_lists c.args.parts.now, c.loop-k-test.false)) in
    held_all c.args.plan p c.loop-k.k c.loop-k.kept over c.loop-k.invariant.held
