use Rattle.std.proofs.Common.{◌≡◌, ◌≤◌, ◌+◌, ◌<◌, ◌∙◌, ℕ, Ok, sym, ap, subst, arith, length}
use Rattle.std.specs.Prelude.{IfOk, IfErr, All}
use Rattle.std.proofs.lemmas.List.{length-map}
use Rattle.map_base.specs.declared.ids.SegId.{SegId}
use Rattle.order_model.specs.Parts.{IsRisingPart}
use Rattle.dual_ascent.specs.OwnNumbers.{all_segments}
use Rattle.dual_ascent.proofs.OwnParts.{segments_rise, every_known}
use Rattle.kept_trees.specs.OwnTrees.{part_of_key}
use Rattle.kept_trees.specs.Results.{result_found, IsFaultOf}
use Rattle.kept_trees.proofs.LiveOutcomes.{Outcome}
use Rattle.kept_trees.proofs.OwnSearches.{priced, grown}
use Rattle.kept_trees.proofs.own_search.search_by_itself.Goals as goal

pub returns-then-is_dual : goal.returns-then-is_dual
returns-then-is_dual g c =
    let t = priced c.args.plan (part_of_key c.args.key.now) c.in_ok-problem.problem c.in_ok-problem.ensures c.is_dual.result
    c.is_dual.ensures c.if-is_dual.true in
    let told = c.search_by_prices.ensures in
    let old : ℕ = c.args.steps.now in
    let new : ℕ = c.search_by_prices.new.steps in
    record {
      found = subst (λ (x : Outcome). IfOk c.search_by_prices.result (λ f. x ≡ Ok (result_found f))) t.0 told.found;
      steps = subst (λ (n : ℕ). IfOk c.search_by_prices.result (λ _. new ≡ old + n)) t.1 told.steps;
      fault = subst (λ (x : Outcome). IfErr c.search_by_prices.result (IsFaultOf x)) t.0 told.fault;
      few_steps = subst (λ (n : ℕ). IfErr c.search_by_prices.result (λ _. new ≤ old + n)) t.1 told.few_steps;
    }

pub search_live-requires-clause-known : goal.search_live-requires-clause-known
search_live-requires-clause-known g c =
    let part_is = c.as_slice.ensures.value ∙ c.in_ok-part.ensures ∙ sym (ap all_segments c.in_ok-problem.ensures) in
    subst (All (λ (s : SegId). s.0 < length c.in_ok-problem.problem.segs)) (sym part_is) (every_known c.in_ok-problem.problem.segs)

pub search_live-requires-clause-rising : goal.search_live-requires-clause-rising
search_live-requires-clause-rising g c =
    let some : 0 < length (part_of_key c.args.key.now).segs = omega (arith, length-map c.args.key.now.lists.items (λ lines. lines.items), c.requires.some) in
    subst IsRisingPart (sym (c.as_slice.ensures.value ∙ c.in_ok-part.ensures)) (segments_rise 0 (part_of_key c.args.key.now).segs some)

pub returns : goal.returns
returns g c =
    let t = grown c.args.plan (part_of_key c.args.key.now) c.in_ok-problem.problem c.in_ok-problem.ensures c.is_dual.result
    c.is_dual.ensures c.as_slice.result.now (c.as_slice.ensures.value ∙ c.in_ok-part.ensures) c.if-is_dual.false in
    let told = c.search_live.ensures in
    let old : ℕ = c.args.steps.now in
    let new : ℕ = c.search_live.new.steps in
    record {
      found = subst (λ (x : Outcome). IfOk c.search_live.result (λ f. x ≡ Ok (result_found f))) t.0 told.found;
      steps = subst (λ (n : ℕ). IfOk c.search_live.result (λ _. new ≡ old + n)) t.1 told.steps;
      fault = subst (λ (x : Outcome). IfErr c.search_live.result (IsFaultOf x)) t.0 told.fault;
      few_steps = subst (λ (n : ℕ). IfErr c.search_live.result (λ _. new ≤ old + n)) t.1 told.few_steps;
    }
