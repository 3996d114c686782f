use Rattle.std.proofs.Common.{◌≡◌, ◌+◌, List, [], Option, Some, None, length, take, sym, ap, subst, ◌∙◌, refl, arith}
use Rattle.std.proofs.lemmas.List.{drop_all, take_all}
use Rattle.std.proofs.lemmas.Result.{err_from_is_err_and}
use Rattle.std.specs.Prelude.{is_none}
use Rattle.octi_grid.specs.declared.drawing.DrawWhy.{DrawWhy}
use Rattle.octi_grid.specs.Walks.{PlainWalk}
use Rattle.octi_grid.specs.Legal.{first_illegal, first_illegal_after, legs_of, why_illegal, Leg}
use Rattle.octi_grid.specs.Taking.{AreTables}
use Rattle.octi_grid.proofs.PortsLemmas.{no_walks_legal}
use Rattle.octi_grid.proofs.CheckSteps.{illegal-more, length_legs, stop_cause}
use Rattle.octi_grid.proofs.check.check_drawing.Goals as goal

pub loop-k-init : goal.loop-k-init
loop-k-init c = record {
  taken = subst (λ n. AreTables n [] [] c.in_ok-taken.taken) c.nodes.ensures.count c.in_ok-taken.ensures;
  legal = no_walks_legal c.args.graph.now.rounds;
  rest = refl;
}

pub loop-k-preserved : goal.loop-k-preserved
loop-k-preserved c =
    let g = c.args.graph.now in
    let walks = c.as_slice-walks.result.now in
    let each : length walks ≡ length g.ends = ap length c.as_slice-walks.ensures ∙ c.requires in
    record {
      taken = c.in_ok-check_walk.ensures.taken;
      legal = c.in_ok-check_walk.ensures.legal;
      rest = sym (illegal-more g.rounds (legs_of g.ends walks) c.loop-k.k None (omega (arith, length_legs g.ends walks each)) c.in_ok-check_walk.ensures.legal) ∙ c.loop-k.invariant.rest;
    }

pub returns-in_err-check_walk-clause-refused : goal.returns-in_err-check_walk-clause-refused
returns-in_err-check_walk-clause-refused c =
    let g = c.args.graph.now in
    let walks = c.as_slice-walks.result.now in
    let each : length walks ≡ length g.ends = ap length c.as_slice-walks.ensures ∙ c.requires in
    let p = err_from_is_err_and c.from_residual-in_err-check_walk.result c.from_residual-in_err-check_walk.ensures.1 in
    rw (p.1, p.2)
    (stop_cause (first_illegal g c.args.drawing.now.walks) c.loop-k.k (why_illegal g.rounds (take (c.loop-k.k + 1) (legs_of g.ends walks))) c.in_err-check_walk.field-0.0 c.in_err-check_walk.ensures.stops
    (λ w e.
    ap (first_illegal g) (sym c.as_slice-walks.ensures) ∙ sym c.loop-k.invariant.rest
    ∙ illegal-more g.rounds (legs_of g.ends walks) c.loop-k.k (Some w) (omega (arith, length_legs g.ends walks each)) e))

pub returns-clause-accepted : goal.returns-clause-accepted
returns-clause-accepted c =
    let g = c.args.graph.now in
    let walks = c.as_slice-walks.result.now in
    let each : length walks ≡ length g.ends = ap length c.as_slice-walks.ensures ∙ c.requires in
    ap (first_illegal g) (sym c.as_slice-walks.ensures) ∙ sym c.loop-k.invariant.rest
    ∙ ap (first_illegal_after g.rounds (take c.loop-k.k (legs_of g.ends walks))) (drop_all c.loop-k.k (legs_of g.ends walks) (omega (arith, length_legs g.ends walks each)))

pub returns-clause-legal : goal.returns-clause-legal
returns-clause-legal c =
    let g = c.args.graph.now in
    let walks = c.as_slice-walks.result.now in
    let each : length walks ≡ length g.ends = ap length c.as_slice-walks.ensures ∙ c.requires in
    ap (λ (ws : List PlainWalk). is_none (why_illegal g.rounds (legs_of g.ends ws))) (sym c.as_slice-walks.ensures)
    ∙ ap (λ (ls : List Leg). is_none (why_illegal g.rounds ls)) (sym (take_all c.loop-k.k (legs_of g.ends walks) (omega (arith, length_legs g.ends walks each))))
    ∙ ap (λ (o : Option DrawWhy). is_none o) c.loop-k.invariant.legal
