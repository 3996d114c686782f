use Rattle.std.proofs.Common.{◌≡◌, ◌∙◌, ap, sym, true, arith}
use Rattle.std.proofs.lemmas.Bool.{eqb-false}
use Rattle.std.specs.List.{list_all}
use Rattle.octi_grid.specs.Ways.{is_within, points_from}
use Rattle.octi_grid.specs.Runs.{are_runs, steps_of}
use Rattle.octi_grid.proofs.WayLemmas.{All-from_test}
use Rattle.octi_grid.proofs.RunLemmas.{steps_of-some}
use Rattle.octi_grid.proofs.walk.Walk.of_runs.Goals as goal

pub invariant_of-result : goal.invariant_of-result
invariant_of-result c =
    let runs : are_runs c.args.runs.items ≡ true = ap are_runs (sym c.deref.ensures.value) ∙ sym c.are_runs.ensures ∙ c.if-not-are_runs.false in
    let within : list_all is_within (points_from c.args.start (steps_of c.args.runs.items)) ≡ true =
    ap (λ rs. list_all is_within (points_from c.args.start (steps_of rs))) (sym c.deref-else-not-are_runs.ensures.value) ∙ sym c.stay_within.ensures ∙ c.if-not-stay_within.false in
    let none : c.args.runs.len ≡ 0 → ⊥ = eqb-false _ _ (sym c.is_empty.ensures ∙ c.if-is_empty.false) in (
      runs,
      record {
        some = steps_of-some c.args.runs.items runs (omega (arith, c.args.runs.ok.0));
        within = All-from_test (points_from c.args.start (steps_of c.args.runs.items)) within;
      },
    )
