-- What the turns of ways cost, run by run.
use Rattle.std.proofs.Common.{◌≡◌, ℕ, zero, suc, ◌+◌, ◌*◌, ◌≤◌, ◌<◌, true, List, [], ◌∷◌, ◌++◌, length, get_or, drop, replicate, sym, refl, ap, ◌∙◌, arith, lit≤}
use Rattle.std.proofs.lemmas.List.{drop_more}
use Rattle.octi_grid.specs.declared.dir.Dir.{Dir}
use Rattle.octi_grid.specs.declared.walk.Run.{Run}
use Rattle.octi_grid.specs.Costs.{turn_between, turn_to}
use Rattle.octi_grid.specs.Runs.{are_runs, steps_of}
use Rattle.octi_grid.proofs.CostLemmas.{turn_none, turn_small}
use Rattle.octi_grid.proofs.RunLemmas.{first_count, no_run, rest_are_runs}
use Rattle.drawing_weights.specs.Weights.{turn_after, turns_of}

-- the cost of the turn from a direction into steps
abbrev turn_into : Dir → List Dir → ℕ
turn_into d [] = 0
turn_into d (e ∷ es) = turn_between d e

turns_of-cons : (d : Dir) (ds : List Dir) → turns_of (d ∷ ds) ≡ turn_into d ds + turns_of ds
turns_of-cons d [] = refl
turns_of-cons d (e ∷ ds) = refl

turns_of-run : (n : ℕ) (d : Dir) (ds : List Dir) → turns_of (replicate (suc n) d ++ ds) ≡ turn_into d ds + turns_of ds
turns_of-run zero d ds = turns_of-cons d ds
turns_of-run (suc n) d ds = omega (arith, turns_of-cons d (replicate (suc n) d ++ ds), turns_of-run n d ds, turn_none d)

turns_of-first : (n : ℕ) (d : Dir) (ds : List Dir) → 0 < n → turns_of (replicate n d ++ ds) ≡ turn_into d ds + turns_of ds
turns_of-first zero d ds h = absurd (omega arith)
turns_of-first (suc n) d ds h = turns_of-run n d ds

turn_into-run : (d e : Dir) (n : ℕ) (es : List Dir) → 0 < n → turn_into d (replicate n e ++ es) ≡ turn_between d e
turn_into-run d e zero es h = absurd (omega arith)
turn_into-run d e (suc n) es h = refl

turn_into-steps : (d : Dir) (rs : List Run) → are_runs rs ≡ true → turn_into d (steps_of rs) ≡ turn_to d rs
turn_into-steps d [] e = refl
turn_into-steps d (r ∷ rs) e = turn_into-run d r.dir r.count (steps_of rs) (first_count r rs e)

turns_of-steps : (r : Run) (rs : List Run) → are_runs (r ∷ rs) ≡ true → turns_of (steps_of (r ∷ rs)) ≡ turn_after (r ∷ rs) + turns_of (steps_of rs)
turns_of-steps r rs e =
    turns_of-first r.count r.dir (steps_of rs) (first_count r rs e)
    ∙ ap (λ t. t + turns_of (steps_of rs)) (turn_into-steps r.dir rs (rest_are_runs r rs e))

-- the turns of the runs from place i on: the one after run i, and the rest
pub turns_of-drop : (rs : List Run) (i : ℕ) → i < length rs → are_runs (drop i rs) ≡ true
    → (turns_of (steps_of (drop i rs)) ≡ turn_after (drop i rs) + turns_of (steps_of (drop (i + 1) rs))) × (are_runs (drop (i + 1) rs) ≡ true)
turns_of-drop rs i h e =
    let split = drop_more rs i no_run h in
    let runs : are_runs (get_or rs i no_run ∷ drop (i + 1) rs) ≡ true = ap are_runs (sym split) ∙ e in (
      ap (λ v. turns_of (steps_of v)) split
          ∙ turns_of-steps (get_or rs i no_run) (drop (i + 1) rs) runs
          ∙ ap (λ v. turn_after v + turns_of (steps_of (drop (i + 1) rs))) (sym split),
      rest_are_runs (get_or rs i no_run) (drop (i + 1) rs) runs,
    )

-- a turn costs at most 4
turn_into_small : (d : Dir) (ds : List Dir) → turn_into d ds ≤ 4
turn_into_small d [] = lit≤ tt
turn_into_small d (e ∷ ds) = turn_small d e

pub turns_small : (ds : List Dir) → turns_of ds ≤ 4 * length ds
turns_small [] = lit≤ tt
turns_small (d ∷ ds) = omega (arith, turns_of-cons d ds, turn_into_small d ds, turns_small ds)
