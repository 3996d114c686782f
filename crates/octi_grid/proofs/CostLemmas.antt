-- What ways cost, run by run.
use Rattle.std.proofs.Common.{◌≡◌, ℕ, zero, suc, ◌+◌, ◌-◌, ◌*◌, ◌≤◌, ◌<◌, ◌%◌, true, min, List, [], ◌∷◌, ◌++◌, length, get_or, drop, replicate, sym, refl, ap, ◌∙◌, arith, lit≤}
use Rattle.std.proofs.lemmas.List.{drop_more}
use Rattle.octi_grid.specs.declared.dir.Dir.{Dir}
use Rattle.octi_grid.specs.declared.dir.Dir.TheVariants as dir
use Rattle.octi_grid.specs.declared.walk.Run.{Run}
use Rattle.octi_grid.specs.Ways.{number_of}
use Rattle.octi_grid.specs.Costs.{run_cost, step_cost, turn_between, turn_to, way_cost}
use Rattle.octi_grid.specs.Runs.{are_runs, steps_of}
use Rattle.octi_grid.proofs.RunLemmas.{first_count, no_run, rest_are_runs}

pub step_cost_small : (d : Dir) → step_cost d ≤ 5
step_cost_small dir.N = lit≤ tt
step_cost_small dir.NE = lit≤ tt
step_cost_small dir.E = lit≤ tt
step_cost_small dir.SE = lit≤ tt
step_cost_small dir.S = lit≤ tt
step_cost_small dir.SW = lit≤ tt
step_cost_small dir.W = lit≤ tt
step_cost_small dir.NW = lit≤ tt

pub number_small : (d : Dir) → number_of d ≤ 7
number_small dir.N = lit≤ tt
number_small dir.NE = lit≤ tt
number_small dir.E = lit≤ tt
number_small dir.SE = lit≤ tt
number_small dir.S = lit≤ tt
number_small dir.SW = lit≤ tt
number_small dir.W = lit≤ tt
number_small dir.NW = lit≤ tt

small_turn : (a b : ℕ) → a ≤ 7 → b ≤ 7 → min ((b + 8 - a) % 8) ((a + 8 - b) % 8) ≤ 4
small_turn a b h k = omega arith

pub turn_small : (a b : Dir) → turn_between a b ≤ 4
turn_small a b = small_turn (number_of a) (number_of b) (number_small a) (number_small b)

pub turn_none : (d : Dir) → turn_between d d ≡ 0
turn_none dir.N = refl
turn_none dir.NE = refl
turn_none dir.E = refl
turn_none dir.SE = refl
turn_none dir.S = refl
turn_none dir.SW = refl
turn_none dir.W = refl
turn_none dir.NW = refl

-- the cost of the turn from a direction into steps
abbrev turn_into : Dir → List Dir → ℕ
turn_into d [] = 0
turn_into d (e ∷ es) = turn_between d e

way_cost-cons : (d : Dir) (ds : List Dir) → way_cost (d ∷ ds) ≡ step_cost d + turn_into d ds + way_cost ds
way_cost-cons d [] = omega arith
way_cost-cons d (e ∷ ds) = refl

way_cost-replicate : (n : ℕ) (d : Dir) (ds : List Dir) → way_cost (replicate (suc n) d ++ ds) ≡ suc n * step_cost d + turn_into d ds + way_cost ds
way_cost-replicate zero d ds = way_cost-cons d ds ∙ omega arith
way_cost-replicate (suc n) d ds = omega (arith, way_cost-cons d (replicate (suc n) d ++ ds), way_cost-replicate n d ds, turn_none d)

turn_into-replicate : (d e : Dir) (n : ℕ) (es : List Dir) → 0 < n → turn_into d (replicate n e ++ es) ≡ turn_between d e
turn_into-replicate d e zero es h = absurd (omega arith)
turn_into-replicate d e (suc n) es h = refl

turn_into-steps : (d : Dir) (rs : List Run) → are_runs rs ≡ true → turn_into d (steps_of rs) ≡ turn_to d rs
turn_into-steps d [] e = refl
turn_into-steps d (r ∷ rs) e = turn_into-replicate d r.dir r.count (steps_of rs) (first_count r rs e)

way_cost-first : (n : ℕ) (d : Dir) (ds : List Dir) → 0 < n → way_cost (replicate n d ++ ds) ≡ n * step_cost d + turn_into d ds + way_cost ds
way_cost-first zero d ds h = absurd (omega arith)
way_cost-first (suc n) d ds h = way_cost-replicate n d ds

-- the cost of runs: that of the first with its turn, and of the rest
pub way_cost-steps : (r : Run) (rs : List Run) → are_runs (r ∷ rs) ≡ true → way_cost (steps_of (r ∷ rs)) ≡ run_cost (r ∷ rs) + way_cost (steps_of rs)
way_cost-steps r rs e =
    way_cost-first r.count r.dir (steps_of rs) (first_count r rs e)
    ∙ ap (λ t. r.count * step_cost r.dir + t + way_cost (steps_of rs)) (turn_into-steps r.dir rs (rest_are_runs r rs e))

turn_into_small : (d : Dir) (ds : List Dir) → turn_into d ds ≤ 4
turn_into_small d [] = lit≤ tt
turn_into_small d (e ∷ ds) = turn_small d e

-- a step with its turn costs at most 9
pub way_cost_small : (ds : List Dir) → way_cost ds ≤ 9 * length ds
way_cost_small [] = lit≤ tt
way_cost_small (d ∷ ds) = omega (arith, way_cost-cons d ds, step_cost_small d, turn_into_small d ds, way_cost_small ds)

-- the cost of the runs from place i on: that of run i with its turn, and of the rest
pub way_cost-drop : (rs : List Run) (i : ℕ) → i < length rs → are_runs (drop i rs) ≡ true
    → (way_cost (steps_of (drop i rs)) ≡ run_cost (drop i rs) + way_cost (steps_of (drop (i + 1) rs))) × (are_runs (drop (i + 1) rs) ≡ true)
way_cost-drop rs i h e =
    let split = drop_more rs i no_run h in
    let runs : are_runs (get_or rs i no_run ∷ drop (i + 1) rs) ≡ true = ap are_runs (sym split) ∙ e in (
      ap (λ v. way_cost (steps_of v)) split
          ∙ way_cost-steps (get_or rs i no_run) (drop (i + 1) rs) runs
          ∙ ap (λ v. run_cost v + way_cost (steps_of (drop (i + 1) rs))) (sym split),
      rest_are_runs (get_or rs i no_run) (drop (i + 1) rs) runs,
    )
