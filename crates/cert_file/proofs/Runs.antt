-- Runs of steps, and the words that write them.
use Rattle.std.proofs.Common.{◌≡◌, ℕ, zero, suc, ◌<◌, Bool, true, cond, ◌&&◌, eqb, ltb, List, [], ◌∷◌, ◌++◌, replicate, refl, ap, ◌∙◌, arith}
use Rattle.std.proofs.lemmas.Bool.{and_parts, eq-eqb, not-true}
use Rattle.octi_grid.specs.declared.dir.Dir.{Dir}
use Rattle.octi_grid.specs.declared.walk.Run.{Run}
use Rattle.octi_grid.specs.Ways.{number_of}
use Rattle.octi_grid.specs.Runs.{steps_of, are_runs, turns_next}
use Rattle.octi_grid.proofs.RunLemmas.{first_count, rest_are_runs}
use Rattle.cert_file.specs.RunWords.{with_step, runs_of}

-- ---- steps and runs

abbrev run : Dir → ℕ → Run
run d n = record { dir = d; count = n }

-- a step before a run that goes its way
same_way : (d : Dir) (n : ℕ) (rs : List Run) → with_step d (run d n ∷ rs) ≡ run d (suc n) ∷ rs
same_way d n rs = ap (λ (b : Bool). cond b (run d (suc n) ∷ rs) (run d 1 ∷ run d n ∷ rs)) (eq-eqb (number_of d) (number_of d) refl)

-- steps of one way before runs that turn
abbrev TurnsTo : Dir → List Run → Type 0
TurnsTo d rs = turns_next d rs ≡ true

other_way : (d : Dir) (rs : List Run) → TurnsTo d rs → with_step d rs ≡ run d 1 ∷ rs
other_way d [] turns = refl
other_way d (r ∷ rs) turns = ap (λ (b : Bool). cond b (run r.dir (suc r.count) ∷ rs) (run d 1 ∷ r ∷ rs)) (not-true (eqb (number_of d) (number_of r.dir)) turns)

grouped : (d : Dir) (n : ℕ) (ds : List Dir) (rs : List Run) → runs_of ds ≡ rs → TurnsTo d rs → runs_of (replicate (suc n) d ++ ds) ≡ run d (suc n) ∷ rs
grouped d zero ds rs are turns = ap (with_step d) are ∙ other_way d rs turns
grouped d (suc n) ds rs are turns = ap (with_step d) (grouped d n ds rs are turns) ∙ same_way d (suc n) rs

-- the runs of steps are the runs that the steps are kept as
pub runs_again : (rs : List Run) → are_runs rs ≡ true → runs_of (steps_of rs) ≡ rs
runs_again [] are = refl
runs_again (r ∷ rs) are = by r.count r.dir (first_count r rs are) (and_parts (ltb 0 r.count) (turns_next r.dir rs)
    (and_parts (ltb 0 r.count && turns_next r.dir rs) (are_runs rs) are).0).1 (runs_again rs (rest_are_runs r rs are))
  where
    by : (n : ℕ) (d : Dir) → 0 < n → TurnsTo d rs → runs_of (steps_of rs) ≡ rs → runs_of (replicate n d ++ steps_of rs) ≡ run d n ∷ rs
    by zero d some turns later = absurd (omega arith)
    by (suc n) d some turns later = grouped d n (steps_of rs) rs later turns
