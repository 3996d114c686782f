-- The straight pieces of a walk, run by run.
use Rattle.std.proofs.Common.{◌≡◌, ℕ, zero, suc, ◌+◌, ◌<◌, Bool, true, cond, List, [], ◌∷◌, ◌++◌, length, get_or, drop, replicate, refl, ap, sym, ◌∙◌, append_assoc, arith}
use Rattle.std.proofs.lemmas.Bool.{eq-eqb}
use Rattle.std.proofs.lemmas.List.{drop_more}
use Rattle.map_base.specs.declared.ids.NodeId.{NodeId}
use Rattle.octi_grid.specs.declared.dir.Dir.{Dir}
use Rattle.octi_grid.specs.declared.point.GridPoint.{GridPoint}
use Rattle.octi_grid.specs.declared.walk.Run.{Run}
use Rattle.octi_grid.specs.Ways.{number_of, step_from, after}
use Rattle.octi_grid.specs.Runs.{are_runs, steps_of}
use Rattle.octi_grid.proofs.RunLemmas.{first_count, rest_are_runs, no_run}
use Rattle.line_offsets.proofs.Paths.{step_last, turned}
use Rattle.poster_plan.specs.declared.plan.Piece.{Piece}
use Rattle.poster_rules.specs.Plans.{piece_between, pieces_from}

-- steps of one direction are one piece
straight : (lines : ℕ) (ends : NodeId × NodeId) (from p : GridPoint) (n : ℕ) (d : Dir) (ds : List Dir)
    → pieces_from lines ends from p (replicate (suc n) d ++ ds) ≡ pieces_from lines ends from (after p (replicate n d)) (d ∷ ds)
straight lines ends from p zero d ds = refl
straight lines ends from p (suc n) d ds =
    ap (λ (b : Bool). cond b (pieces_from lines ends from (step_from p d) (replicate (suc n) d ++ ds)) (piece_between lines ends from (step_from p d) ∷ pieces_from lines ends (step_from p d) (step_from p d) (replicate (suc n) d ++ ds))) (eq-eqb (number_of d) (number_of d) refl)
    ∙ straight lines ends from (step_from p d) n d ds

-- behind a run that has steps
behind : (lines : ℕ) (ends : NodeId × NodeId) (p : GridPoint) (n : ℕ) (d : Dir) (rs : List Run) → are_runs (record { dir = d; count = suc n } ∷ rs) ≡ true
    → pieces_from lines ends p p (replicate (suc n) d ++ steps_of rs) ≡ piece_between lines ends p (after p (replicate (suc n) d)) ∷ pieces_from lines ends (after p (replicate (suc n) d)) (after p (replicate (suc n) d)) (steps_of rs)
behind lines ends p n d [] e =
    straight lines ends p p n d [] ∙ ap (λ (q : GridPoint). piece_between lines ends p q ∷ []) (step_last p n d)
behind lines ends p n d (s ∷ rs) e = by s.count refl (first_count s rs (rest_are_runs (record { dir = d; count = suc n }) (s ∷ rs) e))
  where
    q : GridPoint
    q = after p (replicate n d)

    by : (m : ℕ) → s.count ≡ m → 0 < s.count
        → pieces_from lines ends p p (replicate (suc n) d ++ steps_of (s ∷ rs)) ≡ piece_between lines ends p (after p (replicate (suc n) d)) ∷ pieces_from lines ends (after p (replicate (suc n) d)) (after p (replicate (suc n) d)) (steps_of (s ∷ rs))
    by zero is some = absurd (omega arith)
    by (suc m) is some =
        let steps : steps_of (s ∷ rs) ≡ s.dir ∷ (replicate m s.dir ++ steps_of rs) = ap (λ (c : ℕ). replicate c s.dir ++ steps_of rs) is in
        let more = replicate m s.dir ++ steps_of rs in
        straight lines ends p p n d (steps_of (s ∷ rs))
        ∙ ap (λ (ds : List Dir). pieces_from lines ends p (after p (replicate n d)) (d ∷ ds)) steps
        ∙ ap (λ (b : Bool). cond b (pieces_from lines ends p (step_from (after p (replicate n d)) d) (s.dir ∷ more)) (piece_between lines ends p (step_from (after p (replicate n d)) d) ∷ pieces_from lines ends (step_from (after p (replicate n d)) d) (step_from (after p (replicate n d)) d) (s.dir ∷ more))) (turned (record { dir = d; count = suc n }) s rs e)
        ∙ ap (λ (u : GridPoint). piece_between lines ends p u ∷ pieces_from lines ends u u (s.dir ∷ more)) (step_last p n d)
        ∙ ap (λ (ds : List Dir). piece_between lines ends p (after p (replicate (suc n) d)) ∷ pieces_from lines ends (after p (replicate (suc n) d)) (after p (replicate (suc n) d)) ds) (sym steps)

first_piece : (lines : ℕ) (ends : NodeId × NodeId) (p : GridPoint) (r : Run) (rs : List Run) → are_runs (r ∷ rs) ≡ true
    → pieces_from lines ends p p (steps_of (r ∷ rs)) ≡ piece_between lines ends p (after p (replicate r.count r.dir)) ∷ pieces_from lines ends (after p (replicate r.count r.dir)) (after p (replicate r.count r.dir)) (steps_of rs)
first_piece lines ends p r rs e = by r.count r.dir e (first_count r rs e)
  where
    by : (n : ℕ) (d : Dir) → are_runs (record { dir = d; count = n } ∷ rs) ≡ true → 0 < n
        → pieces_from lines ends p p (replicate n d ++ steps_of rs) ≡ piece_between lines ends p (after p (replicate n d)) ∷ pieces_from lines ends (after p (replicate n d)) (after p (replicate n d)) (steps_of rs)
    by zero d runs some = absurd (omega arith)
    by (suc n) d runs some = behind lines ends p n d rs runs

-- one piece more of a walk
pub piece_more : (lines : ℕ) (ends : NodeId × NodeId) (rs : List Run) (i : ℕ) (p q : GridPoint) (done new whole : List Piece) (c : Piece) → i < length rs → are_runs (drop i rs) ≡ true
    → q ≡ after p (replicate (get_or rs i no_run).count (get_or rs i no_run).dir) → c ≡ piece_between lines ends p q → new ≡ done ++ c ∷ []
    → done ++ pieces_from lines ends p p (steps_of (drop i rs)) ≡ whole → (new ++ pieces_from lines ends q q (steps_of (drop (i + 1) rs)) ≡ whole) × (are_runs (drop (i + 1) rs) ≡ true)
piece_more lines ends rs i p q done new whole c low runs to piece pushed is =
    let r = get_or rs i no_run in
    let rest = drop (i + 1) rs in
    let end = after p (replicate r.count r.dir) in
    let cut : drop i rs ≡ r ∷ rest = drop_more rs i no_run low in
    let left : are_runs (r ∷ rest) ≡ true = ap are_runs (sym cut) ∙ runs in
    let it : c ≡ piece_between lines ends p end = piece ∙ ap (piece_between lines ends p) to in (
      ap (λ (cs : List Piece). cs ++ pieces_from lines ends q q (steps_of rest)) pushed
          ∙ append_assoc done (c ∷ []) (pieces_from lines ends q q (steps_of rest))
          ∙ ap (λ (u : GridPoint). done ++ c ∷ pieces_from lines ends u u (steps_of rest)) to
          ∙ ap (λ (u : Piece). done ++ u ∷ pieces_from lines ends end end (steps_of rest)) it
          ∙ ap (λ (cs : List Piece). done ++ cs) (sym (first_piece lines ends p r rest left))
          ∙ ap (λ (runs_left : List Run). done ++ pieces_from lines ends p p (steps_of runs_left)) (sym cut)
          ∙ is,
      rest_are_runs r rest left,
    )
