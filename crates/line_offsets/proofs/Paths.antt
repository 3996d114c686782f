-- The path of a line, run by run.
use Rattle.std.proofs.Common.{◌≡◌, ℕ, zero, suc, ◌+◌, ◌<◌, ℤ, Bool, true, false, cond, not, ◌&&◌, eqb, List, [], ◌∷◌, ◌++◌, length, get_or, drop, replicate, Option, Some, None, option_map, slice_get, refl, ap, sym, ◌∙◌, append_assoc, arith}
use Rattle.std.proofs.lemmas.Bool.{eq-eqb}
use Rattle.std.proofs.lemmas.List.{drop_more}
use Rattle.octi_grid.specs.declared.dir.Dir.{Dir}
use Rattle.octi_grid.specs.declared.dir.Dir.TheVariants as dir
use Rattle.octi_grid.specs.declared.point.GridPoint.{GridPoint}
use Rattle.octi_grid.specs.declared.walk.Run.{Run}
use Rattle.octi_grid.specs.Ways.{number_of, reverse_of, step_from, after}
use Rattle.octi_grid.specs.Runs.{are_runs, steps_of}
use Rattle.octi_grid.specs.Walks.{last_of}
use Rattle.octi_grid.proofs.RunLemmas.{first_count, rest_are_runs, no_run}
use Rattle.line_offsets.specs.declared.corner.Corner.{Corner}
use Rattle.line_offsets.specs.Shifts.{moved_at, foot_of, turn_of}
use Rattle.line_offsets.specs.Paths.{corners_from, path_from, start_from, end_from, corner_behind}

-- one step more at the end of a run
pub step_last : (p : GridPoint) (n : ℕ) (d : Dir) → step_from (after p (replicate n d)) d ≡ after p (replicate (suc n) d)
step_last p zero d = refl
step_last p (suc n) d = step_last (step_from p d) n d

-- steps of one direction make no corner between them
straight : (pitch : ℕ) (k : ℤ) (p : GridPoint) (n : ℕ) (d : Dir) (ds : List Dir) → corners_from pitch k p (replicate (suc n) d ++ ds) ≡ corners_from pitch k (after p (replicate n d)) (d ∷ ds)
straight pitch k p zero d ds = refl
straight pitch k p (suc n) d ds =
    ap (λ (b : Bool). cond b (corners_from pitch k (step_from p d) (replicate (suc n) d ++ ds)) (moved_at pitch (step_from p d) k (turn_of d d) ∷ corners_from pitch k (step_from p d) (replicate (suc n) d ++ ds))) (eq-eqb (number_of d) (number_of d) refl)
    ∙ straight pitch k (step_from p d) n d ds

not_true : (b : Bool) → not b ≡ true → b ≡ false
not_true true e = absurd cc
not_true false e = refl

and_left : (a b : Bool) → (a && b) ≡ true → a ≡ true
and_left true b e = refl
and_left false b e = absurd cc

and_right : (a b : Bool) → (a && b) ≡ true → b ≡ true
and_right true b e = e
and_right false b e = absurd cc

-- the next run turns
pub turned : (r s : Run) (rs : List Run) → are_runs (r ∷ s ∷ rs) ≡ true → eqb (number_of r.dir) (number_of s.dir) ≡ false
turned r s rs e = not_true _ (and_right _ _ (and_left _ _ e))

-- behind a run that has steps
behind : (pitch : ℕ) (k : ℤ) (p : GridPoint) (n : ℕ) (d : Dir) (rs : List Run) → are_runs (record { dir = d; count = suc n } ∷ rs) ≡ true
    → corners_from pitch k p (replicate (suc n) d ++ steps_of rs) ≡ corner_behind pitch k (after p (replicate (suc n) d)) (record { dir = d; count = suc n } ∷ rs) ∷ corners_from pitch k (after p (replicate (suc n) d)) (steps_of rs)
behind pitch k p n d [] e =
    straight pitch k p n d [] ∙ ap (λ (q : GridPoint). moved_at pitch q k (foot_of d) ∷ []) (step_last p n d)
behind pitch k p n d (s ∷ rs) e = by s.count refl (first_count s rs (rest_are_runs (record { dir = d; count = suc n }) (s ∷ rs) e))
  where
    q : GridPoint
    q = after p (replicate n d)

    by : (m : ℕ) → s.count ≡ m → 0 < s.count
        → corners_from pitch k p (replicate (suc n) d ++ steps_of (s ∷ rs)) ≡ moved_at pitch (after p (replicate (suc n) d)) k (turn_of d s.dir) ∷ corners_from pitch k (after p (replicate (suc n) d)) (steps_of (s ∷ rs))
    by zero is some = absurd (omega arith)
    by (suc m) is some =
        let steps : steps_of (s ∷ rs) ≡ s.dir ∷ (replicate m s.dir ++ steps_of rs) = ap (λ (c : ℕ). replicate c s.dir ++ steps_of rs) is in
        let more = replicate m s.dir ++ steps_of rs in
        straight pitch k p n d (steps_of (s ∷ rs))
        ∙ ap (λ (ds : List Dir). corners_from pitch k (after p (replicate n d)) (d ∷ ds)) steps
        ∙ ap (λ (b : Bool). cond b (corners_from pitch k (step_from (after p (replicate n d)) d) (s.dir ∷ more)) (moved_at pitch (step_from (after p (replicate n d)) d) k (turn_of d s.dir) ∷ corners_from pitch k (step_from (after p (replicate n d)) d) (s.dir ∷ more))) (turned (record { dir = d; count = suc n }) s rs e)
        ∙ ap (λ (u : GridPoint). moved_at pitch u k (turn_of d s.dir) ∷ corners_from pitch k u (s.dir ∷ more)) (step_last p n d)
        ∙ ap (λ (ds : List Dir). moved_at pitch (after p (replicate (suc n) d)) k (turn_of d s.dir) ∷ corners_from pitch k (after p (replicate (suc n) d)) ds) (sym steps)

first_corner : (pitch : ℕ) (k : ℤ) (p : GridPoint) (r : Run) (rs : List Run) → are_runs (r ∷ rs) ≡ true
    → corners_from pitch k p (steps_of (r ∷ rs)) ≡ corner_behind pitch k (after p (replicate r.count r.dir)) (r ∷ rs) ∷ corners_from pitch k (after p (replicate r.count r.dir)) (steps_of rs)
first_corner pitch k p r rs e = by r.count r.dir e (first_count r rs e)
  where
    by : (n : ℕ) (d : Dir) → are_runs (record { dir = d; count = n } ∷ rs) ≡ true → 0 < n
        → corners_from pitch k p (replicate n d ++ steps_of rs) ≡ corner_behind pitch k (after p (replicate n d)) (record { dir = d; count = n } ∷ rs) ∷ corners_from pitch k (after p (replicate n d)) (steps_of rs)
    by zero d runs some = absurd (omega arith)
    by (suc n) d runs some = behind pitch k p n d rs runs

-- one more corner of a path
pub corner_more : (pitch : ℕ) (k : ℤ) (rs : List Run) (i : ℕ) (p q : GridPoint) (done new whole : List Corner) (c : Corner) → i < length rs → are_runs (drop i rs) ≡ true
    → q ≡ after p (replicate (get_or rs i no_run).count (get_or rs i no_run).dir) → c ≡ corner_behind pitch k q (drop i rs) → new ≡ done ++ c ∷ []
    → done ++ corners_from pitch k p (steps_of (drop i rs)) ≡ whole → (new ++ corners_from pitch k q (steps_of (drop (i + 1) rs)) ≡ whole) × (are_runs (drop (i + 1) rs) ≡ true)
corner_more pitch k rs i p q done new whole c low runs to corner pushed is =
    let r = get_or rs i no_run in
    let rest = drop (i + 1) rs in
    let cut : drop i rs ≡ r ∷ rest = drop_more rs i no_run low in
    let left : are_runs (r ∷ rest) ≡ true = ap are_runs (sym cut) ∙ runs in
    let it : c ≡ corner_behind pitch k (after p (replicate r.count r.dir)) (r ∷ rest) = corner ∙ ap (corner_behind pitch k q) cut ∙ ap (λ (u : GridPoint). corner_behind pitch k u (r ∷ rest)) to in (
      ap (λ (cs : List Corner). cs ++ corners_from pitch k q (steps_of rest)) pushed
          ∙ append_assoc done (c ∷ []) (corners_from pitch k q (steps_of rest))
          ∙ ap (λ (u : GridPoint). done ++ c ∷ corners_from pitch k u (steps_of rest)) to
          ∙ ap (λ (u : Corner). done ++ u ∷ corners_from pitch k (after p (replicate r.count r.dir)) (steps_of rest)) it
          ∙ ap (λ (cs : List Corner). done ++ cs) (sym (first_corner pitch k p r rest left))
          ∙ ap (λ (runs_left : List Run). done ++ corners_from pitch k p (steps_of runs_left)) (sym cut)
          ∙ is,
      rest_are_runs r rest left,
    )

-- a path begins at its start
pub path_begins : (pitch : ℕ) (k : ℤ) (p : GridPoint) (ds : List Dir) → 0 < length ds → start_from pitch k p ds ∷ corners_from pitch k p ds ≡ path_from pitch k p ds
path_begins pitch k p [] some = absurd (omega arith)
path_begins pitch k p (d ∷ ds) some = refl

pub start_is : (pitch : ℕ) (k : ℤ) (p : GridPoint) (ds : List Dir) (d : Dir) → slice_get ds 0 ≡ Some d → moved_at pitch p k (foot_of d) ≡ start_from pitch k p ds
start_is pitch k p [] d e = absurd cc
start_is pitch k p (x ∷ ds) d e = let is : d ≡ x = cc in ap (λ (y : Dir). moved_at pitch p k (foot_of y)) is

pub end_is : (pitch : ℕ) (k : ℤ) (p : GridPoint) (ds : List Dir) (d : Dir) → last_of ds ≡ Some d → moved_at pitch (after p ds) k (foot_of d) ≡ end_from pitch k p ds
end_is pitch k p [] d e = absurd cc
end_is pitch k p (x ∷ []) d e = let is : d ≡ x = cc in ap (λ (y : Dir). moved_at pitch (step_from p x) k (foot_of y)) is
end_is pitch k p (x ∷ y ∷ ds) d e = end_is pitch k (step_from p x) (y ∷ ds) d e

twice : (d : Dir) → reverse_of (reverse_of d) ≡ d
twice dir.N = refl
twice dir.NE = refl
twice dir.E = refl
twice dir.SE = refl
twice dir.S = refl
twice dir.SW = refl
twice dir.W = refl
twice dir.NW = refl

-- the last direction, from the port at the end
pub last_by : (o : Option Dir) (port d : Dir) → option_map reverse_of o ≡ Some port → d ≡ reverse_of port → o ≡ Some d
last_by None port d e is = absurd cc
last_by (Some x) port d e is = let same : reverse_of x ≡ port = cc in ap (λ (y : Dir). Some y) (sym (twice x) ∙ ap reverse_of same ∙ sym is)
