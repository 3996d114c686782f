-- Steps as runs.
use Rattle.std.proofs.Common.{◌≡◌, ℕ, zero, suc, ◌+◌, ◌<◌, Bool, true, false, not, ◌&&◌, eqb, cond, List, [], ◌∷◌, ◌++◌, length, get_or, set, drop, replicate, Some, None, slice_get, sym, refl, ap, ◌∙◌, subst, arith, append_assoc, lit<}
use Rattle.std.proofs.lemmas.Bool.{and_parts, and_from, ltb-true, lt-ltb, eqb-true, false≢true, and_left}
use Rattle.std.proofs.lemmas.List.{append-nil, replicate_more, length-append, length-replicate, drop_more}
use Rattle.std.specs.List.{AllByRecursion, list_all}
use Rattle.octi_grid.specs.declared.dir.Dir.{Dir}
use Rattle.octi_grid.specs.declared.dir.Dir.TheVariants as dir
use Rattle.octi_grid.specs.declared.point.GridPoint.{GridPoint}
use Rattle.octi_grid.specs.declared.walk.Run.{Run}
use Rattle.octi_grid.specs.Ways.{after, end_within, is_within, number_of, points_from, step_from, IsWithin}
use Rattle.octi_grid.specs.Runs.{are_runs, goes_on, prolonged, steps_of, turns_next, IsShort}
use Rattle.octi_grid.specs.Walks.{last_of, IsWalk}
use Rattle.octi_grid.proofs.WayLemmas.{All-from_test, after-append, from_end_none, from_end_some, last_of-points, list_all-points-append, points_more, points_of_first, points_of_second, run_short}

-- the direction of a number
abbrev direction : ℕ → Dir
direction n =
    cond (eqb n 0) dir.N (cond (eqb n 1) dir.NE (cond (eqb n 2) dir.E (cond (eqb n 3) dir.SE (cond (eqb n 4) dir.S (cond (eqb n 5) dir.SW (cond (eqb n 6) dir.W dir.NW))))))

direction-number_of : (d : Dir) → direction (number_of d) ≡ d
direction-number_of dir.N = refl
direction-number_of dir.NE = refl
direction-number_of dir.E = refl
direction-number_of dir.SE = refl
direction-number_of dir.S = refl
direction-number_of dir.SW = refl
direction-number_of dir.W = refl
direction-number_of dir.NW = refl

-- directions of one number are one
pub same_direction : (a b : Dir) → number_of a ≡ number_of b → a ≡ b
same_direction a b e = sym (direction-number_of a) ∙ ap direction e ∙ direction-number_of b

-- the first run has a step
pub first_count : (r : Run) (rs : List Run) → are_runs (r ∷ rs) ≡ true → 0 < r.count
first_count r rs e = ltb-true _ _ (and_parts _ _ ((and_parts _ _ e).0)).0

pub rest_are_runs : (r : Run) (rs : List Run) → are_runs (r ∷ rs) ≡ true → are_runs rs ≡ true
rest_are_runs r rs e = (and_parts _ _ e).1

first_turns : (r : Run) (rs : List Run) → are_runs (r ∷ rs) ≡ true → turns_next r.dir rs ≡ true
first_turns r rs e = (and_parts _ _ ((and_parts _ _ e).0)).1

from_parts : (r : Run) (rs : List Run) → 0 < r.count → turns_next r.dir rs ≡ true → are_runs rs ≡ true → are_runs (r ∷ rs) ≡ true
from_parts r rs a b c = and_from _ _ (and_from _ _ (lt-ltb _ _ a) b) c

-- one step more of the last run
pub steps_of-prolonged : (rs : List Run) (d : Dir) → goes_on rs d ≡ true → steps_of (prolonged rs) ≡ steps_of rs ++ d ∷ []
steps_of-prolonged [] d e = absurd (false≢true e)
steps_of-prolonged (r ∷ []) d e =
    append-nil (replicate (r.count + 1) r.dir) ∙ sym (replicate_more r.count r.dir)
    ∙ ap (λ v. replicate r.count r.dir ++ v ∷ []) (same_direction r.dir d (eqb-true _ _ e))
    ∙ ap (λ xs. xs ++ d ∷ []) (sym (append-nil (replicate r.count r.dir)))
steps_of-prolonged (r ∷ s ∷ rs) d e =
    ap (λ xs. replicate r.count r.dir ++ xs) (steps_of-prolonged (s ∷ rs) d e)
    ∙ sym (append_assoc (replicate r.count r.dir) (steps_of (s ∷ rs)) (d ∷ []))

pub are_runs-prolonged : (rs : List Run) → are_runs rs ≡ true → are_runs (prolonged rs) ≡ true
are_runs-prolonged [] e = refl
are_runs-prolonged (r ∷ []) e = from_parts (record { dir = r.dir; count = r.count + 1 }) [] (omega arith) refl refl
are_runs-prolonged (r ∷ s ∷ []) e =
    from_parts r (prolonged (s ∷ [])) (first_count r (s ∷ []) e) (first_turns r (s ∷ []) e) (are_runs-prolonged (s ∷ []) (rest_are_runs r (s ∷ []) e))
are_runs-prolonged (r ∷ s ∷ t ∷ rs) e =
    from_parts r (prolonged (s ∷ t ∷ rs)) (first_count r (s ∷ t ∷ rs) e) (first_turns r (s ∷ t ∷ rs) e) (are_runs-prolonged (s ∷ t ∷ rs) (rest_are_runs r (s ∷ t ∷ rs) e))

-- a run of one step
abbrev pub one_step : Dir → Run
one_step d = record { dir = d; count = 1 }

pub steps_of-push : (rs : List Run) (d : Dir) → steps_of (rs ++ one_step d ∷ []) ≡ steps_of rs ++ d ∷ []
steps_of-push [] d = refl
steps_of-push (r ∷ rs) d =
    ap (λ xs. replicate r.count r.dir ++ xs) (steps_of-push rs d)
    ∙ sym (append_assoc (replicate r.count r.dir) (steps_of rs) (d ∷ []))

pub are_runs-push : (rs : List Run) (d : Dir) → are_runs rs ≡ true → goes_on rs d ≡ false → are_runs (rs ++ one_step d ∷ []) ≡ true
are_runs-push [] d e f = refl
are_runs-push (r ∷ []) d e f = from_parts r (one_step d ∷ []) (first_count r [] e) (ap not f) refl
are_runs-push (r ∷ s ∷ rs) d e f =
    from_parts r (s ∷ rs ++ one_step d ∷ []) (first_count r (s ∷ rs) e) (first_turns r (s ∷ rs) e) (are_runs-push (s ∷ rs) d (rest_are_runs r (s ∷ rs) e) f)

-- runs of a way within the range are short
pub AreShort-from_within : (p : GridPoint) (rs : List Run) → AllByRecursion IsWithin (points_from p (steps_of rs)) → AllByRecursion IsShort rs
AreShort-from_within p [] h = tt
AreShort-from_within p (r ∷ rs) h = (
  run_short p r.count r.dir (points_of_first IsWithin p (replicate r.count r.dir) (steps_of rs) h),
  AreShort-from_within (after p (replicate r.count r.dir)) rs (points_of_second IsWithin p (replicate r.count r.dir) (steps_of rs) h),
)

-- runs have steps
pub steps_of-some : (rs : List Run) → are_runs rs ≡ true → 0 < length rs → 0 < length (steps_of rs)
steps_of-some [] e h = absurd (omega arith)
steps_of-some (r ∷ rs) e h =
    let some : 0 < r.count = first_count r rs e in
    omega (arith, length-append (replicate r.count r.dir) (steps_of rs), length-replicate r.count r.dir)

pub runs-some : (rs : List Run) → 0 < length (steps_of rs) → 0 < length rs
runs-some [] h = absurd (omega arith)
runs-some (r ∷ rs) h = omega arith

-- the first direction of steps
first_of-replicate : (n : ℕ) (d : Dir) (ds : List Dir) → 0 < n → slice_get (replicate n d ++ ds) 0 ≡ Some d
first_of-replicate zero d ds h = absurd (omega arith)
first_of-replicate (suc n) d ds h = refl

pub first_of-steps : (rs : List Run) (r : Run) → are_runs rs ≡ true → 0 < length rs → r ≡ get_or rs 0 r → slice_get (steps_of rs) 0 ≡ Some r.dir
first_of-steps [] r e h i = absurd (omega arith)
first_of-steps (q ∷ rs) r e h i = first_of-replicate q.count q.dir (steps_of rs) (first_count q rs e) ∙ ap (λ (v : Run). Some v.dir) (sym i)

-- the last direction of steps
last_of-cons : (d : Dir) (ds : List Dir) → 0 < length ds → last_of (d ∷ ds) ≡ last_of ds
last_of-cons d [] h = absurd (omega arith)
last_of-cons d (e ∷ ds) h = refl

last_of-append : (ds es : List Dir) → 0 < length es → last_of (ds ++ es) ≡ last_of es
last_of-append [] es h = refl
last_of-append (d ∷ ds) es h = last_of-cons d (ds ++ es) (omega (arith, length-append ds es)) ∙ last_of-append ds es h

pub last_of-push : (ds : List Dir) (d : Dir) → last_of (ds ++ d ∷ []) ≡ Some d
last_of-push ds d = last_of-append ds (d ∷ []) (lit< tt)

last_of-replicate : (n : ℕ) (d : Dir) → 0 < n → last_of (replicate n d ++ []) ≡ Some d
last_of-replicate zero d h = absurd (omega arith)
last_of-replicate (suc n) d h =
    let more : suc n ≡ n + 1 = omega arith in
    ap last_of (append-nil (replicate (suc n) d) ∙ ap (λ k. replicate k d) more ∙ sym (replicate_more n d)) ∙ last_of-push (replicate n d) d

pub last_of-steps : (rs : List Run) (i : ℕ) (r : Run) → are_runs rs ≡ true → length rs ≡ i + 1 → r ≡ get_or rs i r → last_of (steps_of rs) ≡ Some r.dir
last_of-steps [] i r e h f = absurd (omega arith)
last_of-steps (q ∷ []) i r e h f =
    let first : 0 ≡ i = omega arith in
    let it : q ≡ r = sym (f ∙ ap (λ k. get_or (q ∷ []) k r) (sym first)) in
    last_of-replicate q.count q.dir (first_count q [] e) ∙ ap (λ (v : Run). Some v.dir) it
last_of-steps (q ∷ s ∷ rs) zero r e h f = absurd (omega arith)
last_of-steps (q ∷ s ∷ rs) (suc i) r e h f =
    let rest = rest_are_runs q (s ∷ rs) e in
    last_of-append (replicate q.count q.dir) (steps_of (s ∷ rs)) (steps_of-some (s ∷ rs) rest (omega arith))
    ∙ last_of-steps (s ∷ rs) i r rest (omega arith) f

-- what the last run says
pub goes_on_at : (rs : List Run) (d : Dir) (i : ℕ) (r : Run) → length rs ≡ i + 1 → r ≡ get_or rs i r → goes_on rs d ≡ eqb (number_of r.dir) (number_of d)
goes_on_at [] d i r h f = absurd (omega arith)
goes_on_at (q ∷ []) d i r h f =
    let first : i ≡ 0 = omega arith in
    ap (λ (v : Run). eqb (number_of v.dir) (number_of d)) (sym (f ∙ ap (λ k. get_or (q ∷ []) k r) first))
goes_on_at (q ∷ s ∷ rs) d zero r h f = absurd (omega arith)
goes_on_at (q ∷ s ∷ rs) d (suc i) r h f = goes_on_at (s ∷ rs) d i r (omega arith) f

pub prolonged_at : (rs : List Run) (i : ℕ) (r : Run) → length rs ≡ i + 1 → r ≡ get_or rs i r → set rs i (record { dir = r.dir; count = r.count + 1 }) ≡ prolonged rs
prolonged_at [] i r h f = absurd (omega arith)
prolonged_at (q ∷ []) zero r h f = ap (λ (v : Run). record { dir = v.dir; count = v.count + 1 } ∷ []) f
prolonged_at (q ∷ []) (suc i) r h f = absurd (omega arith)
prolonged_at (q ∷ s ∷ rs) zero r h f = absurd (omega arith)
prolonged_at (q ∷ s ∷ rs) (suc i) r h f = ap (λ (xs : List Run). q ∷ xs) (prolonged_at (s ∷ rs) i r (omega arith) f)

-- what reads of runs fall back on
abbrev pub no_run : Run
no_run = record { dir = dir.N; count = 0 }

-- the steps of the runs from place i on: those of run i, and the rest
pub steps_of-drop : (rs : List Run) (i : ℕ) → i < length rs
    → steps_of (drop i rs) ≡ replicate (get_or rs i no_run).count (get_or rs i no_run).dir ++ steps_of (drop (i + 1) rs)
steps_of-drop rs i h = ap steps_of (drop_more rs i no_run h)

-- a way over these runs
pub after-drop : (p : GridPoint) (rs : List Run) (i : ℕ) → i < length rs
    → after p (steps_of (drop i rs)) ≡ after (after p (replicate (get_or rs i no_run).count (get_or rs i no_run).dir)) (steps_of (drop (i + 1) rs))
after-drop p rs i h = ap (after p) (steps_of-drop rs i h) ∙ after-append p (replicate (get_or rs i no_run).count (get_or rs i no_run).dir) (steps_of (drop (i + 1) rs))

pub list_all-drop : (test : GridPoint → Bool) (p : GridPoint) (rs : List Run) (i : ℕ) → i < length rs
    → list_all test (points_from p (steps_of (drop i rs)))
    ≡ (list_all test (points_from p (replicate (get_or rs i no_run).count (get_or rs i no_run).dir))
    && list_all test (points_from (after p (replicate (get_or rs i no_run).count (get_or rs i no_run).dir)) (steps_of (drop (i + 1) rs))))
list_all-drop test p rs i h =
    ap (λ ds. list_all test (points_from p ds)) (steps_of-drop rs i h)
    ∙ list_all-points-append test p (replicate (get_or rs i no_run).count (get_or rs i no_run).dir) (steps_of (drop (i + 1) rs))

pub points_of_run : (p : GridPoint) (rs : List Run) (i : ℕ) → i < length rs → AllByRecursion IsWithin (points_from p (steps_of (drop i rs)))
    → AllByRecursion IsWithin (points_from p (replicate (get_or rs i no_run).count (get_or rs i no_run).dir))
points_of_run p rs i h all =
    points_of_first IsWithin p (replicate (get_or rs i no_run).count (get_or rs i no_run).dir) (steps_of (drop (i + 1) rs))
    (subst (λ ds. AllByRecursion IsWithin (points_from p ds)) (steps_of-drop rs i h) all)

pub points_of_rest : (p : GridPoint) (rs : List Run) (i : ℕ) → i < length rs → AllByRecursion IsWithin (points_from p (steps_of (drop i rs)))
    → AllByRecursion IsWithin (points_from (after p (replicate (get_or rs i no_run).count (get_or rs i no_run).dir)) (steps_of (drop (i + 1) rs)))
points_of_rest p rs i h all =
    points_of_second IsWithin p (replicate (get_or rs i no_run).count (get_or rs i no_run).dir) (steps_of (drop (i + 1) rs))
    (subst (λ ds. AllByRecursion IsWithin (points_from p ds)) (steps_of-drop rs i h) all)

-- a run that leaves the range, and one that stays
pub run_out : (p : GridPoint) (rs : List Run) (i : ℕ) → i < length rs
    → end_within p (replicate (get_or rs i no_run).count (get_or rs i no_run).dir) ≡ None
    → list_all is_within (points_from p (steps_of (drop i rs))) ≡ false
run_out p rs i h e =
    list_all-drop is_within p rs i h ∙ and_left _ _ (from_end_none p (replicate (get_or rs i no_run).count (get_or rs i no_run).dir) e)

pub run_on : (p : GridPoint) (rs : List Run) (i : ℕ) (q : GridPoint) → i < length rs
    → end_within p (replicate (get_or rs i no_run).count (get_or rs i no_run).dir) ≡ Some q
    → (list_all is_within (points_from q (steps_of (drop (i + 1) rs))) ≡ list_all is_within (points_from p (steps_of (drop i rs)))) × IsWithin q
run_on p rs i q h e =
    let run = replicate (get_or rs i no_run).count (get_or rs i no_run).dir in
    let rest = steps_of (drop (i + 1) rs) in
    let found = from_end_some p run q e in (
      ap (λ (r : GridPoint). list_all is_within (points_from r rest)) (sym found.1)
          ∙ ap (λ b. b && list_all is_within (points_from (after p run) rest)) (sym found.0)
          ∙ sym (list_all-drop is_within p rs i h),
      subst IsWithin found.1 (last_of-points IsWithin p run (All-from_test (points_from p run) found.0)),
    )

-- a walk with one step more
pub IsWalk-push : (p : GridPoint) (ds : List Dir) (d : Dir) → IsWalk (record { start = p; steps = ds }) → IsWithin (step_from (after p ds) d)
    → IsWalk (record { start = p; steps = ds ++ d ∷ [] })
IsWalk-push p ds d walk next = record {
  some = omega (arith, length-append ds (d ∷ []));
  within = points_more IsWithin p ds d walk.within next;
}
