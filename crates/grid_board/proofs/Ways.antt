-- Points of ways on a board, and the doubled points that they take.
use Rattle.std.proofs.Common.{◌≡◌, refl, sym, ◌∙◌, ap, ℕ, zero, suc, ◌+◌, ◌<◌, ◌≤◌, Bool, true, ℤ, ◌+ℤ◌, ◌≤ℤ◌, List, [], ◌∷◌, ◌++◌, length, get_or, drop, replicate, arith}
use Rattle.std.specs.List.{list_all}
use Rattle.std.proofs.lemmas.Int.{ints}
use Rattle.std.proofs.lemmas.Bool.{and_parts}
use Rattle.std.proofs.lemmas.List.{replicate_more}
use Rattle.octi_grid.specs.declared.dir.Dir.{Dir}
use Rattle.octi_grid.specs.declared.walk.Run.{Run}
use Rattle.octi_grid.specs.declared.point.GridPoint.{GridPoint}
use Rattle.octi_grid.specs.Ways.{after, doubled, doubled_from, east_of, north_of, points_from, step_from, CanStep, IsWithin}
use Rattle.octi_grid.specs.Runs.{steps_of}
use Rattle.octi_grid.proofs.WayLemmas.{after-append}
use Rattle.octi_grid.proofs.RunLemmas.{list_all-drop, no_run, steps_of-drop}
use Rattle.grid_board.specs.declared.bounds.Bounds.{Bounds}
use Rattle.grid_board.specs.Boards.{AreBounds, contains, doubled_bounds}
use Rattle.grid_board.specs.Taking.{behind, flagged}
use Rattle.grid_board.proofs.Within.{inside_facts, inside_test}
use Rattle.grid_board.proofs.Marks.{flagged-append}

-- a point of a board lies within what a step or a doubled point needs
pub within_board : (b : Bounds) (p : GridPoint) → AreBounds b → contains b p ≡ true → IsWithin p
within_board b p h e =
    let f = inside_facts b p e in
    record { across = omega (arith, ints, f.west, f.east, h.left.low, h.right.high); along = omega (arith, ints, f.south, f.north, h.bottom.low, h.top.high) }

pub can_step : (b : Bounds) (p : GridPoint) → AreBounds b → contains b p ≡ true → CanStep p
can_step b p h e =
    let f = inside_facts b p e in
    record { across = omega (arith, ints, f.west, f.east, h.left.low, h.right.high); along = omega (arith, ints, f.south, f.north, h.bottom.low, h.top.high) }

pub doubled_can_step : (b : Bounds) (p : GridPoint) → AreBounds b → contains b p ≡ true → CanStep (doubled p)
doubled_can_step b p h e =
    let f = inside_facts b p e in
    record { across = omega (arith, ints, f.west, f.east, h.left.low, h.right.high); along = omega (arith, ints, f.south, f.north, h.bottom.low, h.top.high) }

twice_between : (low z high : ℤ) → low ≤ℤ z → z ≤ℤ high → ((low +ℤ low) ≤ℤ (z +ℤ z)) × ((z +ℤ z) ≤ℤ (high +ℤ high))
twice_between low z high h k = (omega (arith, ints), omega (arith, ints))

middle_between : (low z e high : ℤ) → low ≤ℤ z → z ≤ℤ high → low ≤ℤ (z +ℤ e) → (z +ℤ e) ≤ℤ high → ((low +ℤ low) ≤ℤ ((z +ℤ z) +ℤ e)) × (((z +ℤ z) +ℤ e) ≤ℤ (high +ℤ high))
middle_between low z e high h k l m = (omega (arith, ints), omega (arith, ints))

pub doubled_inside : (b : Bounds) (p : GridPoint) → contains b p ≡ true → contains (doubled_bounds b) (doubled p) ≡ true
doubled_inside b p e =
    let f = inside_facts b p e in
    let xs = twice_between b.left p.x b.right f.west f.east in
    let ys = twice_between b.bottom p.y b.top f.south f.north in
    inside_test (doubled_bounds b) (doubled p) (record { west = xs.0; east = xs.1; south = ys.0; north = ys.1 })

pub middle_inside : (b : Bounds) (p : GridPoint) (d : Dir) → contains b p ≡ true → contains b (step_from p d) ≡ true → contains (doubled_bounds b) (step_from (doubled p) d) ≡ true
middle_inside b p d e k =
    let f = inside_facts b p e in
    let g = inside_facts b (step_from p d) k in
    let xs = middle_between b.left p.x (east_of d) b.right f.west f.east g.west g.east in
    let ys = middle_between b.bottom p.y (north_of d) b.top f.south f.north g.south g.north in
    inside_test (doubled_bounds b) (step_from (doubled p) d) (record { west = xs.0; east = xs.1; south = ys.0; north = ys.1 })

-- what holds of each point of a straight way holds where it has come to
pub first_holds : (test : GridPoint → Bool) (p : GridPoint) (ds : List Dir) → list_all test (points_from p ds) ≡ true → test p ≡ true
first_holds test p [] h = (and_parts (test p) true h).0
first_holds test p (d ∷ ds) h = (and_parts (test p) (list_all test (points_from (step_from p d) ds)) h).0

pub rest_holds : (test : GridPoint → Bool) (p : GridPoint) (d : Dir) (ds : List Dir) → list_all test (points_from p (d ∷ ds)) ≡ true → list_all test (points_from (step_from p d) ds) ≡ true
rest_holds test p d ds h = (and_parts (test p) (list_all test (points_from (step_from p d) ds)) h).1

pub last_holds : (test : GridPoint → Bool) (p : GridPoint) (ds : List Dir) → list_all test (points_from p ds) ≡ true → test (after p ds) ≡ true
last_holds test p [] all = first_holds test p [] all
last_holds test p (d ∷ ds) all = last_holds test (step_from p d) ds (rest_holds test p d ds all)

pub holds_along : (test : GridPoint → Bool) (p : GridPoint) (d : Dir) (n m : ℕ) → n ≤ m → list_all test (points_from p (replicate m d)) ≡ true → test (after p (replicate n d)) ≡ true
holds_along test p d zero m h all = first_holds test p (replicate m d) all
holds_along test p d (suc n) zero h all = absurd (omega arith)
holds_along test p d (suc n) (suc m) h all = holds_along test (step_from p d) d n m (omega arith) (rest_holds test p d (replicate m d) all)

pub after_more : (p : GridPoint) (n : ℕ) (d : Dir) → after p (replicate (n + 1) d) ≡ step_from (after p (replicate n d)) d
after_more p n d = ap (after p) (sym (replicate_more n d)) ∙ after-append p (replicate n d) (d ∷ [])

-- the doubled points behind the start of a way, part by part
pub behind-append : (p : GridPoint) (ds es : List Dir) → behind p (ds ++ es) ≡ behind p ds ++ behind (after p ds) es
behind-append p [] es = refl
behind-append p (d ∷ ds) es = ap (λ ps. step_from (doubled p) d ∷ doubled (step_from p d) ∷ ps) (behind-append (step_from p d) ds es)

pub doubled_from-behind : (p : GridPoint) (ds : List Dir) → doubled_from p ds ≡ doubled p ∷ behind p ds
doubled_from-behind p [] = refl
doubled_from-behind p (d ∷ ds) = ap (λ ps. doubled p ∷ step_from (doubled p) d ∷ ps) (doubled_from-behind (step_from p d) ds)

pub flagged_more : (b : Bounds) (v : Bool) (flags now new : List Bool) (p at : GridPoint) (n : ℕ) (d : Dir) → now ≡ flagged b v flags (behind p (replicate n d)) → at ≡ after p (replicate n d) →
    new ≡ flagged b v now (behind at (d ∷ [])) → new ≡ flagged b v flags (behind p (replicate (n + 1) d))
flagged_more b v flags now new p at n d before here step =
    step
    ∙ ap (λ fs. flagged b v fs (behind at (d ∷ []))) before
    ∙ ap (λ q. flagged b v (flagged b v flags (behind p (replicate n d))) (behind q (d ∷ []))) here
    ∙ sym (flagged-append b v (behind p (replicate n d)) (behind (after p (replicate n d)) (d ∷ [])) flags)
    ∙ ap (flagged b v flags) (sym (behind-append p (replicate n d) (d ∷ [])))
    ∙ ap (λ ds. flagged b v flags (behind p ds)) (replicate_more n d)

-- one run of the rest
pub flagged_run : (b : Bounds) (v : Bool) (now new : List Bool) (at end : GridPoint) (rs : List Run) (i : ℕ) → i < length rs →
    new ≡ flagged b v now (behind at (replicate (get_or rs i no_run).count (get_or rs i no_run).dir)) → end ≡ after at (replicate (get_or rs i no_run).count (get_or rs i no_run).dir) →
    flagged b v new (behind end (steps_of (drop (i + 1) rs))) ≡ flagged b v now (behind at (steps_of (drop i rs)))
flagged_run b v now new at end rs i h step here =
    let run : List Dir = replicate (get_or rs i no_run).count (get_or rs i no_run).dir in
    let rest : List Dir = steps_of (drop (i + 1) rs) in
    ap (λ fs. flagged b v fs (behind end rest)) step
    ∙ ap (λ q. flagged b v (flagged b v now (behind at run)) (behind q rest)) here
    ∙ sym (flagged-append b v (behind at run) (behind (after at run) rest) now)
    ∙ ap (flagged b v now) (sym (behind-append at run rest))
    ∙ ap (λ ds. flagged b v now (behind at ds)) (sym (steps_of-drop rs i h))

pub run_holds : (test : GridPoint → Bool) (p : GridPoint) (rs : List Run) (i : ℕ) → i < length rs → list_all test (points_from p (steps_of (drop i rs))) ≡ true →
    list_all test (points_from p (replicate (get_or rs i no_run).count (get_or rs i no_run).dir)) ≡ true
run_holds test p rs i h all =
    (and_parts (list_all test (points_from p (replicate (get_or rs i no_run).count (get_or rs i no_run).dir)))
    (list_all test (points_from (after p (replicate (get_or rs i no_run).count (get_or rs i no_run).dir)) (steps_of (drop (i + 1) rs)))) (sym (list_all-drop test p rs i h) ∙ all)).0

pub rest_of_runs_holds : (test : GridPoint → Bool) (p : GridPoint) (rs : List Run) (i : ℕ) → i < length rs → list_all test (points_from p (steps_of (drop i rs))) ≡ true →
    list_all test (points_from (after p (replicate (get_or rs i no_run).count (get_or rs i no_run).dir)) (steps_of (drop (i + 1) rs))) ≡ true
rest_of_runs_holds test p rs i h all =
    (and_parts (list_all test (points_from p (replicate (get_or rs i no_run).count (get_or rs i no_run).dir)))
    (list_all test (points_from (after p (replicate (get_or rs i no_run).count (get_or rs i no_run).dir)) (steps_of (drop (i + 1) rs)))) (sym (list_all-drop test p rs i h) ∙ all)).1
