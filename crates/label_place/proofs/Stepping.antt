-- The steps of walks, one after another.
use Rattle.std.proofs.Common.{◌≡◌, ℕ, ◌+◌, ◌<◌, Bool, ◌||◌, List, [], ◌∷◌, ◌++◌, length, get_or, drop, replicate, refl, ap, sym, ◌∙◌, arith, append_assoc}
use Rattle.std.specs.List.{flat_map, list_any, range_with_len}
use Rattle.std.proofs.lemmas.List.{append-nil, map-append, replicate_more}
use Rattle.std.proofs.lemmas.Grind.{flat_map-append}
use Rattle.std.proofs.lemmas.List.Folds.{list_any-append}
use Rattle.octi_grid.specs.declared.dir.Dir.{Dir}
use Rattle.octi_grid.specs.declared.point.GridPoint.{GridPoint}
use Rattle.octi_grid.specs.declared.walk.Run.{Run}
use Rattle.octi_grid.specs.Ways.{after, step_from}
use Rattle.octi_grid.specs.Runs.{steps_of}
use Rattle.octi_grid.proofs.RunLemmas.{no_run, steps_of-drop}
use Rattle.line_offsets.specs.Shifts.{drawn}
use Rattle.svg_writer.specs.declared.bounds.Bounds.{Bounds}
use Rattle.svg_writer.proofs.Ranges.{range_more}
use Rattle.label_place.specs.declared.things.Thing.{Thing}
use Rattle.label_place.specs.declared.things.Thing.TheVariants.{Area, Line}
use Rattle.label_place.specs.Boxes.{holds, wider}
use Rattle.label_place.specs.Strokes.{step_points, way_points}
use Rattle.label_place.specs.Grids.{meets, strokes_from}
use Rattle.label_place.specs.Signs.{areas}

pub strokes-append : (m : ℕ) (p : GridPoint) (ds es : List Dir) → strokes_from m p (ds ++ es) ≡ strokes_from m p ds ++ strokes_from m (after p ds) es
strokes-append m p [] es = refl
strokes-append m p (d ∷ ds) es = ap (λ (ts : List Thing). Line (record { start = drawn p; dir = d; margin = m }) ∷ ts) (strokes-append m (step_from p d) ds es)

-- a step more of a run
pub stroke_more : (m : ℕ) (p at : GridPoint) (n : ℕ) (d : Dir) → at ≡ after p (replicate n d) → strokes_from m p (replicate (n + 1) d) ≡ strokes_from m p (replicate n d) ++ strokes_from m at (d ∷ [])
stroke_more m p at n d e = ap (strokes_from m p) (sym (replicate_more n d))
    ∙ strokes-append m p (replicate n d) (d ∷ [])
    ∙ ap (λ (q : GridPoint). strokes_from m p (replicate n d) ++ strokes_from m q (d ∷ [])) (sym e)

-- the steps of a run and those of later ones
pub run_more : (m : ℕ) (at next : GridPoint) (rs : List Run) (i : ℕ) (before whole : List Thing) → i < length rs → next ≡ after at (replicate (get_or rs i no_run).count (get_or rs i no_run).dir)
    → before ++ strokes_from m at (steps_of (drop i rs)) ≡ whole
    → (before ++ strokes_from m at (replicate (get_or rs i no_run).count (get_or rs i no_run).dir)) ++ strokes_from m next (steps_of (drop (i + 1) rs)) ≡ whole
run_more m at next rs i before whole h e all =
    let ds = replicate (get_or rs i no_run).count (get_or rs i no_run).dir in
    let rest = steps_of (drop (i + 1) rs) in
    append_assoc before (strokes_from m at ds) (strokes_from m next rest)
    ∙ ap (λ (q : GridPoint). before ++ (strokes_from m at ds ++ strokes_from m q rest)) e
    ∙ ap (λ (ts : List Thing). before ++ ts) (sym (strokes-append m at ds rest) ∙ sym (ap (strokes_from m at) (steps_of-drop rs i h)))
    ∙ all

-- a box meets some step of a way exactly where it comes near to a point of it
pub strokes_met : (box : Bounds) (m : ℕ) (p : GridPoint) (ds : List Dir) → list_any (meets box) (strokes_from m p ds) ≡ list_any (holds (wider m box)) (way_points p ds)
strokes_met box m p [] = refl
strokes_met box m p (d ∷ ds) =
    ap (λ (b : Bool). list_any (holds (wider m box)) (step_points (drawn p) d) || b) (strokes_met box m (step_from p d) ds)
    ∙ sym (list_any-append (holds (wider m box)) (step_points (drawn p) d) (way_points (step_from p d) ds))

-- numbered lists, one number more
pub numbered : {A : Type 0} (f : ℕ → List A) (a n j : ℕ) → a + n ≡ j
    → flat_map f (range_with_len a (n + 1)) ≡ flat_map f (range_with_len a n) ++ f j
numbered f a n j e = ap (flat_map f) (range_more a n j e) ∙ flat_map-append f (range_with_len a n) (j ∷ [])
    ∙ ap (λ xs. flat_map f (range_with_len a n) ++ xs) (append-nil (f j))

pub areas-numbered : (f : ℕ → List Bounds) (n : ℕ) → areas (flat_map f (range_with_len 0 (n + 1))) ≡ areas (flat_map f (range_with_len 0 n)) ++ areas (f n)
areas-numbered f n = ap areas (numbered f 0 n n (omega arith)) ∙ map-append (λ (b : Bounds). let t : Thing = Area b in t) (flat_map f (range_with_len 0 n)) (f n)
