-- The words of a walk, taken one at a time.
use Rattle.std.proofs.Common.{◌≡◌, ℕ, ◌<◌, Bool, false, cond, ◌&&◌, ltb, leb, length, unsigned_abs, ℤ, List, [], ◌∷◌, Option, Some, None, refl, ap, sym, ◌∙◌}
use Rattle.std.proofs.lemmas.Bool.{and_left, and_right, lt-leb}
use Rattle.octi_grid.specs.declared.walk.Run.{Run}
use Rattle.octi_grid.specs.declared.point.GridPoint.{GridPoint}
use Rattle.octi_grid.specs.Ways.{is_within}
use Rattle.octi_grid.specs.Runs.{are_runs, steps_of}
use Rattle.octi_grid.specs.Walks.{walk_of as grid_walk, walk_by}
use Rattle.octi_grid.proofs.WayLemmas.{outside_at_start}
use Rattle.decimal_text.specs.Lines.{words_behind}
use Rattle.cert_file.specs.Forms.{walk_with, walk_of}

pub no_second : (s : ℕ) (a b n : List ℕ) → words_behind a ≡ n ∷ words_behind b → words_behind b ≡ [] → None ≡ walk_of s (words_behind a)
no_second s a b n e f = sym (ap (walk_of s) (e ∙ ap (λ (ws : List (List ℕ)). n ∷ ws) f))

pub no_x : (s : ℕ) (n : ℤ) (y : Option ℤ) (r : Option (List Run)) → None ≡ walk_with s (Some n) None y r
no_x s n y r = refl

pub no_y : (s : ℕ) (n x : ℤ) (r : Option (List Run)) → None ≡ walk_with s (Some n) (Some x) None r
no_y s n x r = refl

-- a walk that starts out of range
outside : (p : GridPoint) (rs : List Run) → is_within p ≡ false → None ≡ walk_by p rs
outside p rs out =
    sym (ap (λ (b : Bool). cond b (Some (grid_walk p rs)) None) (and_right (ltb 0 (length rs) && are_runs rs) _ (outside_at_start p (steps_of rs) out)))

abbrev point : ℤ → ℤ → GridPoint
point x y = record { x = x; y = y }

pub far_across : (x y : ℤ) (rs : List Run) → 10000 < unsigned_abs x → None ≡ walk_by (point x y) rs
far_across x y rs far = outside (point x y) rs (and_left (leb (unsigned_abs x) 10000) (leb (unsigned_abs y) 10000) (lt-leb (unsigned_abs x) 10000 far))

pub far_along : (x y : ℤ) (rs : List Run) → 10000 < unsigned_abs y → None ≡ walk_by (point x y) rs
far_along x y rs far = outside (point x y) rs (and_right (leb (unsigned_abs x) 10000) (leb (unsigned_abs y) 10000) (lt-leb (unsigned_abs y) 10000 far))
