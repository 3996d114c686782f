-- The bounds of a walk, run by run.
use Rattle.std.proofs.Common.{◌≡◌, ℕ, zero, suc, ◌+◌, ◌<◌, ℤ, pos, negsuc, ◌+ℤ◌, ◌-ℤ◌, ◌*ℤ◌, ◌≤ℤ◌, ◌⊎◌, inl, inr, List, [], ◌∷◌, ◌++◌, length, get_or, drop, replicate, fold, Option, Some, None, refl, ap, subst, sym, ◌∙◌, arith}
use Rattle.std.specs.Int.{int_min, int_max}
use Rattle.std.proofs.lemmas.Int.{ints, clamps}
use Rattle.std.proofs.lemmas.List.{drop_more}
use Rattle.octi_grid.specs.declared.dir.Dir.{Dir}
use Rattle.octi_grid.specs.declared.dir.Dir.TheVariants as dir
use Rattle.octi_grid.specs.declared.point.GridPoint.{GridPoint}
use Rattle.octi_grid.specs.declared.walk.Run.{Run}
use Rattle.octi_grid.specs.Ways.{east_of, north_of, step_from, after, points_from, moved}
use Rattle.octi_grid.specs.Runs.{steps_of}
use Rattle.octi_grid.proofs.WayLemmas.{after-replicate}
use Rattle.octi_grid.proofs.RunLemmas.{no_run}
use Rattle.line_offsets.specs.declared.corner.Corner.{Corner}
use Rattle.line_offsets.specs.Shifts.{drawn}
use Rattle.svg_writer.specs.declared.bounds.Bounds.{Bounds}
use Rattle.svg_writer.specs.Picture.{bounds_at, widened, bounds_with}

-- the bounds hold a point
pub record Holds (b : Bounds) (c : Corner) : Type 0 where
  pub left : b.left ≤ℤ c.x
  pub right : c.x ≤ℤ b.right
  pub top : b.top ≤ℤ c.y
  pub bottom : c.y ≤ℤ b.bottom

abbrev pub bounds : ℤ → ℤ → ℤ → ℤ → Bounds
bounds l r t b = record { left = l; right = r; top = t; bottom = b }

pub same_bounds : (a b c d e f g h : ℤ) → a ≡ e → b ≡ f → c ≡ g → d ≡ h → bounds a b c d ≡ bounds e f g h
same_bounds a b c d e f g h p q r s = ap (λ (z : ℤ). bounds z b c d) p ∙ ap (λ (z : ℤ). bounds e z c d) q ∙ ap (λ (z : ℤ). bounds e f z d) r ∙ ap (bounds e f g) s

pub widened_holds : (b : Bounds) (c : Corner) → Holds (widened b c) c
widened_holds b c = record { left = omega (arith, ints, clamps); right = omega (arith, ints, clamps); top = omega (arith, ints, clamps); bottom = omega (arith, ints, clamps) }

pub widened_same : (b : Bounds) (c : Corner) → Holds b c → widened b c ≡ b
widened_same b c h =
    same_bounds (int_min b.left c.x) (int_max b.right c.x) (int_min b.top c.y) (int_max b.bottom c.y) b.left b.right b.top b.bottom
    (omega (arith, ints, clamps, h.left)) (omega (arith, ints, clamps, h.right)) (omega (arith, ints, clamps, h.top)) (omega (arith, ints, clamps, h.bottom))

-- a number between two others
abbrev IsBetween : ℤ → ℤ → ℤ → Type 0
IsBetween a b c = ((a ≤ℤ b) × (b ≤ℤ c)) ⊎ ((c ≤ℤ b) × (b ≤ℤ a))

skip_min : (l a b c : ℤ) → l ≤ℤ a → IsBetween a b c → int_min (int_min l b) c ≡ int_min l c
skip_min l a b c low (inl h) = let p = h.0 in let q = h.1 in omega (arith, ints, clamps)
skip_min l a b c low (inr h) = let p = h.0 in let q = h.1 in omega (arith, ints, clamps)

skip_max : (l a b c : ℤ) → a ≤ℤ l → IsBetween a b c → int_max (int_max l b) c ≡ int_max l c
skip_max l a b c high (inl h) = let p = h.0 in let q = h.1 in omega (arith, ints, clamps)
skip_max l a b c high (inr h) = let p = h.0 in let q = h.1 in omega (arith, ints, clamps)

skip : (b : Bounds) (p q r : Corner) → Holds b p → IsBetween p.x q.x r.x → IsBetween p.y q.y r.y → widened (widened b q) r ≡ widened b r
skip b p q r h x y =
    same_bounds (int_min (int_min b.left q.x) r.x) (int_max (int_max b.right q.x) r.x) (int_min (int_min b.top q.y) r.y) (int_max (int_max b.bottom q.y) r.y)
    (int_min b.left r.x) (int_max b.right r.x) (int_min b.top r.y) (int_max b.bottom r.y)
    (skip_min b.left p.x q.x r.x h.left x) (skip_max b.right p.x q.x r.x h.right x) (skip_min b.top p.y q.y r.y h.top y) (skip_max b.bottom p.y q.y r.y h.bottom y)

-- a coordinate on the way of a run
rises : (a b c : ℤ) (n : ℕ) → b ≡ a +ℤ pos 1 → c ≡ b +ℤ pos n → IsBetween (pos 100 *ℤ a) (pos 100 *ℤ b) (pos 100 *ℤ c)
rises a b c n e f = inl (omega (arith, ints), omega (arith, ints))

falls : (a b c : ℤ) (n : ℕ) → b ≡ a +ℤ negsuc 0 → c ≡ b -ℤ pos n → IsBetween (pos 100 *ℤ a) (pos 100 *ℤ b) (pos 100 *ℤ c)
falls a b c n e f = inr (omega (arith, ints), omega (arith, ints))

stays : (a b c : ℤ) → b ≡ a +ℤ pos 0 → c ≡ b → IsBetween (pos 100 *ℤ a) (pos 100 *ℤ b) (pos 100 *ℤ c)
stays a b c e f = inl (omega (arith, ints), omega (arith, ints))

-- the same, drawn downwards
turned : (a b c : ℤ) → IsBetween a b c → IsBetween (pos 0 -ℤ a) (pos 0 -ℤ b) (pos 0 -ℤ c)
turned a b c (inl h) = let p = h.0 in let q = h.1 in inr (omega (arith, ints), omega (arith, ints))
turned a b c (inr h) = let p = h.0 in let q = h.1 in inl (omega (arith, ints), omega (arith, ints))

abbrev Passes : GridPoint → GridPoint → GridPoint → Type 0
Passes p q r = IsBetween (pos 100 *ℤ p.x) (pos 100 *ℤ q.x) (pos 100 *ℤ r.x) × IsBetween (pos 100 *ℤ p.y) (pos 100 *ℤ q.y) (pos 100 *ℤ r.y)

passes_to : (d : Dir) (p : GridPoint) (n : ℕ) → Passes p (step_from p d) (record { x = moved (step_from p d).x (east_of d) (pos n); y = moved (step_from p d).y (north_of d) (pos n) })
passes_to dir.N p n = (stays p.x (p.x +ℤ east_of dir.N) (moved (p.x +ℤ east_of dir.N) (east_of dir.N) (pos n)) refl refl, rises p.y (p.y +ℤ north_of dir.N) (moved (p.y +ℤ north_of dir.N) (north_of dir.N) (pos n)) n refl refl)
passes_to dir.NE p n = (rises p.x (p.x +ℤ east_of dir.NE) (moved (p.x +ℤ east_of dir.NE) (east_of dir.NE) (pos n)) n refl refl, rises p.y (p.y +ℤ north_of dir.NE) (moved (p.y +ℤ north_of dir.NE) (north_of dir.NE) (pos n)) n refl refl)
passes_to dir.E p n = (rises p.x (p.x +ℤ east_of dir.E) (moved (p.x +ℤ east_of dir.E) (east_of dir.E) (pos n)) n refl refl, stays p.y (p.y +ℤ north_of dir.E) (moved (p.y +ℤ north_of dir.E) (north_of dir.E) (pos n)) refl refl)
passes_to dir.SE p n = (rises p.x (p.x +ℤ east_of dir.SE) (moved (p.x +ℤ east_of dir.SE) (east_of dir.SE) (pos n)) n refl refl, falls p.y (p.y +ℤ north_of dir.SE) (moved (p.y +ℤ north_of dir.SE) (north_of dir.SE) (pos n)) n refl refl)
passes_to dir.S p n = (stays p.x (p.x +ℤ east_of dir.S) (moved (p.x +ℤ east_of dir.S) (east_of dir.S) (pos n)) refl refl, falls p.y (p.y +ℤ north_of dir.S) (moved (p.y +ℤ north_of dir.S) (north_of dir.S) (pos n)) n refl refl)
passes_to dir.SW p n = (falls p.x (p.x +ℤ east_of dir.SW) (moved (p.x +ℤ east_of dir.SW) (east_of dir.SW) (pos n)) n refl refl, falls p.y (p.y +ℤ north_of dir.SW) (moved (p.y +ℤ north_of dir.SW) (north_of dir.SW) (pos n)) n refl refl)
passes_to dir.W p n = (falls p.x (p.x +ℤ east_of dir.W) (moved (p.x +ℤ east_of dir.W) (east_of dir.W) (pos n)) n refl refl, stays p.y (p.y +ℤ north_of dir.W) (moved (p.y +ℤ north_of dir.W) (north_of dir.W) (pos n)) refl refl)
passes_to dir.NW p n = (falls p.x (p.x +ℤ east_of dir.NW) (moved (p.x +ℤ east_of dir.NW) (east_of dir.NW) (pos n)) n refl refl, rises p.y (p.y +ℤ north_of dir.NW) (moved (p.y +ℤ north_of dir.NW) (north_of dir.NW) (pos n)) n refl refl)

passes : (d : Dir) (p : GridPoint) (n : ℕ) → Passes p (step_from p d) (after (step_from p d) (replicate n d))
passes d p n = subst (Passes p (step_from p d)) (sym (after-replicate (step_from p d) n d)) (passes_to d p n)

abbrev hull : Option Bounds → List GridPoint → Option Bounds
hull o ps = fold bounds_with o ps

-- the first point may be there already
head_again : (b : Bounds) (p : GridPoint) (ds : List Dir) → hull (Some b) (points_from p ds) ≡ hull (Some (widened b (drawn p))) (points_from p ds)
head_again b p [] = ap (λ (c : Bounds). Some c) (sym (widened_same (widened b (drawn p)) (drawn p) (widened_holds b (drawn p))))
head_again b p (d ∷ ds) = ap (λ (c : Bounds). hull (Some c) (points_from (step_from p d) ds)) (sym (widened_same (widened b (drawn p)) (drawn p) (widened_holds b (drawn p))))

-- of a run only its end counts
over_run : (n : ℕ) (d : Dir) (ds : List Dir) (b : Bounds) (p : GridPoint) → Holds b (drawn p)
    → hull (Some b) (points_from p (replicate n d ++ ds)) ≡ hull (Some (widened b (drawn (after p (replicate n d))))) (points_from (after p (replicate n d)) ds)
over_run zero d ds b p holds = head_again b p ds
over_run (suc n) d ds b p holds =
    let q = step_from p d in
    let r = after q (replicate n d) in
    let way = passes d p n in
    ap (λ (c : Bounds). hull (Some c) (points_from q (replicate n d ++ ds))) (widened_same b (drawn p) holds)
    ∙ head_again b q (replicate n d ++ ds)
    ∙ over_run n d ds (widened b (drawn q)) q (widened_holds b (drawn q))
    ∙ ap (λ (c : Bounds). hull (Some c) (points_from r ds)) (skip b (drawn p) (drawn q) (drawn r) holds way.0 (turned (pos 100 *ℤ p.y) (pos 100 *ℤ q.y) (pos 100 *ℤ r.y) way.1))

-- bounds with a point hold it
pub holds_with : (o : Option Bounds) (b : Bounds) (p : GridPoint) → Some b ≡ bounds_with o p → Holds b (drawn p)
holds_with None b p e =
    let is : b ≡ bounds_at (drawn p) = cc in
    subst (λ (c : Bounds). Holds c (drawn p)) (sym is) (record { left = omega (arith, ints); right = omega (arith, ints); top = omega (arith, ints); bottom = omega (arith, ints) })
holds_with (Some c) b p e = let is : b ≡ widened c (drawn p) = cc in subst (λ (w : Bounds). Holds w (drawn p)) (sym is) (widened_holds c (drawn p))

-- the first point of a walk
pub hull_begins : (o : Option Bounds) (b : Bounds) (p : GridPoint) (ds : List Dir) → Some b ≡ bounds_with o p → hull (Some b) (points_from p ds) ≡ hull o (points_from p ds)
hull_begins o b p [] e = ap (λ (c : Bounds). Some c) (widened_same b (drawn p) (holds_with o b p e)) ∙ e
hull_begins o b p (d ∷ ds) e =
    ap (λ (c : Bounds). hull (Some c) (points_from (step_from p d) ds)) (widened_same b (drawn p) (holds_with o b p e))
    ∙ ap (λ (c : Option Bounds). hull c (points_from (step_from p d) ds)) e

-- one run more
pub hull_more : (rs : List Run) (i : ℕ) (b new : Bounds) (p q : GridPoint) (whole : Option Bounds) → i < length rs → q ≡ after p (replicate (get_or rs i no_run).count (get_or rs i no_run).dir)
    → Some new ≡ bounds_with (Some b) q → Holds b (drawn p) → hull (Some b) (points_from p (steps_of (drop i rs))) ≡ whole
    → hull (Some new) (points_from q (steps_of (drop (i + 1) rs))) ≡ whole
hull_more rs i b new p q whole low to made holds is =
    let r = get_or rs i no_run in
    let rest = steps_of (drop (i + 1) rs) in
    ap (λ (o : Option Bounds). hull o (points_from q rest)) made
    ∙ ap (λ (u : GridPoint). hull (Some (widened b (drawn u))) (points_from u rest)) to
    ∙ sym (over_run r.count r.dir rest b p holds)
    ∙ ap (λ (runs : List Run). hull (Some b) (points_from p (steps_of runs))) (sym (drop_more rs i no_run low))
    ∙ is

-- at the end of a walk
pub hull_ends : (b : Bounds) (p : GridPoint) → Holds b (drawn p) → Some b ≡ hull (Some b) (points_from p [])
hull_ends b p holds = ap (λ (c : Bounds). Some c) (sym (widened_same b (drawn p) holds))
