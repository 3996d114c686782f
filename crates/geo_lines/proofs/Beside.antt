-- The corners of a line lie beside the points of its course.
use Rattle.std.proofs.Common.{◌≡◌, refl, sym, ap, subst, ℕ, zero, suc, ◌+◌, ◌*◌, ◌<◌, ◌≤◌, ℤ, pos, negsuc, ◌+ℤ◌, ◌-ℤ◌, ◌*ℤ◌, ◌≤ℤ◌, ◌<ℤ◌, unsigned_abs, Bool, true, false, List, [], ◌∷◌, ◌++◌, length, arith}
use Rattle.std.specs.Prelude.{All, int_le, if◌then◌else◌}
use Rattle.std.specs.Ordering.{int_eq}
use Rattle.std.proofs.lemmas.Int.{ints, unsigned_abs-mul}
use Rattle.std.proofs.lemmas.List.Elements.{All-append, All-cons, All-head, All-nil, All-tail, All-weaker}
use Rattle.map_base.specs.declared.point.Point.{Point}
use Rattle.fixed_plane.specs.Plane.{IsInPlane}
use Rattle.geo_lines.specs.declared.shift.Shift.{Shift}
use Rattle.geo_lines.specs.Shifts.{width_of, shift_of, moved, onward_of, meeting_of, meets_near, corners_at, IsBeside, IsWithin}
use Rattle.geo_lines.specs.Courses.{path_start, path_end, inner_corners, all_corners, one_after_another, shifted_path, AreBeside, StaysBeside, IsCourse, IsNearPlane}
use Rattle.geo_lines.proofs.Quotients.{shift_within, meeting_shift_within}

-- a shifted point lies as far from the point as it is shifted
moved_beside : (most : ℕ) (p : Point) (o : Shift) → IsWithin most o → IsBeside most p (moved p o)
moved_beside most p o within = record { across = same p.x o.x most within.across; along = same p.y o.y most within.along }
  where
    same : (x d : ℤ) (n : ℕ) → unsigned_abs d ≤ n → unsigned_abs ((x +ℤ d) -ℤ x) ≤ n
    same x d n h = omega (arith, ints, h)

itself_beside : (most : ℕ) (p : Point) → IsBeside most p p
itself_beside most p = record { across = none p.x most; along = none p.y most }
  where
    none : (x : ℤ) (n : ℕ) → unsigned_abs (x -ℤ x) ≤ n
    none x n = omega (arith, ints)

wider : (m n : ℕ) (o : Shift) → m ≤ n → IsWithin m o → IsWithin n o
wider m n o h within = record { across = omega (arith, h, within.across); along = omega (arith, h, within.along) }

above_where : (m : ℕ) (onward : ℤ) → 0 < m → pos m ≤ℤ (pos 2 *ℤ onward) → pos 0 <ℤ onward
above_where m onward some near = omega (arith, ints, some, near)

pub near_where : (x y : ℤ) → int_le x y ≡ true → x ≤ℤ y
near_where x y e = grind (arith, ints)

-- where a line runs beside its course, pieces that meet near enough go on into one another
pub some_onward : (w onward : ℤ) → int_eq w (pos 0) ≡ false → int_le (w *ℤ w) (pos 2 *ℤ onward) ≡ true → pos 0 <ℤ onward
some_onward (pos zero) onward apart near = absurd cc
some_onward (pos (suc n)) onward apart near = above_where (suc n * suc n) onward (omega arith) (near_where (pos (suc n * suc n)) (pos 2 *ℤ onward) near)
some_onward (negsuc n) onward apart near = above_where (suc n * suc n) onward (omega arith) (near_where (pos (suc n * suc n)) (pos 2 *ℤ onward) near)

-- the corners at a point, by both tests
corners_beside : (most : ℕ) (w : ℤ) (p : Point) (o q : Shift) → 4 * unsigned_abs w ≤ most → IsWithin (unsigned_abs w) o → IsWithin (unsigned_abs w) q
    → All (IsBeside most p) (corners_at w p o q)
corners_beside most w p o q enough before behind = by_tests (int_eq w (pos 0)) (meets_near w o q) refl refl
  where
    one : (corner : Point) → IsBeside most p corner → All (IsBeside most p) (corner ∷ [])
    one corner beside = All-cons (IsBeside most p) corner [] beside (All-nil (IsBeside most p))

    near : int_eq w (pos 0) ≡ false → meets_near w o q ≡ true → IsBeside most p (moved p (meeting_of w o q))
    near apart meets =
        moved_beside most p (meeting_of w o q) (wider (4 * unsigned_abs w) most (meeting_of w o q) enough
        (meeting_shift_within w o q before behind (some_onward w (onward_of w o q) apart meets) (near_where (w *ℤ w) (pos 2 *ℤ onward_of w o q) meets)))

    by_tests : (none meets : Bool) → int_eq w (pos 0) ≡ none → meets_near w o q ≡ meets
        → All (IsBeside most p) (if none then p ∷ [] else if meets then moved p (meeting_of w o q) ∷ [] else moved p o ∷ moved p q ∷ [])
    by_tests true meets e f = one p (itself_beside most p)
    by_tests false true e f = one (moved p (meeting_of w o q)) (near e f)
    by_tests false false e f =
        let first = moved_beside most p o (wider (unsigned_abs w) most o (omega (arith, enough)) before) in
        let second = moved_beside most p q (wider (unsigned_abs w) most q (omega (arith, enough)) behind) in
        All-cons (IsBeside most p) (moved p o) (moved p q ∷ []) first (one (moved p q) second)

behind_beside : (most : ℕ) (w : ℤ) (a b : Point) (rest : List Point) → 4 * unsigned_abs w ≤ most
    → AreBeside most (b ∷ rest) (inner_corners w (a ∷ b ∷ rest) ++ (path_end w (a ∷ b ∷ rest) ∷ []) ∷ [])
behind_beside most w a b [] enough = (one, tt)
  where
    beside : IsBeside most b (moved b (shift_of w a b))
    beside = moved_beside most b (shift_of w a b) (wider (unsigned_abs w) most (shift_of w a b) (omega (arith, enough)) (shift_within w a b))

    one : All (IsBeside most b) (moved b (shift_of w a b) ∷ [])
    one = All-cons (IsBeside most b) (moved b (shift_of w a b)) [] beside (All-nil (IsBeside most b))
behind_beside most w a b (c ∷ rest) enough =
    (corners_beside most w b (shift_of w a b) (shift_of w b c) enough (shift_within w a b) (shift_within w b c), behind_beside most w b c rest enough)

all_beside : (most : ℕ) (w : ℤ) (a b : Point) (rest : List Point) → 4 * unsigned_abs w ≤ most → AreBeside most (a ∷ b ∷ rest) (all_corners w (a ∷ b ∷ rest))
all_beside most w a b rest enough = (one, behind_beside most w a b rest enough)
  where
    beside : IsBeside most a (moved a (shift_of w a b))
    beside = moved_beside most a (shift_of w a b) (wider (unsigned_abs w) most (shift_of w a b) (omega (arith, enough)) (shift_within w a b))

    one : All (IsBeside most a) (moved a (shift_of w a b) ∷ [])
    one = All-cons (IsBeside most a) (moved a (shift_of w a b)) [] beside (All-nil (IsBeside most a))

-- corners beside points of the plane lie near the plane
corner_near : (most : ℕ) (p : Point) → IsInPlane p → most ≤ 2400000 → (corner : Point) → IsBeside most p corner → IsNearPlane corner
corner_near most p inside few corner beside = record {
  across = near p.x corner.x most few inside.across beside.across;
  along = near p.y corner.y most few inside.along beside.along;
}
  where
    near : (x z : ℤ) (most : ℕ) → most ≤ 2400000 → unsigned_abs x ≤ 300000000 → unsigned_abs (z -ℤ x) ≤ most → unsigned_abs z ≤ 302400000
    near x z most few inside beside = omega (arith, ints, few, inside, beside)

corners_near : (most : ℕ) (points : List Point) (lists : List (List Point)) → most ≤ 2400000 → All IsInPlane points → AreBeside most points lists → All IsNearPlane (one_after_another lists)
corners_near most [] [] few inside beside = All-nil IsNearPlane
corners_near most [] (corners ∷ lists) few inside beside = absurd beside
corners_near most (p ∷ points) [] few inside beside = absurd beside
corners_near most (p ∷ points) (corners ∷ lists) few inside beside =
    All-append IsNearPlane corners (one_after_another lists)
    (All-weaker (IsBeside most p) IsNearPlane (corner_near most p (All-head IsInPlane p points inside) few) corners beside.0)
    (corners_near most points lists few (All-tail IsInPlane p points inside) beside.1)

-- a shifted point of the plane
pub moved_near : (p : Point) (o : Shift) → IsInPlane p → IsWithin 2400000 o → IsNearPlane (moved p o)
moved_near p o inside within = corner_near 2400000 p inside (omega arith) (moved p o) (moved_beside 2400000 p o within)

pub stays_beside : (k : ℤ) (points : List Point) → 2 ≤ length points → StaysBeside k points
stays_beside k [] long = absurd (omega arith)
stays_beside k (a ∷ []) long = absurd (omega arith)
stays_beside k (a ∷ b ∷ rest) long =
    all_beside (240 * unsigned_abs k) (width_of k) a b rest (enough (unsigned_abs (pos 30 *ℤ k)) (unsigned_abs k) (unsigned_abs-mul (pos 30) k))
  where
    enough : (m n : ℕ) → m ≡ 30 * n → 4 * m ≤ 240 * n
    enough m n e = omega (arith, e)

-- the whole path
pub path_near : (k : ℤ) (points : List Point) → IsCourse points → unsigned_abs k ≤ 10000 → All IsNearPlane (shifted_path k points)
path_near k [] is few = absurd (let long = is.long in omega arith)
path_near k (a ∷ []) is few = absurd (let long = is.long in omega arith)
path_near k (a ∷ b ∷ rest) is few =
    corners_near (240 * unsigned_abs k) (a ∷ b ∷ rest) (all_corners (width_of k) (a ∷ b ∷ rest)) (omega (arith, few)) is.in_plane (stays_beside k (a ∷ b ∷ rest) is.long)
