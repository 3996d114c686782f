-- The path of a line grows point by point.
use Rattle.std.proofs.Common.{◌≡◌, refl, sym, ◌∙◌, ap, subst, ℕ, zero, suc, ◌+◌, ◌<◌, ◌≤◌, ℤ, pos, negsuc, ◌*ℤ◌, ◌≤ℤ◌, ◌<ℤ◌, true, false, List, [], ◌∷◌, ◌++◌, drop, length, append_assoc, arith}
use Rattle.std.specs.Prelude.{◌≢◌, if◌then◌else◌}
use Rattle.std.specs.Ordering.{int_eq, is_eq}
use Rattle.std.proofs.lemmas.Int.{ints}
use Rattle.std.proofs.lemmas.List.{drop_more, drop_all, append-nil}
use Rattle.std.proofs.lemmas.List.Concat.{flat_map-append}
use Rattle.map_base.specs.declared.point.Point.{Point}
use Rattle.track_net.specs.Nearness.{point_at}
use Rattle.geo_lines.specs.declared.shift.Shift.{Shift}
use Rattle.whole_algebra.proofs.Signs.{int_cmp-positive, int_cmp-negative}
use Rattle.geo_lines.specs.Shifts.{width_of, shift_of, moved, onward_of, meeting_of, meets_near, corners_at, IsWithin}
use Rattle.geo_lines.proofs.Beside.{near_where, some_onward}
use Rattle.geo_lines.specs.Courses.{path_start, path_end, inner_corners, one_after_another, shifted_path, AreApart}

-- the path behind the beginning
abbrev pub path_behind : ℤ → List Point → List Point
path_behind w points = one_after_another (inner_corners w points) ++ path_end w points ∷ []

next_number : (i : ℕ) → suc (i + 1) ≡ suc i + 1
next_number i = omega arith

-- neighbours lie apart
pub apart_at : (points : List Point) (i : ℕ) → AreApart points → i + 1 < length points → point_at points i ≢ point_at points (i + 1)
apart_at [] i apart low = absurd (omega arith)
apart_at (a ∷ []) i apart low = absurd (omega arith)
apart_at (a ∷ b ∷ rest) zero apart low = apart.0
apart_at (a ∷ b ∷ rest) (suc i) apart low =
    subst (λ j. point_at (b ∷ rest) i ≢ point_at (a ∷ b ∷ rest) j) (next_number i) (apart_at (b ∷ rest) i apart.1 (omega (arith, low)))

-- two points of a course, and three
from_two : (points : List Point) (i : ℕ) → i + 1 < length points → drop i points ≡ point_at points i ∷ point_at points (i + 1) ∷ drop (i + 1 + 1) points
from_two points i low =
    drop_more points i (record { x = pos 0; y = pos 0 }) (omega arith)
    ∙ ap (λ rest. point_at points i ∷ rest) (drop_more points (i + 1) (record { x = pos 0; y = pos 0 }) low)

from_three : (points : List Point) (i : ℕ) → i + 1 + 1 < length points
    → drop i points ≡ point_at points i ∷ point_at points (i + 1) ∷ point_at points (i + 1 + 1) ∷ drop (i + 1 + 1 + 1) points
from_three points i low =
    from_two points i (omega arith)
    ∙ ap (λ rest. point_at points i ∷ point_at points (i + 1) ∷ rest) (drop_more points (i + 1 + 1) (record { x = pos 0; y = pos 0 }) low)

behind_more : (w : ℤ) (a b c : Point) (rest : List Point)
    → path_behind w (a ∷ b ∷ c ∷ rest) ≡ corners_at w b (shift_of w a b) (shift_of w b c) ++ path_behind w (b ∷ c ∷ rest)
behind_more w a b c rest =
    append_assoc (corners_at w b (shift_of w a b) (shift_of w b c)) (one_after_another (inner_corners w (b ∷ c ∷ rest))) (path_end w (b ∷ c ∷ rest) ∷ [])

-- the corners at one point more
pub path_more : (w : ℤ) (points : List Point) (i : ℕ) (before behind : Shift) (old new whole : List Point) → i + 1 + 1 < length points
    → before ≡ shift_of w (point_at points i) (point_at points (i + 1)) → behind ≡ shift_of w (point_at points (i + 1)) (point_at points (i + 1 + 1))
    → new ≡ old ++ corners_at w (point_at points (i + 1)) before behind → old ++ path_behind w (drop i points) ≡ whole
    → new ++ path_behind w (drop (i + 1) points) ≡ whole
path_more w points i before behind old new whole low e f made is =
    let a = point_at points i in
    let b = point_at points (i + 1) in
    let c = point_at points (i + 1 + 1) in
    let rest = drop (i + 1 + 1 + 1) points in
    ap (λ path. path ++ path_behind w (drop (i + 1) points)) made
    ∙ append_assoc old (corners_at w b before behind) (path_behind w (drop (i + 1) points))
    ∙ ap (λ s. old ++ (corners_at w b s behind ++ path_behind w (drop (i + 1) points))) e
    ∙ ap (λ s. old ++ (corners_at w b (shift_of w a b) s ++ path_behind w (drop (i + 1) points))) f
    ∙ ap (λ left. old ++ (corners_at w b (shift_of w a b) (shift_of w b c) ++ path_behind w left)) (from_two points (i + 1) low)
    ∙ ap (λ path. old ++ path) (sym (behind_more w a b c rest))
    ∙ ap (λ left. old ++ path_behind w left) (sym (from_three points i low))
    ∙ is

-- the path where just its beginning stands
pub path_begun : (k : ℤ) (points : List Point) (first : Shift) → 1 < length points → first ≡ shift_of (width_of k) (point_at points 0) (point_at points 1)
    → (moved (point_at points 0) first ∷ []) ++ path_behind (width_of k) points ≡ shifted_path k points
path_begun k [] first long e = absurd (omega arith)
path_begun k (a ∷ []) first long e = absurd (omega arith)
path_begun k (a ∷ b ∷ rest) first long e =
    ap (λ s. moved a s ∷ path_behind (width_of k) (a ∷ b ∷ rest)) e
    ∙ ap (λ path. moved a (shift_of (width_of k) a b) ∷ path)
    (sym (flat_map-append (λ (corners : List Point). corners) (inner_corners (width_of k) (a ∷ b ∷ rest)) ((path_end (width_of k) (a ∷ b ∷ rest) ∷ []) ∷ [])))

-- where a path ends, by the number of its last piece
pub ends_at : (w : ℤ) (points : List Point) (i : ℕ) → length points ≡ i + 1 + 1
    → path_end w points ≡ moved (point_at points (i + 1)) (shift_of w (point_at points i) (point_at points (i + 1)))
ends_at w [] i e = absurd (omega arith)
ends_at w (a ∷ []) i e = absurd (omega arith)
ends_at w (a ∷ b ∷ []) zero e = refl
ends_at w (a ∷ b ∷ []) (suc i) e = absurd (omega arith)
ends_at w (a ∷ b ∷ c ∷ rest) zero e = absurd (omega arith)
ends_at w (a ∷ b ∷ c ∷ rest) (suc i) e =
    subst (λ j. path_end w (b ∷ c ∷ rest) ≡ moved (point_at (a ∷ b ∷ c ∷ rest) j) (shift_of w (point_at (b ∷ c ∷ rest) i) (point_at (a ∷ b ∷ c ∷ rest) j)))
    (next_number i) (ends_at w (b ∷ c ∷ rest) i (omega (arith, e)))

pub starts_at : (w : ℤ) (points : List Point) → 1 < length points
    → path_start w points ≡ moved (point_at points 0) (shift_of w (point_at points 0) (point_at points 1))
starts_at w [] long = absurd (omega arith)
starts_at w (a ∷ []) long = absurd (omega arith)
starts_at w (a ∷ b ∷ rest) long = refl

-- the whole path, with its end
pub path_done : (w : ℤ) (points : List Point) (i : ℕ) (last : Shift) (old whole : List Point) → length points ≡ i + 1 + 1
    → last ≡ shift_of w (point_at points i) (point_at points (i + 1)) → old ++ path_behind w (drop i points) ≡ whole
    → old ++ moved (point_at points (i + 1)) last ∷ [] ≡ whole
path_done w points i last old whole e f is =
    let a = point_at points i in
    let b = point_at points (i + 1) in
    ap (λ s. old ++ moved b s ∷ []) f
    ∙ ap (λ rest. old ++ path_behind w (a ∷ b ∷ rest)) (sym (drop_all (i + 1 + 1) points (omega (arith, e))))
    ∙ ap (λ left. old ++ path_behind w left) (sym (from_two points i (omega (arith, e))))
    ∙ is

pub wider : (m n : ℕ) (o : Shift) → m ≤ n → IsWithin m o → IsWithin n o
wider m n o h within = record { across = omega (arith, h, within.across); along = omega (arith, h, within.along) }

-- ---- one point

pub not_none : (w : ℤ) → (w ≡ pos 0 → ⊥) → int_eq w (pos 0) ≡ false
not_none (pos zero) apart = absurd (apart refl)
not_none (pos (suc n)) apart = ap is_eq (int_cmp-positive (pos (suc n)) (omega (arith, ints)))
not_none (negsuc n) apart = ap is_eq (int_cmp-negative (negsuc n) (omega (arith, ints)))

-- pieces that meet near enough go on into one another
pub goes_on : (w : ℤ) (o q : Shift) → (w ≡ pos 0 → ⊥) → meets_near w o q ≡ true → pos 0 <ℤ onward_of w o q
goes_on w o q apart meets = some_onward w (onward_of w o q) (not_none w apart) meets

pub is_near : (w : ℤ) (o q : Shift) → meets_near w o q ≡ true → (w *ℤ w) ≤ℤ (pos 2 *ℤ onward_of w o q)
is_near w o q meets = near_where (w *ℤ w) (pos 2 *ℤ onward_of w o q) meets

-- the one corner where they meet, and the two where they do not
pub corners_met : (w : ℤ) (p : Point) (o q : Shift) → (w ≡ pos 0 → ⊥) → meets_near w o q ≡ true → corners_at w p o q ≡ moved p (meeting_of w o q) ∷ []
corners_met w p o q apart meets =
    ap (λ b. if b then p ∷ [] else if meets_near w o q then moved p (meeting_of w o q) ∷ [] else moved p o ∷ moved p q ∷ []) (not_none w apart)
    ∙ ap (λ b. if b then moved p (meeting_of w o q) ∷ [] else moved p o ∷ moved p q ∷ []) meets

pub corners_split : (w : ℤ) (p : Point) (o q : Shift) → (w ≡ pos 0 → ⊥) → meets_near w o q ≡ false → corners_at w p o q ≡ moved p o ∷ moved p q ∷ []
corners_split w p o q apart meets =
    ap (λ b. if b then p ∷ [] else if meets_near w o q then moved p (meeting_of w o q) ∷ [] else moved p o ∷ moved p q ∷ []) (not_none w apart)
    ∙ ap (λ b. if b then moved p (meeting_of w o q) ∷ [] else moved p o ∷ moved p q ∷ []) meets
