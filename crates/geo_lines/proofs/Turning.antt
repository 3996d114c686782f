-- A line beside a course is one line, whichever way the course is walked.
use Rattle.std.proofs.Common.{◌≡◌, refl, sym, ◌∙◌, ap, ℕ, zero, suc, ◌+◌, ◌*◌, ℤ, pos, negsuc, ◌+ℤ◌, ◌-ℤ◌, ◌*ℤ◌, neg_ℤ, unsigned_abs, Bool, true, false, List, [], ◌∷◌, ◌++◌, map, reverse, append_assoc, arith}
use Rattle.std.specs.Prelude.{int_div, int_le, if◌then◌else◌}
use Rattle.std.specs.List.{flat_map}
use Rattle.std.specs.Ordering.{int_eq, is_eq}
use Rattle.std.proofs.lemmas.Int.{ints}
use Rattle.std.proofs.lemmas.List.{append-nil, reverse-append, reverse-reverse}
use Rattle.std.proofs.lemmas.List.Concat.{flat_map-append}
use Rattle.map_base.specs.declared.point.Point.{Point}
use Rattle.fixed_plane.specs.Measures.{dist2_of}
use Rattle.whole_algebra.proofs.Signs.{int_cmp-positive, int_cmp-negative}
use Rattle.whole_algebra.proofs.Identities.{Term, var, num, minus, ◌⊕◌, ◌⊖◌, ◌⊛◌, identity}
use Rattle.geo_lines.specs.declared.shift.Shift.{Shift}
use Rattle.geo_lines.specs.Roots.{root}
use Rattle.geo_lines.specs.Shifts.{width_of, length_of, shift_of, moved, onward_of, meeting_of, meets_near, corners_at}
use Rattle.geo_lines.specs.Courses.{path_start, path_end, inner_corners, all_corners, one_after_another, shifted_path, TurnsRound}

-- a shift of these coordinates
abbrev shift : ℤ → ℤ → Shift
shift x y = record { x = x; y = y }

-- ---- one piece

product_turned : (u v w : ℤ) → (u -ℤ v) *ℤ neg_ℤ w ≡ (v -ℤ u) *ℤ w
product_turned u v w = identity (u ∷ v ∷ w ∷ []) ((var 0 ⊖ var 1) ⊛ minus (var 2)) ((var 1 ⊖ var 0) ⊛ var 2) refl

length_turned : (a b : Point) → length_of b a ≡ length_of a b
length_turned a b =
    ap (λ n. root (n * n + unsigned_abs (a.y -ℤ b.y) * unsigned_abs (a.y -ℤ b.y))) (size a.x b.x)
    ∙ ap (λ n. root (unsigned_abs (b.x -ℤ a.x) * unsigned_abs (b.x -ℤ a.x) + n * n)) (size a.y b.y)
  where
    size : (u v : ℤ) → unsigned_abs (u -ℤ v) ≡ unsigned_abs (v -ℤ u)
    size u v = omega (arith, ints)

-- a piece that is walked the other way is shifted to its other side as before
shift_turned : (w : ℤ) (a b : Point) → shift_of (neg_ℤ w) b a ≡ shift_of w a b
shift_turned w a b =
    ap (λ n. shift (int_div ((a.y -ℤ b.y) *ℤ neg_ℤ w) (pos n)) (int_div ((b.x -ℤ a.x) *ℤ neg_ℤ w) (pos n))) (length_turned a b)
    ∙ ap (λ z. shift (int_div z (pos (length_of a b))) (int_div ((b.x -ℤ a.x) *ℤ neg_ℤ w) (pos (length_of a b)))) (product_turned a.y b.y w)
    ∙ ap (λ z. shift (int_div ((b.y -ℤ a.y) *ℤ w) (pos (length_of a b))) (int_div z (pos (length_of a b)))) (product_turned b.x a.x w)

-- ---- one point

square_turned : (w : ℤ) → neg_ℤ w *ℤ neg_ℤ w ≡ w *ℤ w
square_turned w = identity (w ∷ []) (minus (var 0) ⊛ minus (var 0)) (var 0 ⊛ var 0) refl

onward_turned : (w : ℤ) (o q : Shift) → onward_of (neg_ℤ w) q o ≡ onward_of w o q
onward_turned w o q =
    identity (w ∷ o.x ∷ o.y ∷ q.x ∷ q.y ∷ [])
    (minus (var 0) ⊛ minus (var 0) ⊕ (var 3 ⊛ var 1 ⊕ var 4 ⊛ var 2))
    (var 0 ⊛ var 0 ⊕ (var 1 ⊛ var 3 ⊕ var 2 ⊛ var 4)) refl

meets_turned : (w : ℤ) (o q : Shift) → meets_near (neg_ℤ w) q o ≡ meets_near w o q
meets_turned w o q =
    ap (λ z. int_le z (pos 2 *ℤ onward_of (neg_ℤ w) q o)) (square_turned w) ∙ ap (λ z. int_le (w *ℤ w) (pos 2 *ℤ z)) (onward_turned w o q)

sum_turned : (u v w : ℤ) → (v +ℤ u) *ℤ (neg_ℤ w *ℤ neg_ℤ w) ≡ (u +ℤ v) *ℤ (w *ℤ w)
sum_turned u v w =
    identity (u ∷ v ∷ w ∷ []) ((var 1 ⊕ var 0) ⊛ (minus (var 2) ⊛ minus (var 2))) ((var 0 ⊕ var 1) ⊛ (var 2 ⊛ var 2)) refl

meeting_turned : (w : ℤ) (o q : Shift) → meeting_of (neg_ℤ w) q o ≡ meeting_of w o q
meeting_turned w o q =
    ap (λ s. shift (int_div ((q.x +ℤ o.x) *ℤ (neg_ℤ w *ℤ neg_ℤ w)) s) (int_div ((q.y +ℤ o.y) *ℤ (neg_ℤ w *ℤ neg_ℤ w)) s)) (onward_turned w o q)
    ∙ ap (λ z. shift (int_div z (onward_of w o q)) (int_div ((q.y +ℤ o.y) *ℤ (neg_ℤ w *ℤ neg_ℤ w)) (onward_of w o q))) (sum_turned o.x q.x w)
    ∙ ap (λ z. shift (int_div ((o.x +ℤ q.x) *ℤ (w *ℤ w)) (onward_of w o q)) (int_div z (onward_of w o q))) (sum_turned o.y q.y w)

none_turned : (w : ℤ) → int_eq (neg_ℤ w) (pos 0) ≡ int_eq w (pos 0)
none_turned (pos zero) = refl
none_turned (pos (suc n)) =
    ap is_eq (int_cmp-negative (negsuc n) (omega (arith, ints))) ∙ sym (ap is_eq (int_cmp-positive (pos (suc n)) (omega (arith, ints))))
none_turned (negsuc n) =
    ap is_eq (int_cmp-positive (pos (suc n)) (omega (arith, ints))) ∙ sym (ap is_eq (int_cmp-negative (negsuc n) (omega (arith, ints))))

-- one corner, or two
abbrev corners_by : Bool → Bool → Point → Point → Point → Point → List Point
corners_by none near p meeting one other = if none then p ∷ [] else if near then meeting ∷ [] else one ∷ other ∷ []

corners_by-reverse : (none near : Bool) (p meeting one other : Point) → corners_by none near p meeting other one ≡ reverse (corners_by none near p meeting one other)
corners_by-reverse true near p meeting one other = refl
corners_by-reverse false true p meeting one other = refl
corners_by-reverse false false p meeting one other = refl

corners_turned : (w : ℤ) (p : Point) (o q : Shift) → corners_at (neg_ℤ w) p q o ≡ reverse (corners_at w p o q)
corners_turned w p o q =
    ap (λ b. corners_by b (meets_near (neg_ℤ w) q o) p (moved p (meeting_of (neg_ℤ w) q o)) (moved p q) (moved p o)) (none_turned w)
    ∙ ap (λ b. corners_by (int_eq w (pos 0)) b p (moved p (meeting_of (neg_ℤ w) q o)) (moved p q) (moved p o)) (meets_turned w o q)
    ∙ ap (λ s. corners_by (int_eq w (pos 0)) (meets_near w o q) p (moved p s) (moved p q) (moved p o)) (meeting_turned w o q)
    ∙ corners_by-reverse (int_eq w (pos 0)) (meets_near w o q) p (moved p (meeting_of w o q)) (moved p o) (moved p q)

-- ---- a course

-- the corners at b on the way from a to c
abbrev corners_between : ℤ → Point → Point → Point → List Point
corners_between w a b c = corners_at w b (shift_of w a b) (shift_of w b c)

between_turned : (w : ℤ) (a b c : Point) → corners_between (neg_ℤ w) c b a ≡ reverse (corners_between w a b c)
between_turned w a b c =
    ap (λ s. corners_at (neg_ℤ w) b s (shift_of (neg_ℤ w) b a)) (shift_turned w b c)
    ∙ ap (λ s. corners_at (neg_ℤ w) b (shift_of w b c) s) (shift_turned w a b)
    ∙ corners_turned w b (shift_of w a b) (shift_of w b c)

-- a course that goes on to one point more
inner_more : (w : ℤ) (before : List Point) (a b c : Point)
    → inner_corners w (before ++ a ∷ b ∷ c ∷ []) ≡ inner_corners w (before ++ a ∷ b ∷ []) ++ corners_between w a b c ∷ []
inner_more w [] a b c = refl
inner_more w (x ∷ []) a b c = refl
inner_more w (x ∷ y ∷ []) a b c = refl
inner_more w (x ∷ y ∷ z ∷ rest) a b c = ap (λ lists. corners_between w x y z ∷ lists) (inner_more w (y ∷ z ∷ rest) a b c)

end_more : (w : ℤ) (before : List Point) (a b : Point) → path_end w (before ++ a ∷ b ∷ []) ≡ moved b (shift_of w a b)
end_more w [] a b = refl
end_more w (x ∷ []) a b = refl
end_more w (x ∷ y ∷ []) a b = refl
end_more w (x ∷ y ∷ z ∷ rest) a b = end_more w (y ∷ z ∷ rest) a b

reversed_two : (a b : Point) (rest : List Point) → reverse (a ∷ b ∷ rest) ≡ reverse rest ++ b ∷ a ∷ []
reversed_two a b rest = reverse-append (a ∷ b ∷ []) rest

reversed_three : (a b c : Point) (rest : List Point) → reverse (a ∷ b ∷ c ∷ rest) ≡ reverse rest ++ c ∷ b ∷ a ∷ []
reversed_three a b c rest = reverse-append (a ∷ b ∷ c ∷ []) rest

inner_turned : (w : ℤ) (points : List Point) → inner_corners (neg_ℤ w) (reverse points) ≡ reverse (map reverse (inner_corners w points))
inner_turned w [] = refl
inner_turned w (a ∷ []) = refl
inner_turned w (a ∷ b ∷ []) = refl
inner_turned w (a ∷ b ∷ c ∷ rest) =
    ap (inner_corners (neg_ℤ w)) (reversed_three a b c rest)
    ∙ inner_more (neg_ℤ w) (reverse rest) c b a
    ∙ ap (λ points. inner_corners (neg_ℤ w) points ++ corners_between (neg_ℤ w) c b a ∷ []) (sym (reversed_two b c rest))
    ∙ ap (λ lists. lists ++ corners_between (neg_ℤ w) c b a ∷ []) (inner_turned w (b ∷ c ∷ rest))
    ∙ ap (λ corners. reverse (map reverse (inner_corners w (b ∷ c ∷ rest))) ++ corners ∷ []) (between_turned w a b c)
    ∙ sym (reverse-append (reverse (corners_between w a b c) ∷ []) (map reverse (inner_corners w (b ∷ c ∷ rest))))

end_turned : (w : ℤ) (points : List Point) → path_end (neg_ℤ w) (reverse points) ≡ path_start w points
end_turned w [] = refl
end_turned w (a ∷ []) = refl
end_turned w (a ∷ b ∷ rest) =
    ap (path_end (neg_ℤ w)) (reversed_two a b rest) ∙ end_more (neg_ℤ w) (reverse rest) b a ∙ ap (moved a) (shift_turned w a b)

neg_neg : (w : ℤ) → neg_ℤ (neg_ℤ w) ≡ w
neg_neg w = omega (arith, ints)

start_turned : (w : ℤ) (points : List Point) → path_start (neg_ℤ w) (reverse points) ≡ path_end w points
start_turned w points =
    sym (end_turned (neg_ℤ w) (reverse points)) ∙ ap (λ z. path_end z (reverse (reverse points))) (neg_neg w) ∙ ap (path_end w) (reverse-reverse points)

-- lists of corners, turned round one by one and all together
lists_turned : (lists : List (List Point)) → one_after_another (reverse (map reverse lists)) ≡ reverse (one_after_another lists)
lists_turned [] = refl
lists_turned (corners ∷ lists) =
    ap one_after_another (reverse-append (reverse corners ∷ []) (map reverse lists))
    ∙ flat_map-append (λ (points : List Point). points) (reverse (map reverse lists)) (reverse corners ∷ [])
    ∙ ap (λ points. points ++ (reverse corners ++ [])) (lists_turned lists)
    ∙ ap (λ points. reverse (one_after_another lists) ++ points) (append-nil (reverse corners))
    ∙ sym (reverse-append corners (one_after_another lists))

-- the path over a course of two points at least
abbrev path_over : ℤ → List Point → List Point
path_over w points = one_after_another (all_corners w points)

path_is : (w : ℤ) (points : List Point) → path_over w points ≡ path_start w points ∷ (one_after_another (inner_corners w points) ++ path_end w points ∷ [])
path_is w points =
    ap (λ rest. path_start w points ∷ rest) (flat_map-append (λ (corners : List Point). corners) (inner_corners w points) ((path_end w points ∷ []) ∷ []))

path_turned : (w : ℤ) (points : List Point) → path_over (neg_ℤ w) (reverse points) ≡ reverse (path_over w points)
path_turned w points =
    path_is (neg_ℤ w) (reverse points)
    ∙ ap (λ p. p ∷ (one_after_another (inner_corners (neg_ℤ w) (reverse points)) ++ path_end (neg_ℤ w) (reverse points) ∷ [])) (start_turned w points)
    ∙ ap (λ lists. path_end w points ∷ (one_after_another lists ++ path_end (neg_ℤ w) (reverse points) ∷ [])) (inner_turned w points)
    ∙ ap (λ p. path_end w points ∷ (one_after_another (reverse (map reverse (inner_corners w points))) ++ p ∷ [])) (end_turned w points)
    ∙ ap (λ corners. path_end w points ∷ (corners ++ path_start w points ∷ [])) (lists_turned (inner_corners w points))
    ∙ ap (λ corners. corners ++ path_start w points ∷ []) (sym (reverse-append (one_after_another (inner_corners w points)) (path_end w points ∷ [])))
    ∙ sym (reverse-append (path_start w points ∷ []) (one_after_another (inner_corners w points) ++ path_end w points ∷ []))
    ∙ ap reverse (sym (path_is w points))

-- a course of two points at least, by its end
shifted_over : (k : ℤ) (before : List Point) (a b : Point) → shifted_path k (before ++ a ∷ b ∷ []) ≡ path_over (width_of k) (before ++ a ∷ b ∷ [])
shifted_over k [] a b = refl
shifted_over k (x ∷ []) a b = refl
shifted_over k (x ∷ y ∷ rest) a b = refl

width_turned : (k : ℤ) → width_of (neg_ℤ k) ≡ neg_ℤ (width_of k)
width_turned k = omega (arith, ints)

pub turns_round : (k : ℤ) (points : List Point) → TurnsRound k points
turns_round k [] = refl
turns_round k (a ∷ []) = refl
turns_round k (a ∷ b ∷ rest) =
    ap (shifted_path (neg_ℤ k)) (reversed_two a b rest)
    ∙ shifted_over (neg_ℤ k) (reverse rest) b a
    ∙ ap (path_over (width_of (neg_ℤ k))) (sym (reversed_two a b rest))
    ∙ ap (λ w. path_over w (reverse (a ∷ b ∷ rest))) (width_turned k)
    ∙ path_turned (width_of k) (a ∷ b ∷ rest)
