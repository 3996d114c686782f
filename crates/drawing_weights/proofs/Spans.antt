-- The bounds of points near the origin, and the board that reaches past those of a drawing.
use Rattle.std.proofs.Common.{◌≡◌, ℕ, zero, suc, ◌+◌, ◌<◌, ◌≤◌, Bool, true, ℤ, pos, neg_ℤ, ◌+ℤ◌, ◌-ℤ◌, ◌≤ℤ◌, List, [], ◌∷◌, length, get_or, fold, Option, Some, None, sym, ap, subst, refl, arith, inl, inr}
use Rattle.std.specs.Prelude.{nat_le, unsigned_abs, unwrap_or}
use Rattle.std.specs.List.{flat_map, list_all}
use Rattle.std.specs.Int.{int_max, int_min}
use Rattle.std.proofs.lemmas.Bool.{and_from, and_parts, le-leb, leb-true}
use Rattle.std.proofs.lemmas.Int.{int_max_is, int_min_is, ints}
use Rattle.octi_grid.specs.declared.point.GridPoint.{GridPoint}
use Rattle.octi_grid.specs.Walks.{points_of, PlainWalk}
use Rattle.octi_grid.proofs.Members.{all_at, all_from, from_flat_map, in_flat_map, In}
use Rattle.grid_board.specs.declared.bounds.Bounds.{Bounds}
use Rattle.grid_board.specs.Boards.{contains, AreBounds}
use Rattle.grid_board.specs.Points.{are_near, is_near}
use Rattle.grid_board.proofs.Within.{inside_facts, inside_test, IsInside}
use Rattle.drawing_weights.specs.Reach.{bounds_at, bounds_of, bounds_past, bounds_with}

min_left : (a b : ℤ) → int_min a b ≤ℤ a
min_left a b = omega (arith, ints, int_min_is a b)

min_right : (a b : ℤ) → int_min a b ≤ℤ b
min_right a b = omega (arith, ints, int_min_is a b)

min_above : (c a b : ℤ) → c ≤ℤ a → c ≤ℤ b → c ≤ℤ int_min a b
min_above c a b h k = omega (arith, ints, int_min_is a b)

max_left : (a b : ℤ) → a ≤ℤ int_max a b
max_left a b = omega (arith, ints, int_max_is a b)

max_right : (a b : ℤ) → b ≤ℤ int_max a b
max_right a b = omega (arith, ints, int_max_is a b)

max_below : (c a b : ℤ) → a ≤ℤ c → b ≤ℤ c → int_max a b ≤ℤ c
max_below c a b h k = omega (arith, ints, int_max_is a b)

-- what holds of all points holds of the one at a place
pub near_at : (test : GridPoint → Bool) (ps : List GridPoint) (i : ℕ) (d : GridPoint) → list_all test ps ≡ true → i < length ps → test (get_or ps i d) ≡ true
near_at test [] i d e h = absurd (omega arith)
near_at test (p ∷ ps) zero d e h = (and_parts _ _ e).0
near_at test (p ∷ ps) (suc i) d e h = near_at test ps i d (and_parts _ _ e).1 (omega arith)

-- bounds of points that lie within so many steps of the origin either way
pub record IsSpan (most : ℕ) (b : Bounds) : Type 0 where
  pub left : neg_ℤ (pos most) ≤ℤ b.left
  pub right : b.right ≤ℤ pos most
  pub bottom : neg_ℤ (pos most) ≤ℤ b.bottom
  pub top : b.top ≤ℤ pos most
  pub across : b.left ≤ℤ b.right
  pub upwards : b.bottom ≤ℤ b.top

-- such a point
record IsNear (most : ℕ) (p : GridPoint) : Type 0 where
  pub west : neg_ℤ (pos most) ≤ℤ p.x
  pub east : p.x ≤ℤ pos most
  pub south : neg_ℤ (pos most) ≤ℤ p.y
  pub north : p.y ≤ℤ pos most

near_facts : (most : ℕ) (p : GridPoint) → is_near most p ≡ true → IsNear most p
near_facts most p e =
    let parts = and_parts (nat_le (unsigned_abs p.x) most) (nat_le (unsigned_abs p.y) most) e in
    let x = leb-true (unsigned_abs p.x) most parts.0 in
    let y = leb-true (unsigned_abs p.y) most parts.1 in
    record { west = omega (arith, ints, x); east = omega (arith, ints, x); south = omega (arith, ints, y); north = omega (arith, ints, y) }

abbrev pub SpanOf : ℕ → Option Bounds → Type 0
SpanOf most None = Unit {0}
SpanOf most (Some b) = IsSpan most b

one_more : (most : ℕ) (o : Option Bounds) (p : GridPoint) → SpanOf most o → IsNear most p → SpanOf most (bounds_with o p)
one_more most None p s h = record { left = h.west; right = h.east; bottom = h.south; top = h.north; across = omega (arith, ints); upwards = omega (arith, ints) }
one_more most (Some b) p s h = record {
  left = min_above (neg_ℤ (pos most)) b.left p.x s.left h.west;
  right = max_below (pos most) b.right p.x s.right h.east;
  bottom = min_above (neg_ℤ (pos most)) b.bottom p.y s.bottom h.south;
  top = max_below (pos most) b.top p.y s.top h.north;
  across = omega (arith, ints, s.across, min_left b.left p.x, max_left b.right p.x);
  upwards = omega (arith, ints, s.upwards, min_left b.bottom p.y, max_left b.top p.y);
}

-- one point more
pub span_more : (most : ℕ) (o : Option Bounds) (p : GridPoint) → SpanOf most o → is_near most p ≡ true → SpanOf most (bounds_with o p)
span_more most o p s e = one_more most o p s (near_facts most p e)

all_more : (most : ℕ) (ps : List GridPoint) (o : Option Bounds) → SpanOf most o → list_all (is_near most) ps ≡ true → SpanOf most (fold bounds_with o ps)
all_more most [] o s e = s
all_more most (p ∷ ps) o s e =
    let parts = and_parts (is_near most p) (list_all (is_near most) ps) e in
    all_more most ps (bounds_with o p) (span_more most o p s parts.0) parts.1

pub span_or : (most : ℕ) (o : Option Bounds) → SpanOf most o → IsSpan most (unwrap_or o (bounds_at (record { x = pos 0; y = pos 0 })))
span_or most None s = record { left = omega (arith, ints); right = omega (arith, ints); bottom = omega (arith, ints); top = omega (arith, ints); across = omega (arith, ints); upwards = omega (arith, ints) }
span_or most (Some b) s = s

span_of : (most : ℕ) (ps : List GridPoint) → list_all (is_near most) ps ≡ true → IsSpan most (unwrap_or (fold bounds_with None ps) (bounds_at (record { x = pos 0; y = pos 0 })))
span_of most ps e = span_or most (fold bounds_with None ps) (all_more most ps None tt e)

-- each point is in the bounds of all
abbrev Covers : Option Bounds → GridPoint → Type 0
Covers None p = ⊥
Covers (Some b) p = IsInside b p

covers_new : (o : Option Bounds) (p : GridPoint) → Covers (bounds_with o p) p
covers_new None p = record { west = omega (arith, ints); east = omega (arith, ints); south = omega (arith, ints); north = omega (arith, ints) }
covers_new (Some b) p = record { west = min_right b.left p.x; east = max_right b.right p.x; south = min_right b.bottom p.y; north = max_right b.top p.y }

covers_old : (o : Option Bounds) (p q : GridPoint) → Covers o q → Covers (bounds_with o p) q
covers_old None p q h = absurd h
covers_old (Some b) p q h = record {
  west = omega (arith, ints, h.west, min_left b.left p.x);
  east = omega (arith, ints, h.east, max_left b.right p.x);
  south = omega (arith, ints, h.south, min_left b.bottom p.y);
  north = omega (arith, ints, h.north, max_left b.top p.y);
}

covers_still : (ps : List GridPoint) (o : Option Bounds) (q : GridPoint) → Covers o q → Covers (fold bounds_with o ps) q
covers_still [] o q h = h
covers_still (p ∷ ps) o q h = covers_still ps (bounds_with o p) q (covers_old o p q h)

covers_each : (ps : List GridPoint) (o : Option Bounds) (q : GridPoint) → In q ps → Covers (fold bounds_with o ps) q
covers_each [] o q m = absurd m
covers_each (p ∷ ps) o q (inl e) = covers_still ps (bounds_with o p) q (subst (Covers (bounds_with o p)) (sym e) (covers_new o p))
covers_each (p ∷ ps) o q (inr m) = covers_each ps (bounds_with o p) q m

pub points_near : (most : ℕ) (ws : List PlainWalk) → are_near most ws ≡ true → list_all (is_near most) (flat_map points_of ws) ≡ true
points_near most ws e =
    all_from (is_near most) (flat_map points_of ws)
    (λ p m. let found = from_flat_map points_of ws p m in all_at (is_near most) (points_of found.0) p (all_at (λ (w : PlainWalk). list_all (is_near most) (points_of w)) ws found.0 e found.1) found.2)

-- what is on the board lies at most so many steps farther out
pub inside_near : (most margin : ℕ) (first : List PlainWalk) → are_near most first ≡ true → (p : GridPoint) → contains (bounds_past margin first) p ≡ true → is_near (most + margin) p ≡ true
inside_near most margin first near p e =
    let s = span_of most (flat_map points_of first) (points_near most first near) in
    let i = inside_facts (bounds_past margin first) p e in
    and_from (nat_le (unsigned_abs p.x) (most + margin)) (nat_le (unsigned_abs p.y) (most + margin))
    (le-leb (unsigned_abs p.x) (most + margin) (omega (arith, ints, s.left, s.right, i.west, i.east))) (le-leb (unsigned_abs p.y) (most + margin) (omega (arith, ints, s.bottom, s.top, i.south, i.north)))

pub within_near : (most margin : ℕ) (first : List PlainWalk) → are_near most first ≡ true → (walks : List PlainWalk)
    → list_all (λ (w : PlainWalk). list_all (contains (bounds_past margin first)) (points_of w)) walks ≡ true → are_near (most + margin) walks ≡ true
within_near most margin first near walks e =
    all_from (λ (w : PlainWalk). list_all (is_near (most + margin)) (points_of w)) walks
    (λ w m. all_from (is_near (most + margin)) (points_of w)
    (λ p k. inside_near most margin first near p (all_at (contains (bounds_past margin first)) (points_of w) p (all_at (λ (v : PlainWalk). list_all (contains (bounds_past margin first)) (points_of v)) walks w e m) k)))

module _ (first : List PlainWalk) (near : are_near 1900 first ≡ true) (margin : ℕ) (small : margin ≤ 20) where
  pub past_bounds : AreBounds (bounds_past margin first)
  past_bounds =
      let s = span_of 1900 (flat_map points_of first) (points_near 1900 first near) in
      record {
        left = record { low = omega (arith, ints, s.left); high = omega (arith, ints, s.across, s.right) };
        right = record { low = omega (arith, ints, s.across, s.left); high = omega (arith, ints, s.right) };
        bottom = record { low = omega (arith, ints, s.bottom); high = omega (arith, ints, s.upwards, s.top) };
        top = record { low = omega (arith, ints, s.upwards, s.bottom); high = omega (arith, ints, s.top) };
        across = omega (arith, ints, s.across);
        upwards = omega (arith, ints, s.upwards);
      }

  -- the first drawing lies on the board
  pub first_within : list_all (λ (w : PlainWalk). list_all (contains (bounds_past margin first)) (points_of w)) first ≡ true
  first_within =
      all_from (λ (w : PlainWalk). list_all (contains (bounds_past margin first)) (points_of w)) first
      (λ w m. all_from (contains (bounds_past margin first)) (points_of w) (λ p k. by_cover (fold bounds_with None (flat_map points_of first)) refl p (covers_each (flat_map points_of first) None p (in_flat_map points_of first w p m k))))
    where
      by_cover : (o : Option Bounds) → fold bounds_with None (flat_map points_of first) ≡ o → (p : GridPoint) → Covers o p → contains (bounds_past margin first) p ≡ true
      by_cover None same p h = absurd h
      by_cover (Some b) same p h =
          let is : bounds_of first ≡ b = ap (λ (o : Option Bounds). unwrap_or o (bounds_at (record { x = pos 0; y = pos 0 }))) same in
          let around : Bounds → Bounds = λ c. record { left = c.left -ℤ pos margin; right = c.right +ℤ pos margin; bottom = c.bottom -ℤ pos margin; top = c.top +ℤ pos margin } in
          subst (λ (c : Bounds). contains (around c) p ≡ true) (sym is)
          (inside_test (around b) p (record { west = omega (arith, ints, h.west); east = omega (arith, ints, h.east); south = omega (arith, ints, h.south); north = omega (arith, ints, h.north) }))
