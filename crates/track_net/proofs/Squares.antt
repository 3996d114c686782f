-- Squares of distances: of equal points, of different points, over three steps; and excesses over a way.
use Rattle.std.proofs.Common.{◌≡◌, refl, sym, ◌∙◌, ap, subst, ℕ, zero, suc, ◌+◌, ◌*◌, ◌<◌, ◌≤◌, inl, inr, ℤ, pos, ◌+ℤ◌, ◌-ℤ◌, ◌*ℤ◌, ◌≤ℤ◌, ◌<ℤ◌, unsigned_abs, [], ◌∷◌, arith}
use Rattle.std.proofs.lemmas.Int.{ints}
use Rattle.std.proofs.Math.IntN.{*ℤ_comm}
use Rattle.map_base.specs.declared.point.Point.{Point}
use Rattle.whole_algebra.specs.Turns.{square_between, excess_of}
use Rattle.whole_algebra.proofs.Identities.{Term, var, num, ◌⊕◌, ◌⊖◌, ◌⊛◌, identity}
use Rattle.whole_algebra.proofs.Crossings.{square_term, excess_term}
use Rattle.whole_algebra.proofs.Signs.{square-not_negative, *ℤ-not_positive}
use Rattle.fixed_plane.specs.Measures.{square_of, dist2_of}
use Rattle.fixed_plane.proofs.Distances.{dist2_of-square_between}
use Rattle.track_net.specs.Laws.{LiesFromTo, LiesBetween}

-- a point is not apart from itself
pub dist2_of-self : (p : Point) → dist2_of p p ≡ 0
dist2_of-self p = none (p.x -ℤ p.x) (p.y -ℤ p.y) (gone p.x) (gone p.y)
  where
    gone : (x : ℤ) → unsigned_abs (x -ℤ x) ≡ 0
    gone x = omega (arith, ints)

    none : (x y : ℤ) → unsigned_abs x ≡ 0 → unsigned_abs y ≡ 0 → square_of x + square_of y ≡ 0
    none x y e f = ap (λ n. n * n + square_of y) e ∙ ap (λ n. 0 * 0 + n * n) f

pub dist2_of-same : (p q : Point) → p ≡ q → dist2_of p q ≡ 0
dist2_of-same p q e = ap (dist2_of p) (sym e) ∙ dist2_of-self p

square_zero : (n : ℕ) → n * n ≡ 0 → n ≡ 0
square_zero zero e = refl
square_zero (suc n) e = absurd (omega arith)

-- points that are not apart are one
pub same_where_none : (p q : Point) → dist2_of p q ≡ 0 → p ≡ q
same_where_none p q e =
    let across : unsigned_abs (q.x -ℤ p.x) ≡ 0 = square_zero (unsigned_abs (q.x -ℤ p.x)) (left (square_of (q.x -ℤ p.x)) (square_of (q.y -ℤ p.y)) e) in
    let along : unsigned_abs (q.y -ℤ p.y) ≡ 0 = square_zero (unsigned_abs (q.y -ℤ p.y)) (right (square_of (q.x -ℤ p.x)) (square_of (q.y -ℤ p.y)) e) in
    ap (λ x. record { x = x; y = p.y }) (one p.x q.x across) ∙ ap (λ y. record { x = q.x; y = y }) (one p.y q.y along)
  where
    left : (m n : ℕ) → m + n ≡ 0 → m ≡ 0
    left m n e = omega arith

    right : (m n : ℕ) → m + n ≡ 0 → n ≡ 0
    right m n e = omega arith

    one : (x y : ℤ) → unsigned_abs (y -ℤ x) ≡ 0 → x ≡ y
    one x y e = omega (arith, ints)

-- of three steps in a row the square from the first to the last point is at most three times the sum of theirs
pub three_steps : (a b c d : Point) → dist2_of a d ≤ 3 * (dist2_of a b + dist2_of b c + dist2_of c d)
three_steps a b c d =
    bound (square_between a.x a.y d.x d.y) (square_between a.x a.y b.x b.y) (square_between b.x b.y c.x c.y) (square_between c.x c.y d.x d.y)
    ((b.x -ℤ a.x) -ℤ (c.x -ℤ b.x)) ((c.x -ℤ b.x) -ℤ (d.x -ℤ c.x)) ((d.x -ℤ c.x) -ℤ (b.x -ℤ a.x))
    ((b.y -ℤ a.y) -ℤ (c.y -ℤ b.y)) ((c.y -ℤ b.y) -ℤ (d.y -ℤ c.y)) ((d.y -ℤ c.y) -ℤ (b.y -ℤ a.y))
    (dist2_of a d) (dist2_of a b) (dist2_of b c) (dist2_of c d)
    (dist2_of-square_between a d) (dist2_of-square_between a b) (dist2_of-square_between b c) (dist2_of-square_between c d) sum
  where
    first : Term → Term → Term
    first p q = q ⊖ p

    twice : Term → Term
    twice t = t ⊛ t

    sum :
        square_between a.x a.y d.x d.y
        +ℤ ((((b.x -ℤ a.x) -ℤ (c.x -ℤ b.x)) *ℤ ((b.x -ℤ a.x) -ℤ (c.x -ℤ b.x)) +ℤ ((c.x -ℤ b.x) -ℤ (d.x -ℤ c.x)) *ℤ ((c.x -ℤ b.x) -ℤ (d.x -ℤ c.x)))
        +ℤ ((d.x -ℤ c.x) -ℤ (b.x -ℤ a.x)) *ℤ ((d.x -ℤ c.x) -ℤ (b.x -ℤ a.x)))
        +ℤ ((((b.y -ℤ a.y) -ℤ (c.y -ℤ b.y)) *ℤ ((b.y -ℤ a.y) -ℤ (c.y -ℤ b.y)) +ℤ ((c.y -ℤ b.y) -ℤ (d.y -ℤ c.y)) *ℤ ((c.y -ℤ b.y) -ℤ (d.y -ℤ c.y)))
        +ℤ ((d.y -ℤ c.y) -ℤ (b.y -ℤ a.y)) *ℤ ((d.y -ℤ c.y) -ℤ (b.y -ℤ a.y)))
        ≡ pos 3 *ℤ (square_between a.x a.y b.x b.y +ℤ square_between b.x b.y c.x c.y +ℤ square_between c.x c.y d.x d.y)
    sum =
        identity (a.x ∷ a.y ∷ b.x ∷ b.y ∷ c.x ∷ c.y ∷ d.x ∷ d.y ∷ [])
        (square_term (var 0) (var 1) (var 6) (var 7)
        ⊕ ((((var 2 ⊖ var 0) ⊖ (var 4 ⊖ var 2)) ⊛ ((var 2 ⊖ var 0) ⊖ (var 4 ⊖ var 2)) ⊕ ((var 4 ⊖ var 2) ⊖ (var 6 ⊖ var 4)) ⊛ ((var 4 ⊖ var 2) ⊖ (var 6 ⊖ var 4)))
        ⊕ ((var 6 ⊖ var 4) ⊖ (var 2 ⊖ var 0)) ⊛ ((var 6 ⊖ var 4) ⊖ (var 2 ⊖ var 0)))
        ⊕ ((((var 3 ⊖ var 1) ⊖ (var 5 ⊖ var 3)) ⊛ ((var 3 ⊖ var 1) ⊖ (var 5 ⊖ var 3)) ⊕ ((var 5 ⊖ var 3) ⊖ (var 7 ⊖ var 5)) ⊛ ((var 5 ⊖ var 3) ⊖ (var 7 ⊖ var 5)))
        ⊕ ((var 7 ⊖ var 5) ⊖ (var 3 ⊖ var 1)) ⊛ ((var 7 ⊖ var 5) ⊖ (var 3 ⊖ var 1))))
        (num (pos 3) ⊛ (square_term (var 0) (var 1) (var 2) (var 3) ⊕ square_term (var 2) (var 3) (var 4) (var 5) ⊕ square_term (var 4) (var 5) (var 6) (var 7)))
        refl

    atoms : (x y z w p q r s t u : ℤ) (k l m n : ℕ) → pos k ≡ x → pos l ≡ y → pos m ≡ z → pos n ≡ w →
        pos 0 ≤ℤ p → pos 0 ≤ℤ q → pos 0 ≤ℤ r → pos 0 ≤ℤ s → pos 0 ≤ℤ t → pos 0 ≤ℤ u →
        x +ℤ ((p +ℤ q) +ℤ r) +ℤ ((s +ℤ t) +ℤ u) ≡ pos 3 *ℤ (y +ℤ z +ℤ w) → k ≤ 3 * (l + m + n)
    atoms x y z w p q r s t u k l m n e f g h ip iq ir is it iu whole = omega (arith, ints)

    bound : (x y z w p q r s t u : ℤ) (k l m n : ℕ) → pos k ≡ x → pos l ≡ y → pos m ≡ z → pos n ≡ w →
        x +ℤ ((p *ℤ p +ℤ q *ℤ q) +ℤ r *ℤ r) +ℤ ((s *ℤ s +ℤ t *ℤ t) +ℤ u *ℤ u) ≡ pos 3 *ℤ (y +ℤ z +ℤ w) → k ≤ 3 * (l + m + n)
    bound x y z w p q r s t u k l m n e f g h whole =
        atoms x y z w (p *ℤ p) (q *ℤ q) (r *ℤ r) (s *ℤ s) (t *ℤ t) (u *ℤ u) k l m n e f g h
        (square-not_negative p) (square-not_negative q) (square-not_negative r) (square-not_negative s) (square-not_negative t) (square-not_negative u) whole

-- a point outside the disk over a and b has an excess above 0
pub excess_outside : (a b p : Point) → dist2_of a b < dist2_of a p + dist2_of p b → pos 0 <ℤ excess_of a.x a.y b.x b.y p.x p.y
excess_outside a b p out =
    atoms (square_between a.x a.y p.x p.y) (square_between p.x p.y b.x b.y) (square_between a.x a.y b.x b.y) (dist2_of a p) (dist2_of p b) (dist2_of a b)
    (dist2_of-square_between a p) (dist2_of-square_between p b) (dist2_of-square_between a b) out
  where
    atoms : (x y z : ℤ) (l m n : ℕ) → pos l ≡ x → pos m ≡ y → pos n ≡ z → n < l + m → pos 0 <ℤ (x +ℤ y -ℤ z)
    atoms x y z l m n e f g out = omega (arith, ints)

-- between two coordinates the products of the ways to them are not above 0
between : (x z y : ℤ) → LiesFromTo x z y → ((y -ℤ x) *ℤ (y -ℤ z)) ≤ℤ pos 0
between x z y (inl h) =
    let low : (y -ℤ z) ≤ℤ pos 0 = omega (arith, ints) in
    let high : pos 0 ≤ℤ (y -ℤ x) = omega (arith, ints) in
    subst (λ (w : ℤ). w ≤ℤ pos 0) (*ℤ_comm (y -ℤ z) (y -ℤ x)) (*ℤ-not_positive (y -ℤ z) (y -ℤ x) low high)
between x z y (inr h) =
    let low : (y -ℤ x) ≤ℤ pos 0 = omega (arith, ints) in
    let high : pos 0 ≤ℤ (y -ℤ z) = omega (arith, ints) in *ℤ-not_positive (y -ℤ x) (y -ℤ z) low high

-- a point between a and b has no excess above 0
pub excess_between : (a b p : Point) → LiesBetween a b p → excess_of a.x a.y b.x b.y p.x p.y ≤ℤ pos 0
excess_between a b p h =
    atoms (excess_of a.x a.y b.x b.y p.x p.y) ((p.x -ℤ a.x) *ℤ (p.x -ℤ b.x)) ((p.y -ℤ a.y) *ℤ (p.y -ℤ b.y)) twice (between a.x b.x p.x h.0) (between a.y b.y p.y h.1)
  where
    twice : excess_of a.x a.y b.x b.y p.x p.y ≡ pos 2 *ℤ ((p.x -ℤ a.x) *ℤ (p.x -ℤ b.x) +ℤ (p.y -ℤ a.y) *ℤ (p.y -ℤ b.y))
    twice =
        identity (a.x ∷ a.y ∷ b.x ∷ b.y ∷ p.x ∷ p.y ∷ [])
        (excess_term (var 0) (var 1) (var 2) (var 3) (var 4) (var 5))
        (num (pos 2) ⊛ ((var 4 ⊖ var 0) ⊛ (var 4 ⊖ var 2) ⊕ (var 5 ⊖ var 1) ⊛ (var 5 ⊖ var 3)))
        refl

    atoms : (e u v : ℤ) → e ≡ pos 2 *ℤ (u +ℤ v) → u ≤ℤ pos 0 → v ≤ℤ pos 0 → e ≤ℤ pos 0
    atoms e u v is h k = omega (arith, ints)
