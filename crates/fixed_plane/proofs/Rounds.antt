-- The order of ways clockwise from north is total, and two ways are equal in it exactly where they point one way.
use Rattle.std.proofs.Common.{◌≡◌, refl, sym, ◌∙◌, ap, subst, ℕ, suc, ◌≢◌, ℤ, pos, ◌+ℤ◌, ◌-ℤ◌, ◌*ℤ◌, ◌≤ℤ◌, ◌<ℤ◌, neg_ℤ, ◌⊎◌, inl, inr, Less, Equal, Greater, Bool, true, false, cond, arith}
use Rattle.std.proofs.Math.IntN.{*ℤ_comm, zero-*ℤ, *ℤ-zero}
use Rattle.std.proofs.lemmas.Int.{ints}
use Rattle.std.proofs.lemmas.Cmp.{ranked, int_ranked, nat_cmp_total, tied_itself}
use Rattle.std.specs.Cmp.{IsTotalOrder}
use Rattle.std.specs.Ordering.{int_cmp, nat_cmp, ordering_then, ordering_reverse, MatchOrdering, bool_cmp}
use Rattle.std.specs.declared.cmp.Ordering.{Ordering}
use Rattle.map_base.specs.declared.point.Point.{Point}
use Rattle.whole_algebra.specs.Turns.{cross_of}
use Rattle.whole_algebra.proofs.Products.{neg_ℤ-*ℤ}
use Rattle.whole_algebra.proofs.Signs.{*ℤ-positive, *ℤ-not_negative, *ℤ-negative, *ℤ-not_positive, *ℤ-negative_factor, int_cmp-*ℤ, int_cmp-neg_ℤ, int_cmp-negative}
use Rattle.whole_algebra.proofs.Crossings.{cross_of-weighted_x, cross_of-opposite, cross_of-swapped, cross_of-scaled}
use Rattle.fixed_plane.specs.Directions.{way_of, half_by, half_of, clockwise_of, PointOneWay}

-- ---- the half turns

-- a way that points into the first half turn
abbrev pub IsEastern : ℤ → ℤ → Type 0
IsEastern x y = (pos 0 <ℤ x) ⊎ ((x ≡ pos 0) × (pos 0 <ℤ y))

-- what each half turn says of a way
abbrev pub InHalf : ℕ → ℤ → ℤ → Type 0
InHalf h x y = ((h ≡ 1) × IsEastern x y) ⊎ (((h ≡ 2) × IsEastern (neg_ℤ x) (neg_ℤ y)) ⊎ ((h ≡ 0) × ((x ≡ pos 0) × (y ≡ pos 0))))

in_half_by : (x y : ℤ) (o p : Ordering) → MatchOrdering o (x <ℤ pos 0) (x ≡ pos 0) (pos 0 <ℤ x) → MatchOrdering p (y <ℤ pos 0) (y ≡ pos 0) (pos 0 <ℤ y) → InHalf (half_by o p) x y
in_half_by x y Greater p h k = inl (refl, inl h)
in_half_by x y Less p h k = inr (inl (refl, inl (omega (arith, ints))))
in_half_by x y Equal Greater h k = inl (refl, inr (h, k))
in_half_by x y Equal Less h k = inr (inl (refl, inr (ap neg_ℤ h, omega (arith, ints))))
in_half_by x y Equal Equal h k = inr (inr (refl, (h, k)))

pub in_half : (a : Point) → InHalf (half_of a) a.x a.y
in_half a =
    in_half_by a.x a.y (int_cmp a.x (pos 0)) (int_cmp a.y (pos 0)) (int_ranked a.x (pos 0) (int_cmp a.x (pos 0)) refl)
    (int_ranked a.y (pos 0) (int_cmp a.y (pos 0)) refl)

not_none : (h k : ℕ) → h ≡ suc k → h ≡ 0 → ⊥
not_none h k e f = omega arith

-- ---- three ways of one half turn

not_west : (x y : ℤ) → IsEastern x y → pos 0 ≤ℤ x
not_west x y (inl h) = omega (arith, ints)
not_west x y (inr h) = omega (arith, ints)

-- of three ways of the first half turn, the second right of the first and the third right of the second,
-- the third is right of the first
right_of : (ax ay bx by cx cy : ℤ) → IsEastern ax ay → IsEastern bx by → IsEastern cx cy →
    cross_of ax ay bx by <ℤ pos 0 → cross_of bx by cx cy <ℤ pos 0 → cross_of ax ay cx cy <ℤ pos 0
right_of ax ay bx by cx cy a (inr b) c first second =
    let across : pos 0 ≤ℤ (ax *ℤ by) = *ℤ-not_negative ax by (not_west ax ay a) (omega (arith, ints)) in
    let none : ay *ℤ bx ≡ pos 0 = ap (λ z. ay *ℤ z) b.0 ∙ *ℤ-zero ay in
    absurd (clash (ax *ℤ by) (ay *ℤ bx) across none first)
  where
    clash : (p q : ℤ) → pos 0 ≤ℤ p → q ≡ pos 0 → (p -ℤ q) <ℤ pos 0 → ⊥
    clash p q h k l = omega (arith, ints)
right_of ax ay bx by cx cy a (inl b) (inr c) first second =
    let across : pos 0 ≤ℤ (bx *ℤ cy) = *ℤ-not_negative bx cy (omega (arith, ints)) (omega (arith, ints)) in
    let none : by *ℤ cx ≡ pos 0 = ap (λ z. by *ℤ z) c.0 ∙ *ℤ-zero by in
    absurd (clash (bx *ℤ cy) (by *ℤ cx) across none second)
  where
    clash : (p q : ℤ) → pos 0 ≤ℤ p → q ≡ pos 0 → (p -ℤ q) <ℤ pos 0 → ⊥
    clash p q h k l = omega (arith, ints)
right_of ax ay bx by cx cy a (inl b) (inl c) first second =
    let p : (cross_of ax ay bx by *ℤ cx) <ℤ pos 0 = *ℤ-negative (cross_of ax ay bx by) cx first c in
    let q : (cross_of bx by cx cy *ℤ ax) ≤ℤ pos 0 = *ℤ-not_positive (cross_of bx by cx cy) ax (omega (arith, ints, second)) (not_west ax ay a) in
    *ℤ-negative_factor (cross_of ax ay cx cy) bx b
    (below (cross_of ax ay cx cy *ℤ bx) (cross_of ax ay bx by *ℤ cx) (cross_of bx by cx cy *ℤ ax) (cross_of-weighted_x ax ay bx by cx cy) p q)
  where
    below : (r p q : ℤ) → r ≡ p +ℤ q → p <ℤ pos 0 → q ≤ℤ pos 0 → r <ℤ pos 0
    below r p q e h k = omega (arith, ints)

-- two ways of the first half turn that span nothing point one way
one_way : (a b : Point) → IsEastern a.x a.y → IsEastern b.x b.y → cross_of a.x a.y b.x b.y ≡ pos 0 → PointOneWay a b
one_way a b (inl h) (inl k) e = record {
  s = b.x;
  t = a.x;
  s_above = k;
  t_above = h;
  across = *ℤ_comm b.x a.x;
  along = *ℤ_comm b.x a.y ∙ equal (a.x *ℤ b.y) (a.y *ℤ b.x) e;
}
  where
    equal : (p q : ℤ) → p -ℤ q ≡ pos 0 → q ≡ p
    equal p q e = omega (arith, ints)
one_way a b (inl h) (inr k) e =
    let across : pos 0 <ℤ (a.x *ℤ b.y) = *ℤ-positive a.x b.y h k.1 in
    let none : a.y *ℤ b.x ≡ pos 0 = ap (λ z. a.y *ℤ z) k.0 ∙ *ℤ-zero a.y in
    absurd (clash (a.x *ℤ b.y) (a.y *ℤ b.x) across none e)
  where
    clash : (p q : ℤ) → pos 0 <ℤ p → q ≡ pos 0 → p -ℤ q ≡ pos 0 → ⊥
    clash p q h k l = omega (arith, ints)
one_way a b (inr h) (inl k) e =
    let across : pos 0 <ℤ (a.y *ℤ b.x) = *ℤ-positive a.y b.x h.1 k in
    let none : a.x *ℤ b.y ≡ pos 0 = ap (λ z. z *ℤ b.y) h.0 ∙ zero-*ℤ b.y in
    absurd (clash (a.x *ℤ b.y) (a.y *ℤ b.x) across none e)
  where
    clash : (p q : ℤ) → pos 0 <ℤ q → p ≡ pos 0 → p -ℤ q ≡ pos 0 → ⊥
    clash p q h k l = omega (arith, ints)
one_way a b (inr h) (inr k) e = record {
  s = b.y;
  t = a.y;
  s_above = k.1;
  t_above = h.1;
  across = ap (λ z. b.y *ℤ z) h.0 ∙ *ℤ-zero b.y ∙ sym (ap (λ z. a.y *ℤ z) k.0 ∙ *ℤ-zero a.y);
  along = *ℤ_comm b.y a.y;
}

-- ---- two ways that point one way

-- such ways have one sign of the area that each spans with a third
pub one_side : (a b c : Point) → PointOneWay a b → int_cmp (cross_of a.x a.y c.x c.y) (pos 0) ≡ int_cmp (cross_of b.x b.y c.x c.y) (pos 0)
one_side a b c w =
    sym (int_cmp-*ℤ (cross_of a.x a.y c.x c.y) w.s w.s_above)
    ∙ ap (λ z. int_cmp z (pos 0))
    (sym (cross_of-scaled w.s a.x a.y c.x c.y) ∙ ap (λ z. cross_of z (w.s *ℤ a.y) c.x c.y) w.across
    ∙ ap (λ z. cross_of (w.t *ℤ b.x) z c.x c.y) w.along ∙ cross_of-scaled w.t b.x b.y c.x c.y)
    ∙ int_cmp-*ℤ (cross_of b.x b.y c.x c.y) w.t w.t_above

-- and they stand in one half turn
one_sign : (s t x y : ℤ) → pos 0 <ℤ s → pos 0 <ℤ t → s *ℤ x ≡ t *ℤ y → int_cmp x (pos 0) ≡ int_cmp y (pos 0)
one_sign s t x y h k e =
    sym (int_cmp-*ℤ x s h) ∙ ap (λ z. int_cmp z (pos 0)) (*ℤ_comm x s ∙ e ∙ *ℤ_comm t y) ∙ int_cmp-*ℤ y t k

one_half : (a b : Point) → PointOneWay a b → half_of a ≡ half_of b
one_half a b w =
    ap (λ o. half_by o (int_cmp a.y (pos 0))) (one_sign w.s w.t a.x b.x w.s_above w.t_above w.across)
    ∙ ap (λ o. half_by (int_cmp b.x (pos 0)) o) (one_sign w.s w.t a.y b.y w.s_above w.t_above w.along)

opposite_back : (s t x y : ℤ) → s *ℤ neg_ℤ x ≡ t *ℤ neg_ℤ y → s *ℤ x ≡ t *ℤ y
opposite_back s t x y e =
    equal (s *ℤ x) (t *ℤ y) (sym (*ℤ_comm s (neg_ℤ x) ∙ neg_ℤ-*ℤ x s ∙ ap neg_ℤ (*ℤ_comm x s)) ∙ e ∙ *ℤ_comm t (neg_ℤ y) ∙ neg_ℤ-*ℤ y t ∙ ap neg_ℤ (*ℤ_comm y t))
  where
    equal : (p q : ℤ) → neg_ℤ p ≡ neg_ℤ q → p ≡ q
    equal p q h = omega (arith, ints)

-- two ways of one half turn that span nothing point one way, unless they are no ways
pub one_way_of : (a b : Point) → half_of a ≢ 0 → half_of a ≡ half_of b → cross_of a.x a.y b.x b.y ≡ pos 0 → PointOneWay a b
one_way_of a b apart same none = of_halves (in_half a) (in_half b)
  where
    differ : (m n : ℕ) → m ≡ n → m ≡ 1 → n ≡ 2 → ⊥
    differ m n e f g = omega arith

    turned : (w : PointOneWay (record { x = neg_ℤ a.x; y = neg_ℤ a.y }) (record { x = neg_ℤ b.x; y = neg_ℤ b.y })) → PointOneWay a b
    turned w = record {
      s = w.s;
      t = w.t;
      s_above = w.s_above;
      t_above = w.t_above;
      across = opposite_back w.s w.t a.x b.x w.across;
      along = opposite_back w.s w.t a.y b.y w.along;
    }

    of_halves : InHalf (half_of a) a.x a.y → InHalf (half_of b) b.x b.y → PointOneWay a b
    of_halves (inl h) (inl k) = one_way a b h.1 k.1 none
    of_halves (inr (inl h)) (inr (inl k)) =
        turned (one_way (record { x = neg_ℤ a.x; y = neg_ℤ a.y }) (record { x = neg_ℤ b.x; y = neg_ℤ b.y }) h.1 k.1 (cross_of-opposite a.x a.y b.x b.y ∙ none))
    of_halves (inr (inr h)) k = absurd (apart h.0)
    of_halves (inl h) (inr (inl k)) = absurd (differ (half_of a) (half_of b) same h.0 k.0)
    of_halves (inl h) (inr (inr k)) = absurd (apart (same ∙ k.0))
    of_halves (inr (inl h)) (inl k) = absurd (differ (half_of b) (half_of a) (sym same) k.0 h.0)
    of_halves (inr (inl h)) (inr (inr k)) = absurd (apart (same ∙ k.0))

-- ---- the order

zero_of_equal : (z : ℤ) → int_cmp z (pos 0) ≡ Equal → z ≡ pos 0
zero_of_equal z e = int_ranked z (pos 0) Equal (sym e)

equal_of_zero : (z : ℤ) → z ≡ pos 0 → int_cmp z (pos 0) ≡ Equal
equal_of_zero z e = ap (λ x. int_cmp x (pos 0)) e

below_of_less : (z : ℤ) → int_cmp z (pos 0) ≡ Less → z <ℤ pos 0
below_of_less z e = int_ranked z (pos 0) Less (sym e)

same_of_equal : (m n : ℕ) → nat_cmp m n ≡ Equal → m ≡ n
same_of_equal m n e = ranked m n Equal (sym e)

equal_of_same : (m n : ℕ) → m ≡ n → nat_cmp m n ≡ Equal
equal_of_same m n e = ap (λ k. nat_cmp m k) (sym e) ∙ itself m
  where
    itself : (m : ℕ) → nat_cmp m m ≡ Equal
    itself m = grind arith

then_less : (o p : Ordering) → ordering_then o p ≡ Less → (o ≡ Less) ⊎ ((o ≡ Equal) × (p ≡ Less))
then_less Less p e = inl refl
then_less Equal p e = inr (refl, e)
then_less Greater p e = cc

then_equal : (o p : Ordering) → ordering_then o p ≡ Equal → (o ≡ Equal) × (p ≡ Equal)
then_equal Less p e = cc
then_equal Equal p e = (refl, e)
then_equal Greater p e = cc

then_reverse : (o p : Ordering) → ordering_then (ordering_reverse o) (ordering_reverse p) ≡ ordering_reverse (ordering_then o p)
then_reverse Less p = refl
then_reverse Equal p = refl
then_reverse Greater p = refl

clockwise_of-reverse : (a b : Point) → clockwise_of a b ≡ ordering_reverse (clockwise_of b a)
clockwise_of-reverse a b =
    ap (λ o. ordering_then o (int_cmp (cross_of a.x a.y b.x b.y) (pos 0))) (nat_cmp_total.antisymm (half_of a) (half_of b))
    ∙ ap (λ o. ordering_then (ordering_reverse (nat_cmp (half_of b) (half_of a))) o)
    (int_cmp-neg_ℤ (cross_of a.x a.y b.x b.y) ∙ ap (λ z. ordering_reverse (int_cmp z (pos 0))) (sym (cross_of-swapped a.x a.y b.x b.y)))
    ∙ then_reverse (nat_cmp (half_of b) (half_of a)) (int_cmp (cross_of b.x b.y a.x a.y) (pos 0))

-- of three ways in one half turn, each right of the one before, the last is right of the first
right_of_both : (a b c : Point) → half_of a ≡ half_of b → half_of b ≡ half_of c → cross_of a.x a.y b.x b.y <ℤ pos 0 → cross_of b.x b.y c.x c.y <ℤ pos 0 →
    cross_of a.x a.y c.x c.y <ℤ pos 0
right_of_both a b c ab bc first second = of_halves (in_half a) (in_half b) (in_half c)
  where
    differ : (m n : ℕ) (i j : ℕ) → m ≡ n → m ≡ i → n ≡ j → i ≢ j → ⊥
    differ m n i j e f g ne = ne (sym f ∙ e ∙ g)

    none : (x y : ℤ) → x ≡ pos 0 → y ≡ pos 0 → cross_of a.x a.y x y <ℤ pos 0 → ⊥
    none x y e f below =
        let left : a.x *ℤ y ≡ pos 0 = ap (λ z. a.x *ℤ z) f ∙ *ℤ-zero a.x in
        let right : a.y *ℤ x ≡ pos 0 = ap (λ z. a.y *ℤ z) e ∙ *ℤ-zero a.y in
        clash (a.x *ℤ y) (a.y *ℤ x) left right below
      where
        clash : (p q : ℤ) → p ≡ pos 0 → q ≡ pos 0 → (p -ℤ q) <ℤ pos 0 → ⊥
        clash p q h k l = omega (arith, ints)

    west : IsEastern (neg_ℤ a.x) (neg_ℤ a.y) → IsEastern (neg_ℤ b.x) (neg_ℤ b.y) → IsEastern (neg_ℤ c.x) (neg_ℤ c.y) → cross_of a.x a.y c.x c.y <ℤ pos 0
    west h k l =
        let P : ℤ → Type 0 = λ z. z <ℤ pos 0 in
        subst P (cross_of-opposite a.x a.y c.x c.y)
        (right_of (neg_ℤ a.x) (neg_ℤ a.y) (neg_ℤ b.x) (neg_ℤ b.y) (neg_ℤ c.x) (neg_ℤ c.y) h k l
        (subst P (sym (cross_of-opposite a.x a.y b.x b.y)) first) (subst P (sym (cross_of-opposite b.x b.y c.x c.y)) second))

    of_halves : InHalf (half_of a) a.x a.y → InHalf (half_of b) b.x b.y → InHalf (half_of c) c.x c.y → cross_of a.x a.y c.x c.y <ℤ pos 0
    of_halves (inl h) (inl k) (inl l) = right_of a.x a.y b.x b.y c.x c.y h.1 k.1 l.1 first second
    of_halves (inr (inl h)) (inr (inl k)) (inr (inl l)) = west h.1 k.1 l.1
    of_halves h (inr (inr k)) l = absurd (none b.x b.y k.1.0 k.1.1 first)
    of_halves (inl h) (inr (inl k)) l = absurd (differ (half_of a) (half_of b) 1 2 ab h.0 k.0 (λ e. cc))
    of_halves (inr (inl h)) (inl k) l = absurd (differ (half_of a) (half_of b) 2 1 ab h.0 k.0 (λ e. cc))
    of_halves (inr (inr h)) (inl k) l = absurd (differ (half_of a) (half_of b) 0 1 ab h.0 k.0 (λ e. cc))
    of_halves (inr (inr h)) (inr (inl k)) l = absurd (differ (half_of a) (half_of b) 0 2 ab h.0 k.0 (λ e. cc))
    of_halves (inl h) (inl k) (inr (inl l)) = absurd (differ (half_of b) (half_of c) 1 2 bc k.0 l.0 (λ e. cc))
    of_halves (inl h) (inl k) (inr (inr l)) = absurd (differ (half_of b) (half_of c) 1 0 bc k.0 l.0 (λ e. cc))
    of_halves (inr (inl h)) (inr (inl k)) (inl l) = absurd (differ (half_of b) (half_of c) 2 1 bc k.0 l.0 (λ e. cc))
    of_halves (inr (inl h)) (inr (inl k)) (inr (inr l)) = absurd (differ (half_of b) (half_of c) 2 0 bc k.0 l.0 (λ e. cc))

clockwise_of-trans : (a b c : Point) → clockwise_of a b ≡ Less → clockwise_of b c ≡ Less → clockwise_of a c ≡ Less
clockwise_of-trans a b c first second =
    by_steps
    (then_less (nat_cmp (half_of a) (half_of b)) (int_cmp (cross_of a.x a.y b.x b.y) (pos 0)) first)
    (then_less (nat_cmp (half_of b) (half_of c)) (int_cmp (cross_of b.x b.y c.x c.y) (pos 0)) second)
  where
    by_half : nat_cmp (half_of a) (half_of c) ≡ Less → clockwise_of a c ≡ Less
    by_half e = ap (λ o. ordering_then o (int_cmp (cross_of a.x a.y c.x c.y) (pos 0))) e

    by_steps :
        (nat_cmp (half_of a) (half_of b) ≡ Less) ⊎ ((nat_cmp (half_of a) (half_of b) ≡ Equal) × (int_cmp (cross_of a.x a.y b.x b.y) (pos 0) ≡ Less)) →
        (nat_cmp (half_of b) (half_of c) ≡ Less) ⊎ ((nat_cmp (half_of b) (half_of c) ≡ Equal) × (int_cmp (cross_of b.x b.y c.x c.y) (pos 0) ≡ Less)) →
        clockwise_of a c ≡ Less
    by_steps (inl h) (inl k) = by_half (nat_cmp_total.trans (half_of a) (half_of b) (half_of c) h k)
    by_steps (inl h) (inr k) = by_half (ap (λ n. nat_cmp (half_of a) n) (sym (same_of_equal (half_of b) (half_of c) k.0)) ∙ h)
    by_steps (inr h) (inl k) = by_half (ap (λ n. nat_cmp n (half_of c)) (same_of_equal (half_of a) (half_of b) h.0) ∙ k)
    by_steps (inr h) (inr k) =
        let ab = same_of_equal (half_of a) (half_of b) h.0 in
        let bc = same_of_equal (half_of b) (half_of c) k.0 in
        ap (λ o. ordering_then o (int_cmp (cross_of a.x a.y c.x c.y) (pos 0))) (equal_of_same (half_of a) (half_of c) (ab ∙ bc))
        ∙ int_cmp-negative (cross_of a.x a.y c.x c.y)
        (right_of_both a b c ab bc (below_of_less (cross_of a.x a.y b.x b.y) h.1) (below_of_less (cross_of b.x b.y c.x c.y) k.1))

-- two ways of one half turn that span nothing have one sign of the area that each spans with a third
spans_alike : (a b c : Point) → half_of a ≡ half_of b → cross_of a.x a.y b.x b.y ≡ pos 0 →
    int_cmp (cross_of a.x a.y c.x c.y) (pos 0) ≡ int_cmp (cross_of b.x b.y c.x c.y) (pos 0)
spans_alike a b c same none = of_half (in_half a) (in_half b)
  where
    nothing : (p : Point) → p.x ≡ pos 0 → p.y ≡ pos 0 → int_cmp (cross_of p.x p.y c.x c.y) (pos 0) ≡ Equal
    nothing p e f =
        equal_of_zero (cross_of p.x p.y c.x c.y)
        (zero (p.x *ℤ c.y) (p.y *ℤ c.x) (ap (λ z. z *ℤ c.y) e ∙ zero-*ℤ c.y) (ap (λ z. z *ℤ c.x) f ∙ zero-*ℤ c.x))
      where
        zero : (p q : ℤ) → p ≡ pos 0 → q ≡ pos 0 → p -ℤ q ≡ pos 0
        zero p q h k = omega (arith, ints)

    of_half : InHalf (half_of a) a.x a.y → InHalf (half_of b) b.x b.y → int_cmp (cross_of a.x a.y c.x c.y) (pos 0) ≡ int_cmp (cross_of b.x b.y c.x c.y) (pos 0)
    of_half (inl h) k = one_side a b c (one_way_of a b (λ e. not_none (half_of a) 0 h.0 e) same none)
    of_half (inr (inl h)) k = one_side a b c (one_way_of a b (λ e. not_none (half_of a) 1 h.0 e) same none)
    of_half (inr (inr h)) (inr (inr k)) = nothing a h.1.0 h.1.1 ∙ sym (nothing b k.1.0 k.1.1)
    of_half (inr (inr h)) (inl k) = absurd (not_none (half_of b) 0 k.0 (sym same ∙ h.0))
    of_half (inr (inr h)) (inr (inl k)) = absurd (not_none (half_of b) 1 k.0 (sym same ∙ h.0))

clockwise_of-congr : (a b c : Point) → clockwise_of a b ≡ Equal → clockwise_of a c ≡ clockwise_of b c
clockwise_of-congr a b c e =
    let parts = then_equal (nat_cmp (half_of a) (half_of b)) (int_cmp (cross_of a.x a.y b.x b.y) (pos 0)) e in
    let same = same_of_equal (half_of a) (half_of b) parts.0 in
    ap (λ n. ordering_then (nat_cmp n (half_of c)) (int_cmp (cross_of a.x a.y c.x c.y) (pos 0))) same
    ∙ ap (λ o. ordering_then (nat_cmp (half_of b) (half_of c)) o) (spans_alike a b c same (zero_of_equal (cross_of a.x a.y b.x b.y) parts.1))

-- the order of ways is total
pub clockwise_of_total : IsTotalOrder clockwise_of
clockwise_of_total = record { antisymm = clockwise_of-reverse; trans = clockwise_of-trans; congr = clockwise_of-congr }

-- ways that are equal in it point one way, unless they are no ways
pub one_way-equal : (a b : Point) → half_of a ≢ 0 → clockwise_of a b ≡ Equal → PointOneWay a b
one_way-equal a b apart e =
    let parts = then_equal (nat_cmp (half_of a) (half_of b)) (int_cmp (cross_of a.x a.y b.x b.y) (pos 0)) e in
    one_way_of a b apart (same_of_equal (half_of a) (half_of b) parts.0) (zero_of_equal (cross_of a.x a.y b.x b.y) parts.1)

-- ways that point one way are equal in it
pub clockwise_of-one_way : (a b : Point) → PointOneWay a b → clockwise_of a b ≡ Equal
clockwise_of-one_way a b w =
    ap (λ n. ordering_then (nat_cmp n (half_of b)) (int_cmp (cross_of a.x a.y b.x b.y) (pos 0))) (one_half a b w)
    ∙ ap (λ o. ordering_then (nat_cmp (half_of b) (half_of b)) o) (one_side a b b w)
    ∙ tied_itself clockwise_of_total b

-- the order of the half turns, by whether they begin in the south
pub nat_cmp-halves : (v w : Bool) (m n : ℕ) → m ≡ cond v 2 1 → n ≡ cond w 2 1 → bool_cmp v w ≡ nat_cmp m n
nat_cmp-halves v w m n e f = of_turns v w ∙ sym (ap (λ k. nat_cmp k n) e ∙ ap (λ k. nat_cmp (cond v 2 1) k) f)
  where
    of_turns : (v w : Bool) → bool_cmp v w ≡ nat_cmp (cond v 2 1) (cond w 2 1)
    of_turns true true = refl
    of_turns true false = refl
    of_turns false true = refl
    of_turns false false = refl

-- the way to another point is a way
pub half_of-apart : (from a : Point) → a ≢ from → half_of (way_of from a) ≢ 0
half_of-apart from a apart none = of_half (in_half (way_of from a))
  where
    one : (x y : ℤ) → y -ℤ x ≡ pos 0 → y ≡ x
    one x y e = omega (arith, ints)

    of_half : InHalf (half_of (way_of from a)) (a.x -ℤ from.x) (a.y -ℤ from.y) → ⊥
    of_half (inl h) = not_none (half_of (way_of from a)) 0 h.0 none
    of_half (inr (inl h)) = not_none (half_of (way_of from a)) 1 h.0 none
    of_half (inr (inr h)) =
        apart (ap (λ x. record { x = x; y = a.y }) (one from.x a.x h.1.0) ∙ ap (λ y. record { x = from.x; y = y }) (one from.y a.y h.1.1))
