-- No two edges meet but at a common end, and no two edges of one point have one direction.
use Rattle.std.proofs.Common.{◌≡◌, refl, sym, ◌∙◌, ap, ℕ, zero, suc, ◌⊎◌, inl, inr, ℤ, pos, negsuc, ◌+ℤ◌, ◌-ℤ◌, ◌*ℤ◌, ◌≤ℤ◌, ◌<ℤ◌, List, [], ◌∷◌, arith}
use Rattle.std.proofs.lemmas.Int.{ints}
use Rattle.std.proofs.Math.IntN.{zero-*ℤ}
use Rattle.map_base.specs.declared.point.Point.{Point}
use Rattle.whole_algebra.specs.Turns.{excess_of}
use Rattle.whole_algebra.proofs.Identities.{var, num, ◌⊕◌, ◌⊖◌, ◌⊛◌, identity}
use Rattle.whole_algebra.proofs.Crossings.{excess_term, turn_of-differences, excess_of-weighted}
use Rattle.whole_algebra.proofs.Signs.{*ℤ-positive, *ℤ-not_negative, *ℤ-not_positive, *ℤ-eq_zero}
use Rattle.fixed_plane.specs.Measures.{side_of}
use Rattle.fixed_plane.specs.Directions.{LieInOneDirection}
use Rattle.track_net.specs.Nearness.{point_at}
use Rattle.track_net.specs.Nets.{net_over}
use Rattle.track_net.specs.Laws.{HaveOneSign, LieOnOneLine, DoNotMeet, IsPlanar, HasOwnDirections}
use Rattle.track_net.proofs.Squares.{excess_outside, excess_between}
use Rattle.track_net.proofs.EdgeFacts.{edge_of_net}

-- two numbers do not have one sign, or one of them is 0
abbrev AreOpposed : ℤ → ℤ → Type 0
AreOpposed s t = ((pos 0 ≤ℤ s) × (t ≤ℤ pos 0)) ⊎ ((s ≤ℤ pos 0) × (pos 0 ≤ℤ t))

sign_cases : (s : ℤ) → (pos 0 <ℤ s) ⊎ ((s ≡ pos 0) ⊎ (s <ℤ pos 0))
sign_cases (pos zero) = inr (inl refl)
sign_cases (pos (suc n)) = inl (omega (arith, ints))
sign_cases (negsuc n) = inr (inr (omega (arith, ints)))

one_or_opposed : (s t : ℤ) → HaveOneSign s t ⊎ AreOpposed s t
one_or_opposed s t = of_signs (sign_cases s) (sign_cases t)
  where
    of_signs : (pos 0 <ℤ s) ⊎ ((s ≡ pos 0) ⊎ (s <ℤ pos 0)) → (pos 0 <ℤ t) ⊎ ((t ≡ pos 0) ⊎ (t <ℤ pos 0)) → HaveOneSign s t ⊎ AreOpposed s t
    of_signs (inl h) (inl k) = inl (inl (h, k))
    of_signs (inl h) (inr (inl k)) = inr (inl ((omega (arith, ints)), (omega (arith, ints))))
    of_signs (inl h) (inr (inr k)) = inr (inl ((omega (arith, ints)), (omega (arith, ints))))
    of_signs (inr (inl h)) (inl k) = inr (inr ((omega (arith, ints)), (omega (arith, ints))))
    of_signs (inr (inl h)) (inr (inl k)) = inr (inr ((omega (arith, ints)), (omega (arith, ints))))
    of_signs (inr (inl h)) (inr (inr k)) = inr (inl ((omega (arith, ints)), (omega (arith, ints))))
    of_signs (inr (inr h)) (inl k) = inr (inr ((omega (arith, ints)), (omega (arith, ints))))
    of_signs (inr (inr h)) (inr (inl k)) = inr (inr ((omega (arith, ints)), (omega (arith, ints))))
    of_signs (inr (inr h)) (inr (inr k)) = inl (inr (h, k))

-- where the sides s1, s2 and t1, t2 are opposed, the differences agree and the weighted excesses come to nothing, the
-- sides s1 and s2 are 0
opposed_none : (s1 s2 t1 t2 ea eb ec ed : ℤ) → s1 -ℤ s2 ≡ t2 -ℤ t1 → s1 *ℤ ed -ℤ s2 *ℤ ec +ℤ t2 *ℤ ea -ℤ t1 *ℤ eb ≡ pos 0 →
    pos 0 <ℤ ea → pos 0 <ℤ eb → pos 0 <ℤ ec → pos 0 <ℤ ed → AreOpposed s1 s2 → AreOpposed t1 t2 → (s1 ≡ pos 0) × (s2 ≡ pos 0)
opposed_none s1 s2 t1 t2 ea eb ec ed differ weighted pa pb pc pd (inl h) (inl k) = ((omega (arith, ints)), (omega (arith, ints)))
opposed_none s1 s2 t1 t2 ea eb ec ed differ weighted pa pb pc pd (inr h) (inr k) = ((omega (arith, ints)), (omega (arith, ints)))
opposed_none s1 s2 t1 t2 ea eb ec ed differ weighted pa pb pc pd (inl h) (inr k) =
    let above_a : pos 0 ≤ℤ ea = omega (arith, ints) in
    let above_b : pos 0 ≤ℤ eb = omega (arith, ints) in
    let above_c : pos 0 ≤ℤ ec = omega (arith, ints) in
    let above_d : pos 0 ≤ℤ ed = omega (arith, ints) in
    let both = atoms (s1 *ℤ ed) (s2 *ℤ ec) (t2 *ℤ ea) (t1 *ℤ eb) weighted (*ℤ-not_negative s1 ed h.0 above_d) (*ℤ-not_positive s2 ec h.1 above_c)
    (*ℤ-not_negative t2 ea k.1 above_a) (*ℤ-not_positive t1 eb k.0 above_b) in
    (*ℤ-eq_zero s1 ed pd both.0, *ℤ-eq_zero s2 ec pc both.1)
  where
    atoms : (w x y z : ℤ) → w -ℤ x +ℤ y -ℤ z ≡ pos 0 → pos 0 ≤ℤ w → x ≤ℤ pos 0 → pos 0 ≤ℤ y → z ≤ℤ pos 0 → (w ≡ pos 0) × (x ≡ pos 0)
    atoms w x y z e f g h i = ((omega (arith, ints)), (omega (arith, ints)))
opposed_none s1 s2 t1 t2 ea eb ec ed differ weighted pa pb pc pd (inr h) (inl k) =
    let above_a : pos 0 ≤ℤ ea = omega (arith, ints) in
    let above_b : pos 0 ≤ℤ eb = omega (arith, ints) in
    let above_c : pos 0 ≤ℤ ec = omega (arith, ints) in
    let above_d : pos 0 ≤ℤ ed = omega (arith, ints) in
    let both = atoms (s1 *ℤ ed) (s2 *ℤ ec) (t2 *ℤ ea) (t1 *ℤ eb) weighted (*ℤ-not_positive s1 ed h.0 above_d) (*ℤ-not_negative s2 ec h.1 above_c)
    (*ℤ-not_positive t2 ea k.1 above_a) (*ℤ-not_negative t1 eb k.0 above_b) in
    (*ℤ-eq_zero s1 ed pd both.0, *ℤ-eq_zero s2 ec pc both.1)
  where
    atoms : (w x y z : ℤ) → w -ℤ x +ℤ y -ℤ z ≡ pos 0 → w ≤ℤ pos 0 → pos 0 ≤ℤ x → y ≤ℤ pos 0 → pos 0 ≤ℤ z → (w ≡ pos 0) × (x ≡ pos 0)
    atoms w x y z e f g h i = ((omega (arith, ints)), (omega (arith, ints)))

-- two ways do not meet where the ends of each lie outside the disk over the other
pub do_not_meet : (a b c d : Point) →
    pos 0 <ℤ excess_of c.x c.y d.x d.y a.x a.y → pos 0 <ℤ excess_of c.x c.y d.x d.y b.x b.y →
    pos 0 <ℤ excess_of a.x a.y b.x b.y c.x c.y → pos 0 <ℤ excess_of a.x a.y b.x b.y d.x d.y → DoNotMeet a b c d
do_not_meet a b c d pa pb pc pd = record {
  aside = λ apart. aside apart (one_or_opposed (side_of a b c) (side_of a b d)) (one_or_opposed (side_of c d a) (side_of c d b));
  a_outside = λ on h. none (excess_of c.x c.y d.x d.y a.x a.y) pa (excess_between c d a h);
  b_outside = λ on h. none (excess_of c.x c.y d.x d.y b.x b.y) pb (excess_between c d b h);
  c_outside = λ on h. none (excess_of a.x a.y b.x b.y c.x c.y) pc (excess_between a b c h);
  d_outside = λ on h. none (excess_of a.x a.y b.x b.y d.x d.y) pd (excess_between a b d h);
}
  where
    none : (e : ℤ) → pos 0 <ℤ e → e ≤ℤ pos 0 → ⊥
    none e h k = omega (arith, ints)

    aside : (LieOnOneLine a b c d → ⊥) → HaveOneSign (side_of a b c) (side_of a b d) ⊎ AreOpposed (side_of a b c) (side_of a b d) →
        HaveOneSign (side_of c d a) (side_of c d b) ⊎ AreOpposed (side_of c d a) (side_of c d b) →
        HaveOneSign (side_of a b c) (side_of a b d) ⊎ HaveOneSign (side_of c d a) (side_of c d b)
    aside apart (inl h) k = inl h
    aside apart (inr h) (inl k) = inr k
    aside apart (inr h) (inr k) =
        absurd (apart
        (opposed_none (side_of a b c) (side_of a b d) (side_of c d a) (side_of c d b)
        (excess_of c.x c.y d.x d.y a.x a.y) (excess_of c.x c.y d.x d.y b.x b.y) (excess_of a.x a.y b.x b.y c.x c.y) (excess_of a.x a.y b.x b.y d.x d.y)
        (turn_of-differences a.x a.y b.x b.y c.x c.y d.x d.y) (excess_of-weighted a.x a.y b.x b.y c.x c.y d.x d.y) pa pb pc pd h k))

-- two ways from a do not point one way where the end of each lies outside the disk over the other
pub own_directions : (a b c : Point) → pos 0 <ℤ excess_of a.x a.y b.x b.y c.x c.y → pos 0 <ℤ excess_of a.x a.y c.x c.y b.x b.y → LieInOneDirection a b c → ⊥
own_directions a b c pc pb way =
    clash (way.s *ℤ excess_of a.x a.y c.x c.y b.x b.y) (way.t *ℤ excess_of a.x a.y b.x b.y c.x c.y)
    ((way.s *ℤ (b.x -ℤ a.x) -ℤ way.t *ℤ (c.x -ℤ a.x)) *ℤ (b.x -ℤ c.x)) ((way.s *ℤ (b.y -ℤ a.y) -ℤ way.t *ℤ (c.y -ℤ a.y)) *ℤ (b.y -ℤ c.y))
    sum (gone (way.s *ℤ (b.x -ℤ a.x)) (way.t *ℤ (c.x -ℤ a.x)) (b.x -ℤ c.x) way.across) (gone (way.s *ℤ (b.y -ℤ a.y)) (way.t *ℤ (c.y -ℤ a.y)) (b.y -ℤ c.y) way.along)
    (*ℤ-positive way.s (excess_of a.x a.y c.x c.y b.x b.y) way.s_above pb) (*ℤ-positive way.t (excess_of a.x a.y b.x b.y c.x c.y) way.t_above pc)
  where
    sum :
        way.s *ℤ excess_of a.x a.y c.x c.y b.x b.y +ℤ way.t *ℤ excess_of a.x a.y b.x b.y c.x c.y
        ≡ pos 2 *ℤ ((way.s *ℤ (b.x -ℤ a.x) -ℤ way.t *ℤ (c.x -ℤ a.x)) *ℤ (b.x -ℤ c.x) +ℤ (way.s *ℤ (b.y -ℤ a.y) -ℤ way.t *ℤ (c.y -ℤ a.y)) *ℤ (b.y -ℤ c.y))
    sum =
        identity (a.x ∷ a.y ∷ b.x ∷ b.y ∷ c.x ∷ c.y ∷ way.s ∷ way.t ∷ [])
        (var 6 ⊛ excess_term (var 0) (var 1) (var 4) (var 5) (var 2) (var 3) ⊕ var 7 ⊛ excess_term (var 0) (var 1) (var 2) (var 3) (var 4) (var 5))
        (num (pos 2) ⊛ ((var 6 ⊛ (var 2 ⊖ var 0) ⊖ var 7 ⊛ (var 4 ⊖ var 0)) ⊛ (var 2 ⊖ var 4) ⊕ (var 6 ⊛ (var 3 ⊖ var 1) ⊖ var 7 ⊛ (var 5 ⊖ var 1)) ⊛ (var 3 ⊖ var 5)))
        refl

    gone : (x y k : ℤ) → x ≡ y → (x -ℤ y) *ℤ k ≡ pos 0
    gone x y k e = let none : x -ℤ y ≡ pos 0 = omega (arith, ints) in ap (λ z. z *ℤ k) none ∙ zero-*ℤ k

    clash : (p q u v : ℤ) → p +ℤ q ≡ pos 2 *ℤ (u +ℤ v) → u ≡ pos 0 → v ≡ pos 0 → pos 0 <ℤ p → pos 0 <ℤ q → ⊥
    clash p q u v e f g h k = omega (arith, ints)

-- so every net is planar
pub net_is_planar : (near : ℕ) (ps : List Point) → IsPlanar (net_over near ps)
net_is_planar near ps a b c d ab cd ac ad bc bd =
    let e = edge_of_net near ps a b ab in
    let f = edge_of_net near ps c d cd in
    do_not_meet (point_at ps a) (point_at ps b) (point_at ps c) (point_at ps d)
    (excess_outside (point_at ps c) (point_at ps d) (point_at ps a) (f.clear a e.i_in ac ad))
    (excess_outside (point_at ps c) (point_at ps d) (point_at ps b) (f.clear b e.j_in bc bd))
    (excess_outside (point_at ps a) (point_at ps b) (point_at ps c) (e.clear c f.i_in (λ s. ac (sym s)) (λ s. bc (sym s))))
    (excess_outside (point_at ps a) (point_at ps b) (point_at ps d) (e.clear d f.j_in (λ s. ad (sym s)) (λ s. bd (sym s))))

-- and the edges of a point have directions of their own
pub net_has_own_directions : (near : ℕ) (ps : List Point) → HasOwnDirections (net_over near ps)
net_has_own_directions near ps a b c ab ac apart one =
    let e = edge_of_net near ps a b ab in
    let f = edge_of_net near ps a c ac in
    own_directions (point_at ps a) (point_at ps b) (point_at ps c)
    (excess_outside (point_at ps a) (point_at ps b) (point_at ps c) (e.clear c f.j_in (λ s. f.apart (sym s)) (λ s. apart (sym s))))
    (excess_outside (point_at ps a) (point_at ps c) (point_at ps b) (f.clear b e.j_in (λ s. e.apart (sym s)) apart)) one
