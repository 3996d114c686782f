-- The samples of points in the plane are in the plane.
use Rattle.std.proofs.Common.{◌≡◌, refl, ℕ, zero, suc, ◌+◌, ◌*◌, ◌<◌, ◌≤◌, ◌⊎◌, inl, inr, true, false, cond, ℤ, pos, negsuc, ◌+ℤ◌, ◌-ℤ◌, ◌*ℤ◌, ◌≤ℤ◌, ◌<ℤ◌, unsigned_abs, List, [], ◌∷◌, ◌++◌, map, drop, Option, Some, None, ◌-◌, arith}
use Rattle.std.proofs.Math.Nat.{mul-le-mul, le_refl}
use Rattle.std.proofs.lemmas.Int.{ints, unsigned_abs-mul}
use Rattle.std.proofs.lemmas.List.Elements.{All-append, All-cons, All-nil, All-take, All-drop}
use Rattle.std.specs.List.{All, range_with_len, slice_range}
use Rattle.map_base.specs.declared.point.Point.{Point}
use Rattle.whole_algebra.specs.Rounding.{floor_quotient}
use Rattle.whole_algebra.proofs.Rounding.{floor_quotient-lower, floor_quotient-within}
use Rattle.whole_algebra.proofs.Signs.{*ℤ-positive, *ℤ-not_positive}
use Rattle.fixed_plane.specs.Plane.{IsInPlane}
use Rattle.fixed_plane.specs.Measures.{dist2_of}
use Rattle.shape_track.specs.Samples.{parts_of, part_point, part_points, cut_points, is_repeat, without_repeats, samples_of}
use Rattle.shape_track.specs.Hops.{hop_points, hops_of}
use Rattle.shape_track.proofs.Steps.{parts_of-some}

-- a part of a way points as the way does
one_sign : (z : ℤ) (n i : ℕ) → 0 < n → ((pos 0 ≤ℤ z) × (pos 0 ≤ℤ floor_quotient (z *ℤ pos i) n)) ⊎ ((z ≤ℤ pos 0) × (floor_quotient (z *ℤ pos i) n ≤ℤ pos 0))
one_sign (pos k) n i some = inl (omega (arith, ints), omega (arith, ints))
one_sign (negsuc k) n i some =
    let below : (negsuc k *ℤ pos i) ≤ℤ pos 0 = *ℤ-not_positive (negsuc k) (pos i) (omega (arith, ints)) (omega (arith, ints)) in
    inr (omega (arith, ints), not_above (floor_quotient (negsuc k *ℤ pos i) n) (negsuc k *ℤ pos i) below (floor_quotient-lower (negsuc k *ℤ pos i) n some))
  where
    not_above : (u p : ℤ) → p ≤ℤ pos 0 → (u *ℤ pos n) ≤ℤ p → u ≤ℤ pos 0
    not_above (pos zero) p h l = omega (arith, ints)
    not_above (pos (suc m)) p h l = let above : pos 0 <ℤ (pos (suc m) *ℤ pos n) = *ℤ-positive (pos (suc m)) (pos n) (omega (arith, ints)) (omega (arith, ints)) in absurd (clash (pos (suc m) *ℤ pos n) p above h l)
      where
        clash : (x p : ℤ) → pos 0 <ℤ x → p ≤ℤ pos 0 → x ≤ℤ p → ⊥
        clash x p a h l = omega (arith, ints)
    not_above (negsuc m) p h l = omega (arith, ints)

part_within : (a b : ℤ) (n i : ℕ) → 0 < n → i ≤ n → unsigned_abs a ≤ 300000000 → unsigned_abs b ≤ 300000000 → unsigned_abs (a +ℤ floor_quotient ((b -ℤ a) *ℤ pos i) n) ≤ 300000000
part_within a b n i some under from to =
    let z = b -ℤ a in
    let size : unsigned_abs (z *ℤ pos i) ≤ unsigned_abs z * n = rw (unsigned_abs-mul z (pos i)) (mul-le-mul (le_refl (unsigned_abs z)) under) in
    let less : unsigned_abs (floor_quotient (z *ℤ pos i) n) ≤ unsigned_abs z = floor_quotient-within (z *ℤ pos i) n (unsigned_abs z) some size in
    between a b z (floor_quotient (z *ℤ pos i) n) refl from to less (one_sign z n i some)
  where
    between : (a b z u : ℤ) → z ≡ b -ℤ a → unsigned_abs a ≤ 300000000 → unsigned_abs b ≤ 300000000 → unsigned_abs u ≤ unsigned_abs z →
        ((pos 0 ≤ℤ z) × (pos 0 ≤ℤ u)) ⊎ ((z ≤ℤ pos 0) × (u ≤ℤ pos 0)) → unsigned_abs (a +ℤ u) ≤ 300000000
    between a b z u e from to less (inl h) = omega (arith, ints)
    between a b z u e from to less (inr h) = omega (arith, ints)

pub part_in_plane : (a b : Point) (n i : ℕ) → 0 < n → i ≤ n → IsInPlane a → IsInPlane b → IsInPlane (part_point a b n i)
part_in_plane a b n i some under from to = record {
  across = part_within a.x b.x n i some under from.across to.across;
  along = part_within a.y b.y n i some under from.along to.along;
}

-- ---- lists of points in the plane

head_of : (p : Point) (ps : List Point) → All IsInPlane (p ∷ ps) → IsInPlane p
head_of p ps all = all 0 p (omega arith)

tail_of : (p : Point) (ps : List Point) → All IsInPlane (p ∷ ps) → All IsInPlane ps
tail_of p ps all = λ k d below. all (suc k) d (omega arith)

parts_in_plane : (a b : Point) (n : ℕ) → 0 < n → IsInPlane a → IsInPlane b → (m i : ℕ) → i + m ≤ n → All IsInPlane (map (part_point a b n) (range_with_len i m))
parts_in_plane a b n some from to zero i under = All-nil IsInPlane
parts_in_plane a b n some from to (suc m) i under =
    All-cons IsInPlane (part_point a b n i) (map (part_point a b n) (range_with_len (i + 1) m)) (part_in_plane a b n i some (omega arith) from to)
    (parts_in_plane a b n some from to m (i + 1) (omega arith))

cut_in_plane : (near : ℕ) (ps : List Point) → All IsInPlane ps → All IsInPlane (cut_points near ps)
cut_in_plane near [] all = all
cut_in_plane near (p ∷ []) all = all
cut_in_plane near (p ∷ q ∷ ps) all =
    let n = parts_of near (dist2_of p q) in
    let some : 0 < n = parts_of-some near (dist2_of p q) in
    let rest = tail_of p (q ∷ ps) all in
    All-append IsInPlane (part_points p q n) (cut_points near (q ∷ ps))
    (parts_in_plane p q n some (head_of p (q ∷ ps) all) (head_of q ps rest) n 0 (omega arith)) (cut_in_plane near (q ∷ ps) rest)

kept_in_plane : (before : Option Point) (ps : List Point) → All IsInPlane ps → All IsInPlane (without_repeats before ps)
kept_in_plane before [] all = all
kept_in_plane before (p ∷ ps) all =
    elim (is_repeat before p) as (λ b. All IsInPlane (cond b [] (p ∷ []) ++ without_repeats (Some p) ps)) [
      | true ↦ kept_in_plane (Some p) ps (tail_of p ps all)
      | false ↦ All-cons IsInPlane p (without_repeats (Some p) ps) (head_of p ps all) (kept_in_plane (Some p) ps (tail_of p ps all))
    ]

pub samples_in_plane : (near : ℕ) (ps : List Point) → All IsInPlane ps → All IsInPlane (samples_of near ps)
samples_in_plane near ps all = kept_in_plane None (cut_points near ps) (cut_in_plane near ps all)

hop_points_in_plane : (samples : List Point) (from : Point) (i : ℕ) (to : Point) (j : ℕ) → All IsInPlane samples → IsInPlane from → IsInPlane to → All IsInPlane (hop_points samples from i to j)
hop_points_in_plane samples from i to j all first last =
    All-cons IsInPlane from (slice_range samples i (j + 1) ++ to ∷ []) first
    (All-append IsInPlane (slice_range samples i (j + 1)) (to ∷ []) (All-take IsInPlane (j + 1 - i) (drop i samples) (All-drop IsInPlane i samples all))
    (All-cons IsInPlane to [] last (All-nil IsInPlane)))

pub hops_in_plane : (near : ℕ) (samples ss : List Point) (is : List ℕ) → All IsInPlane samples → All IsInPlane ss → All (λ hop. All IsInPlane hop) (hops_of near samples ss is)
hops_in_plane near samples [] is all stations = All-nil (λ (hop : List Point). All IsInPlane hop)
hops_in_plane near samples (s ∷ []) is all stations = All-nil (λ (hop : List Point). All IsInPlane hop)
hops_in_plane near samples (s ∷ t ∷ ss) [] all stations = All-nil (λ (hop : List Point). All IsInPlane hop)
hops_in_plane near samples (s ∷ t ∷ ss) (i ∷ []) all stations = All-nil (λ (hop : List Point). All IsInPlane hop)
hops_in_plane near samples (s ∷ t ∷ ss) (i ∷ j ∷ is) all stations =
    let rest = tail_of s (t ∷ ss) stations in
    All-cons (λ (hop : List Point). All IsInPlane hop) (samples_of near (hop_points samples s i t j)) (hops_of near samples (t ∷ ss) (j ∷ is))
    (samples_in_plane near (hop_points samples s i t j) (hop_points_in_plane samples s i t j all (head_of s (t ∷ ss) stations) (head_of t ss rest)))
    (hops_in_plane near samples (t ∷ ss) (j ∷ is) all rest)
