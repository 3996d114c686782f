-- Points of two steps in the plane: inside two steps one point lies only where the steps have one middle.
use Rattle.std.proofs.Common.{◌≡◌, ◌≢◌, refl, sym, ap, ap₂, ℕ, zero, suc, ◌*◌, ◌<◌, ◌⊎◌, inl, inr, ℤ, pos, negsuc, ◌+ℤ◌, ◌-ℤ◌, ◌*ℤ◌, ◌≤ℤ◌, ◌<ℤ◌, arith}
use Rattle.std.proofs.lemmas.Int.{ints}
use Rattle.whole_algebra.proofs.Products.{*ℤ-+ℤ, *ℤ-minus}
use Rattle.whole_algebra.proofs.Signs.{*ℤ-not_negative}
use Rattle.octi_grid.specs.declared.dir.Dir.{Dir}
use Rattle.octi_grid.specs.declared.point.GridPoint.{GridPoint}
use Rattle.octi_grid.specs.Ways.{doubled, east_of, north_of, step_from}
use Rattle.octi_grid.proofs.WayLemmas.{same_point}
use Rattle.walk_search.proofs.FreeWalks.{IsUnit, none, more, less, east_unit, north_unit, odd_part}
use Rattle.drawing_laws.specs.Plane.{PlanePoint, in_parts, on_step}

-- ---- one coordinate

-- n times a number, where that is less than 2 n either way
data Multiple (n : ℕ) (x times : ℤ) : Type 0 where
  never : x ≡ pos 0 → times ≡ pos 0 → Multiple n x times
  once : x ≡ pos 1 → times ≡ pos n → Multiple n x times
  back : x ≡ negsuc 0 → (times +ℤ pos n) ≡ pos 0 → Multiple n x times

-- n times a number that is 2 at least, or at most -2
far : (n : ℕ) (x : ℤ) → pos 2 ≤ℤ x → pos (2 * n) ≤ℤ (pos n *ℤ x)
far n x above =
    let rest : pos 0 ≤ℤ (pos n *ℤ (x -ℤ pos 2)) = *ℤ-not_negative (pos n) (x -ℤ pos 2) (omega (arith, ints)) (omega (arith, ints)) in
    let apart : pos n *ℤ (x -ℤ pos 2) ≡ (pos n *ℤ x) -ℤ (pos n *ℤ pos 2) = *ℤ-minus (pos n) x (pos 2) in
    omega (arith, ints)

far_back : (n : ℕ) (x : ℤ) → x ≤ℤ negsuc 1 → (pos n *ℤ x) ≤ℤ (pos 0 -ℤ pos (2 * n))
far_back n x below =
    let rest : pos 0 ≤ℤ (pos n *ℤ (negsuc 1 -ℤ x)) = *ℤ-not_negative (pos n) (negsuc 1 -ℤ x) (omega (arith, ints)) (omega (arith, ints)) in
    let apart : pos n *ℤ (negsuc 1 -ℤ x) ≡ (pos n *ℤ negsuc 1) -ℤ (pos n *ℤ x) = *ℤ-minus (pos n) (negsuc 1) x in
    omega (arith, ints)

few_times : (n : ℕ) (x : ℤ) → (pos n *ℤ x) <ℤ pos (2 * n) → (pos 0 -ℤ pos (2 * n)) <ℤ (pos n *ℤ x) → Multiple n x (pos n *ℤ x)
few_times n (pos zero) high low = never refl (omega (arith, ints))
few_times n (pos (suc zero)) high low = once refl (omega (arith, ints))
few_times n (pos (suc (suc j))) high low =
    let above : pos 2 ≤ℤ pos (suc (suc j)) = omega (arith, ints) in
    absurd (omega (arith, ints, high, far n (pos (suc (suc j))) above))
few_times n (negsuc zero) high low = back refl (omega (arith, ints))
few_times n (negsuc (suc j)) high low =
    let below : negsuc (suc j) ≤ℤ negsuc 1 = omega (arith, ints) in
    absurd (omega (arith, ints, low, far_back n (negsuc (suc j)) below))

-- what the first product is more than the second is n times the difference of the factors
products_apart : (n : ℕ) (a b : ℤ) → pos n *ℤ (a -ℤ b) ≡ (pos n *ℤ a) -ℤ (pos n *ℤ b)
products_apart n a b = *ℤ-minus (pos n) a b

-- Inside two steps one coordinate is the same only where the middles have the same, too. Here a and b are those of the
-- starts, u and v how far the steps go, and N is n times their difference.
inner_by : (n k m : ℕ) (x times u v : ℤ) → Multiple n x times → IsUnit u → IsUnit v → 0 < k → k < n → 0 < m → m < n
    → (times +ℤ (pos k *ℤ u)) ≡ (pos m *ℤ v) → ((x +ℤ x) +ℤ u) ≡ v
inner_by n k m x times u v (never e f) none none k0 kn m0 mn h = omega (arith, ints)
inner_by n k m x times u v (never e f) none more k0 kn m0 mn h = absurd (omega (arith, ints))
inner_by n k m x times u v (never e f) none less k0 kn m0 mn h = absurd (omega (arith, ints))
inner_by n k m x times u v (never e f) more none k0 kn m0 mn h = absurd (omega (arith, ints))
inner_by n k m x times u v (never e f) more more k0 kn m0 mn h = omega (arith, ints)
inner_by n k m x times u v (never e f) more less k0 kn m0 mn h = absurd (omega (arith, ints))
inner_by n k m x times u v (never e f) less none k0 kn m0 mn h = absurd (omega (arith, ints))
inner_by n k m x times u v (never e f) less more k0 kn m0 mn h = absurd (omega (arith, ints))
inner_by n k m x times u v (never e f) less less k0 kn m0 mn h = omega (arith, ints)
inner_by n k m x times u v (once e f) none none k0 kn m0 mn h = absurd (omega (arith, ints))
inner_by n k m x times u v (once e f) none more k0 kn m0 mn h = absurd (omega (arith, ints))
inner_by n k m x times u v (once e f) none less k0 kn m0 mn h = absurd (omega (arith, ints))
inner_by n k m x times u v (once e f) more none k0 kn m0 mn h = absurd (omega (arith, ints))
inner_by n k m x times u v (once e f) more more k0 kn m0 mn h = absurd (omega (arith, ints))
inner_by n k m x times u v (once e f) more less k0 kn m0 mn h = absurd (omega (arith, ints))
inner_by n k m x times u v (once e f) less none k0 kn m0 mn h = absurd (omega (arith, ints))
inner_by n k m x times u v (once e f) less more k0 kn m0 mn h = omega (arith, ints)
inner_by n k m x times u v (once e f) less less k0 kn m0 mn h = absurd (omega (arith, ints))
inner_by n k m x times u v (back e f) none none k0 kn m0 mn h = absurd (omega (arith, ints))
inner_by n k m x times u v (back e f) none more k0 kn m0 mn h = absurd (omega (arith, ints))
inner_by n k m x times u v (back e f) none less k0 kn m0 mn h = absurd (omega (arith, ints))
inner_by n k m x times u v (back e f) more none k0 kn m0 mn h = absurd (omega (arith, ints))
inner_by n k m x times u v (back e f) more more k0 kn m0 mn h = absurd (omega (arith, ints))
inner_by n k m x times u v (back e f) more less k0 kn m0 mn h = omega (arith, ints)
inner_by n k m x times u v (back e f) less none k0 kn m0 mn h = absurd (omega (arith, ints))
inner_by n k m x times u v (back e f) less more k0 kn m0 mn h = absurd (omega (arith, ints))
inner_by n k m x times u v (back e f) less less k0 kn m0 mn h = absurd (omega (arith, ints))

-- k times a unit is at most k either way
part_high : (k : ℕ) (u : ℤ) → IsUnit u → (pos k *ℤ u) ≤ℤ pos k
part_high k u none = omega (arith, ints)
part_high k u more = omega (arith, ints)
part_high k u less = omega (arith, ints)

part_low : (k : ℕ) (u : ℤ) → IsUnit u → (pos 0 -ℤ pos k) ≤ℤ (pos k *ℤ u)
part_low k u none = omega (arith, ints)
part_low k u more = omega (arith, ints)
part_low k u less = omega (arith, ints)

inner : (n k m : ℕ) (a b u v : ℤ) → IsUnit u → IsUnit v → 0 < k → k < n → 0 < m → m < n
    → ((pos n *ℤ a) +ℤ (pos k *ℤ u)) ≡ ((pos n *ℤ b) +ℤ (pos m *ℤ v)) → ((a +ℤ a) +ℤ u) ≡ ((b +ℤ b) +ℤ v)
inner n k m a b u v iu iv k0 kn m0 mn h =
    of_difference a b u v (inner_by n k m (a -ℤ b) (pos n *ℤ (a -ℤ b)) u v
    (few_times n (a -ℤ b) (omega (arith, ints, products_apart n a b, part_low k u iu, part_high m v iv, h, kn, mn))
    (omega (arith, ints, products_apart n a b, part_high k u iu, part_low m v iv, h, kn, mn)))
    iu iv k0 kn m0 mn (omega (arith, ints, products_apart n a b, h)))
  where
    of_difference : (a b u v : ℤ) → (((a -ℤ b) +ℤ (a -ℤ b)) +ℤ u) ≡ v → ((a +ℤ a) +ℤ u) ≡ ((b +ℤ b) +ℤ v)
    of_difference a b u v e = omega (arith, ints)

-- a grid point lies inside a step in one coordinate only where the step doesn't change it
stays_by : (n k : ℕ) (x times u : ℤ) → Multiple n x times → IsUnit u → 0 < k → k < n → (times +ℤ (pos k *ℤ u)) ≡ pos 0 → u ≡ pos 0
stays_by n k x times u m none k0 kn h = refl
stays_by n k x times u (never e f) more k0 kn h = absurd (omega (arith, ints))
stays_by n k x times u (once e f) more k0 kn h = absurd (omega (arith, ints))
stays_by n k x times u (back e f) more k0 kn h = absurd (omega (arith, ints))
stays_by n k x times u (never e f) less k0 kn h = absurd (omega (arith, ints))
stays_by n k x times u (once e f) less k0 kn h = absurd (omega (arith, ints))
stays_by n k x times u (back e f) less k0 kn h = absurd (omega (arith, ints))

stays : (n k : ℕ) (a b u : ℤ) → IsUnit u → 0 < k → k < n → ((pos n *ℤ a) +ℤ (pos k *ℤ u)) ≡ (pos n *ℤ b) → u ≡ pos 0
stays n k a b u iu k0 kn h =
    stays_by n k (a -ℤ b) (pos n *ℤ (a -ℤ b)) u
    (few_times n (a -ℤ b) (omega (arith, ints, products_apart n a b, part_low k u iu, h, kn))
    (omega (arith, ints, products_apart n a b, part_high k u iu, h, kn)))
    iu k0 kn (omega (arith, ints, products_apart n a b, h))

-- n times two numbers is the same only where the numbers are
same_by : (n : ℕ) (a b times : ℤ) → 0 < n → Multiple n (a -ℤ b) times → times ≡ pos 0 → a ≡ b
same_by n a b times some (never e f) h = omega (arith, ints)
same_by n a b times some (once e f) h = absurd (omega (arith, ints))
same_by n a b times some (back e f) h = absurd (omega (arith, ints))

same_factor : (n : ℕ) (a b : ℤ) → 0 < n → pos n *ℤ a ≡ pos n *ℤ b → a ≡ b
same_factor n a b some h =
    same_by n a b (pos n *ℤ (a -ℤ b)) some
    (few_times n (a -ℤ b) (omega (arith, ints, products_apart n a b, h, some)) (omega (arith, ints, products_apart n a b, h, some)))
    (omega (arith, ints, products_apart n a b, h))

-- how far along a step a coordinate tells, where the step changes it
same_part : (s t : ℕ) (z u : ℤ) → IsUnit u → u ≢ pos 0 → (z +ℤ (pos s *ℤ u)) ≡ (z +ℤ (pos t *ℤ u)) → s ≡ t
same_part s t z u none some h = absurd (some refl)
same_part s t z u more some h = omega (arith, ints)
same_part s t z u less some h = omega (arith, ints)

-- a coordinate at the start and at the end of a step
at_start : (z u : ℤ) → IsUnit u → (z +ℤ (pos 0 *ℤ u)) ≡ z
at_start z u none = omega (arith, ints)
at_start z u more = omega (arith, ints)
at_start z u less = omega (arith, ints)

at_end : (n : ℕ) (a u : ℤ) → ((pos n *ℤ a) +ℤ (pos n *ℤ u)) ≡ pos n *ℤ (a +ℤ u)
at_end n a u = sym (*ℤ-+ℤ (pos n) a u)

-- ---- points

pub plane_point : {a b c d : ℤ} → a ≡ b → c ≡ d → (let p : PlanePoint = record { across = a; up = c } in p) ≡ record { across = b; up = d }
plane_point e f = ap₂ (λ (x y : ℤ). let p : PlanePoint = record { across = x; up = y } in p) e f

pub across_of : (p q : PlanePoint) → p ≡ q → p.across ≡ q.across
across_of p q e = ap (λ (r : PlanePoint). r.across) e

pub up_of : (p q : PlanePoint) → p ≡ q → p.up ≡ q.up
up_of p q e = ap (λ (r : PlanePoint). r.up) e

-- points inside two steps
pub same_middle : (n : ℕ) (p q : GridPoint) (d e : Dir) (k m : ℕ) → 0 < k → k < n → 0 < m → m < n
    → on_step n p d k ≡ on_step n q e m → step_from (doubled p) d ≡ step_from (doubled q) e
same_middle n p q d e k m k0 kn m0 mn h =
    same_point
    (inner n k m p.x q.x (east_of d) (east_of e) (east_unit d) (east_unit e) k0 kn m0 mn (across_of (on_step n p d k) (on_step n q e m) h))
    (inner n k m p.y q.y (north_of d) (north_of e) (north_unit d) (north_unit e) k0 kn m0 mn (up_of (on_step n p d k) (on_step n q e m) h))

-- no grid point lies inside a step
pub not_inside : (n : ℕ) (p q : GridPoint) (d : Dir) (k : ℕ) → 0 < k → k < n → on_step n p d k ≡ in_parts n q → ⊥
not_inside n p q d k k0 kn h = of_part (odd_part d)
  where
    of_part : (east_of d ≢ pos 0) ⊎ (north_of d ≢ pos 0) → ⊥
    of_part (inl odd) = odd (stays n k p.x q.x (east_of d) (east_unit d) k0 kn (across_of (on_step n p d k) (in_parts n q) h))
    of_part (inr odd) = odd (stays n k p.y q.y (north_of d) (north_unit d) k0 kn (up_of (on_step n p d k) (in_parts n q) h))

-- grid points are told apart in parts
pub same_grid_point : (n : ℕ) (p q : GridPoint) → 0 < n → in_parts n p ≡ in_parts n q → p ≡ q
same_grid_point n p q some h =
    same_point (same_factor n p.x q.x some (across_of (in_parts n p) (in_parts n q) h)) (same_factor n p.y q.y some (up_of (in_parts n p) (in_parts n q) h))

-- the points of one step are told apart
pub same_place : (n : ℕ) (p : GridPoint) (d : Dir) (s t : ℕ) → on_step n p d s ≡ on_step n p d t → s ≡ t
same_place n p d s t h = of_part (odd_part d)
  where
    of_part : (east_of d ≢ pos 0) ⊎ (north_of d ≢ pos 0) → s ≡ t
    of_part (inl odd) = same_part s t (pos n *ℤ p.x) (east_of d) (east_unit d) odd (across_of (on_step n p d s) (on_step n p d t) h)
    of_part (inr odd) = same_part s t (pos n *ℤ p.y) (north_of d) (north_unit d) odd (up_of (on_step n p d s) (on_step n p d t) h)

-- a step begins at its point and ends at the next
pub step_begins : (n : ℕ) (p : GridPoint) (d : Dir) → on_step n p d 0 ≡ in_parts n p
step_begins n p d = plane_point (at_start (pos n *ℤ p.x) (east_of d) (east_unit d)) (at_start (pos n *ℤ p.y) (north_of d) (north_unit d))

pub step_ends : (n : ℕ) (p : GridPoint) (d : Dir) → on_step n p d n ≡ in_parts n (step_from p d)
step_ends n p d = plane_point (at_end n p.x (east_of d)) (at_end n p.y (north_of d))
