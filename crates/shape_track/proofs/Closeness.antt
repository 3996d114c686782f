-- Samples begin and end with the ends of their course, and each is close to the next.
use Rattle.std.proofs.Common.{◌≡◌, refl, sym, ◌∙◌, ap, subst, ℕ, zero, suc, ◌+◌, ◌*◌, ◌/◌, ◌<◌, ◌≤◌, Bool, true, false, cond, ◌&&◌, ℤ, pos, negsuc, ◌+ℤ◌, ◌-ℤ◌, ◌*ℤ◌, ◌≤ℤ◌, ◌<ℤ◌, unsigned_abs, List, [], ◌∷◌, ◌++◌, map, Option, Some, None, Equal, arith}
use Rattle.std.proofs.Math.IntN.{*ℤ-zero}
use Rattle.std.proofs.Math.Nat.{zero-div}
use Rattle.std.proofs.lemmas.Int.{ints}
use Rattle.std.proofs.lemmas.Cmp.{int_ranked}
use Rattle.std.specs.List.{range_with_len}
use Rattle.std.specs.Ordering.{int_eq, int_cmp, is_eq}
use Rattle.std.specs.declared.cmp.Ordering.{Ordering}
use Rattle.std.specs.declared.cmp.Ordering.TheVariants.{Less, Greater}
use Rattle.map_base.specs.declared.point.Point.{Point}
use Rattle.whole_algebra.specs.Rounding.{floor_quotient}
use Rattle.whole_algebra.proofs.Products.{minus-*ℤ}
use Rattle.whole_algebra.proofs.Rounding.{floor_quotient-lower, floor_quotient-upper}
use Rattle.whole_algebra.proofs.Signs.{*ℤ-negative}
use Rattle.fixed_plane.specs.Measures.{dist2_of}
use Rattle.shape_track.specs.Samples.{parts_of, part_point, part_points, cut_points, is_point, without_repeats, samples_of, AreClose, first_of, last_of, Joins}
use Rattle.shape_track.specs.Snaps.{ArePlacesFrom}
use Rattle.shape_track.specs.Hops.{hop_points, hops_of, AreJoined}
use Rattle.std.specs.List.{slice_range}
use Rattle.shape_track.proofs.Steps.{parts_of-some, parts_of-reaches, step_within, steps_near}

-- ---- the parts of a piece

-- the first part begins where the piece does
pub part_point-first : (a b : Point) (n : ℕ) → part_point a b n 0 ≡ a
part_point-first a b n =
    ap (λ x. record { x = x; y = a.y +ℤ floor_quotient ((b.y -ℤ a.y) *ℤ pos 0) n }) (nothing a.x (b.x -ℤ a.x)) ∙ ap (λ y. record { x = a.x; y = y }) (nothing a.y (b.y -ℤ a.y))
  where
    none : (x : ℤ) → x +ℤ pos 0 ≡ x
    none x = omega (arith, ints)

    nothing : (x z : ℤ) → x +ℤ floor_quotient (z *ℤ pos 0) n ≡ x
    nothing x z = ap (λ p. x +ℤ floor_quotient p n) (*ℤ-zero z) ∙ ap (λ q. x +ℤ pos q) (zero_div n) ∙ none x
      where
        zero_div : (n : ℕ) → 0 / n ≡ 0
        zero_div n = zero-div n

-- what is multiplied and divided again is what it was
pub floor_quotient-whole : (z : ℤ) (n : ℕ) → 0 < n → floor_quotient (z *ℤ pos n) n ≡ z
floor_quotient-whole z n some =
    let u = floor_quotient (z *ℤ pos n) n in
    let product : (z -ℤ u) *ℤ pos n ≡ z *ℤ pos n -ℤ u *ℤ pos n = minus-*ℤ z u (pos n) in
    equal u z (none (z -ℤ u) (low (z *ℤ pos n) (u *ℤ pos n) ((z -ℤ u) *ℤ pos n) product (floor_quotient-lower (z *ℤ pos n) n some))
    (high (z *ℤ pos n) (u *ℤ pos n) ((z -ℤ u) *ℤ pos n) product (floor_quotient-upper (z *ℤ pos n) n some)))
  where
    low : (p q w : ℤ) → w ≡ p -ℤ q → q ≤ℤ p → pos 0 ≤ℤ w
    low p q w e h = omega (arith, ints)

    high : (p q w : ℤ) → w ≡ p -ℤ q → p <ℤ (q +ℤ pos n) → w <ℤ pos n
    high p q w e h = omega (arith, ints)

    equal : (u z : ℤ) → z -ℤ u ≡ pos 0 → u ≡ z
    equal u z e = omega (arith, ints)

    none : (w : ℤ) → pos 0 ≤ℤ (w *ℤ pos n) → (w *ℤ pos n) <ℤ pos n → w ≡ pos 0
    none (pos zero) h k = refl
    none (pos (suc m)) h k = absurd (clash m n k)
      where
        clash : (m n : ℕ) → (pos (suc m) *ℤ pos n) <ℤ pos n → ⊥
        clash m n k = omega (arith, ints)
    none (negsuc m) h k =
        let below : (negsuc m *ℤ pos n) <ℤ pos 0 = *ℤ-negative (negsuc m) (pos n) (omega (arith, ints)) (omega (arith, ints)) in absurd (both (negsuc m *ℤ pos n) h below)
      where
        both : (x : ℤ) → pos 0 ≤ℤ x → x <ℤ pos 0 → ⊥
        both x h k = omega (arith, ints)

-- the end of the last part is where the piece ends
pub part_point-last : (a b : Point) (n : ℕ) → 0 < n → part_point a b n n ≡ b
part_point-last a b n some =
    ap (λ x. record { x = x; y = a.y +ℤ floor_quotient ((b.y -ℤ a.y) *ℤ pos n) n }) (there a.x b.x) ∙ ap (λ y. record { x = b.x; y = y }) (there a.y b.y)
  where
    back : (x y : ℤ) → x +ℤ (y -ℤ x) ≡ y
    back x y = omega (arith, ints)

    there : (x y : ℤ) → x +ℤ floor_quotient ((y -ℤ x) *ℤ pos n) n ≡ y
    there x y = ap (λ q. x +ℤ q) (floor_quotient-whole (y -ℤ x) n some) ∙ back x y

-- a part begins close to where the next one does
pub parts_close : (near : ℕ) (a b : Point) (i : ℕ) → 20 ≤ near → dist2_of (part_point a b (parts_of near (dist2_of a b)) i) (part_point a b (parts_of near (dist2_of a b)) (i + 1)) ≤ near * near
parts_close near a b i low =
    let n = parts_of near (dist2_of a b) in
    let some : 0 < n = parts_of-some near (dist2_of a b) in
    let x = b.x -ℤ a.x in
    let y = b.y -ℤ a.y in
    let s = unsigned_abs (floor_quotient (x *ℤ pos (i + 1)) n -ℤ floor_quotient (x *ℤ pos i) n) in
    let t = unsigned_abs (floor_quotient (y *ℤ pos (i + 1)) n -ℤ floor_quotient (y *ℤ pos i) n) in
    let near_by : s * s + t * t ≤ near * near =
    steps_near near n (unsigned_abs x) (unsigned_abs y) s t low some (parts_of-reaches near (dist2_of a b) (omega arith)) (step_within x n i some) (step_within y n i some) in
    subst (λ (d : ℕ). d ≤ near * near)
    (ap (λ m. m * m + t * t) (shifted a.x (floor_quotient (x *ℤ pos i) n) (floor_quotient (x *ℤ pos (i + 1)) n))
    ∙ ap (λ m. unsigned_abs ((a.x +ℤ floor_quotient (x *ℤ pos (i + 1)) n) -ℤ (a.x +ℤ floor_quotient (x *ℤ pos i) n)) * unsigned_abs ((a.x +ℤ floor_quotient (x *ℤ pos (i + 1)) n) -ℤ (a.x +ℤ floor_quotient (x *ℤ pos i) n)) + m * m)
    (shifted a.y (floor_quotient (y *ℤ pos i) n) (floor_quotient (y *ℤ pos (i + 1)) n))) near_by
  where
    shifted : (x u v : ℤ) → unsigned_abs (v -ℤ u) ≡ unsigned_abs ((x +ℤ v) -ℤ (x +ℤ u))
    shifted x u v = let same : v -ℤ u ≡ (x +ℤ v) -ℤ (x +ℤ u) = omega (arith, ints) in ap unsigned_abs same

-- the parts from one on, and what comes after the piece
close_from : (near : ℕ) (a b : Point) (rest : List Point) → 20 ≤ near → AreClose near (b ∷ rest) → (m i : ℕ) → i + m ≡ parts_of near (dist2_of a b) →
    AreClose near (map (part_point a b (parts_of near (dist2_of a b))) (range_with_len i m) ++ (b ∷ rest))
close_from near a b rest low after zero i at_end = after
close_from near a b rest low after (suc zero) i at_end =
    let n = parts_of near (dist2_of a b) in
    let next : i + 1 ≡ n = omega arith in (
      subst (λ (q : Point). dist2_of (part_point a b n i) q ≤ near * near) (ap (part_point a b n) next ∙ part_point-last a b n (parts_of-some near (dist2_of a b))) (parts_close near a b i low),
      after,
    )
close_from near a b rest low after (suc (suc m)) i at_end =
    (parts_close near a b i low, close_from near a b rest low after (suc m) (i + 1) (omega arith))

-- a course from its first point on
course_begins : (near : ℕ) (p : Point) (ps : List Point) → (rest : List Point) × (cut_points near (p ∷ ps) ≡ p ∷ rest)
course_begins near p [] = ([], refl)
course_begins near p (q ∷ ps) = begins (parts_of near (dist2_of p q)) (parts_of-some near (dist2_of p q))
  where
    begins : (n : ℕ) → 1 ≤ n → (rest : List Point) × (part_points p q n ++ cut_points near (q ∷ ps) ≡ p ∷ rest)
    begins zero some = absurd (omega arith)
    begins (suc n) some =
        let rest = map (part_point p q (suc n)) (range_with_len (0 + 1) n) ++ cut_points near (q ∷ ps) in
        (rest, ap (λ x. x ∷ rest) (part_point-first p q (suc n)))

-- ---- whole courses

cut_close : (near : ℕ) (ps : List Point) → 20 ≤ near → AreClose near (cut_points near ps)
cut_close near [] low = tt
cut_close near (p ∷ []) low = tt
cut_close near (p ∷ q ∷ ps) low =
    let begun = course_begins near q ps in
    let n = parts_of near (dist2_of p q) in
    let after : AreClose near (q ∷ begun.0) = subst (λ (xs : List Point). AreClose near xs) begun.1 (cut_close near (q ∷ ps) low) in
    subst (λ (xs : List Point). AreClose near (part_points p q n ++ xs)) (sym begun.1) (close_from near p q begun.0 low after n 0 (omega arith))

last_of-append : (xs : List Point) (q : Point) (rest : List Point) → last_of (xs ++ (q ∷ rest)) ≡ last_of (q ∷ rest)
last_of-append [] q rest = refl
last_of-append (x ∷ []) q rest = refl
last_of-append (x ∷ y ∷ xs) q rest = last_of-append (y ∷ xs) q rest

cut_ends : (near : ℕ) (ps : List Point) → last_of (cut_points near ps) ≡ last_of ps
cut_ends near [] = refl
cut_ends near (p ∷ []) = refl
cut_ends near (p ∷ q ∷ ps) =
    let begun = course_begins near q ps in
    let n = parts_of near (dist2_of p q) in
    ap (λ xs. last_of (part_points p q n ++ xs)) begun.1 ∙ last_of-append (part_points p q n) q begun.0 ∙ sym (ap last_of begun.1) ∙ cut_ends near (q ∷ ps)

-- ---- without repeats

is_point-true : (p q : Point) → is_point p q ≡ true → p ≡ q
is_point-true p q e =
    let x : p.x ≡ q.x = same p.x q.x (first (int_eq p.x q.x) (int_eq p.y q.y) e) in
    let y : p.y ≡ q.y = same p.y q.y (second (int_eq p.x q.x) (int_eq p.y q.y) e) in
    ap (λ v. record { x = v; y = p.y }) x ∙ ap (λ v. record { x = q.x; y = v }) y
  where
    first : (a b : Bool) → (a && b) ≡ true → a ≡ true
    first true b h = refl
    first false b h = cc

    second : (a b : Bool) → (a && b) ≡ true → b ≡ true
    second true b h = h
    second false b h = cc

    equal : (o : Ordering) → is_eq o ≡ true → o ≡ Equal
    equal Less h = cc
    equal Equal h = refl
    equal Greater h = cc

    same : (x y : ℤ) → int_eq x y ≡ true → x ≡ y
    same x y h = int_ranked x y Equal (sym (equal (int_cmp x y) h))

kept_close : (near : ℕ) (p : Point) (ps : List Point) → AreClose near (p ∷ ps) → AreClose near (p ∷ without_repeats (Some p) ps)
kept_close near p [] close = tt
kept_close near p (q ∷ qs) close =
    (elim (is_point p q) as (λ b. is_point p q ≡ b → AreClose near (p ∷ (cond b [] (q ∷ []) ++ without_repeats (Some q) qs))) [
      | true ↦ λ e. subst (λ (x : Point). AreClose near (x ∷ without_repeats (Some q) qs)) (sym (is_point-true p q e)) (kept_close near q qs close.1)
      | false ↦ λ e. (close.0, kept_close near q qs close.1)
    ]) refl

kept_ends : (p : Point) (ps : List Point) → last_of (p ∷ without_repeats (Some p) ps) ≡ last_of (p ∷ ps)
kept_ends p [] = refl
kept_ends p (q ∷ qs) =
    (elim (is_point p q) as (λ b. is_point p q ≡ b → last_of (p ∷ (cond b [] (q ∷ []) ++ without_repeats (Some q) qs)) ≡ last_of (q ∷ qs)) [
      | true ↦ λ e. ap (λ x. last_of (x ∷ without_repeats (Some q) qs)) (is_point-true p q e) ∙ kept_ends q qs
      | false ↦ λ e. kept_ends q qs
    ]) refl

-- the samples of a course join its ends
pub samples_join : (near : ℕ) (ps : List Point) → 20 ≤ near → Joins near (first_of ps) (last_of ps) (samples_of near ps)
samples_join near [] low = record { begins = refl; ends = refl; close = tt }
samples_join near (p ∷ ps) low =
    let begun = course_begins near p ps in
    let close : AreClose near (p ∷ begun.0) = subst (λ (xs : List Point). AreClose near xs) begun.1 (cut_close near (p ∷ ps) low) in
    let ends : last_of (p ∷ begun.0) ≡ last_of (p ∷ ps) = sym (ap last_of begun.1) ∙ cut_ends near (p ∷ ps) in
    subst (λ (xs : List Point). Joins near (Some p) (last_of (p ∷ ps)) (without_repeats None xs)) (sym begun.1)
    (record { begins = refl; ends = kept_ends p begun.0 ∙ ends; close = kept_close near p begun.0 close })

-- ---- hops

pub hops_joined : (near floor n : ℕ) (samples ss : List Point) (is : List ℕ) → 20 ≤ near → ArePlacesFrom floor n ss is → AreJoined near ss (hops_of near samples ss is)
hops_joined near floor n samples [] is low placed = tt
hops_joined near floor n samples (s ∷ []) is low placed = tt
hops_joined near floor n samples (s ∷ t ∷ ss) [] low placed = absurd placed
hops_joined near floor n samples (s ∷ t ∷ ss) (i ∷ []) low placed = absurd placed.2
hops_joined near floor n samples (s ∷ t ∷ ss) (i ∷ j ∷ is) low placed = (
  subst (λ (to : Option Point). Joins near (Some s) to (samples_of near (hop_points samples s i t j))) (last_of-append (s ∷ slice_range samples i (j + 1)) t []) (samples_join near (hop_points samples s i t j) low),
  hops_joined near i n samples (t ∷ ss) (j ∷ is) low placed.2,
)
