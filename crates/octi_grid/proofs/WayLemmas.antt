-- The points of a way, step by step and run by run.
use Rattle.std.proofs.Common.{◌≡◌, ℕ, zero, suc, ◌+◌, ◌≤◌, ◌<◌, Bool, true, false, ◌&&◌, cond, ℤ, pos, negsuc, ◌+ℤ◌, ◌-ℤ◌, unsigned_abs, List, [], ◌∷◌, ◌++◌, replicate, Some, None, sym, refl, ap, ◌∙◌, subst, arith, ◌⊎◌, inl, inr, lit≤}
use Rattle.std.proofs.lemmas.Int.{ints}
use Rattle.std.proofs.lemmas.Bool.{leb-true, le-leb, and_parts, and_from, false_from_ne_true, false≢true, and_left}
use Rattle.std.specs.List.{list_all, AllByRecursion}
use Rattle.octi_grid.specs.declared.dir.Dir.{Dir}
use Rattle.octi_grid.specs.declared.dir.Dir.TheVariants as dir
use Rattle.octi_grid.specs.declared.point.GridPoint.{GridPoint}
use Rattle.octi_grid.specs.Ways.{after, east_of, end_within, is_within, moved, north_of, points_from, step_from, IsDoubled, IsWithin}

-- the test of the range is the fact
pub IsWithin-from_test : (p : GridPoint) → is_within p ≡ true → IsWithin p
IsWithin-from_test p e =
    let parts = and_parts _ _ e in
    record { across = leb-true _ _ parts.0; along = leb-true _ _ parts.1 }

pub is_within_true : (p : GridPoint) → IsWithin p → is_within p ≡ true
is_within_true p h = and_from _ _ (le-leb _ _ h.across) (le-leb _ _ h.along)

pub after-append : (p : GridPoint) (ds es : List Dir) → after p (ds ++ es) ≡ after (after p ds) es
after-append p [] es = refl
after-append p (d ∷ ds) es = after-append (step_from p d) ds es

-- a test of each point of a way, part by part
pub list_all-points-append : (test : GridPoint → Bool) (p : GridPoint) (ds es : List Dir)
    → list_all test (points_from p (ds ++ es)) ≡ (list_all test (points_from p ds) && list_all test (points_from (after p ds) es))
list_all-points-append test p [] es = at_joint es
  where
    at_joint : (es : List Dir) → list_all test (points_from p es) ≡ ((test p && true) && list_all test (points_from p es))
    at_joint [] = elim (test p) as (λ b. (b && true) ≡ ((b && true) && (b && true))) [ true ↦ refl | false ↦ refl ]
    at_joint (e ∷ es) = elim (test p) as (λ b. (b && list_all test (points_from (step_from p e) es)) ≡ ((b && true) && (b && list_all test (points_from (step_from p e) es)))) [ true ↦ refl | false ↦ refl ]
list_all-points-append test p (d ∷ ds) es =
    elim (test p) as (λ b. (b && list_all test (points_from (step_from p d) (ds ++ es))) ≡ ((b && list_all test (points_from (step_from p d) ds)) && list_all test (points_from (after p (d ∷ ds)) es))) [
      | true ↦ list_all-points-append test (step_from p d) ds es
      | false ↦ refl
    ]

-- where points of a way have a property, so has its first
pub first_of-points : (P : GridPoint → Type 0) (p : GridPoint) (ds : List Dir) → AllByRecursion P (points_from p ds) → P p
first_of-points P p [] h = h.0
first_of-points P p (d ∷ ds) h = h.0

pub last_of-points : (P : GridPoint → Type 0) (p : GridPoint) (ds : List Dir) → AllByRecursion P (points_from p ds) → P (after p ds)
last_of-points P p [] h = h.0
last_of-points P p (d ∷ ds) h = last_of-points P (step_from p d) ds h.1

-- the points of the first part of a way, and those of the second
pub points_of_first : (P : GridPoint → Type 0) (p : GridPoint) (ds es : List Dir) → AllByRecursion P (points_from p (ds ++ es)) → AllByRecursion P (points_from p ds)
points_of_first P p [] es h = (first_of-points P p es h, tt)
points_of_first P p (d ∷ ds) es h = (h.0, points_of_first P (step_from p d) ds es h.1)

pub points_of_second : (P : GridPoint → Type 0) (p : GridPoint) (ds es : List Dir) → AllByRecursion P (points_from p (ds ++ es)) → AllByRecursion P (points_from (after p ds) es)
points_of_second P p [] es h = h
points_of_second P p (d ∷ ds) es h = points_of_second P (step_from p d) ds es h.1

-- one step more at the end of a way
pub points_more : (P : GridPoint → Type 0) (p : GridPoint) (ds : List Dir) (d : Dir) → AllByRecursion P (points_from p ds) → P (step_from (after p ds) d) → AllByRecursion P (points_from p (ds ++ d ∷ []))
points_more P p [] d h q = (h.0, (q, tt))
points_more P p (e ∷ ds) d h q = (h.0, points_more P (step_from p e) ds d h.1 q)

-- each point that a test lets through has the property that it tests
pub All-from_test : (ps : List GridPoint) → list_all is_within ps ≡ true → AllByRecursion IsWithin ps
All-from_test [] e = tt
All-from_test (p ∷ ps) e =
    let parts = and_parts _ _ e in
    (IsWithin-from_test p parts.0, All-from_test ps parts.1)

pub test-from_All : (ps : List GridPoint) → AllByRecursion IsWithin ps → list_all is_within ps ≡ true
test-from_All [] h = refl
test-from_All (p ∷ ps) h = and_from _ _ (is_within_true p h.0) (test-from_All ps h.1)

-- a sense in which a coordinate changes
data Sense : ℤ → Type 0 where
  stay : Sense (pos 0)
  rise : Sense (pos 1)
  fall : Sense (negsuc 0)

sense_east : (d : Dir) → Sense (east_of d)
sense_east dir.N = stay
sense_east dir.NE = rise
sense_east dir.E = rise
sense_east dir.SE = rise
sense_east dir.S = stay
sense_east dir.SW = fall
sense_east dir.W = fall
sense_east dir.NW = fall

sense_north : (d : Dir) → Sense (north_of d)
sense_north dir.N = rise
sense_north dir.NE = rise
sense_north dir.E = stay
sense_north dir.SE = fall
sense_north dir.S = fall
sense_north dir.SW = fall
sense_north dir.W = stay
sense_north dir.NW = rise

moved_none : (w x : ℤ) → Sense w → moved x w (pos 0) ≡ x
moved_none w x stay = refl
moved_none w x rise = omega (arith, ints)
moved_none w x fall = omega (arith, ints)

moved_more : (w x : ℤ) (n : ℕ) → Sense w → moved (x +ℤ w) w (pos n) ≡ moved x w (pos (suc n))
moved_more w x n stay = omega (arith, ints)
moved_more w x n rise = omega (arith, ints)
moved_more w x n fall = omega (arith, ints)

-- a coordinate between two that are within
between : (w x : ℤ) (n : ℕ) → Sense w → unsigned_abs x ≤ 10000 → unsigned_abs (moved x w (pos (suc n))) ≤ 10000 → unsigned_abs (x +ℤ w) ≤ 10000
between w x n stay low high = omega (arith, ints)
between w x n rise low high = omega (arith, ints)
between w x n fall low high = omega (arith, ints)

-- points of one place
pub same_point : {a b c d : ℤ} → a ≡ b → c ≡ d → (let p : GridPoint = record { x = a; y = c } in p) ≡ record { x = b; y = d }
same_point {a} {b} {c} {d} f g = ap (λ v. let p : GridPoint = record { x = v; y = c } in p) f ∙ ap (λ v. let p : GridPoint = record { x = b; y = v } in p) g

-- where a run leads to
pub after-replicate : (p : GridPoint) (n : ℕ) (d : Dir) → after p (replicate n d) ≡ record { x = moved p.x (east_of d) (pos n); y = moved p.y (north_of d) (pos n) }
after-replicate p zero d = same_point (sym (moved_none _ p.x (sense_east d))) (sym (moved_none _ p.y (sense_north d)))
after-replicate p (suc n) d = after-replicate (step_from p d) n d ∙ same_point (moved_more _ p.x n (sense_east d)) (moved_more _ p.y n (sense_north d))

-- a coordinate that is computed from equal numbers
pub moved_same : (r a b c x w n : ℤ) → r ≡ moved a b c → a ≡ x → b ≡ w → c ≡ n → r ≡ moved x w n
moved_same r a b c x w n e f g h = e ∙ ap (λ v. moved v b c) f ∙ ap (λ v. moved x v c) g ∙ ap (λ v. moved x w v) h

-- a run between two points that are within stays within
pub run_within : (p : GridPoint) (n : ℕ) (d : Dir) → IsWithin p → IsWithin (after p (replicate n d)) → AllByRecursion IsWithin (points_from p (replicate n d))
run_within p zero d here there = (here, tt)
run_within p (suc n) d here there =
    let at_end : IsWithin (record { x = moved p.x (east_of d) (pos (suc n)); y = moved p.y (north_of d) (pos (suc n)) }) = subst IsWithin (after-replicate p (suc n) d) there in
    (here, run_within (step_from p d) n d (record { across = between _ p.x n (sense_east d) here.across at_end.across; along = between _ p.y n (sense_north d) here.along at_end.along }) there)

-- each point of a run between two doubled points may be a doubled one
on_the_way : (w x : ℤ) (most k n : ℕ) → Sense w → k ≤ n → unsigned_abs x ≤ most → unsigned_abs (moved x w (pos n)) ≤ most → unsigned_abs (moved x w (pos k)) ≤ most
on_the_way w x most k n stay h low high = omega (arith, ints)
on_the_way w x most k n rise h low high = omega (arith, ints)
on_the_way w x most k n fall h low high = omega (arith, ints)

pub doubled_on_run : (p : GridPoint) (k n : ℕ) (d : Dir) → k ≤ n → IsDoubled p → IsDoubled (after p (replicate n d)) → IsDoubled (after p (replicate k d))
doubled_on_run p k n d h here there =
    let at_end : IsDoubled (record { x = moved p.x (east_of d) (pos n); y = moved p.y (north_of d) (pos n) }) = subst IsDoubled (after-replicate p n d) there in
    subst IsDoubled (sym (after-replicate p k d))
    (record { across = on_the_way _ p.x 20000 k n (sense_east d) h here.across at_end.across; along = on_the_way _ p.y 20000 k n (sense_north d) h here.along at_end.along })

-- a run that is not short leaves the range
far : (w x : ℤ) (n : ℕ) → unsigned_abs x ≤ 10000 → (w ≡ pos 1) ⊎ (w ≡ negsuc 0) → unsigned_abs (moved x w (pos n)) ≤ 10000 → n ≤ 20000
far w x n here (inl rises) there = let e : unsigned_abs (x +ℤ pos n) ≤ 10000 = subst (λ v. unsigned_abs (moved x v (pos n)) ≤ 10000) rises there in omega (arith, ints)
far w x n here (inr falls) there = let e : unsigned_abs (x -ℤ pos n) ≤ 10000 = subst (λ v. unsigned_abs (moved x v (pos n)) ≤ 10000) falls there in omega (arith, ints)

far_along : (p : GridPoint) (n : ℕ) (d : Dir) → IsWithin p → IsWithin (record { x = moved p.x (east_of d) (pos n); y = moved p.y (north_of d) (pos n) }) → n ≤ 20000
far_along p n dir.N here there = far _ p.y n here.along (inl refl) there.along
far_along p n dir.NE here there = far _ p.y n here.along (inl refl) there.along
far_along p n dir.E here there = far _ p.x n here.across (inl refl) there.across
far_along p n dir.SE here there = far _ p.x n here.across (inl refl) there.across
far_along p n dir.S here there = far _ p.y n here.along (inr refl) there.along
far_along p n dir.SW here there = far _ p.y n here.along (inr refl) there.along
far_along p n dir.W here there = far _ p.x n here.across (inr refl) there.across
far_along p n dir.NW here there = far _ p.x n here.across (inr refl) there.across

pub run_short : (p : GridPoint) (n : ℕ) (d : Dir) → AllByRecursion IsWithin (points_from p (replicate n d)) → n ≤ 20000
run_short p n d h = far_along p n d (first_of-points IsWithin p _ h) (subst IsWithin (after-replicate p n d) (last_of-points IsWithin p _ h))

-- a way that stays within, by its test
pub end_within-some : (p : GridPoint) (ds : List Dir) → AllByRecursion IsWithin (points_from p ds) → end_within p ds ≡ Some (after p ds)
end_within-some p ds h = ap (λ b. cond b (Some (after p ds)) None) (test-from_All _ h)

sense_small : (w : ℤ) → Sense w → unsigned_abs w ≤ 1
sense_small w stay = lit≤ tt
sense_small w rise = lit≤ tt
sense_small w fall = lit≤ tt

pub east_small : (d : Dir) → unsigned_abs (east_of d) ≤ 1
east_small d = sense_small (east_of d) (sense_east d)

pub north_small : (d : Dir) → unsigned_abs (north_of d) ≤ 1
north_small d = sense_small (north_of d) (sense_north d)

-- a way that ends outside does not stay within
pub end_within-none : (p : GridPoint) (ds : List Dir) → is_within (after p ds) ≡ false → end_within p ds ≡ None
end_within-none p ds e =
    ap (λ b. cond b (Some (after p ds)) None)
    (false_from_ne_true _ (λ t. false≢true (sym e ∙ is_within_true _ (last_of-points IsWithin p ds (All-from_test (points_from p ds) t)))))

-- nor does a long run
pub end_within-long : (p : GridPoint) (n : ℕ) (d : Dir) → 20000 < n → end_within p (replicate n d) ≡ None
end_within-long p n d h =
    ap (λ b. cond b (Some (after p (replicate n d))) None)
    (false_from_ne_true _ (λ t. let short = run_short p n d (All-from_test (points_from p (replicate n d)) t) in absurd (omega arith)))

-- a way whose start is outside does not stay within
pub outside_at_start : (p : GridPoint) (ds : List Dir) → is_within p ≡ false → list_all is_within (points_from p ds) ≡ false
outside_at_start p [] e = and_left _ _ e
outside_at_start p (d ∷ ds) e = and_left _ _ e

-- what the end of a way within says
chosen_none : {X : Type 0} (b : Bool) (x : X) → cond b (Some x) None ≡ None → b ≡ false
chosen_none true x e = cc
chosen_none false x e = refl

chosen_some : {X : Type 0} (b : Bool) (x y : X) → cond b (Some x) None ≡ Some y → (b ≡ true) × (x ≡ y)
chosen_some true x y e = (refl, cc)
chosen_some false x y e = cc

pub from_end_none : (p : GridPoint) (ds : List Dir) → end_within p ds ≡ None → list_all is_within (points_from p ds) ≡ false
from_end_none p ds e = chosen_none _ _ e

pub from_end_some : (p : GridPoint) (ds : List Dir) (q : GridPoint) → end_within p ds ≡ Some q → (list_all is_within (points_from p ds) ≡ true) × (after p ds ≡ q)
from_end_some p ds q e = chosen_some _ _ _ e

-- a step goes one further at most
pub reach : (x e : ℤ) (b n : ℕ) → unsigned_abs x ≤ b + n → unsigned_abs e ≤ 1 → unsigned_abs (x +ℤ e) ≤ b + (n + 1)
reach x e b n h k = omega (arith, ints)
