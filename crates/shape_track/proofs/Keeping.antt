-- Points that are kept one by one.
use Rattle.std.proofs.Common.{◌≡◌, refl, sym, ◌∙◌, ap, ℕ, suc, ◌+◌, ◌-◌, ◌<◌, ◌≤◌, Bool, true, false, cond, List, [], ◌∷◌, ◌++◌, map, length, Some, arith, append_assoc, append-nil}
use Rattle.std.proofs.Math.Nat.{le_trans, le_refl}
use Rattle.std.specs.List.{range_with_len}
use Rattle.map_base.specs.declared.point.Point.{Point}
use Rattle.map_base.specs.declared.limit_fault.LimitFault.{LimitFault}
use Rattle.map_base.specs.declared.limit_fault.LimitFault.TheVariants.{Limit as AboveLimit, NoMemory}
use Rattle.shape_track.specs.Faults.{HasCause}
use Rattle.shape_track.specs.Samples.{part_point, part_points, is_repeat, without_repeats}
use Rattle.shape_track.specs.Sampling.{Kept, with_point, with_points}

-- the parts of a piece from one on
pub part_points_from : Point → Point → ℕ → ℕ → List Point
part_points_from a b n i = map (part_point a b n) (range_with_len i (n - i))

pub part_points_from-step : (a b : Point) (n i : ℕ) → i < n → part_points_from a b n i ≡ part_point a b n i ∷ part_points_from a b n (i + 1)
unfolding part_points_from
part_points_from-step a b n i below =
    let more : n - i ≡ suc (n - (i + 1)) = omega arith in ap (λ m. map (part_point a b n) (range_with_len i m)) more

pub part_points_from-end : (a b : Point) (n : ℕ) → part_points_from a b n n ≡ []
unfolding part_points_from
part_points_from-end a b n = let none : n - n ≡ 0 = omega arith in ap (λ m. map (part_point a b n) (range_with_len n m)) none

pub part_points_from-start : (a b : Point) (n : ℕ) → part_points_from a b n 0 ≡ part_points a b n
unfolding part_points_from
part_points_from-start a b n = let all : n - 0 ≡ n = omega arith in ap (λ m. map (part_point a b n) (range_with_len 0 m)) all

-- one more point is counted at most once, and none is taken back
pub count-with_point : (k : Kept) (p : Point) → k.count ≤ (with_point k p).count
count-with_point k p = of_test (is_repeat k.before p)
  where
    of_test : (b : Bool) → k.count ≤ cond b k.count (k.count + 1)
    of_test true = le_refl k.count
    of_test false = omega arith

pub count-with_points : (k : Kept) (ps : List Point) → k.count ≤ (with_points k ps).count
count-with_points k [] = le_refl k.count
count-with_points k (p ∷ ps) = le_trans (count-with_point k p) (count-with_points (with_point k p) ps)

pub with_points-append : (k : Kept) (ps qs : List Point) → with_points k (ps ++ qs) ≡ with_points (with_points k ps) qs
with_points-append k [] qs = refl
with_points-append k (p ∷ ps) qs = with_points-append (with_point k p) ps qs

-- a fault that has its cause has it also where there are more samples
pub HasCause-more : (most m n : ℕ) (fault : LimitFault) → m ≤ n → HasCause most m fault → HasCause most n fault
HasCause-more most m n (AboveLimit limit) more cause = (cause.0, (omega arith))
HasCause-more most m n NoMemory more cause = tt

-- what is kept are the points without repeats
pub points-with_points : (k : Kept) (ps : List Point) → (with_points k ps).points ≡ k.points ++ without_repeats k.before ps
points-with_points k [] = sym (append-nil k.points)
points-with_points k (p ∷ ps) =
    points-with_points (with_point k p) ps ∙ of_test (is_repeat k.before p)
  where
    of_test : (b : Bool) → cond b k.points (k.points ++ p ∷ []) ++ without_repeats (Some p) ps ≡ k.points ++ (cond b [] (p ∷ []) ++ without_repeats (Some p) ps)
    of_test true = refl
    of_test false = append_assoc k.points (p ∷ []) (without_repeats (Some p) ps)

-- and they are counted
pub count-with_points_is : (k : Kept) (ps : List Point) → (with_points k ps).count ≡ k.count + length (without_repeats k.before ps)
count-with_points_is k [] = omega arith
count-with_points_is k (p ∷ ps) = count-with_points_is (with_point k p) ps ∙ of_test (is_repeat k.before p)
  where
    rest : ℕ
    rest = length (without_repeats (Some p) ps)

    of_test : (b : Bool) → cond b k.count (k.count + 1) + length (without_repeats (Some p) ps) ≡ k.count + length (cond b [] (p ∷ []) ++ without_repeats (Some p) ps)
    of_test true = refl
    of_test false = omega arith
