-- Shapes that share a point of the plane meet.
use Rattle.std.proofs.Common.{◌≡◌, ℕ, ◌<◌, true, ℤ, ◌+ℤ◌, ◌-ℤ◌, ◌≤ℤ◌, arith}
use Rattle.std.proofs.lemmas.Int.{ints}
use Rattle.std.proofs.lemmas.Bool.{and_from}
use Rattle.eight_sides.specs.declared.interval.Interval.{Interval}
use Rattle.eight_sides.specs.declared.shape.Shape.{Shape}
use Rattle.eight_sides.specs.Shapes.{meet, overlap}
use Rattle.eight_sides.specs.Points.{IsIn, LiesIn}
use Rattle.eight_sides.proofs.Orders.{le_by_scale, le_true, max_le_min}

le_trans : (a b c : ℤ) → a ≤ℤ b → b ≤ℤ c → a ≤ℤ c
le_trans a b c f g = omega (arith, ints)

-- intervals that share a number, at a scale, share a whole number
pub intervals_share : (s : ℕ) (z : ℤ) (a b : Interval) → 0 < s → LiesIn s z a → LiesIn s z b → overlap a b ≡ true
intervals_share s z a b some h i =
    le_true _ _ (max_le_min a.least b.least a.greatest b.greatest
    (le_by_scale s a.least a.greatest some (le_trans _ z _ h.0 h.1)) (le_by_scale s a.least b.greatest some (le_trans _ z _ h.0 i.1))
    (le_by_scale s b.least a.greatest some (le_trans _ z _ i.0 h.1)) (le_by_scale s b.least b.greatest some (le_trans _ z _ i.0 i.1)))

pub shapes_share : (a b : Shape) (s : ℕ) (x y : ℤ) → 0 < s → IsIn s x y a → IsIn s x y b → meet a b ≡ true
shapes_share a b s x y some h i =
    and_from _ _
    (and_from _ _
    (and_from _ _ (intervals_share s x a.across b.across some h.across i.across) (intervals_share s y a.down b.down some h.down i.down))
    (intervals_share s (x -ℤ y) a.difference b.difference some h.difference i.difference))
    (intervals_share s (x +ℤ y) a.sum b.sum some h.sum i.sum)
