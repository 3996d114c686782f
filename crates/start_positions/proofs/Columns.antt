-- Going up or down, row by row.
use Rattle.std.proofs.Common.{◌≡◌, ◌⊎◌, inl, inr, true, Option, None, ℤ, pos, ◌+ℤ◌, ◌-ℤ◌, ◌≤ℤ◌, ◌<ℤ◌, arith}
use Rattle.std.proofs.lemmas.Int.{ints}
use Rattle.std.proofs.lemmas.Bool.{and_from}
use Rattle.std.specs.Prelude.{int_le}
use Rattle.octi_grid.specs.declared.point.GridPoint.{GridPoint}
use Rattle.grid_board.specs.Boards.{is_between, BoardParts}
use Rattle.start_positions.specs.declared.spot.Spot.{Spot}
use Rattle.start_positions.specs.Nearest.{is_open, IsAbove, IsBelow, IsEvenLine, IsFromRow, IsInRow, IsNearest, IsSpot, IsTooFar}
use Rattle.start_positions.proofs.Distances.{even_gap}
use Rattle.start_positions.proofs.Rows.{all_far, both, none_more, open_lines, open_row, too_far_above, too_far_below}

order_of : (a b : ℤ) → (a <ℤ b) ⊎ (b ≤ℤ a)
order_of a b = grind (arith, ints)

int_le-test : (a b : ℤ) → a ≤ℤ b → int_le a b ≡ true
int_le-test a b h = grind (arith, ints)

pub is_between_from : (low z high : ℤ) → low ≤ℤ z → z ≤ℤ high → is_between low z high ≡ true
is_between_from low z high h k = and_from (int_le low z) (int_le z high) (int_le-test low z h) (int_le-test z high k)

-- going up
pub above_begins : (board : BoardParts) (s : Spot) → IsNearest s (IsFromRow board s.row s.row) None None
above_begins board s = none_more s (IsFromRow board s.row s.row) None (λ p such. absurd (omega (arith, ints, such.above, such.below)))

pub above_step : (board : BoardParts) (s : Spot) (y : ℤ) (mid found : Option GridPoint) → IsEvenLine y → s.row ≤ℤ y → IsNearest s (IsFromRow board s.row y) None mid → IsNearest s (IsInRow board y) mid found
    → IsNearest s (IsFromRow board s.row (y +ℤ pos 2)) None found
above_step board s y mid found e past one two =
    both s (IsFromRow board s.row y) (IsInRow board y) (IsFromRow board s.row (y +ℤ pos 2)) None mid found one two
    (λ p such. record { is_open = such.is_open; above = such.above; below = omega (arith, ints, such.below) })
    (λ p such. record { is_open = such.is_open; above = omega (arith, ints, such.row); below = omega (arith, ints, such.row) })
    (λ p such. split p such (order_of p.y y))
  where
    same_row : (p : GridPoint) → IsFromRow board s.row (y +ℤ pos 2) p → y ≤ℤ p.y → (y <ℤ p.y) ⊎ (p.y ≤ℤ y) → p.y ≡ y
    same_row p such h (inl less) = let gap = even_gap y p.y e (open_row board p such.is_open) less in absurd (omega (arith, ints, such.below))
    same_row p such h (inr k) = omega (arith, ints)

    split : (p : GridPoint) → IsFromRow board s.row (y +ℤ pos 2) p → (p.y <ℤ y) ⊎ (y ≤ℤ p.y) → IsFromRow board s.row y p ⊎ IsInRow board y p
    split p such (inl h) = inl (record { is_open = such.is_open; above = such.above; below = h })
    split p such (inr h) = inr (record { is_open = such.is_open; row = same_row p such h (order_of y p.y) })

above_rest : (board : BoardParts) (s : Spot) (y : ℤ) (found : Option GridPoint) → s.row ≤ℤ y → IsNearest s (IsFromRow board s.row y) None found → IsNearest s (IsAbove board y) found found
    → IsNearest s (IsAbove board s.row) None found
above_rest board s y found past one two =
    both s (IsFromRow board s.row y) (IsAbove board y) (IsAbove board s.row) None found found one two
    (λ p such. record { is_open = such.is_open; above = such.above })
    (λ p such. record { is_open = such.is_open; above = omega (arith, ints, such.above) })
    (λ p such. split p such (order_of p.y y))
  where
    split : (p : GridPoint) → IsAbove board s.row p → (p.y <ℤ y) ⊎ (y ≤ℤ p.y) → IsFromRow board s.row y p ⊎ IsAbove board y p
    split p such (inl h) = inl (record { is_open = such.is_open; above = such.above; below = h })
    split p such (inr h) = inr (record { is_open = such.is_open; above = h })

pub above_far : (board : BoardParts) (s : Spot) (y : ℤ) (found : Option GridPoint) → IsSpot board.bounds s → s.row ≤ℤ y → IsNearest s (IsFromRow board s.row y) None found → IsTooFar s found y
    → IsNearest s (IsAbove board s.row) None found
above_far board s y found spot past one far =
    above_rest board s y found past one (all_far s (IsAbove board y) found (λ p such. too_far_above board.bounds s found y p spot far past such.above))

pub above_all : (board : BoardParts) (s : Spot) (y : ℤ) (found : Option GridPoint) → s.row ≤ℤ y → board.bounds.top <ℤ y → IsNearest s (IsFromRow board s.row y) None found
    → IsNearest s (IsAbove board s.row) None found
above_all board s y found past beyond one =
    above_rest board s y found past one
    (none_more s (IsAbove board y) found (λ p such. (let lines = open_lines board p such.is_open in absurd (omega (arith, ints, such.above)))))

-- going down
pub below_begins : (board : BoardParts) (s : Spot) (before : Option GridPoint) (low : ℤ) → s.row ≤ℤ low → IsNearest s (IsFromRow board low s.row) before before
below_begins board s before low h = none_more s (IsFromRow board low s.row) before (λ p such. absurd (omega (arith, ints, such.above, such.below)))

pub below_step : (board : BoardParts) (s : Spot) (y : ℤ) (before mid found : Option GridPoint) → IsEvenLine y → y ≤ℤ (s.row -ℤ pos 2) → IsNearest s (IsFromRow board (y +ℤ pos 2) s.row) before mid
    → IsNearest s (IsInRow board y) mid found → IsNearest s (IsFromRow board y s.row) before found
below_step board s y before mid found e past one two =
    both s (IsFromRow board (y +ℤ pos 2) s.row) (IsInRow board y) (IsFromRow board y s.row) before mid found one two
    (λ p such. record { is_open = such.is_open; above = omega (arith, ints, such.above); below = such.below })
    (λ p such. record { is_open = such.is_open; above = omega (arith, ints, such.row); below = omega (arith, ints, such.row) })
    (λ p such. split p such (order_of p.y (y +ℤ pos 2)))
  where
    same_row : (p : GridPoint) → IsFromRow board y s.row p → p.y <ℤ (y +ℤ pos 2) → (y <ℤ p.y) ⊎ (p.y ≤ℤ y) → p.y ≡ y
    same_row p such h (inl less) = let gap = even_gap y p.y e (open_row board p such.is_open) less in absurd (omega (arith, ints))
    same_row p such h (inr k) = omega (arith, ints, such.above)

    split : (p : GridPoint) → IsFromRow board y s.row p → (p.y <ℤ (y +ℤ pos 2)) ⊎ ((y +ℤ pos 2) ≤ℤ p.y) → IsFromRow board (y +ℤ pos 2) s.row p ⊎ IsInRow board y p
    split p such (inl h) = inr (record { is_open = such.is_open; row = same_row p such h (order_of y p.y) })
    split p such (inr h) = inl (record { is_open = such.is_open; above = h; below = such.below })

-- the open points of a row or below it
record IsUpTo (board : BoardParts) (y : ℤ) (p : GridPoint) : Type 0 where
  is_open : is_open board p ≡ true
  below : p.y ≤ℤ y

below_rest : (board : BoardParts) (s : Spot) (y : ℤ) (before found : Option GridPoint) → IsEvenLine y → y ≤ℤ (s.row -ℤ pos 2) → IsNearest s (IsFromRow board (y +ℤ pos 2) s.row) before found
    → IsNearest s (IsUpTo board y) found found → IsNearest s (IsBelow board s.row) before found
below_rest board s y before found e past one two =
    both s (IsFromRow board (y +ℤ pos 2) s.row) (IsUpTo board y) (IsBelow board s.row) before found found one two
    (λ p such. record { is_open = such.is_open; below = such.below })
    (λ p such. record { is_open = such.is_open; below = omega (arith, ints, such.below) })
    (λ p such. split p such (order_of p.y (y +ℤ pos 2)))
  where
    up_to : (p : GridPoint) → IsBelow board s.row p → p.y <ℤ (y +ℤ pos 2) → (y <ℤ p.y) ⊎ (p.y ≤ℤ y) → p.y ≤ℤ y
    up_to p such h (inl less) = let gap = even_gap y p.y e (open_row board p such.is_open) less in absurd (omega (arith, ints))
    up_to p such h (inr k) = k

    split : (p : GridPoint) → IsBelow board s.row p → (p.y <ℤ (y +ℤ pos 2)) ⊎ ((y +ℤ pos 2) ≤ℤ p.y) → IsFromRow board (y +ℤ pos 2) s.row p ⊎ IsUpTo board y p
    split p such (inl h) = inr (record { is_open = such.is_open; below = up_to p such h (order_of y p.y) })
    split p such (inr h) = inl (record { is_open = such.is_open; above = h; below = such.below })

pub below_far : (board : BoardParts) (s : Spot) (y : ℤ) (before found : Option GridPoint) → IsSpot board.bounds s → IsEvenLine y → y ≤ℤ (s.row -ℤ pos 2)
    → IsNearest s (IsFromRow board (y +ℤ pos 2) s.row) before found → IsTooFar s found y → IsNearest s (IsBelow board s.row) before found
below_far board s y before found spot e past one far =
    below_rest board s y before found e past one (all_far s (IsUpTo board y) found (λ p such. too_far_below board.bounds s found y p spot far past such.below))

pub below_all : (board : BoardParts) (s : Spot) (y : ℤ) (before found : Option GridPoint) → IsEvenLine y → y ≤ℤ (s.row -ℤ pos 2) → y <ℤ board.bounds.bottom
    → IsNearest s (IsFromRow board (y +ℤ pos 2) s.row) before found → IsNearest s (IsBelow board s.row) before found
below_all board s y before found e past beyond one =
    below_rest board s y before found e past one
    (none_more s (IsUpTo board y) found (λ p such. (let lines = open_lines board p such.is_open in absurd (omega (arith, ints, such.below)))))

-- up and down together
pub all_rows : (board : BoardParts) (s : Spot) (mid found : Option GridPoint) → IsNearest s (IsAbove board s.row) None mid → IsNearest s (IsBelow board s.row) mid found
    → IsNearest s (λ p. is_open board p ≡ true) None found
all_rows board s mid found one two =
    both s (IsAbove board s.row) (IsBelow board s.row) (λ p. is_open board p ≡ true) None mid found one two (λ p such. such.is_open) (λ p such. such.is_open)
    (λ p such. split p such (order_of p.y s.row))
  where
    split : (p : GridPoint) → is_open board p ≡ true → (p.y <ℤ s.row) ⊎ (s.row ≤ℤ p.y) → IsAbove board s.row p ⊎ IsBelow board s.row p
    split p such (inl h) = inr (record { is_open = such; below = h })
    split p such (inr h) = inl (record { is_open = such; above = h })
