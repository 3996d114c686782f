-- Going east or west along a row to its first open point.
use Rattle.std.proofs.Common.{◌≡◌, refl, sym, subst, ◌⊎◌, inl, inr, true, false, Some, None, ℤ, pos, ◌+ℤ◌, ◌-ℤ◌, ◌≤ℤ◌, ◌<ℤ◌, ap₂, arith}
use Rattle.std.proofs.lemmas.Int.{ints}
use Rattle.std.proofs.lemmas.Bool.{and_from, both_ways}
use Rattle.std.specs.Prelude.{int_le}
use Rattle.octi_grid.specs.declared.point.GridPoint.{GridPoint}
use Rattle.grid_board.specs.declared.bounds.Bounds.{Bounds}
use Rattle.grid_board.specs.Boards.{contains, is_between, is_inside, BoardParts}
use Rattle.start_positions.specs.Nearest.{IsEast, IsEvenLine, IsFirstEast, IsFirstWest, IsInRow, IsWest}
use Rattle.start_positions.proofs.Distances.{even_gap}
use Rattle.start_positions.proofs.Rows.{even_point, is_open_from, open_column, open_free, open_lines}

abbrev pub point_at : ℤ → ℤ → GridPoint
point_at x y = record { x = x; y = y }

pub along_both : (P : ℤ → ℤ → Type 0) (a b c d : ℤ) → a ≡ b → c ≡ d → P a c → P b d
along_both P a b c d e f h = subst (λ (z : ℤ). P z d) e (subst (λ (z : ℤ). P a z) f h)

int_le-test : (a b : ℤ) → a ≤ℤ b → int_le a b ≡ true
int_le-test a b h = grind (arith, ints)

pub point_inside : (b : Bounds) (x y : ℤ) → b.left ≤ℤ x → x ≤ℤ b.right → is_between b.bottom y b.top ≡ true → contains b (point_at x y) ≡ true
point_inside b x y h k row =
    and_from (is_between b.left x b.right) (is_between b.bottom y b.top) (and_from (int_le b.left x) (int_le x b.right) (int_le-test b.left x h) (int_le-test x b.right k)) row

-- the point of a row and a column
same_point : (q : GridPoint) (x y : ℤ) → q.x ≡ x → q.y ≡ y → q ≡ point_at x y
same_point q x y e f = ap₂ point_at e f

order_cases : (a b : ℤ) → a ≤ℤ b → (a <ℤ b) ⊎ (b ≡ a)
order_cases a b h = grind (arith, ints)

-- a point of a row in a column that is a node's is not open
not_here : (board : BoardParts) (q : GridPoint) (x y : ℤ) → board.is_node (point_at x y) ≡ true → IsInRow board y q → q.x ≡ x → ⊥
not_here board q x y taken such e =
    let same : q ≡ point_at x y = same_point q x y e such.row in
    both_ways (board.is_node (point_at x y)) (subst (λ (p : GridPoint). board.is_node p ≡ false) same (open_free board q such.is_open)) taken

-- an open one
found_open : (board : BoardParts) (x y : ℤ) → is_inside board (point_at x y) ≡ true → board.is_node (point_at x y) ≡ false → IsEvenLine x → IsEvenLine y → IsInRow board y (point_at x y)
found_open board x y inside free e f = record { is_open = is_open_from board (point_at x y) inside (even_point (point_at x y) e f) free; row = refl }

-- going east
pub east_found : (board : BoardParts) (y from x : ℤ) → is_inside board (point_at x y) ≡ true → board.is_node (point_at x y) ≡ false → IsEvenLine x → IsEvenLine y → from ≤ℤ x
    → ((q : GridPoint) → IsEast board y from q → x ≤ℤ q.x) → IsFirstEast board y from (Some (point_at x y))
east_found board y from x inside free e f past rest = record {
  stands = λ p same. (let is : point_at x y ≡ p = cc in subst (IsEast board y from) is (record { in_row = found_open board x y inside free e f; past = past }));
  first = rest;
}

pub east_none : (board : BoardParts) (y from x : ℤ) → board.bounds.right <ℤ x → ((q : GridPoint) → IsEast board y from q → x ≤ℤ q.x) → IsFirstEast board y from None
east_none board y from x beyond rest = record {
  stands = λ p same. (let clash : ⊥ = cc in absurd clash);
  first = λ q such. (let lines = open_lines board q such.in_row.is_open in let far = rest q such in absurd (omega (arith, ints)));
}

pub east_step : (board : BoardParts) (y from x : ℤ) → board.is_node (point_at x y) ≡ true → IsEvenLine x → ((q : GridPoint) → IsEast board y from q → x ≤ℤ q.x)
    → (q : GridPoint) → IsEast board y from q → (x +ℤ pos 2) ≤ℤ q.x
east_step board y from x taken e rest q such = by_order (order_cases x q.x (rest q such))
  where
    by_order : (x <ℤ q.x) ⊎ (q.x ≡ x) → (x +ℤ pos 2) ≤ℤ q.x
    by_order (inl less) = let gap = even_gap x q.x e (open_column board q such.in_row.is_open) less in omega (arith, ints)
    by_order (inr same) = absurd (not_here board q x y taken such.in_row same)

-- going west
pub west_found : (board : BoardParts) (y from x : ℤ) → is_inside board (point_at x y) ≡ true → board.is_node (point_at x y) ≡ false → IsEvenLine x → IsEvenLine y → x ≤ℤ from
    → ((q : GridPoint) → IsWest board y from q → q.x ≤ℤ x) → IsFirstWest board y from (Some (point_at x y))
west_found board y from x inside free e f past rest = record {
  stands = λ p same. (let is : point_at x y ≡ p = cc in subst (IsWest board y from) is (record { in_row = found_open board x y inside free e f; past = past }));
  first = rest;
}

pub west_none : (board : BoardParts) (y from x : ℤ) → x <ℤ board.bounds.left → ((q : GridPoint) → IsWest board y from q → q.x ≤ℤ x) → IsFirstWest board y from None
west_none board y from x beyond rest = record {
  stands = λ p same. (let clash : ⊥ = cc in absurd clash);
  first = λ q such. (let lines = open_lines board q such.in_row.is_open in let far = rest q such in absurd (omega (arith, ints)));
}

pub west_step : (board : BoardParts) (y from x : ℤ) → board.is_node (point_at x y) ≡ true → IsEvenLine x → ((q : GridPoint) → IsWest board y from q → q.x ≤ℤ x)
    → (q : GridPoint) → IsWest board y from q → q.x ≤ℤ (x -ℤ pos 2)
west_step board y from x taken e rest q such = by_order (order_cases q.x x (rest q such))
  where
    by_order : (q.x <ℤ x) ⊎ (x ≡ q.x) → q.x ≤ℤ (x -ℤ pos 2)
    by_order (inl less) = even_gap q.x x (open_column board q such.in_row.is_open) e less
    by_order (inr same) = absurd (not_here board q x y taken such.in_row (sym same))
