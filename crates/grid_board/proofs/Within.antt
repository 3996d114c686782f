-- Points within bounds, and their numbers.
use Rattle.std.proofs.Common.{◌≡◌, sym, ◌∙◌, ap, ap₂, subst, ℕ, ◌+◌, ◌*◌, ◌/◌, ◌%◌, ◌<◌, ◌≤◌, ◌⊎◌, inl, inr, true, ℤ, pos, negsuc, ◌+ℤ◌, ◌-ℤ◌, ◌≤ℤ◌, arith}
use Rattle.std.specs.Prelude.{int_le, unsigned_abs}
use Rattle.std.proofs.lemmas.Int.{ints}
use Rattle.std.proofs.lemmas.Bool.{and_parts, and_from, cases_lt, cases_order}
use Rattle.std.proofs.Math.Nat.{mul-le-mul_right, mul-le-mul_left}
use Rattle.std.proofs.lemmas.Nat.{div-add-mod'}
use Rattle.octi_grid.specs.declared.point.GridPoint.{GridPoint}
use Rattle.grid_board.specs.declared.bounds.Bounds.{Bounds}
use Rattle.grid_board.specs.Boards.{AreBounds, is_between, contains, extent, cells_of, cell_of, point_of}
use Rattle.grid_board.specs.Frames.{IsFrame}

-- the point lies within bounds
pub record IsInside (b : Bounds) (p : GridPoint) : Type 0 where
  pub west : b.left ≤ℤ p.x
  pub east : p.x ≤ℤ b.right
  pub south : b.bottom ≤ℤ p.y
  pub north : p.y ≤ℤ b.top

int_le-fact : (a b : ℤ) → int_le a b ≡ true → a ≤ℤ b
int_le-fact a b e = grind (arith, ints)

int_le-test : (a b : ℤ) → a ≤ℤ b → int_le a b ≡ true
int_le-test a b h = grind (arith, ints)

pub inside_facts : (b : Bounds) (p : GridPoint) → contains b p ≡ true → IsInside b p
inside_facts b p e =
    let parts = and_parts (is_between b.left p.x b.right) (is_between b.bottom p.y b.top) e in
    let xs = and_parts (int_le b.left p.x) (int_le p.x b.right) parts.0 in
    let ys = and_parts (int_le b.bottom p.y) (int_le p.y b.top) parts.1 in
    record { west = int_le-fact b.left p.x xs.0; east = int_le-fact p.x b.right xs.1; south = int_le-fact b.bottom p.y ys.0; north = int_le-fact p.y b.top ys.1 }

pub inside_test : (b : Bounds) (p : GridPoint) → IsInside b p → contains b p ≡ true
inside_test b p h =
    and_from (is_between b.left p.x b.right) (is_between b.bottom p.y b.top)
    (and_from (int_le b.left p.x) (int_le p.x b.right) (int_le-test b.left p.x h.west) (int_le-test p.x b.right h.east))
    (and_from (int_le b.bottom p.y) (int_le p.y b.top) (int_le-test b.bottom p.y h.south) (int_le-test p.y b.top h.north))

-- the rows and columns of points
pub row_below : (low high z : ℤ) → low ≤ℤ z → z ≤ℤ high → unsigned_abs (z -ℤ low) < extent low high
row_below low high z h k = omega (arith, ints)

pub cell_below : (rows columns row column : ℕ) → row < rows → column < columns → row * columns + column < rows * columns
cell_below rows columns row column h k =
    let all : (row + 1) * columns ≤ rows * columns = mul-le-mul_right columns (let more : row + 1 ≤ rows = omega arith in more) in
    let sum : (row + 1) * columns ≡ row * columns + columns = omega arith in
    omega arith

pub point_below : (b : Bounds) (p : GridPoint) → IsInside b p → cell_of b p < cells_of b
point_below b p h =
    cell_below (extent b.bottom b.top) (extent b.left b.right) (unsigned_abs (p.y -ℤ b.bottom)) (unsigned_abs (p.x -ℤ b.left))
    (row_below b.bottom b.top p.y h.south h.north) (row_below b.left b.right p.x h.west h.east)

pub cell_by_parts : (b : Bounds) (p : GridPoint) → IsInside b p → (row width column : ℕ) → row ≡ unsigned_abs (p.y -ℤ b.bottom) → width ≡ extent b.left b.right →
    column ≡ unsigned_abs (p.x -ℤ b.left) → row * width + column < cells_of b
cell_by_parts b p h row width column r w c =
    let same : row * width + column ≡ cell_of b p = ap₂ (λ (m n : ℕ). m * n + column) r w ∙ ap (λ (k : ℕ). unsigned_abs (p.y -ℤ b.bottom) * extent b.left b.right + k) c in
    subst (λ (n : ℕ). n < cells_of b) (sym same) (point_below b p h)

-- a number below a product, over one factor, is below the other
pub quotient_below : (n rows columns : ℕ) → 0 < columns → n < rows * columns → n / columns < rows
quotient_below n rows columns some h = by_order (cases_lt (n / columns) rows)
  where
    by_order : (n / columns < rows) ⊎ (rows ≤ n / columns) → n / columns < rows
    by_order (inl k) = k
    by_order (inr k) =
        let low : rows * columns ≤ n / columns * columns = mul-le-mul_right columns k in
        let whole : n / columns * columns + n % columns ≡ n = div-add-mod' n columns in
        absurd (omega arith)

extent_some : (low high : ℤ) → 0 < extent low high
extent_some low high = omega arith

at_most : (low high : ℤ) (n : ℕ) → low ≤ℤ high → n < extent low high → (low +ℤ pos n) ≤ℤ high
at_most low high n h k = omega (arith, ints)

at_least : (low : ℤ) (n : ℕ) → low ≤ℤ (low +ℤ pos n)
at_least low n = omega (arith, ints)

pub column_small : (b : Bounds) (n : ℕ) → n % extent b.left b.right < extent b.left b.right
column_small b n = let some : 0 < extent b.left b.right = extent_some b.left b.right in omega arith

pub point_inside : (b : Bounds) → IsFrame b → (n : ℕ) → n < cells_of b → IsInside b (point_of b n)
point_inside b f n below = record {
  west = at_least b.left (n % extent b.left b.right);
  east = at_most b.left b.right (n % extent b.left b.right) f.across (column_small b n);
  south = at_least b.bottom (n / extent b.left b.right);
  north = at_most b.bottom b.top (n / extent b.left b.right) f.upwards (quotient_below n (extent b.bottom b.top) (extent b.left b.right) (extent_some b.left b.right) below);
}

-- a point and its number
abs_back : (low z : ℤ) → low ≤ℤ z → low +ℤ pos (unsigned_abs (z -ℤ low)) ≡ z
abs_back low z h = omega (arith, ints)

pub divided : (columns row column : ℕ) → column < columns → ((row * columns + column) / columns ≡ row) × ((row * columns + column) % columns ≡ column)
divided columns row column h = (quotient, remainder)
  where
    whole : (row * columns + column) / columns * columns + (row * columns + column) % columns ≡ row * columns + column
    whole = div-add-mod' (row * columns + column) columns

    small : (row * columns + column) % columns < columns
    small = omega arith

    quotient : (row * columns + column) / columns ≡ row
    quotient = same ((row * columns + column) / columns) ((row * columns + column) % columns) whole small
      where
        same : (q r : ℕ) → q * columns + r ≡ row * columns + column → r < columns → q ≡ row
        same q r e small = by_order (cases_order q row)
          where
            by_order : (q ≡ row) ⊎ ((q < row) ⊎ (row < q)) → q ≡ row
            by_order (inl k) = k
            by_order (inr (inl k)) =
                let all : (q + 1) * columns ≤ row * columns = mul-le-mul_right columns (let more : q + 1 ≤ row = omega arith in more) in
                let sum : (q + 1) * columns ≡ q * columns + columns = omega arith in
                absurd (omega arith)
            by_order (inr (inr k)) =
                let all : (row + 1) * columns ≤ q * columns = mul-le-mul_right columns (let more : row + 1 ≤ q = omega arith in more) in
                let sum : (row + 1) * columns ≡ row * columns + columns = omega arith in
                absurd (omega arith)

    remainder : (row * columns + column) % columns ≡ column
    remainder = let same : (row * columns + column) / columns * columns ≡ row * columns = ap (λ n. n * columns) quotient in omega arith

pub point_of-cell : (b : Bounds) (p : GridPoint) → IsInside b p → point_of b (cell_of b p) ≡ p
point_of-cell b p h =
    let parts = divided (extent b.left b.right) (unsigned_abs (p.y -ℤ b.bottom)) (unsigned_abs (p.x -ℤ b.left)) (row_below b.left b.right p.x h.west h.east) in
    ap₂ (λ (x y : ℤ). record { x = x; y = y })
    (ap (λ n. b.left +ℤ pos n) parts.1 ∙ abs_back b.left p.x h.west)
    (ap (λ n. b.bottom +ℤ pos n) parts.0 ∙ abs_back b.bottom p.y h.south)

abs_there : (low : ℤ) (n : ℕ) → unsigned_abs ((low +ℤ pos n) -ℤ low) ≡ n
abs_there low n = omega (arith, ints)

pub cell_of-point : (b : Bounds) (n : ℕ) → cell_of b (point_of b n) ≡ n
cell_of-point b n =
    ap₂ (λ (row column : ℕ). row * extent b.left b.right + column) (abs_there b.bottom (n / extent b.left b.right)) (abs_there b.left (n % extent b.left b.right))
    ∙ div-add-mod' n (extent b.left b.right)

extent_small : (low high : ℤ) → negsuc 3999 ≤ℤ low → high ≤ℤ pos 4000 → low ≤ℤ high → extent low high ≤ 8001
extent_small low high h k l = omega (arith, ints)

pub row_small : (b : Bounds) → IsFrame b → (n width : ℕ) → n < cells_of b → width ≡ extent b.left b.right → n / width ≤ 8000
row_small b f n width below is =
    let row : n / extent b.left b.right < extent b.bottom b.top = quotient_below n (extent b.bottom b.top) (extent b.left b.right) (extent_some b.left b.right) below in
    let few : extent b.bottom b.top ≤ 8001 = extent_small b.bottom b.top f.bottom f.top f.upwards in
    let same : n / width ≡ n / extent b.left b.right = ap (λ m. n / m) is in
    omega arith

extent_few : (low high : ℤ) → negsuc 1999 ≤ℤ low → high ≤ℤ pos 2000 → low ≤ℤ high → extent low high ≤ 4001
extent_few low high h k l = omega (arith, ints)

product_few : (rows columns most : ℕ) → rows ≤ most → columns ≤ most → rows * columns ≤ most * most
product_few rows columns most h k =
    let first : rows * columns ≤ most * columns = mul-le-mul_right columns h in
    let second : most * columns ≤ most * most = mul-le-mul_left most k in
    omega arith

-- a board has no more than 4001 points times 4001
pub few_cells : (b : Bounds) → AreBounds b → cells_of b ≤ 16008001
few_cells b h =
    product_few (extent b.bottom b.top) (extent b.left b.right) 4001 (extent_few b.bottom b.top h.bottom.low h.top.high h.upwards) (extent_few b.left b.right h.left.low h.right.high h.across)

pub frame_of : (b : Bounds) → AreBounds b → IsFrame b
frame_of b h = record {
  left = omega (arith, ints, h.left.low);
  right = omega (arith, ints, h.right.high);
  bottom = omega (arith, ints, h.bottom.low);
  top = omega (arith, ints, h.top.high);
  across = h.across;
  upwards = h.upwards;
}
