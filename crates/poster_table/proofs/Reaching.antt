-- Shapes that meet reach into one cell.
use Rattle.std.proofs.Common.{◌≡◌, ℕ, ◌+◌, ◌-◌, ◌/◌, ◌≤◌, true, ◌&&◌, ℤ, pos, ◌+ℤ◌, ◌≤ℤ◌, max, arith}
use Rattle.std.specs.Prelude.{int_le, Contains, unsigned_abs}
use Rattle.std.specs.Int.{int_min, int_max}
use Rattle.std.specs.List.{range_with_len}
use Rattle.std.proofs.lemmas.Int.{ints, clamps}
use Rattle.std.proofs.lemmas.Bool.{and_parts}
use Rattle.eight_sides.specs.declared.interval.Interval.{Interval}
use Rattle.eight_sides.specs.declared.shape.Shape.{Shape}
use Rattle.eight_sides.specs.Shapes.{meet, overlap}
use Rattle.poster_table.specs.declared.cells.Cells.{Cells}
use Rattle.poster_table.specs.Cells.{bucket_of, buckets_of, cells_of, line_of, row_buckets}
use Rattle.poster_table.proofs.Members.{in_flat, in_map, in_range}

le_from : (a b : ℤ) → int_le a b ≡ true → a ≤ℤ b
le_from a b e = grind (arith, ints)

above_le : (a b : ℤ) → a ≤ℤ b → unsigned_abs (int_max (a +ℤ pos 1099511627776) (pos 0)) ≤ unsigned_abs (int_max (b +ℤ pos 1099511627776) (pos 0))
above_le a b h = omega (arith, ints, clamps)

div_le : (x y : ℕ) → x ≤ y → x / 160 ≤ y / 160
div_le x y h = omega arith

-- columns and rows rise with coordinates
pub line_le : (a b : ℤ) → a ≤ℤ b → line_of a ≤ line_of b
line_le a b h = div_le (unsigned_abs (int_max (a +ℤ pos 1099511627776) (pos 0))) (unsigned_abs (int_max (b +ℤ pos 1099511627776) (pos 0))) (above_le a b h)

-- intervals that share a number are in order, least to greatest, crosswise
pub record AreCrossed (a b : Interval) : Type 0 where
  pub first : a.least ≤ℤ a.greatest
  pub there : a.least ≤ℤ b.greatest
  pub back : b.least ≤ℤ a.greatest
  pub second : b.least ≤ℤ b.greatest

pub crossed : (a b : Interval) → overlap a b ≡ true → AreCrossed a b
crossed a b e =
    let h : int_max a.least b.least ≤ℤ int_min a.greatest b.greatest = le_from (int_max a.least b.least) (int_min a.greatest b.greatest) e in
    record { first = omega (arith, ints, clamps); there = omega (arith, ints, clamps); back = omega (arith, ints, clamps); second = omega (arith, ints, clamps) }

-- the bucket of a cell of some columns and rows is one of theirs
pub cell_in : (n : ℕ) (c : Cells) (column row : ℕ) → c.left ≤ column → column ≤ c.right → c.top ≤ row → row ≤ c.bottom → Contains (buckets_of n c) (bucket_of column row n)
cell_in n c column row left right top bottom =
    in_flat (row_buckets n c) (range_with_len c.top (c.bottom + 1 - c.top)) row (bucket_of column row n)
    (in_range c.top (c.bottom + 1 - c.top) row top (omega arith))
    (in_map (λ (k : ℕ). bucket_of k row n) (range_with_len c.left (c.right + 1 - c.left)) column (in_range c.left (c.right + 1 - c.left) column left (omega arith)))

-- a bucket of both
pub record ShareBucket (n : ℕ) (a b : Cells) : Type 0 where
  pub bucket : ℕ
  pub first : Contains (buckets_of n a) bucket
  pub second : Contains (buckets_of n b) bucket

-- columns and rows that are in order crosswise
cells_share : (n : ℕ) (p q : Cells) → p.left ≤ p.right → p.left ≤ q.right → q.left ≤ p.right → q.left ≤ q.right → p.top ≤ p.bottom → p.top ≤ q.bottom → q.top ≤ p.bottom → q.top ≤ q.bottom → ShareBucket n p q
cells_share n p q l1 l2 l3 l4 t1 t2 t3 t4 = record {
  bucket = bucket_of (max p.left q.left) (max p.top q.top) n;
  first = cell_in n p (max p.left q.left) (max p.top q.top) (omega arith) (omega arith) (omega arith) (omega arith);
  second = cell_in n q (max p.left q.left) (max p.top q.top) (omega arith) (omega arith) (omega arith) (omega arith);
}

pub shapes_share : (n : ℕ) (a b : Shape) → meet a b ≡ true → ShareBucket n (cells_of a) (cells_of b)
shapes_share n a b e =
    let three = and_parts (overlap a.across b.across && overlap a.down b.down && overlap a.difference b.difference) (overlap a.sum b.sum) e in
    let two = and_parts (overlap a.across b.across && overlap a.down b.down) (overlap a.difference b.difference) three.0 in
    let one = and_parts (overlap a.across b.across) (overlap a.down b.down) two.0 in
    let across = crossed a.across b.across one.0 in
    let down = crossed a.down b.down one.1 in
    cells_share n (cells_of a) (cells_of b)
    (line_le a.across.least a.across.greatest across.first) (line_le a.across.least b.across.greatest across.there)
    (line_le b.across.least a.across.greatest across.back) (line_le b.across.least b.across.greatest across.second)
    (line_le a.down.least a.down.greatest down.first) (line_le a.down.least b.down.greatest down.there)
    (line_le b.down.least a.down.greatest down.back) (line_le b.down.least b.down.greatest down.second)
