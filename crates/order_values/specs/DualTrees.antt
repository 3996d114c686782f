-- Trees of settled pairs without where they lie in memory.
use Rattle.std.specs.Prelude.{ℕ, ℤ, ◌+◌, suc, max, List}
use Rattle.map_base.specs.declared.ids.SegId.{SegId}
use Rattle.map_base.specs.declared.ids.LineId.{LineId}
use Rattle.order_values.specs.declared.dual_tree.DualTree.{DualTree}
use Rattle.order_values.specs.declared.dual_tree.DualTree.TheVariants.{Fork', Stop}

-- two lines on a segment with the tree of each order of the two, or prices
pub data PlainDual : Type 0 where
  fork : (seg : SegId) (a b : LineId) (first second : PlainDual) → PlainDual
  stop : (prices : List (ℕ × ℤ)) → PlainDual

-- a tree without where it lies in memory
abbrev pub plain_dual : DualTree → PlainDual
plain_dual (Fork' seg a b p first q second) = fork seg a b (plain_dual first) (plain_dual second)
plain_dual (Stop prices) = stop prices

-- the greatest number of forks on a way to a stop
abbrev pub fork_depth : PlainDual → ℕ
fork_depth (fork seg a b first second) = suc (max (fork_depth first) (fork_depth second))
fork_depth (stop prices) = 0

-- how many stops the tree has
abbrev pub stops_of : PlainDual → ℕ
stops_of (fork seg a b first second) = stops_of first + stops_of second
stops_of (stop prices) = 1
