-- What a picture asks of a drawing.
use Rattle.std.specs.Prelude.{ℕ, ◌+◌, ◌≤◌, ℤ, pos, ◌-ℤ◌, ◌*◌, List, [], length, slice_get, unwrap_or}
use Rattle.map_base.specs.declared.ids.LineId.{LineId}
use Rattle.line_offsets.specs.declared.corner.Corner.{Corner}

-- Where lines run and nodes lie: of a line that stands k places to the right of segment s its path, where it starts and
-- where it ends; and the centre of a node.
pub record Courses : Type 0 where
  pub path : ℕ → ℤ → List Corner
  pub start : ℕ → ℤ → Corner
  pub end : ℕ → ℤ → Corner
  pub centre : ℕ → Corner

-- the order of segment s
abbrev pub order_at : List (List LineId) → ℕ → List LineId
order_at orders s = unwrap_or (slice_get orders s) []

-- how many places line i of n stands to the right of the middle, doubled
abbrev pub gauge : ℕ → ℕ → ℤ
gauge n i = pos (2 * i + 1) -ℤ pos n

-- each line of each segment stands where lines can be drawn, and so would one more
abbrev pub AreInReach : (ℤ → Type 0) → List (List LineId) → Type 0
AreInReach reaches orders = (s i : ℕ) → i ≤ length (order_at orders s) → reaches (gauge (length (order_at orders s)) i)
