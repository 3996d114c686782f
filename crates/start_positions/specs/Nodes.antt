-- How far east or north nodes lie.
use Rattle.std.specs.Prelude.{ℕ, Bool, ℤ, pos, List, map, slice_index_or}
use Rattle.map_base.specs.declared.point.Point.{Point}
use Rattle.start_positions.specs.Cells.{coordinate}

abbrev pub coordinates : List Point → Bool → List ℤ
coordinates ps east = map (coordinate east) ps

abbrev pub coordinate_at : List Point → ℕ → Bool → ℤ
coordinate_at ps n east = slice_index_or (coordinates ps east) n (pos 0)
