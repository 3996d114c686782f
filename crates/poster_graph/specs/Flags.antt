-- Lines that are on some segment, as they are flagged.
use Rattle.std.specs.Prelude.{ℕ, ◌≡◌, ◌<◌, Bool, false, List, length, map, filter, slice_index_or}
use Rattle.std.specs.List.{list_any, range_with_len}
use Rattle.map_base.specs.declared.ids.LineId.{LineId}
use Rattle.poster_rules.specs.Stations.{has_line}
use Rattle.poster_rules.specs.Plans.{line_numbered}

-- a line is on one of these segments
abbrev pub is_on : List (List LineId) → ℕ → Bool
is_on lists n = list_any (has_line (line_numbered n)) lists

-- of so many lines those are flagged that something says
pub record AreFlags (count : ℕ) (says : ℕ → Bool) (flags : List Bool) : Type 0 where
  pub each : length flags ≡ count
  pub of : (n : ℕ) → n < count → slice_index_or flags n false ≡ says n

-- the lines that are flagged, rising
abbrev pub flagged : List Bool → List LineId
flagged flags = map line_numbered (filter (λ (n : ℕ). slice_index_or flags n false) (range_with_len 0 (length flags)))
