-- How many of each thing the features of a graph file have, and the first limit that is met.
use Rattle.std.specs.Prelude.{ℕ, nat_lt, ◌==◌, List, [], ◌∷◌, ◌++◌, Bool, length, fold, filter_map, if◌then◌else◌, Option, Some, None}
use Rattle.std.specs.List.{list_any}
use Rattle.std.specs.Option.{option_or}
use Rattle.map_base.specs.declared.ids.LineId.{LineId}
use Rattle.map_base.specs.declared.limit.Limit.{Limit}
use Rattle.map_base.specs.declared.limit.LimitKind.{LimitKind}
use Rattle.map_base.specs.declared.limit.LimitKind.TheVariants as kind
use Rattle.map_base.specs.Limits.{limit_of, limit_most}

abbrev pub is_line : LineId → LineId → Bool
is_line a b = a.0 == b.0

-- these lines, and this one behind them where it is not among them
abbrev pub with_line : List LineId → LineId → List LineId
with_line known l = if list_any (is_line l) known then known else known ++ l ∷ []

abbrev pub with_lines : List LineId → List LineId → List LineId
with_lines known lines = fold with_line known lines

-- the lines on segments, each once
abbrev pub lines_on : List (List LineId) → List LineId
lines_on segments = fold with_lines [] segments

-- the names among names that may be missing
abbrev pub names_in : List (Option (List ℕ)) → List (List ℕ)
names_in names = filter_map (λ name. name) names

-- the limit that a count is above
abbrev pub above : LimitKind → ℕ → Option Limit
above of count = if nat_lt (limit_most of) count then Some (limit_of of) else None

-- Of segments with these lines and nodes with these names, of which the stations alone have one: lines come first, then
-- stations, nodes and segments.
abbrev pub limit_met : List (List LineId) → List (Option (List ℕ)) → Option Limit
limit_met lines names =
    option_or (above kind.Lines (length (lines_on lines))) (option_or (above kind.Stations (length (names_in names)))
    (option_or (above kind.Nodes (length names)) (above kind.Segments (length lines))))
