-- How the lines that call are found: the patterns of each line, and line by line the stations that these have.
use Rattle.std.specs.Prelude.{ℕ, ◌≡◌, ◌==◌, ◌<◌, ◌&&◌, Bool, false, List, [], ◌∷◌, ◌++◌, length, map, filter, if◌then◌else◌, slice_index_or, All, Vec, None}
use Rattle.std.specs.List.{list_any, range_with_len}
use Rattle.std.specs.Global.{Global}
use Rattle.map_base.specs.declared.ids.LineId.{LineId}
use Rattle.map_base.specs.declared.ids.StationId.{StationId}
use Rattle.graph_core.specs.declared.parts.NodeKind.{NodeKind}
use Rattle.graph_core.specs.declared.parts.NodeKind.TheVariants.{Station, Junction}
use Rattle.transit_feed.specs.declared.line.Line.{Line}
use Rattle.transit_feed.specs.declared.pattern.Pattern.{Pattern}
use Rattle.feed_courses.specs.Shown.{is_shown, serves}
use Rattle.line_calls.specs.Calls.{line_numbered}

-- ---- lists

-- the lists of a vector of vectors
abbrev pub lists_in : List (Vec ℕ Global) → List (List ℕ)
lists_in lists = map (λ (v : Vec ℕ Global). v.items) lists

-- so many lists without a number
pub record AreEmpty (count : ℕ) (lists : List (List ℕ)) : Type 0 where
  pub each : length lists ≡ count
  pub none : (i : ℕ) → slice_index_or lists i [] ≡ []

-- these numbers are below one
abbrev pub AreInRange : ℕ → List ℕ → Type 0
AreInRange count numbers = All (λ (k : ℕ). k < count) numbers

-- ---- the patterns of each line

-- what reads past the patterns fall back on
abbrev pub no_pattern : Pattern
no_pattern = record { line = record { 0 = 0 }; stops = []; shape = None }

-- the pattern of a number
abbrev pub pattern_at : List Pattern → ℕ → Pattern
pattern_at patterns k = slice_index_or patterns k no_pattern

-- pattern k is shown and of a line
abbrev pub is_of : List Line → List Pattern → ℕ → ℕ → Bool
is_of lines patterns line k = is_shown lines (pattern_at patterns k) && ((pattern_at patterns k).line.0 == line)

-- of the patterns below number k the numbers of those that are shown and of a line, rising
abbrev pub numbers_of : List Line → List Pattern → ℕ → ℕ → List ℕ
numbers_of lines patterns k line = filter (is_of lines patterns line) (range_with_len 0 k)

-- each line has a list of those
pub record AreByLine (lines : List Line) (patterns : List Pattern) (k : ℕ) (lists : List (List ℕ)) : Type 0 where
  pub each : length lists ≡ length lines
  pub of : (line : ℕ) → line < length lines → slice_index_or lists line [] ≡ numbers_of lines patterns k line

-- ---- the lines of each station

-- a station is this one
abbrev pub is_station : StationId → ℕ → Bool
is_station station s = station.0 == s

-- it is one of these
abbrev pub among : List StationId → ℕ → Bool
among stops s = list_any (λ (t : StationId). t.0 == s) stops

-- one of the patterns of these numbers has it
abbrev pub served_by : List Pattern → List ℕ → ℕ → Bool
served_by patterns numbers s = list_any (λ (k : ℕ). serves s (pattern_at patterns k)) numbers

-- a number is the last of these
abbrev pub is_last : ℕ → List ℕ → Bool
is_last n [] = false
is_last n (a ∷ []) = a == n
is_last n (a ∷ b ∷ rest) = is_last n (b ∷ rest)

-- numbers, and one more where it is not the last
abbrev pub noted : ℕ → List ℕ → List ℕ
noted n numbers = if is_last n numbers then numbers else numbers ++ n ∷ []

-- a number is noted in each list whose place is called, and no other list changes
pub record Notes (n : ℕ) (called : ℕ → Bool) (old new : List (List ℕ)) : Type 0 where
  pub each : length new ≡ length old
  pub at : (s : ℕ) → s < length old → slice_index_or new s [] ≡ (if called s then noted n (slice_index_or old s []) else slice_index_or old s [])

-- one of the patterns of a line has a station, by lists of the patterns of each line
abbrev pub is_caller : List Pattern → List (List ℕ) → ℕ → ℕ → Bool
is_caller patterns lists s line = served_by patterns (slice_index_or lists line []) s

-- of the first lines those that call at a station, rising
abbrev pub callers_in : List Pattern → List (List ℕ) → ℕ → ℕ → List ℕ
callers_in patterns lists lines s = filter (is_caller patterns lists s) (range_with_len 0 lines)

-- a table of all stations has what is said of each
pub record IsTable (stations : ℕ) (says : ℕ → List ℕ) (table : List (List ℕ)) : Type 0 where
  pub each : length table ≡ stations
  pub at : (s : ℕ) → s < stations → slice_index_or table s [] ≡ says s

-- ---- nodes

-- the lines at a node of this kind, by a table
abbrev pub numbers_at : List (List ℕ) → NodeKind → List LineId
numbers_at table (Station s) = map line_numbered (slice_index_or table s.0 [])
numbers_at table Junction = []
