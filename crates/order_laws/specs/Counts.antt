-- Prefixes of a part, as lists of lists of lines, and how many of a kind there are.
use Rattle.std.specs.Prelude.{◌≡◌, ◌≢◌, ℕ, ◌+◌, ◌⊎◌, ◌==◌, ◌&&◌, not, Bool, true, false, List, [], ◌∷◌, length}
use Rattle.map_base.specs.declared.ids.SegId.{SegId}
use Rattle.map_base.specs.declared.ids.LineId.{LineId}
use Rattle.order_model.specs.Places.{has_line}
use Rattle.order_model.specs.Problems.{lines_on}

-- each of these is one of the lines, and none stands twice
abbrev pub are_lines_of : List LineId → List LineId → Bool
are_lines_of lines [] = true
are_lines_of lines (a ∷ placed) = has_line lines a && not (has_line placed a) && are_lines_of lines placed

-- What may be placed of a segment's lines, in order from the left: some of them, but not all but one, since the last line is
-- placed with the one before it.
pub record IsPrefix (lines placed : List LineId) : Type 0 where
  pub lines_of : are_lines_of lines placed ≡ true
  pub not_last : length placed + 1 ≢ length lines

-- a prefix on each segment of a part
abbrev pub ArePrefixes : List (List LineId) → List SegId → List (List LineId) → Type 0
ArePrefixes segs [] [] = Unit {0}
ArePrefixes segs [] (placed ∷ rest) = ⊥
ArePrefixes segs (s ∷ part) [] = ⊥
ArePrefixes segs (s ∷ part) (placed ∷ rest) = IsPrefix (lines_on segs s) placed × ArePrefixes segs part rest

-- all lines of each segment are placed
abbrev pub are_complete : List (List LineId) → List SegId → List (List LineId) → Bool
are_complete segs [] lists = true
are_complete segs (s ∷ part) [] = true
are_complete segs (s ∷ part) (placed ∷ rest) = length placed == length (lines_on segs s) && are_complete segs part rest

-- a prefix of a part on which some line is not placed
pub record IsIncomplete (segs : List (List LineId)) (part : List SegId) (lists : List (List LineId)) : Type 0 where
  pub prefixes : ArePrefixes segs part lists
  pub some_left : are_complete segs part lists ≡ false

-- it is in the list
abbrev pub IsIn : {X : Type 0} → X → List X → Type 0
IsIn x [] = ⊥
IsIn x (y ∷ ys) = (x ≡ y) ⊎ IsIn x ys

-- nothing is there twice
abbrev pub AreOnce : {X : Type 0} → List X → Type 0
AreOnce [] = Unit {0}
AreOnce (x ∷ xs) = (IsIn x xs → ⊥) × AreOnce xs

-- there are so many of a kind: a list has each of them once, and nothing else
pub record AreCounted {X : Type 0} (Such : X → Type 0) (count : ℕ) : Type 0 where
  pub all : List X
  pub once : AreOnce all
  pub each : (x : X) → Such x → IsIn x all
  pub only : (x : X) → IsIn x all → Such x
  pub counted : length all ≡ count
