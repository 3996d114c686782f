-- The parts of segments, by number.
use Rattle.std.specs.Prelude.{◌≡◌, ℕ, ◌+◌, ◌<◌, ◌==◌, List, [], ◌∷◌, length, if◌then◌else◌, slice_index_or}
use Rattle.map_base.specs.declared.ids.SegId.{SegId}
use Rattle.order_model.specs.PartTerms.{is_in}

-- the number of the first part that has the segment; where none has it, the count of parts
abbrev pub number_of : List (List SegId) → SegId → ℕ
number_of [] s = 0
number_of (p ∷ parts) s = if is_in p s then 0 else 1 + number_of parts s

-- the number of the part of each of so many segments
pub record AreNumbers (parts : List (List SegId)) (count : ℕ) (numbers : List ℕ) : Type 0 where
  pub each : length numbers ≡ count
  pub told : (s : SegId) → s.0 < count → slice_index_or numbers s.0 0 ≡ number_of parts s

-- of so many segments exactly those of this part have number k
pub record TellPart (part : List SegId) (k count : ℕ) (numbers : List ℕ) : Type 0 where
  pub each : length numbers ≡ count
  pub told : (s : SegId) → s.0 < count → (slice_index_or numbers s.0 0 == k) ≡ is_in part s

-- these segments have been given number k, and all others keep theirs
pub record AreGiven (part : List SegId) (k : ℕ) (before after : List ℕ) : Type 0 where
  pub each : length after ≡ length before
  pub told : (s : SegId) → s.0 < length before → slice_index_or after s.0 0 ≡ (if is_in part s then k else slice_index_or before s.0 0)
