-- Which of the known words was meant.
use Rattle.std.specs.Prelude.{◌≡◌, ℕ, ◌+◌, ◌/◌, ◌<◌, ◌≤◌, Bool, true, false, List, [], length, nat_eq, nat_le, Option, None, Some, if◌then◌else◌, slice_index_or}
use Rattle.std.specs.Str.{chars}
use Rattle.strsim.specs.Edits.{levenshtein_row}

-- how many characters are put in, taken out or changed between two words
unfoldable pub distance : List ℕ → List ℕ → ℕ
distance word known = levenshtein_row nat_eq (chars word) (chars known) (length (chars known))

-- how far the known word at a place is
abbrev pub distance_at : List ℕ → List (List ℕ) → ℕ → ℕ
distance_at word known place = distance word (slice_index_or known place [])

-- at most (n + 1) / 3 edits for a word of n bytes: none for one byte, one for two to four
abbrev pub is_near : List ℕ → ℕ → Bool
is_near word edits = nat_le edits ((length word + 1) / 3)

-- the best so far, or the next one where it is nearer
abbrev pub nearer : Option (ℕ × ℕ) → ℕ → ℕ → Option (ℕ × ℕ)
nearer None place edits = Some (place, edits)
nearer (Some best) place edits = if nat_le best.1 edits then Some best else Some (place, edits)

-- the place of one of the nearest of the first so many known words, and how far it is
abbrev pub IsNearestBelow : List ℕ → List (List ℕ) → ℕ → Option (ℕ × ℕ) → Type 0
IsNearestBelow word known count None = count ≡ 0
IsNearestBelow word known count (Some best) =
    (best.0 < count) × (best.1 ≡ distance_at word known best.0) × ((k : ℕ) → k < count → best.1 ≤ distance_at word known k)

-- the place of the nearest, where it is near enough
abbrev pub near_enough : List ℕ → Option (ℕ × ℕ) → Option ℕ
near_enough word None = None
near_enough word (Some best) = if is_near word best.1 then Some best.0 else None

-- The place of the known word that was meant: near enough, and none is nearer. None where none is near enough.
abbrev pub IsMeant : List ℕ → List (List ℕ) → Option ℕ → Type 0
IsMeant word known None = (k : ℕ) → k < length known → is_near word (distance_at word known k) ≡ false
IsMeant word known (Some place) =
    (place < length known) × (is_near word (distance_at word known place) ≡ true)
    × ((k : ℕ) → k < length known → distance_at word known place ≤ distance_at word known k)
