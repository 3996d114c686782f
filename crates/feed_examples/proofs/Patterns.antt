-- The definitions at small values.
use Rattle.std.proofs.Common.{◌≡◌, refl, ℕ, List, [], ◌∷◌, Option, Some, None}
use Rattle.map_base.specs.declared.ids.StationId.{StationId}
use Rattle.transit_feed.specs.declared.pattern.Pattern.{Pattern}
use Rattle.gtfs_tables.specs.Patterns.{apart, patterns_of}

abbrev at : ℕ → StationId
at n = record { 0 = n }

abbrev pattern : ℕ → List StationId → Option ℕ → Pattern
pattern line stops shape = record { line = record { 0 = line }; stops = stops; shape = shape }

-- immediate repeats are dropped, and no others
repeats_dropped : apart (at 4 ∷ at 4 ∷ at 2 ∷ at 4 ∷ []) ≡ at 4 ∷ at 2 ∷ at 4 ∷ []
repeats_dropped = refl

-- equal patterns stand once, at the first, also where a station is served twice in a row
each_once : patterns_of (Some 0 ∷ Some 0 ∷ Some 0 ∷ []) ((at 0 ∷ at 1 ∷ []) ∷ (at 1 ∷ at 0 ∷ []) ∷ (at 0 ∷ at 0 ∷ at 1 ∷ []) ∷ []) (None ∷ None ∷ None ∷ [])
    ≡ pattern 0 (at 0 ∷ at 1 ∷ []) None ∷ pattern 0 (at 1 ∷ at 0 ∷ []) None ∷ []
each_once = refl

-- another line, and another shape or none, make other patterns
others_apart : patterns_of (Some 0 ∷ Some 1 ∷ Some 0 ∷ Some 0 ∷ []) ((at 0 ∷ at 1 ∷ []) ∷ (at 0 ∷ at 1 ∷ []) ∷ (at 0 ∷ at 1 ∷ []) ∷ (at 0 ∷ at 1 ∷ []) ∷ []) (None ∷ None ∷ Some 3 ∷ Some 4 ∷ [])
    ≡ pattern 0 (at 0 ∷ at 1 ∷ []) None ∷ pattern 1 (at 0 ∷ at 1 ∷ []) None ∷ pattern 0 (at 0 ∷ at 1 ∷ []) (Some 3) ∷ pattern 0 (at 0 ∷ at 1 ∷ []) (Some 4) ∷ []
others_apart = refl

-- a trip that is not selected, one at a single station, and one without stops make none
none_made : patterns_of (None ∷ Some 0 ∷ Some 0 ∷ []) ((at 0 ∷ at 1 ∷ []) ∷ (at 2 ∷ at 2 ∷ []) ∷ [] ∷ []) (None ∷ None ∷ None ∷ []) ≡ []
none_made = refl
