-- The shapes that are kept, gathered by their places among those that trips name.
use Rattle.std.specs.Prelude.{◌≡◌, ℕ, ℤ, pos, ◌<◌, false, List, [], filter, map, length, take, unwrap_or, nat_le}
use Rattle.std.specs.List.{slice_index_or}
use Rattle.transit_feed.specs.declared.shape.Shape.{Shape}
use Rattle.ordered_entries.specs.declared.entry.Entry.{Entry}
use Rattle.ordered_entries.specs.Entries.{places_of}
use Rattle.table_rows.specs.Ids.{is_among, place_among}

-- the point at a place
abbrev pub point_there : List (ℤ × ℤ) → ℕ → ℤ × ℤ
point_there points place = slice_index_or points place (pos 0, pos 0)

-- the places of an id's entries by rising sequences
abbrev pub places_of_id : List (List ℕ) → List Entry → List ℕ → List ℕ
places_of_id named entries id = places_of entries (unwrap_or (place_among named id) 0)

-- the shape whose points stand at some places
abbrev pub shape_at : List (ℤ × ℤ) → List ℕ → Shape
shape_at points places = record { points = map (point_there points) places }

-- the ids of at least two entries
abbrev pub kept_ids : List (List ℕ) → List Entry → List (List ℕ) → List (List ℕ)
kept_ids named entries ids = filter (λ id. nat_le 2 (length (places_of_id named entries id))) ids

-- their shapes
abbrev pub shapes_of_ids : List (List ℕ) → List Entry → List (ℤ × ℤ) → List (List ℕ) → List Shape
shapes_of_ids named entries points ids = map (λ id. shape_at points (places_of_id named entries id)) (kept_ids named entries ids)

-- no id stands among those before it
pub record AreEachNew (ids : List (List ℕ)) : Type 0 where
  pub new : (k : ℕ) → k < length ids → is_among (slice_index_or ids k []) (take k ids) ≡ false
