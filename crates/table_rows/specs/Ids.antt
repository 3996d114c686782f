-- Ids, as a table spells them: lists of bytes.
use Rattle.std.specs.Prelude.{◌≡◌, ℕ, Bool, List, [], ◌∷◌, ◌++◌, Option, position, bytes_eq, if◌then◌else◌}
use Rattle.std.specs.List.{list_any}

-- whether an id stands among these
abbrev pub is_among : List ℕ → List (List ℕ) → Bool
is_among id ids = list_any (bytes_eq id) ids

-- ids in order of first sight, once another is seen
abbrev pub noted : List (List ℕ) → List ℕ → List (List ℕ)
noted ids id = if is_among id ids then ids else ids ++ id ∷ []

-- the place of the first id that is this one
abbrev pub place_among : List (List ℕ) → List ℕ → Option ℕ
place_among ids id = position (bytes_eq id) ids

-- two lists that hold the same ids
pub record AreSame (ids others : List (List ℕ)) : Type 0 where
  pub among : (id : List ℕ) → is_among id ids ≡ is_among id others
