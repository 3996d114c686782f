-- How light colours are.
use Rattle.std.specs.Prelude.{ℕ, ◌+◌, ◌*◌, Bool, nat_le, List, [], ◌∷◌}

-- The light of a colour of three bytes, red, green and blue, from 0 to 255000: 299, 587 and 114 parts of a thousand.
-- Other lists of bytes are no colours, and have none.
abbrev pub light : List ℕ → ℕ
light [] = 0
light (r ∷ []) = 0
light (r ∷ g ∷ []) = 0
light (r ∷ g ∷ b ∷ []) = 299 * r + 587 * g + 114 * b
light (r ∷ g ∷ b ∷ more ∷ rest) = 0

-- a line of this colour is hard to see on white
abbrev pub is_pale : List ℕ → Bool
is_pale colour = nat_le 180000 (light colour)

-- a text in this colour is hard to read on white
abbrev pub is_faint : List ℕ → Bool
is_faint colour = nat_le 160000 (light colour)
