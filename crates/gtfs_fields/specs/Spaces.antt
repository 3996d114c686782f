-- Spaces at the ends of a text. A space is U+0020 and nothing else.
use Rattle.std.specs.Prelude.{ℕ, List, [], ◌∷◌, ◌==◌, if◌then◌else◌, reverse}

-- the text without the spaces at its front
abbrev pub without_leading_spaces : List ℕ → List ℕ
without_leading_spaces [] = []
without_leading_spaces (byte ∷ rest) = if byte == 32 then without_leading_spaces rest else byte ∷ rest

-- the text without the spaces at both its ends
abbrev pub trimmed : List ℕ → List ℕ
trimmed text = reverse (without_leading_spaces (reverse (without_leading_spaces text)))
