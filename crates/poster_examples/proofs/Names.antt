-- Widths of texts, first words and pale colours.
use Rattle.std.proofs.Common.{◌≡◌, ◌+◌, true, false, [], ◌∷◌, Some, None, replicate, refl}
use Rattle.std.specs.Prelude.{codes}
use Rattle.std.specs.Str.{chars}
use Rattle.name_widths.specs.Widths.{text_width}
use Rattle.name_widths.specs.Words.{parts, rest_of}
use Rattle.name_widths.specs.Colours.{is_faint, is_pale, light}

-- a narrow letter, a capital, a figure, a wide sign and a space
widths : text_width (codes "iI WU1m& z") ≡ 3 + 3 + 3 + 8 + 8 + 6 + 8 + 8 + 3 + 6
unfolding chars
widths = refl

no_width : text_width [] ≡ 0
unfolding chars
no_width = refl

-- two hundred letters
long : text_width (replicate 200 109) ≡ 1600
unfolding chars
long = refl

-- U+2E7F and U+2E80
edge : text_width (0xe2 ∷ 0xb9 ∷ 0xbf ∷ 0xe2 ∷ 0xba ∷ 0x80 ∷ []) ≡ 16
unfolding chars
edge = refl

one_word : parts (codes "Zoo ") ≡ None
one_word = refl

two_words : parts (codes "Wien Mitte Nord") ≡ Some (codes "Wien", codes "Mitte Nord")
two_words = refl

-- a name may begin with a space
empty_word : parts (codes " A") ≡ Some ([], codes "A")
empty_word = refl

-- two of three names begin with the word, and one of two does not do
left_off : rest_of (codes "Bad A" ∷ codes "Bad B" ∷ codes "Badweiler" ∷ []) (codes "Bad B") ≡ codes "B"
left_off = refl

kept : rest_of (codes "Bad A" ∷ codes "C" ∷ []) (codes "Bad A") ≡ codes "Bad A"
kept = refl

yellow : light (255 ∷ 255 ∷ 0 ∷ []) ≡ 225930
yellow = refl

green_is_faint_alone : (is_pale (0 ∷ 255 ∷ 100 ∷ []) ≡ false) × (is_faint (0 ∷ 255 ∷ 100 ∷ []) ≡ true)
green_is_faint_alone = (refl, refl)
