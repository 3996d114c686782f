-- Colours: six hexadecimal digits, two each for red, green and blue.
use Rattle.std.specs.Prelude.{ℕ, ◌+◌, ◌*◌, List, [], ◌∷◌, length, ◌==◌, ◌&&◌, Option, Some, None, if◌then◌else◌, slice_index}
use Rattle.std.specs.Char.{is_ascii_hexdigit, digit_value}

-- the value of a hexadecimal digit, in either case
abbrev pub hex_value : ℕ → Option ℕ
hex_value byte = if is_ascii_hexdigit byte then Some (digit_value byte) else None

-- the value of two hexadecimal digits
abbrev pub hex_pair_value : ℕ → ℕ → Option ℕ
hex_pair_value high low = if is_ascii_hexdigit high && is_ascii_hexdigit low then Some (digit_value high * 16 + digit_value low) else None

-- red, green and blue, where each of them is there
abbrev pub all_three : Option ℕ → Option ℕ → Option ℕ → Option (List ℕ)
all_three None green blue = None
all_three (Some red) None blue = None
all_three (Some red) (Some green) None = None
all_three (Some red) (Some green) (Some blue) = Some (red ∷ green ∷ blue ∷ [])

-- the two hexadecimal digits at a place
abbrev pub hex_pair_at : List ℕ → ℕ → Option ℕ
hex_pair_at text place = hex_pair_value (slice_index text place) (slice_index text (place + 1))

-- the red, green and blue that a text of exactly six hexadecimal digits spells; no space is passed over
abbrev pub colour_value : List ℕ → Option (List ℕ)
colour_value text = if length text == 6 then all_three (hex_pair_at text 0) (hex_pair_at text 2) (hex_pair_at text 4) else None
