-- Names as they are written in a picture (XML 1.0, sections 2.2 and 2.4).
use Rattle.std.specs.Prelude.{ℕ, Bool, ◌==◌, ◌&&◌, ◌||◌, nat_le, List, codes, if◌then◌else◌}
use Rattle.std.specs.List.{flat_map}
use Rattle.std.specs.Str.{chars}
use Rattle.std.specs.Char.{encode_utf8}

-- XML 1.0 allows the character, which is no surrogate
abbrev pub is_allowed : ℕ → Bool
is_allowed c =
    c == 0x9 || c == 0xa || c == 0xd || (nat_le 0x20 c && nat_le c 0xd7ff) || (nat_le 0xe000 c && nat_le c 0xfffd) || nat_le 0x1_0000 c

-- A character as it is written: what markup begins with is named, and U+FFFD stands for what XML does not allow.
abbrev pub escaped_char : ℕ → List ℕ
escaped_char c =
    if c == 38 then codes "&amp;"
    else if c == 60 then codes "&lt;"
    else if c == 62 then codes "&gt;"
    else if c == 34 then codes "&quot;"
    else if is_allowed c then encode_utf8 c
    else encode_utf8 0xfffd

-- a name as it is written
abbrev pub escaped : List ℕ → List ℕ
escaped text = flat_map escaped_char (chars text)
