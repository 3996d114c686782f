-- How wide texts are, in tenths of the size of their type.
use Rattle.std.specs.Prelude.{ℕ, ◌==◌, ◌&&◌, ◌||◌, Bool, nat_le, List, codes, sum_by, if◌then◌else◌}
use Rattle.std.specs.List.{list_any}
use Rattle.std.specs.Str.{chars}

-- a character is one of these
abbrev pub is_one_of : List ℕ → ℕ → Bool
is_one_of list c = list_any (λ (k : ℕ). k == c) list

-- the narrow characters
abbrev pub narrow : List ℕ
narrow = codes " !'(),-./:;I[]fijlrt|"

-- the wide ones beside capitals
abbrev pub wide : List ℕ
wide = codes "mw&%@"

-- a capital of the letters A to Z
abbrev pub is_capital : ℕ → Bool
is_capital c = nat_le 65 c && nat_le c 90

-- how wide a character is: 3 where it is narrow, 8 where it is wide or another capital, 10 from U+2E80 upwards, else 6
abbrev pub char_width : ℕ → ℕ
char_width c =
    if is_one_of narrow c then 3
    else if is_capital c || is_one_of wide c then 8
    else if nat_le 0x2e80 c then 10
    else 6

-- a text is as wide as its characters
abbrev pub text_width : List ℕ → ℕ
text_width text = sum_by char_width (chars text)
