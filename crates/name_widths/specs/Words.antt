-- The word with which most names begin, and names without it. A name is the list of its bytes; a space is U+0020.
use Rattle.std.specs.Prelude.{ℕ, ◌+◌, ◌*◌, ◌==◌, Bool, false, nat_lt, List, length, filter, bytes_eq, if◌then◌else◌, Option, Some, None}
use Rattle.std.specs.List.{after_first, before_first, position_or_len}

abbrev pub is_space : ℕ → Bool
is_space b = b == 32

-- the first word of a name, up to its first space, and what follows the space, where something does
abbrev pub parts : List ℕ → Option (List ℕ × List ℕ)
parts name =
    if nat_lt (position_or_len is_space name + 1) (length name) then Some (before_first is_space name, after_first is_space name)
    else None

-- these are the parts of a name that begins with a word
abbrev pub has_word : List ℕ → Option (List ℕ × List ℕ) → Bool
has_word word None = false
has_word word (Some p) = bytes_eq p.0 word

-- a name begins with this word, and goes on behind it
abbrev pub begins_with : List ℕ → List ℕ → Bool
begins_with word name = has_word word (parts name)

-- how many of these names do
abbrev pub count_with : List (List ℕ) → List ℕ → ℕ
count_with names word = length (filter (begins_with word) names)

-- more than half of these names begin with this word
abbrev pub is_common : List (List ℕ) → List ℕ → Bool
is_common names word = nat_lt (length names) (2 * count_with names word)

-- what is left of a name of these parts without its first word and the space behind it, where more than half of these
-- names begin with that word
abbrev pub rest_by : List (List ℕ) → List ℕ → Option (List ℕ × List ℕ) → List ℕ
rest_by names name None = name
rest_by names name (Some p) = if is_common names p.0 then p.1 else name

abbrev pub rest_of : List (List ℕ) → List ℕ → List ℕ
rest_of names name = rest_by names name (parts name)
