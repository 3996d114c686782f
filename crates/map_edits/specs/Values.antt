-- What the words of an edit say.
use Rattle.std.specs.Prelude.{ℕ, Bool, ◌==◌, ◌&&◌, ◌||◌, List, length, nat_le, Option, Some, None, if◌then◌else◌}
use Rattle.std.specs.Option.{option_and_then}
use Rattle.std.specs.List.{list_any}
use Rattle.std.specs.Str.{is_utf8}
use Rattle.table_rows.specs.Values.{number_of}
use Rattle.map_base.specs.declared.weights.Weights.{Weights}

abbrev pub is_space : ℕ → Bool
is_space byte = byte == 32

-- a name: any text, which may be empty
abbrev pub name_in : List ℕ → Option (List ℕ)
name_in word = if is_utf8 word then Some word else None

-- an id: a text that is not empty
abbrev pub id_in : List ℕ → Option (List ℕ)
id_in word = if length word == 0 then None else name_in word

-- a whole number as in the tables of a feed, without spaces
abbrev pub number_in : List ℕ → Option ℕ
number_in word = if list_any is_space word then None else number_of word

-- a number from `least` to `most`
abbrev pub within : ℕ → ℕ → ℕ → Option ℕ
within least most number = if nat_le least number && nat_le number most then Some number else None

-- a whole number from `least` to `most`
abbrev pub number_within : ℕ → ℕ → List ℕ → Option ℕ
number_within least most word = option_and_then (within least most) (number_in word)

-- the side of a cell, by its number: 0, or from 10 decimetres on
abbrev pub wide_enough : ℕ → Option ℕ
wide_enough cell = if (cell == 0) || nat_le 10 cell then Some cell else None

-- the side of a cell: 0, or 10 to 1000000 decimetres
abbrev pub cell_in : List ℕ → Option ℕ
cell_in word = option_and_then wide_enough (number_within 0 1000000 word)

-- a weight
abbrev pub weight_in : List ℕ → Option ℕ
weight_in word = number_within 0 1000 word

-- three weights, where each of them is there
abbrev pub weights_with : Option ℕ → Option ℕ → Option ℕ → Option Weights
weights_with (Some link) (Some split) (Some sep) = Some (record { link = link; split = split; sep = sep })
weights_with link split sep = None

-- the weights of a crossing, a split and a separation
abbrev pub weights_in : List ℕ × List ℕ × List ℕ → Option Weights
weights_in words = weights_with (weight_in words.0) (weight_in words.1) (weight_in words.2)
