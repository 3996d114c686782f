-- Lines of a text: words with one space between them, and a line end behind them.
use Rattle.std.specs.Prelude.{ℕ, ℤ, Bool, ◌==◌, List, [], ◌∷◌, ◌++◌, length, nat_lt, Option, Some, None, option_map, if◌then◌else◌}
use Rattle.std.specs.Option.{option_and_then}
use Rattle.std.specs.Fmt.{signed_decimal}
use Rattle.std.specs.List.{slice_split, position_or_len, before_first, after_first}
use Rattle.decimal_text.specs.Numbers.{numbers_of}

abbrev pub is_space : ℕ → Bool
is_space byte = byte == 32

abbrev pub is_line_end : ℕ → Bool
is_line_end byte = byte == 10

-- the words of a line without its end
abbrev pub words : List ℕ → List (List ℕ)
words line = slice_split is_space line

-- the words behind a word: what stands there is nothing, or a space and further words
abbrev pub words_behind : List ℕ → List (List ℕ)
words_behind [] = []
words_behind (byte ∷ rest) = words rest

-- words, taken apart into the first and what stands behind it
abbrev pub cut : Option (List ℕ × List ℕ) → List (List ℕ)
cut None = []
cut (Some x) = x.0 ∷ words_behind x.1

-- the line at the front of a text, without its end, and what stands behind it; none where no line ends
unfoldable pub first_line : List ℕ → Option (List ℕ × List ℕ)
first_line text =
    if nat_lt (position_or_len is_line_end text) (length text)
    then Some (before_first is_line_end text, after_first is_line_end text)
    else None

-- a line: its first word, and the numbers behind it
pub record Line : Type 0 where
  pub word : List ℕ
  pub numbers : List ℤ

-- numbers, and behind them those that words write, where each word writes one
abbrev pub numbers_behind : List ℤ → List (List ℕ) → Option (List ℤ)
numbers_behind numbers words = option_map (λ more. numbers ++ more) (numbers_of words)

-- the line that words make, where all but the first write a number
abbrev pub numbered : List (List ℕ) → Option Line
numbered [] = None
numbered (word ∷ rest) = option_map (λ numbers. record { word = word; numbers = numbers }) (numbers_of rest)

-- what the words of the line at the front say by some reading, and what stands behind it
unfoldable pub front : {A : Type 0} → (List (List ℕ) → Option A) → List ℕ → Option (A × List ℕ)
front reading text = option_and_then (λ x. option_map (λ a. (a, x.1)) (reading (words x.0))) (first_line text)

-- words, a space before each, and the end of the line behind them
abbrev pub words_text : List (List ℕ) → List ℕ
words_text [] = 10 ∷ []
words_text (word ∷ rest) = 32 ∷ (word ++ words_text rest)

-- numbers, a space before each, and the end of the line behind them
abbrev pub numbers_text : List ℤ → List ℕ
numbers_text [] = 10 ∷ []
numbers_text (z ∷ rest) = 32 ∷ (signed_decimal z ++ numbers_text rest)
