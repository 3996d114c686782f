-- The words of a line, with one TAB between them, and the lines of a script.
use Rattle.std.specs.Prelude.{ℕ, Bool, ◌==◌, List, [], ◌∷◌, Option, Some, None, option_map}
use Rattle.std.specs.List.{slice_split}

abbrev pub is_tab : ℕ → Bool
is_tab byte = byte == 9

-- the words of a line; two TABs side by side have an empty word between them
abbrev pub words : List ℕ → List (List ℕ)
words line = slice_split is_tab line

-- the parts behind a part: what stands there is nothing, or what parts them and further parts
abbrev pub parts_behind : (ℕ → Bool) → List ℕ → List (List ℕ)
parts_behind parts [] = []
parts_behind parts (byte ∷ rest) = slice_split parts rest

-- the words behind a word: what stands there is nothing, or a TAB and further words
abbrev pub words_behind : List ℕ → List (List ℕ)
words_behind text = parts_behind is_tab text

-- the words of a line, as the first and what stands behind it
abbrev pub cut : Option (List ℕ × List ℕ) → List (List ℕ)
cut None = []
cut (Some x) = x.0 ∷ words_behind x.1

-- the only word
abbrev pub only_word : List (List ℕ) → Option (List ℕ)
only_word (word ∷ []) = Some word
only_word words = None

-- two words, and no more
abbrev pub two_words : List (List ℕ) → Option (List ℕ × List ℕ)
two_words [] = None
two_words (word ∷ rest) = option_map (λ last. (word, last)) (only_word rest)

-- three words, and no more
abbrev pub three_words : List (List ℕ) → Option (List ℕ × List ℕ × List ℕ)
three_words [] = None
three_words (word ∷ rest) = option_map (λ (last : List ℕ × List ℕ). (word, last.0, last.1)) (two_words rest)
