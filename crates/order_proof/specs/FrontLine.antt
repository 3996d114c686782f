-- The line at the front of a text.
use Rattle.std.specs.Prelude.{ℕ, ℤ, Bool, ◌||◌, nat_eq, List, Option, Some, None, option_map, if◌then◌else◌}
use Rattle.std.specs.Option.{option_and_then}
use Rattle.std.specs.Str.{bytes_eq}
use Rattle.std.specs.List.{starts_with}
use Rattle.decimal_text.specs.Lines as texts
use Rattle.order_proof.specs.declared.line_word.LineWord.{LineWord}
use Rattle.order_proof.specs.declared.line_word.LineWord.TheVariants.{Rules, Merge, Divide, Parts, Part, Split, Take, Close, Fork, Stop}
use Rattle.order_proof.specs.Lines.{Line, word_text}

-- the line word with this text
abbrev pub word_of : List ℕ → Option LineWord
word_of text =
    if bytes_eq text (word_text Rules) then Some Rules
    else if bytes_eq text (word_text Merge) then Some Merge
    else if bytes_eq text (word_text Divide) then Some Divide
    else if bytes_eq text (word_text Parts) then Some Parts
    else if bytes_eq text (word_text Part) then Some Part
    else if bytes_eq text (word_text Split) then Some Split
    else if bytes_eq text (word_text Take) then Some Take
    else if bytes_eq text (word_text Close) then Some Close
    else if bytes_eq text (word_text Fork) then Some Fork
    else if bytes_eq text (word_text Stop) then Some Stop
    else None

-- a line whose word is one of these
abbrev pub known : texts.Line → Option Line
known line = option_map (λ word. record { word = word; numbers = line.numbers }) (word_of line.word)

-- the line of such a word and numbers that words make
abbrev pub line_in : List (List ℕ) → Option Line
line_in words = option_and_then known (texts.numbered words)

-- the line at the front of a text, and what stands behind it; none where it has no line end, or writes no line
unfoldable pub front_line : List ℕ → Option (Line × List ℕ)
front_line text = texts.front line_in text

-- what the line at the front says by some reading of its word and numbers, and what stands behind it
unfoldable pub front : {A : Type 0} → (LineWord → List ℤ → Option A) → List ℕ → Option (A × List ℕ)
front reading text = option_and_then (λ x. option_map (λ a. (a, x.1)) (reading x.0.word x.0.numbers)) (front_line text)

-- whether a text begins with a word of the lines of dual trees
abbrev pub begins_dual : List ℕ → Bool
begins_dual text = starts_with nat_eq text (word_text Fork) || starts_with nat_eq text (word_text Stop)
