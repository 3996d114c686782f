-- Reading a text from its front, line by line: what is due next, and the first line that has not the form due.
use Rattle.std.specs.Prelude.{ℕ, zero, suc, ◌-◌, List, [], ◌∷◌, ◌++◌, length, Option, Some, None, Result, Ok, Err}
use Rattle.decimal_text.specs.Lines.{front}

-- goes on behind a line of the form due, or stops before a line that has another
abbrev pub go_on : {D : Type 0} → Option (List D × List ℕ) → List ℕ → (List D → List ℕ → Result (List ℕ) (List ℕ)) → Result (List ℕ) (List ℕ)
go_on None text next = Err text
go_on (Some x) text next = next x.0 x.1

-- At most so many lines. `after` is what is due in place of something after the words of a line, none where the line
-- has not the form due.
abbrev pub read_lines : {D : Type 0} → (D → List (List ℕ) → Option (List D)) → ℕ → List D → List ℕ → Result (List ℕ) (List ℕ)
read_lines after most [] text = Ok text
read_lines after zero (due ∷ later) text = Err text
read_lines after (suc most) (due ∷ later) text = go_on (front (after due) text) text (λ more rest. read_lines after most (more ++ later) rest)

-- What is left of a text once all that is due is read; or, with Err, what is left of it from the start of the first
-- line on that has not the form due there. A line has a byte at least, so there are no more lines than bytes.
unfoldable pub reading : {D : Type 0} → (D → List (List ℕ) → Option (List D)) → List D → List ℕ → Result (List ℕ) (List ℕ)
reading after due text = read_lines after (length text) due text

-- where reading ends, as a number of bytes from the start of a text
abbrev pub place_of : List ℕ → Result (List ℕ) (List ℕ) → Result ℕ ℕ
place_of text (Ok left) = Ok (length text - length left)
place_of text (Err left) = Err (length text - length left)
