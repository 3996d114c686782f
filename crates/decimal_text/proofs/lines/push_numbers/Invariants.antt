use Rattle.std.proofs.Common.{◌≡◌, length}
use Rattle.decimal_text.specs.Lines.{words_behind, numbers_behind}
use Rattle.decimal_text.proofs.lines.push_numbers.Given as goal

-- the numbers so far, and those of the words that are left, are those of all
abbrev pub invariant-loop-word : goal.invariant-loop-word
invariant-loop-word l = numbers_behind l.numbers.items (words_behind l.rest) ≡ numbers_behind l.fn.numbers.items (words_behind l.words)

abbrev pub decreases-loop-word : goal.decreases-loop-word
decreases-loop-word l = length l.rest
