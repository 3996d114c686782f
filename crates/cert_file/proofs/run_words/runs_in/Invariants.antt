use Rattle.std.proofs.Common.{◌≡◌, length}
use Rattle.decimal_text.specs.Lines.{words_behind}
use Rattle.cert_file.specs.RunWords.{runs_in, runs_behind}
use Rattle.cert_file.proofs.run_words.runs_in.Given as goal

-- the runs so far, and those of the words that are left, are those of all
abbrev pub invariant-loop-word : goal.invariant-loop-word
invariant-loop-word l = runs_behind l.runs.items (words_behind l.rest) ≡ runs_in (words_behind l.words)

abbrev pub decreases-loop-word : goal.decreases-loop-word
decreases-loop-word l = length l.rest
