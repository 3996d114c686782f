use Rattle.std.proofs.Common.{◌≡◌, ◌++◌, drop}
use Rattle.decimal_text.specs.Lines.{words_text}
use Rattle.cert_file.specs.RunWords.{run_words}
use Rattle.cert_file.proofs.writing.push_runs.Given as goal

-- what is written and what is left are the whole
abbrev pub invariant-loop-run : goal.invariant-loop-run
invariant-loop-run l = l.text.items ++ words_text (run_words (drop l.run-index l.runs)) ≡ l.fn.text.items ++ words_text (run_words l.runs)
