use Rattle.std.proofs.Common.{◌≡◌, ℕ, ◌<◌, get_or, false}
use Rattle.std.specs.Char.{is_ascii_digit}
use Rattle.cert_file.proofs.run_words.name_end.Given as goal

-- no byte before is a digit
abbrev pub invariant-loop-place : goal.invariant-loop-place
invariant-loop-place l = (k : ℕ) → k < l.place → is_ascii_digit (get_or l.word k 0) ≡ false
