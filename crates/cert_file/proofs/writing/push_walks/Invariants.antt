use Rattle.std.proofs.Common.{◌≡◌, ◌++◌, drop}
use Rattle.cert_file.specs.Text.{walks_text}
use Rattle.cert_file.proofs.writing.push_walks.Given as goal

-- what is written and what is left are the whole
abbrev pub invariant-loop-s : goal.invariant-loop-s
invariant-loop-s l = l.text.items ++ walks_text l.s (drop l.s l.walks) ≡ l.fn.text.items ++ walks_text 0 l.walks
