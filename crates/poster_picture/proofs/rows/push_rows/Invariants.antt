use Rattle.std.proofs.Common.{◌≡◌, ◌++◌, drop, string_bytes}
use Rattle.poster_rules.specs.Elements.{texts}
use Rattle.poster_rules.specs.Posters.{rows_from}
use Rattle.poster_picture.proofs.rows.push_rows.Given as goal

-- what is written and what is left are the whole
abbrev pub invariant-loop-i : goal.invariant-loop-i
invariant-loop-i l = string_bytes l.text ++ texts (rows_from l.names l.legend l.i (drop l.i l.lines)) ≡ string_bytes l.fn.text ++ texts (rows_from l.names l.legend 0 l.lines)
