use Rattle.std.proofs.Common.{◌≡◌, ◌++◌, drop, string_bytes}
use Rattle.poster_rules.specs.Elements.{classes_text}
use Rattle.poster_picture.proofs.pieces.push_classes.Given as goal

-- what is written and what is left are the whole
abbrev pub invariant-loop-line : goal.invariant-loop-line
invariant-loop-line l = string_bytes l.text ++ classes_text (drop l.line-index l.lines) ≡ string_bytes l.fn.text ++ classes_text l.lines
