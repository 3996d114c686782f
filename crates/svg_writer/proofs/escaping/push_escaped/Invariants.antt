use Rattle.std.proofs.Common.{◌≡◌, ◌++◌, length, drop, string_bytes}
use Rattle.std.specs.List.{flat_map}
use Rattle.std.specs.Str.{chars}
use Rattle.svg_writer.specs.Escaping.{escaped_char, escaped}
use Rattle.svg_writer.proofs.escaping.push_escaped.Given as goal

-- what is written and what is left are the whole
abbrev pub invariant-loop-c : goal.invariant-loop-c
invariant-loop-c l = string_bytes l.text ++ flat_map escaped_char (drop (length l.yielded) (chars l.name)) ≡ string_bytes l.fn.text ++ escaped l.name
