use Rattle.std.proofs.Common.{◌≡◌, ◌++◌, drop, string_bytes}
use Rattle.std.specs.List.{flat_map}
use Rattle.svg_writer.specs.Elements.{next_text}
use Rattle.svg_writer.proofs.pieces.push_later.Given as goal

-- what is written and what is left are the whole
abbrev pub invariant-loop-corner : goal.invariant-loop-corner
invariant-loop-corner l = string_bytes l.text ++ flat_map next_text (drop l.corner-index l.corners) ≡ string_bytes l.fn.text ++ flat_map next_text l.corners
