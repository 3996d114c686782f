use Rattle.std.proofs.Common.{◌≡◌, ◌++◌, drop, string_bytes}
use Rattle.std.specs.List.{flat_map}
use Rattle.svg_writer.specs.Elements.{hex_byte, colour_text}
use Rattle.svg_writer.proofs.pieces.push_colour.Given as goal

-- what is written and what is left are the whole
abbrev pub invariant-loop-byte : goal.invariant-loop-byte
invariant-loop-byte l = string_bytes l.text ++ flat_map hex_byte (drop l.byte-index l.colour) ≡ string_bytes l.fn.text ++ colour_text l.colour
