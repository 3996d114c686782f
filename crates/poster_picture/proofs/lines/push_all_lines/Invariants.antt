use Rattle.std.proofs.Common.{◌≡◌, ◌++◌, string_bytes}
use Rattle.std.specs.List.{flat_map, range_with_len}
use Rattle.poster_rules.specs.Elements.{texts}
use Rattle.poster_rules.specs.Posters.{segment_elements}
use Rattle.poster_picture.specs.Sheets.{plain}
use Rattle.poster_picture.proofs.lines.push_all_lines.Given as goal

abbrev pub invariant-loop-s : goal.invariant-loop-s
invariant-loop-s l = string_bytes l.text ≡ string_bytes l.fn.text ++ texts (flat_map (segment_elements (plain l.sheet)) (range_with_len 0 l.s))
