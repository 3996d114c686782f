use Rattle.std.proofs.Common.{◌≡◌, ◌++◌, length, drop, string_bytes}
use Rattle.poster_rules.specs.Elements.{texts}
use Rattle.poster_rules.specs.Posters.{line_elements, segment_elements}
use Rattle.poster_picture.specs.Sheets.{plain}
use Rattle.poster_picture.proofs.lines.push_segment.Given as goal

-- what is written and what is left are the whole
abbrev pub invariant-loop-i : goal.invariant-loop-i
invariant-loop-i l =
    string_bytes l.text ++ texts (line_elements (plain l.sheet) l.s (length l.order) l.i (drop l.i l.order))
    ≡ string_bytes l.fn.text ++ texts (segment_elements (plain l.sheet) l.s)
