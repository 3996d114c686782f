use Rattle.std.proofs.Common.{◌≡◌, ◌++◌, drop, map, string_bytes}
use Rattle.std.specs.List.{flat_map}
use Rattle.poster_rules.specs.Elements.{ending_text}
use Rattle.poster_rules.specs.Posters.{ending_of}
use Rattle.poster_picture.proofs.pieces.push_endings.Given as goal

-- what is written and what is left are the whole
abbrev pub invariant-loop-line : goal.invariant-loop-line
invariant-loop-line l =
    string_bytes l.text ++ flat_map (ending_text l.step) (map (ending_of l.names) (drop l.line-index l.lines))
    ≡ string_bytes l.fn.text ++ flat_map (ending_text l.step) (map (ending_of l.names) l.lines)
