use Rattle.std.proofs.Common.{◌≡◌, ◌++◌, drop, string_bytes}
use Rattle.std.specs.List.{flat_map}
use Rattle.poster_rules.specs.Elements.{texts}
use Rattle.poster_rules.specs.Posters.{join_elements, node_joins}
use Rattle.poster_picture.specs.Sheets.{plain}
use Rattle.poster_picture.proofs.lines.push_node_joins.Given as goal

-- what is written and what is left are the whole
abbrev pub invariant-loop-join : goal.invariant-loop-join
invariant-loop-join l =
    string_bytes l.text ++ texts (flat_map (join_elements (plain l.sheet) l.n.0) (drop l.join-index l.join-items))
    ≡ string_bytes l.fn.text ++ texts (node_joins (plain l.sheet) l.n.0)
