use Rattle.std.proofs.Common.{◌≡◌, take}
use Rattle.std.specs.List.{flat_map}
use Rattle.name_widths.specs.Votes.{texts_of}
use Rattle.poster_rules.specs.Texts.{node_names}
use Rattle.poster_graph.proofs.texts.all_names.Given as goal

-- the names of the nodes so far
abbrev pub invariant-loop-n : goal.invariant-loop-n
invariant-loop-n l = texts_of l.all.items ≡ flat_map (node_names l.names) (take l.n l.graph.kinds)
