use Rattle.std.proofs.Common.{◌≡◌, ◌∷◌, ◌++◌, []}
use Rattle.std.specs.Prelude.{All}
use Rattle.std.specs.List.{flat_map}
use Rattle.map_base.specs.declared.ids.NodeId.{NodeId}
use Rattle.drawing_search.specs.Searched.{attempts_of}
use Rattle.kept_walks.specs.Groups.{all_nodes, IsSound}
use Rattle.kept_walks.specs.Straightening.{moves_of}
use Rattle.kept_walks.proofs.groups.push_nodes.Given as goal

-- the nodes so far
abbrev pub invariant-loop-n : goal.invariant-loop-n
invariant-loop-n l = record {
  sound : All IsSound l.groups.items;
  attempts : attempts_of l.groups.items ≡ attempts_of l.initial.groups.items ++ flat_map (λ (m : NodeId). moves_of l.lengths l.runs (m ∷ [])) (all_nodes l.n);
}
