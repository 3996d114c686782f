use Rattle.std.proofs.Common.{◌≡◌, ◌∷◌, ◌++◌, [], filter}
use Rattle.std.specs.Prelude.{All}
use Rattle.std.specs.List.{flat_map}
use Rattle.map_base.specs.declared.ids.NodeId.{NodeId}
use Rattle.line_chains.specs.Chains.{is_corner}
use Rattle.drawing_search.specs.Searched.{attempts_of}
use Rattle.kept_walks.specs.Groups.{all_nodes, IsSound}
use Rattle.kept_walks.specs.Straightening.{moves_of}
use Rattle.kept_walks.proofs.groups.push_corners.Given as goal

-- the corners so far
abbrev pub invariant-loop-n : goal.invariant-loop-n
invariant-loop-n l = record {
  sound : All IsSound l.groups.items;
  attempts : attempts_of l.groups.items ≡ attempts_of l.initial.groups.items ++ flat_map (λ (m : NodeId). moves_of 4 l.runs (m ∷ [])) (filter (is_corner l.corners) (all_nodes l.n));
}
