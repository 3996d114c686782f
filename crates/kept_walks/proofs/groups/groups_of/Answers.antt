use Rattle.std.proofs.Common.{◌≡◌, ◌∙◌, ◌∷◌, ◌++◌, [], sym, ap, ap₂, subst, filter, map, List, arith}
use Rattle.std.specs.Prelude.{All}
use Rattle.std.specs.List.{flat_map}
use Rattle.map_base.specs.declared.ids.NodeId.{NodeId}
use Rattle.line_chains.specs.declared.chain.Chain.{Chain}
use Rattle.line_chains.specs.Chains.{end_of, is_corner, nodes_of}
use Rattle.run_laying.specs.Searches.{attempts_alone}
use Rattle.drawing_search.specs.Searched.{attempts_of}
use Rattle.kept_walks.specs.Groups.{all_nodes, IsSound}
use Rattle.kept_walks.specs.Straightening.{moves_of, moves_over, single_runs}
use Rattle.kept_walks.proofs.Pushed.{all_pushed, singles_apart}
use Rattle.kept_walks.proofs.groups.groups_of.Goals as goal

pub push_alone-requires : goal.push_alone-requires
push_alone-requires c = subst (All IsSound) (sym c.new-groups.ensures.items) (λ i d h. absurd (omega (arith, h)))

pub push_corners-requires-clause-few : goal.push_corners-requires-clause-few
push_corners-requires-clause-few c = omega (arith, c.requires.flags, c.nodes-nodes.ensures.fits.few_nodes)

pub push_ends-requires-clause-apart : goal.push_ends-requires-clause-apart
push_ends-requires-clause-apart c = λ i d h. (c.requires.runs i d h).0.apart

pub push_ends-requires-2-clause-apart : goal.push_ends-requires-2-clause-apart
push_ends-requires-2-clause-apart c = subst (All (λ (x : Chain). x.from.0 ≡ (end_of x).0 → ⊥)) (sym (c.deref-2.ensures.value ∙ c.in_ok-singles.ensures)) (singles_apart c.args.graph.now c.nodes-nodes.ensures.fits)

pub returns : goal.returns
returns c =
    let graph = c.args.graph.now in
    let corners = c.args.corners.now in
    let chains = c.args.chains.now in
    let singles = c.in_ok-singles.ensures in
    let alone = attempts_of c.push_alone.new.groups.items in
    let ends = attempts_of c.push_ends.new.groups.items in
    let moved = attempts_of c.push_nodes.new.groups.items in
    let by_corners =
    c.in_ok-push_corners.ensures.attempts ∙ ap (λ k. alone ++ flat_map (λ (n : NodeId). moves_of 4 chains (n ∷ [])) (filter (is_corner corners) (all_nodes k))) c.requires.flags in
    let by_nodes =
    c.in_ok-push_nodes.ensures.attempts
    ∙ ap₂ (λ (cs : List Chain) k. ends ++ flat_map (λ (n : NodeId). moves_of 4 cs (n ∷ [])) (all_nodes k)) (c.deref.ensures.value ∙ singles) c.nodes-nodes.ensures.count in
    let by_ends =
    c.in_ok-push_ends-2.ensures.attempts ∙ ap (λ (cs : List Chain). moved ++ flat_map (λ (x : Chain). moves_of 4 cs (x.from ∷ end_of x ∷ [])) cs) (c.deref-2.ensures.value ∙ singles) in
    record {
      attempts_are = all_pushed (attempts_of c.new-groups.result.items) (attempts_of c.push_alone.new.groups.items) (attempts_of c.push_corners.new.groups.items) (attempts_of c.push_ends.new.groups.items) (attempts_of c.push_nodes.new.groups.items)
          (attempts_of c.push_ends-2.new.groups.items) (map attempts_alone chains) (flat_map (λ (n : NodeId). moves_of 4 chains (n ∷ [])) (filter (is_corner corners) (nodes_of graph))) (flat_map (λ (x : Chain). moves_of 4 chains (x.from ∷ end_of x ∷ [])) chains)
          (flat_map (λ (n : NodeId). moves_of 4 (single_runs graph) (n ∷ [])) (nodes_of graph)) (flat_map (λ (x : Chain). moves_of 4 (single_runs graph) (x.from ∷ end_of x ∷ [])) (single_runs graph)) (ap attempts_of c.new-groups.ensures.items)
          c.in_ok-push_alone.ensures.attempts by_corners c.in_ok-push_ends.ensures.attempts by_nodes by_ends
          ∙ ap (λ (cs : List Chain). map attempts_alone cs ++ (moves_over cs (filter (is_corner corners) (nodes_of graph)) ++ moves_over (single_runs graph) (nodes_of graph))) c.requires.are;
      fitting = c.requires.fitting;
      sound = c.in_ok-push_ends-2.ensures.sound;
    }
