use Rattle.std.proofs.Common.{◌≡◌, ◌∙◌, ◌∷◌, ◌++◌, [], sym, ap, ap₂, subst, List, arith}
use Rattle.std.specs.Prelude.{All}
use Rattle.std.specs.List.{flat_map}
use Rattle.map_base.specs.declared.ids.NodeId.{NodeId}
use Rattle.line_chains.specs.declared.chain.Chain.{Chain}
use Rattle.run_laying.specs.Attempts.{Attempt}
use Rattle.drawing_search.specs.Searched.{attempts_of}
use Rattle.kept_walks.specs.Groups.{all_nodes, IsSound}
use Rattle.kept_walks.specs.Straightening.{moves_of}
use Rattle.kept_walks.proofs.Fitting.{all_moves_fit}
use Rattle.kept_walks.proofs.groups.move_groups.Goals as goal

pub push_nodes-requires-clause-sound : goal.push_nodes-requires-clause-sound
push_nodes-requires-clause-sound c = subst (All IsSound) (sym c.new-groups.ensures.items) (λ i d h. absurd (omega (arith, h)))

pub returns : goal.returns
returns c =
    let graph = c.args.graph.now in
    record {
      attempts_are = c.in_ok-push_nodes.ensures.attempts
          ∙ ap (λ (v : List Attempt). v ++ flat_map (λ (n : NodeId). moves_of 1 c.deref.result.now (n ∷ [])) (all_nodes c.nodes-nodes.result)) (ap attempts_of c.new-groups.ensures.items)
          ∙ ap₂ (λ (cs : List Chain) k. flat_map (λ (n : NodeId). moves_of 1 cs (n ∷ [])) (all_nodes k))
          (c.deref.ensures.value ∙ c.in_ok-singles.ensures) c.nodes-nodes.ensures.count;
      fitting = all_moves_fit graph c.nodes-nodes.ensures.fits;
      sound = c.in_ok-push_nodes.ensures.sound;
    }
