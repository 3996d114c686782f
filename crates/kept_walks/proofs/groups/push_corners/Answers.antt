use Rattle.std.proofs.Common.{◌≡◌, sym, ◌∙◌, ap, ◌∷◌, ◌++◌, [], append-nil, filter, length, arith}
use Rattle.std.specs.List.{flat_map}
use Rattle.map_base.specs.declared.ids.NodeId.{NodeId}
use Rattle.line_chains.specs.Chains.{is_corner}
use Rattle.drawing_search.specs.Searched.{attempts_of}
use Rattle.kept_walks.specs.Groups.{all_nodes}
use Rattle.kept_walks.specs.Straightening.{moves_of}
use Rattle.kept_walks.proofs.Pushed.{corner_more}
use Rattle.kept_walks.proofs.groups.push_corners.Goals as goal

pub loop-n-init : goal.loop-n-init
loop-n-init c = record { sound = c.requires.sound; attempts = sym (append-nil (attempts_of c.args.groups.now.items)) }

pub loop-n-preserved : goal.loop-n-preserved
loop-n-preserved c = record {
  sound = c.in_ok-push_corner.ensures.sound;
  attempts = corner_more c.args.corners.now (λ (m : NodeId). moves_of 4 c.args.runs.now (m ∷ [])) (attempts_of c.args.groups.now.items) (attempts_of c.loop-n.groups.items) (attempts_of c.push_corner.new.groups.items) c.loop-n.n c.loop-n.invariant.attempts
      c.in_ok-push_corner.ensures.attempts;
}

pub returns-clause-attempts : goal.returns-clause-attempts
returns-clause-attempts c =
    let corners = c.args.corners.now in
    let at_end : c.loop-n.n ≡ length corners = omega (arith, c.loop-n-test.false, c.loop-n.auto.n-end, c.len-n-end.ensures) in
    c.loop-n.invariant.attempts ∙ ap (λ k. attempts_of c.args.groups.now.items ++ flat_map (λ (m : NodeId). moves_of 4 c.args.runs.now (m ∷ [])) (filter (is_corner corners) (all_nodes k))) at_end
