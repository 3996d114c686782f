use Rattle.std.proofs.Common.{◌≡◌, sym, ◌∙◌, ap, subst, ◌∷◌, ◌++◌, [], append-nil, arith}
use Rattle.std.specs.Prelude.{All}
use Rattle.std.proofs.lemmas.List.Elements.{All-push}
use Rattle.std.specs.List.{flat_map}
use Rattle.map_base.specs.declared.ids.NodeId.{NodeId}
use Rattle.drawing_search.specs.Searched.{attempts_of}
use Rattle.kept_walks.specs.Groups.{all_nodes, IsSound}
use Rattle.kept_walks.specs.Straightening.{moves_of}
use Rattle.kept_walks.proofs.Pushed.{push_node_more}
use Rattle.kept_walks.proofs.groups.push_nodes.Goals as goal

pub loop-n-init : goal.loop-n-init
loop-n-init c = record { sound = c.requires.sound; attempts = sym (append-nil (attempts_of c.args.groups.now.items)) }

pub loop-n-preserved : goal.loop-n-preserved
loop-n-preserved c =
    let rs = c.args.runs.now in
    let gs = c.loop-n.groups.items in
    let g = c.in_ok-group.group in
    let pushed = c.in_ok-push.ensures.items in
    record {
      sound = subst (All IsSound) (sym pushed) (All-push IsSound gs g c.loop-n.invariant.sound c.in_ok-group.ensures.sound);
      attempts = push_node_more (λ (m : NodeId). moves_of c.args.lengths rs (m ∷ [])) (attempts_of c.args.groups.now.items) gs c.push.new.self.items g c.loop-n.n c.loop-n.invariant.attempts c.in_ok-group.ensures.attempts pushed;
    }

pub returns-clause-attempts : goal.returns-clause-attempts
returns-clause-attempts c =
    let at_end : c.loop-n.n ≡ c.args.nodes = omega (arith, c.loop-n-test.false, c.loop-n.auto.n-end) in
    c.loop-n.invariant.attempts ∙ ap (λ k. attempts_of c.args.groups.now.items ++ flat_map (λ (m : NodeId). moves_of c.args.lengths c.args.runs.now (m ∷ [])) (all_nodes k)) at_end
