use Rattle.std.proofs.Common.{refl, sym, ◌∙◌, ap, subst, ◌≢◌, ◌∷◌, ◌++◌, [], List, append-nil}
use Rattle.std.specs.Prelude.{All}
use Rattle.std.proofs.lemmas.List.{at_drop_all}
use Rattle.std.proofs.lemmas.List.Elements.{All-push}
use Rattle.std.specs.List.{flat_map}
use Rattle.map_base.specs.declared.ids.NodeId.{NodeId}
use Rattle.line_chains.specs.declared.chain.Chain.{Chain}
use Rattle.line_chains.specs.Chains.{end_of}
use Rattle.drawing_search.specs.Searched.{attempts_of}
use Rattle.kept_walks.specs.Groups.{IsSound}
use Rattle.kept_walks.specs.Straightening.{moves_of}
use Rattle.kept_walks.proofs.Pushed.{push_more}
use Rattle.kept_walks.proofs.groups.push_ends.Goals as goal

pub loop-run-init : goal.loop-run-init
loop-run-init c = record { sound = c.requires.sound; attempts = refl }

pub group_between-requires : goal.group_between-requires
group_between-requires c =
    let r = c.run-item.result in
    subst (λ (n : NodeId). r.from.0 ≢ n.0) (sym c.end-end.ensures) (subst (λ (x : Chain). x.from.0 ≢ (end_of x).0) (sym c.run-item.is) (c.requires.apart c.loop-run.run-index r c.loop-run-test.true))

pub loop-run-preserved : goal.loop-run-preserved
loop-run-preserved c =
    let rs = c.args.runs.now in
    let gs = c.loop-run.groups.items in
    let g = c.in_ok-group.group in
    let r = c.run-item.result in
    let pushed = c.in_ok-push.ensures.items in
    let moves = λ (x : Chain). moves_of 4 rs (x.from ∷ end_of x ∷ []) in
    record {
      sound = subst (All IsSound) (sym pushed) (All-push IsSound gs g c.loop-run.invariant.sound c.in_ok-group.ensures.sound);
      attempts = push_more moves rs c.loop-run.run-index r gs c.push.new.self.items g c.loop-run-test.true
          (c.in_ok-group.ensures.attempts ∙ ap (λ (n : NodeId). moves_of 4 rs (r.from ∷ n ∷ [])) c.end-end.ensures ∙ ap moves c.run-item.is) pushed
          ∙ c.loop-run.invariant.attempts;
    }

pub returns-clause-attempts : goal.returns-clause-attempts
returns-clause-attempts c =
    let gs = c.loop-run.groups.items in
    let rs = c.args.runs.now in
    sym (append-nil (attempts_of gs))
    ∙ sym (at_drop_all (λ (cs : List Chain). attempts_of gs ++ flat_map (λ (x : Chain). moves_of 4 rs (x.from ∷ end_of x ∷ [])) cs) rs c.loop-run.run-index c.loop-run-test.false)
    ∙ c.loop-run.invariant.attempts
