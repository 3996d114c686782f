use Rattle.std.proofs.Common.{◌≡◌, ◌∙◌, ◌∷◌, ◌++◌, [], sym, ap, subst, List}
use Rattle.std.proofs.lemmas.Result.{IfOk-weaker}
use Rattle.map_base.specs.declared.ids.NodeId.{NodeId}
use Rattle.drawing_search.specs.declared.group.Group.{Group}
use Rattle.drawing_search.specs.Changes.{AreApart}
use Rattle.drawing_search.specs.Searched.{attempts_in}
use Rattle.kept_walks.specs.Straightening.{moves_of}
use Rattle.kept_walks.proofs.Pushed.{two_apart}
use Rattle.kept_walks.proofs.groups.group_between.Goals as goal

pub group_of-requires-clause-apart : goal.group_of-requires-clause-apart
group_of-requires-clause-apart c =
    subst AreApart
    (sym (c.in_ok-push-2.ensures.items ∙ ap (λ (v : List NodeId). v ++ c.args.end ∷ []) (c.in_ok-push.ensures.items ∙ ap (λ (v : List NodeId). v ++ c.args.from ∷ []) c.new-nodes.ensures.items)))
    (two_apart c.args.from c.args.end c.requires)

pub returns-clause-attempts : goal.returns-clause-attempts
returns-clause-attempts c =
    let rs = c.args.runs.now in
    let nodes = c.in_ok-push-2.ensures.items ∙ ap (λ (v : List NodeId). v ++ c.args.end ∷ []) (c.in_ok-push.ensures.items ∙ ap (λ (v : List NodeId). v ++ c.args.from ∷ []) c.new-nodes.ensures.items) in
    IfOk-weaker c.group_of.result (λ (g : Group). attempts_in g ≡ moves_of 4 rs c.push-2.new.self.items) (λ (g : Group). attempts_in g ≡ moves_of 4 rs (c.args.from ∷ c.args.end ∷ [])) (λ g e. e ∙ ap (moves_of 4 rs) nodes) c.group_of.ensures.attempts
