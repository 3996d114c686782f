use Rattle.std.proofs.Common.{◌≡◌, ◌∙◌, ◌∷◌, ◌++◌, [], sym, ap, subst, List}
use Rattle.std.proofs.lemmas.Result.{IfOk-weaker}
use Rattle.map_base.specs.declared.ids.NodeId.{NodeId}
use Rattle.drawing_search.specs.declared.group.Group.{Group}
use Rattle.drawing_search.specs.Changes.{AreApart}
use Rattle.drawing_search.specs.Searched.{attempts_in}
use Rattle.kept_walks.specs.Straightening.{moves_of}
use Rattle.kept_walks.proofs.Pushed.{one_apart}
use Rattle.kept_walks.proofs.groups.group_at.Goals as goal

pub group_of-requires-clause-apart : goal.group_of-requires-clause-apart
group_of-requires-clause-apart c = subst AreApart (sym (c.in_ok-push.ensures.items ∙ ap (λ (v : List NodeId). v ++ c.args.n ∷ []) c.new-nodes.ensures.items)) (one_apart c.args.n)

pub returns-clause-attempts : goal.returns-clause-attempts
returns-clause-attempts c =
    let rs = c.args.runs.now in
    let nodes = c.in_ok-push.ensures.items ∙ ap (λ (v : List NodeId). v ++ c.args.n ∷ []) c.new-nodes.ensures.items in
    IfOk-weaker c.group_of.result (λ (g : Group). attempts_in g ≡ moves_of c.args.lengths rs c.push.new.self.items) (λ (g : Group). attempts_in g ≡ moves_of c.args.lengths rs (c.args.n ∷ [])) (λ g e. e ∙ ap (moves_of c.args.lengths rs) nodes) c.group_of.ensures.attempts
