use Rattle.std.proofs.Common.{◌∙◌, sym, ap, subst, cond, List, [], ◌∷◌, ◌++◌, append-nil}
use Rattle.std.specs.Prelude.{All}
use Rattle.std.proofs.lemmas.List.Elements.{All-push}
use Rattle.run_laying.specs.Attempts.{Attempt}
use Rattle.drawing_search.specs.Searched.{attempts_of}
use Rattle.kept_walks.specs.Groups.{IsSound}
use Rattle.kept_walks.specs.Straightening.{moves_of}
use Rattle.kept_walks.proofs.Pushed.{one_group_more}
use Rattle.kept_walks.proofs.groups.push_corner.Goals as goal

pub returns-then-not-is_raised-clause-attempts : goal.returns-then-not-is_raised-clause-attempts
returns-then-not-is_raised-clause-attempts c =
    let old = attempts_of c.args.groups.now.items in
    sym (append-nil old) ∙ sym (ap (λ b. old ++ cond b (moves_of 4 c.args.runs.now (c.args.n ∷ [])) []) (sym c.is_raised.ensures ∙ c.if-not-is_raised.true))

pub returns-clause-sound : goal.returns-clause-sound
returns-clause-sound c = subst (All IsSound) (sym c.in_ok-push.ensures.items) (All-push IsSound c.args.groups.now.items c.in_ok-group.group c.requires.sound c.in_ok-group.ensures.sound)

pub returns-clause-attempts : goal.returns-clause-attempts
returns-clause-attempts c =
    let gs = c.args.groups.now.items in
    let old = attempts_of gs in
    ap attempts_of c.in_ok-push.ensures.items
    ∙ one_group_more gs c.in_ok-group.group
    ∙ ap (λ (v : List Attempt). old ++ v) c.in_ok-group.ensures.attempts
    ∙ sym (ap (λ b. old ++ cond b (moves_of 4 c.args.runs.now (c.args.n ∷ [])) []) (sym c.is_raised.ensures ∙ c.if-not-is_raised.false))
