use Rattle.std.proofs.Common.{◌≡◌, sym, ◌∙◌}
use Rattle.walk_search.specs.Asking.{question}
use Rattle.walk_search.specs.Moves.{space_of}
use Rattle.walk_search.proofs.Walking.{goal_is}
use Rattle.walk_search.proofs.walk.ends_at.Goals as goal

pub returns-in-Some : goal.returns-in-Some
returns-in-Some c =
    let q = question c.args.asked.now in
    let pays : (space_of q).goal c.args.at ≡ c.end_cost.result = goal_is q c.args.at c.in-Some.spot c.requires.at c.in-Some.ensures.value ∙ sym c.end_cost.ensures.value in
    (λ t. let k = c.are_known.ensures.0 t in (k.0, sym c.of.ensures ∙ k.1, pays ∙ k.2), λ e. c.are_known.ensures.1 (e.0, c.of.ensures ∙ e.1, sym pays ∙ e.2))
