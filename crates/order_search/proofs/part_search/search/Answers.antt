use Rattle.std.proofs.Common.{◌≤◌, sym, ◌∙◌}
use Rattle.std.proofs.lemmas.Bool.{ltb-false}
use Rattle.std.proofs.lemmas.Result.{IfErr-weaker}
use Rattle.order_search.specs.Finding.{places_of, most_places, IsSearchFault, IsNotSpent}
use Rattle.order_search.specs.FoundParts.{branches_in}
use Rattle.order_search.specs.Searching.{IsStop}
use Rattle.order_search.proofs.Shows.{found_in_part, stop_fault, not_spent}
use Rattle.order_search.proofs.part_search.search.Goals as goal

pub returns-clause-found : goal.returns-clause-found
returns-clause-found g c =
    let few : places_of c.args.problem.now.segs c.args.part.now ≤ most_places =
    ltb-false 2048 (places_of c.args.problem.now.segs c.args.part.now) (sym c.is_deep.ensures.deep ∙ c.if-is_deep.false) in
    found_in_part c.args.problem.now c.args.part.now c.is_deep.ensures.fits c.requires.rising c.requires.known few c.live_search.result
    c.live_search.ensures.tree c.live_search.ensures.best c.live_search.ensures.branches

pub returns-clause-fault : goal.returns-clause-fault
returns-clause-fault g c =
    let few : places_of c.args.problem.now.segs c.args.part.now ≤ most_places =
    ltb-false 2048 (places_of c.args.problem.now.segs c.args.part.now) (sym c.is_deep.ensures.deep ∙ c.if-is_deep.false) in
    IfErr-weaker c.live_search.result (IsStop c.args.budget (branches_in c.args.problem.now c.args.part.now))
    (IsSearchFault (places_of c.args.problem.now.segs c.args.part.now) (branches_in c.args.problem.now c.args.part.now) c.args.budget)
    (λ f h. stop_fault (places_of c.args.problem.now.segs c.args.part.now) c.args.budget (branches_in c.args.problem.now c.args.part.now) f few h) c.live_search.ensures.stop

pub returns-clause-suffices : goal.returns-clause-suffices
returns-clause-suffices g c enough =
    IfErr-weaker c.live_search.result (IsStop c.args.budget (branches_in c.args.problem.now c.args.part.now)) IsNotSpent
    (λ f h. not_spent c.args.problem.now c.args.part.now c.is_deep.ensures.fits c.requires.rising c.requires.known c.args.budget f enough h) c.live_search.ensures.stop
