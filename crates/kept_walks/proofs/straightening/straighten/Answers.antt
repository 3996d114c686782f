use Rattle.std.proofs.Common.{◌≤◌, sym, ◌∙◌, ap, subst, Bool, List, length, arith}
use Rattle.std.proofs.lemmas.Result.{IfOk-weaker}
use Rattle.std.specs.Prelude.{All}
use Rattle.line_chains.specs.Chains.{chains_of}
use Rattle.run_laying.specs.Runs.{IsFitting}
use Rattle.drawing_search.specs.declared.group.Group.{Group}
use Rattle.drawing_search.specs.declared.searching.Searched.{Searched}
use Rattle.drawing_search.specs.Changes.{AreApart}
use Rattle.drawing_search.specs.Searched.{attempts_of, IsSearched}
use Rattle.kept_walks.specs.Groups.{AreRunsOf}
use Rattle.kept_walks.specs.Straightening.{straight_attempts, straight_scale, IsStraightened}
use Rattle.kept_walks.proofs.Corners.{corners_many}
use Rattle.kept_walks.proofs.Fitting.{all_fitting}
use Rattle.kept_walks.proofs.Promised.{chains_are_runs, farther, straightened_of}
use Rattle.kept_walks.proofs.straightening.straighten.Goals as goal

pub chains_of-requires : goal.chains_of-requires
chains_of-requires c = ap length c.in_ok-corners.ensures ∙ corners_many c.args.graph.now c.nodes-nodes.ensures.fits c.args.cell

pub groups_of-requires-clause-flags : goal.groups_of-requires-clause-flags
groups_of-requires-clause-flags c = ap length c.in_ok-corners.ensures ∙ corners_many c.args.graph.now c.nodes-nodes.ensures.fits c.args.cell

pub groups_of-requires-clause-runs : goal.groups_of-requires-clause-runs
groups_of-requires-clause-runs c =
    let graph = c.args.graph.now in
    subst (AreRunsOf graph) (sym (c.deref.ensures.value ∙ c.in_ok-chains.ensures ∙ ap (chains_of graph) c.in_ok-corners.ensures)) (chains_are_runs graph c.nodes-nodes.ensures.fits c.args.cell)

pub groups_of-requires-clause-are : goal.groups_of-requires-clause-are
groups_of-requires-clause-are c = c.deref.ensures.value ∙ c.in_ok-chains.ensures

pub groups_of-requires-clause-fitting : goal.groups_of-requires-clause-fitting
groups_of-requires-clause-fitting c =
    let graph = c.args.graph.now in
    subst (λ (fs : List Bool). All (IsFitting graph) (straight_attempts graph fs)) (sym c.in_ok-corners.ensures) (all_fitting graph c.nodes-nodes.ensures.fits c.args.cell)

pub search-requires-clause-near : goal.search-requires-clause-near
search-requires-clause-near c = farther 1800 1900 (omega arith) c.args.drawing.walks c.requires.near

pub search-requires-clause-held : goal.search-requires-clause-held
search-requires-clause-held c = ap length c.in_ok-corners.ensures ∙ corners_many c.args.graph.now c.nodes-nodes.ensures.fits c.args.cell

pub search-requires-clause-fitting : goal.search-requires-clause-fitting
search-requires-clause-fitting c =
    let groups = c.in_ok-groups.ensures in
    subst (λ (gs : List Group). All (IsFitting c.args.graph.now) (attempts_of gs)) (sym c.deref-2.ensures.value) (subst (All (IsFitting c.args.graph.now)) (sym groups.attempts_are) groups.fitting)

pub search-requires-clause-apart : goal.search-requires-clause-apart
search-requires-clause-apart c = subst (All (λ (g : Group). AreApart g.nodes)) (sym c.deref-2.ensures.value) (λ i d h. (c.in_ok-groups.ensures.sound i d h).0)

pub search-requires-clause-lengths : goal.search-requires-clause-lengths
search-requires-clause-lengths c = subst (All (λ (g : Group). g.lengths ≤ 4)) (sym c.deref-2.ensures.value) (λ i d h. (c.in_ok-groups.ensures.sound i d h).1)

pub returns : goal.returns
returns c =
    let graph = c.args.graph.now in
    let walks = c.args.drawing.walks in
    let gs = c.deref-2.result.now in
    let attempts = ap attempts_of c.deref-2.ensures.value ∙ c.in_ok-groups.ensures.attempts_are ∙ ap (straight_attempts graph) c.in_ok-corners.ensures in
    IfOk-weaker c.search.result (λ (s : Searched). IsSearched graph (straight_scale c.in_ok-corners.corners) 20 (attempts_of gs) c.args.most c.args.most walks s) (λ (s : Searched). IsStraightened graph c.args.cell c.args.most walks s)
    (λ s found.
    straightened_of graph c.args.cell c.args.most walks (attempts_of gs) s attempts
    (subst (λ (fs : List Bool). IsSearched graph (straight_scale fs) 20 (attempts_of gs) c.args.most c.args.most walks s) c.in_ok-corners.ensures found))
    c.search.ensures
