use Rattle.std.proofs.Common.{◌≡◌, ◌∙◌, ◌<◌, ◌≤◌, ℕ, true, false, sym, ap, subst, length, get_or, List, arith}
use Rattle.std.proofs.lemmas.Result.{IfOk-weaker}
use Rattle.std.specs.Prelude.{All}
use Rattle.run_laying.specs.Runs.{IsFitting}
use Rattle.drawing_search.specs.declared.group.Group.{Group}
use Rattle.drawing_search.specs.declared.searching.Searched.{Searched}
use Rattle.drawing_search.specs.Changes.{AreApart}
use Rattle.drawing_search.specs.Searched.{attempts_of, IsSearched}
use Rattle.kept_walks.specs.Moves.{IsImproved}
use Rattle.kept_walks.proofs.Promised.{held_scale, improved_of}
use Rattle.kept_walks.proofs.moving.improve.Goals as goal

pub search-requires-clause-held : goal.search-requires-clause-held
search-requires-clause-held c = c.in_ok-held.ensures.each ∙ c.nodes-nodes.ensures.count

pub search-requires-clause-fitting : goal.search-requires-clause-fitting
search-requires-clause-fitting c =
    let groups = c.in_ok-groups.ensures in
    subst (λ (gs : List Group). All (IsFitting c.args.graph.now) (attempts_of gs)) (sym c.deref.ensures.value) (subst (All (IsFitting c.args.graph.now)) (sym groups.attempts_are) groups.fitting)

pub search-requires-clause-apart : goal.search-requires-clause-apart
search-requires-clause-apart c = subst (All (λ (g : Group). AreApart g.nodes)) (sym c.deref.ensures.value) (λ i d h. (c.in_ok-groups.ensures.sound i d h).0)

pub search-requires-clause-lengths : goal.search-requires-clause-lengths
search-requires-clause-lengths c = subst (All (λ (g : Group). g.lengths ≤ 4)) (sym c.deref.ensures.value) (λ i d h. (c.in_ok-groups.ensures.sound i d h).1)

pub returns : goal.returns
returns c =
    let graph = c.args.graph.now in
    let walks = c.args.drawing.walks in
    let gs = c.deref.result.now in
    let held = c.in_ok-held.held in
    let attempts = ap attempts_of c.deref.ensures.value ∙ c.in_ok-groups.ensures.attempts_are in
    let raised : (n : ℕ) → n < length graph.kinds → get_or held n false ≡ true = λ n h. c.in_ok-held.ensures.raised n (omega (arith, h, c.nodes-nodes.ensures.count)) in
    IfOk-weaker c.search.result (λ (s : Searched). IsSearched graph (held_scale held) 4 (attempts_of gs) 1 c.args.moves walks s) (λ (s : Searched). IsImproved graph walks c.args.moves s)
    (λ s found. improved_of graph c.args.moves walks held (attempts_of gs) s attempts raised found)
    c.search.ensures
