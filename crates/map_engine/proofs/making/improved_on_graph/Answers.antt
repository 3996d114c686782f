use Rattle.std.proofs.Common.{◌∙◌, ℕ, List, IfOk, sym, ap, subst, arith}
use Rattle.std.proofs.lemmas.List.Elements.{All-contains_itself}
use Rattle.std.proofs.lemmas.Result.{IfOk-weaker}
use Rattle.kept_trees.specs.OwnTrees.{HeldPart}
use Rattle.graph_maps.specs.Subjects.{Subject}
use Rattle.graph_maps.specs.declared.improvement.ImprovedMap.{ImprovedMap}
use Rattle.graph_maps.specs.Making.{Gives}
use Rattle.graph_maps.specs.Keeping.{finished_on, left_on, HoldsFinished}
use Rattle.graph_maps.specs.Improving.{improved_bytes, improved_on, IsImprovedOn}
use Rattle.map_engine.specs.Tables.{subject_of}
use Rattle.map_engine.specs.Improving.{IsImprovedMap}
use Rattle.map_engine.proofs.ImportanceLemmas.{subject_is}
use Rattle.map_engine.proofs.FeedMaps.{finished_is, improved_is, improved_of, left_is}
use Rattle.map_engine.proofs.making.improved_on_graph.Goals as goal

pub returns-in_err-names-clause-kept : goal.returns-in_err-names-clause-kept
returns-in_err-names-clause-kept g c = All-contains_itself c.args.kept.now

pub returns-in_err-importance-clause-kept : goal.returns-in_err-importance-clause-kept
returns-in_err-importance-clause-kept g c = All-contains_itself c.args.kept.now

pub returns-clause-outcome : goal.returns-clause-outcome
returns-clause-outcome g c =
    let feed = c.args.tables.now in
    let choices = c.args.settings.now in
    let method = c.args.method.now in
    let graph = c.args.graph.now in
    let told = subject_is feed choices c.in_ok-names.names c.as_slice.result.now c.in_ok-names.ensures
    (c.as_slice.ensures.value ∙ c.in_ok-importance.ensures.value) in
    subst (Gives improved_bytes c.make_improved_from.result)
    (sym (improved_is feed choices graph c.requires.graph method c.args.moves))
    (subst (λ (s : Subject). Gives improved_bytes c.make_improved_from.result
    (improved_on s choices method c.args.moves graph)) told c.make_improved_from.ensures.outcome)

pub returns-clause-improved : goal.returns-clause-improved
returns-clause-improved g c =
    let feed = c.args.tables.now in
    let choices = c.args.settings.now in
    let method = c.args.method.now in
    let graph = c.args.graph.now in
    let told = subject_is feed choices c.in_ok-names.names c.as_slice.result.now c.in_ok-names.ensures
    (c.as_slice.ensures.value ∙ c.in_ok-importance.ensures.value) in
    IfOk-weaker c.make_improved_from.result
    (λ (x : ImprovedMap). IsImprovedOn (subject_of feed choices) choices method graph c.args.moves (improved_bytes x))
    (λ (x : ImprovedMap). IsImprovedMap feed choices method c.args.moves (improved_bytes x))
    (λ x is. improved_of feed choices graph c.requires.graph c.requires.kept method c.args.moves (improved_bytes x) is)
    (subst (λ (s : Subject). IfOk c.make_improved_from.result
    (λ (x : ImprovedMap). IsImprovedOn s choices method graph c.args.moves (improved_bytes x))) told
    c.make_improved_from.ensures.improved)

pub returns-clause-finished : goal.returns-clause-finished
returns-clause-finished g c =
    let feed = c.args.tables.now in
    let choices = c.args.settings.now in
    let method = c.args.method.now in
    let graph = c.args.graph.now in
    let held = c.make_improved_from.new.kept in
    subst (λ (parts : List HeldPart). HoldsFinished c.make_improved_from.result parts held)
    (sym (finished_is feed choices graph c.requires.graph method))
    (subst (λ (ns : List ℕ). HoldsFinished c.make_improved_from.result (finished_on ns choices method graph) held)
    (c.as_slice.ensures.value ∙ c.in_ok-importance.ensures.value) c.make_improved_from.ensures.finished)

pub returns-clause-steps : goal.returns-clause-steps
returns-clause-steps g c =
    let feed = c.args.tables.now in
    let choices = c.args.settings.now in
    let method = c.args.method.now in
    let graph = c.args.graph.now in
    let left = ap (λ (ns : List ℕ). left_on c.args.kept.now ns choices method graph)
    (c.as_slice.ensures.value ∙ c.in_ok-importance.ensures.value) in
    omega (
      arith,
      c.make_improved_from.ensures.steps,
      left,
      left_is feed choices graph c.requires.graph c.args.kept.now method,
    )
