use Rattle.std.proofs.Common.{ℕ, ◌<◌, ◌^◌, List, length, All, sym, subst}
use Rattle.map_base.specs.Settings.{Choices, IsImportance}
use Rattle.transit_feed.specs.Feeds.{Feed}
use Rattle.graph_maps.specs.Subjects.{AreListed}
use Rattle.map_engine.proofs.ImportanceLemmas.{few_in, listed_in, numbers_in}
use Rattle.map_engine.proofs.importance.line_numbers.Goals as goal

pub returns-clause-range : goal.returns-clause-range
returns-clause-range c =
    let counts = subst (λ (s : Choices). All (λ (p : List ℕ × ℕ). IsImportance p.1) s.importance) c.settings.view_is
    c.settings.invariant.importance in
    subst (All IsImportance) (sym c.in_ok-numbers.ensures) (numbers_in c.args.tables.now c.args.settings.now counts)

pub returns-clause-lines : goal.returns-clause-lines
returns-clause-lines c = subst (λ (ns : List ℕ). AreListed ns c.args.graph.now) (sym c.in_ok-numbers.ensures)
    (listed_in c.args.tables.now c.args.settings.now c.args.graph.now c.requires)

pub returns-clause-few : goal.returns-clause-few
returns-clause-few c =
    let few = subst (λ (f : Feed). length f.lines < 2 ^ 32) c.tables.view_is c.tables.invariant.few_lines in
    subst (λ (ns : List ℕ). length ns < 2 ^ 32) (sym c.in_ok-numbers.ensures)
    (few_in c.args.tables.now c.args.settings.now few)
