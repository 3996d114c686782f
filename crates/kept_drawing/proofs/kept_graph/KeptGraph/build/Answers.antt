use Rattle.std.proofs.Common.{◌≡◌, ◌∙◌, sym, ap, subst, ℕ, length, Result, Ok, IfOk, IfErr}
use Rattle.std.proofs.lemmas.Result.{IfOk-weaker}
use Rattle.map_base.specs.declared.limit.Limit.{Limit}
use Rattle.map_base.specs.declared.limit_fault.LimitFault.{LimitFault}
use Rattle.map_base.specs.Settings.{Choices}
use Rattle.transit_feed.specs.Feeds.{Feed}
use Rattle.graph_core.specs.declared.parts.GraphParts.{GraphParts}
use Rattle.feed_courses.specs.declared.courses.Courses.{Courses}
use Rattle.line_graph.specs.Outcome.{graph_outcome, graph_over_net, net_of_courses}
use Rattle.line_graph.specs.Rides.{AreKept, KeepsLines}
use Rattle.line_graph.proofs.Outcomes.{kept_where, outcome_is}
use Rattle.kept_drawing.specs.Keeping.{IsGraphOf}
use Rattle.map_base.specs.Faults.{HasCause}
use Rattle.kept_drawing.proofs.Graphs.{lines_where}
use Rattle.kept_drawing.proofs.kept_graph.KeptGraph.build.Goals as goal

defined_where : (near lines : ℕ) (all : Courses) (result : Result GraphParts LimitFault) → IfOk result (IsGraphOf near lines all)
    → IfOk result (λ graph. graph_over_net near lines all (net_of_courses near all) ≡ Ok graph)
defined_where near lines all result is = IfOk-weaker result (IsGraphOf near lines all)
    (λ (graph : GraphParts). graph_over_net near lines all (net_of_courses near all) ≡ Ok graph)
    (λ graph known. known.defined) is

pub returns-clause-graph : goal.returns-clause-graph
returns-clause-graph c =
    let near = c.settings.inside.near in
    let feed = c.args.tables.now in
    let count : c.len-lines.result ≡ length feed.lines = c.len-lines.ensures ∙ c.tables.inside.lines.ok.0 ∙ ap (λ (f : Feed). length f.lines) c.tables.view_is in
    let is = outcome_is near c.len-lines.result feed c.in_ok-courses.courses count c.in_ok-courses.ensures.courses in
    subst (λ (n : ℕ). IfOk c.graph_of.result (λ graph. graph_outcome n feed ≡ Ok graph)) (ap (λ (choices : Choices). choices.near) c.settings.view_is)
    (subst (λ (o : Result GraphParts Limit). IfOk c.graph_of.result (λ graph. o ≡ Ok graph)) (sym is)
    (defined_where near c.len-lines.result c.in_ok-courses.courses c.graph_of.result c.graph_of.ensures.graph))

pub returns-clause-cause : goal.returns-clause-cause
returns-clause-cause c =
    let near = c.settings.inside.near in
    let feed = c.args.tables.now in
    let count : c.len-lines.result ≡ length feed.lines = c.len-lines.ensures ∙ c.tables.inside.lines.ok.0 ∙ ap (λ (f : Feed). length f.lines) c.tables.view_is in
    let is = outcome_is near c.len-lines.result feed c.in_ok-courses.courses count c.in_ok-courses.ensures.courses in
    subst (λ (n : ℕ). IfErr c.graph_of.result (λ fault. HasCause (graph_outcome n feed) fault)) (ap (λ (choices : Choices). choices.near) c.settings.view_is)
    (subst (λ (o : Result GraphParts Limit). IfErr c.graph_of.result (λ fault. HasCause o fault)) (sym is) c.graph_of.ensures.cause)

pub returns-clause-lines : goal.returns-clause-lines
returns-clause-lines c =
    let near = c.settings.inside.near in
    let feed = c.args.tables.now in
    let count : c.len-lines.result ≡ length feed.lines = c.len-lines.ensures ∙ c.tables.inside.lines.ok.0 ∙ ap (λ (f : Feed). length f.lines) c.tables.view_is in
    let is = outcome_is near c.len-lines.result feed c.in_ok-courses.courses count c.in_ok-courses.ensures.courses in
    lines_where near feed c.graph_of.result (subst (λ (o : Result GraphParts Limit). IfOk c.graph_of.result (λ graph. o ≡ Ok graph)) (sym is)
    (defined_where near c.len-lines.result c.in_ok-courses.courses c.graph_of.result c.graph_of.ensures.graph))

pub returns-clause-kept : goal.returns-clause-kept
returns-clause-kept c =
    let near = c.settings.inside.near in
    let feed = c.args.tables.now in
    let all = c.in_ok-courses.courses in
    let lines = c.len-lines.result in
    let count : lines ≡ length feed.lines = c.len-lines.ensures ∙ c.tables.inside.lines.ok.0 ∙ ap (λ (f : Feed). length f.lines) c.tables.view_is in
    let kept = IfOk-weaker c.graph_of.result (IsGraphOf near lines all)
    (λ (graph : GraphParts). AreKept near lines all (net_of_courses near all)) (λ graph known. known.kept) c.graph_of.ensures.graph in
    subst (λ (n : ℕ). IfOk c.graph_of.result (λ graph. KeepsLines n feed graph)) (ap (λ (choices : Choices). choices.near) c.settings.view_is)
    (kept_where (λ (graph : GraphParts). graph) near lines feed all c.graph_of.result count c.in_ok-courses.ensures.courses
    (defined_where near lines all c.graph_of.result c.graph_of.ensures.graph) kept)
