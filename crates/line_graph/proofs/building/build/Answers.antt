use Rattle.std.proofs.Common.{◌≡◌, ◌∙◌, sym, ap, subst, Ok, Result, IfOk, IfErr, ℕ, length}
use Rattle.map_base.specs.declared.limit.Limit.{Limit}
use Rattle.map_base.specs.Settings.{Choices}
use Rattle.transit_feed.specs.Feeds.{Feed}
use Rattle.graph_core.specs.declared.parts.GraphParts.{GraphParts}
use Rattle.line_graph.specs.Outcome.{net_of_courses, graph_outcome}
use Rattle.map_base.specs.Faults.{HasCause}
use Rattle.line_graph.specs.Rides.{KeepsLines}
use Rattle.line_graph.proofs.Outcomes.{outcome_is, known_where, kept_where}
use Rattle.line_graph.proofs.FeedLines.{below_where}
use Rattle.line_graph.proofs.building.build.Goals as goal

pub returns-clause-graph : goal.returns-clause-graph
returns-clause-graph c =
    let feed = c.args.tables.now in
    let near = c.settings.inside.near in
    let count : c.len.result ≡ length feed.lines = c.len.ensures ∙ c.tables.inside.lines.ok.0 ∙ ap (λ (f : Feed). length f.lines) c.tables.view_is in
    let is = outcome_is near c.len.result feed c.in_ok-courses.courses count c.in_ok-courses.ensures.courses in
    subst (λ (n : ℕ). IfOk c.graph_of_courses.result (λ graph. graph_outcome n feed ≡ Ok graph)) (ap (λ (choices : Choices). choices.near) c.settings.view_is)
    (subst (λ (o : Result GraphParts Limit). IfOk c.graph_of_courses.result (λ graph. o ≡ Ok graph)) (sym is) c.graph_of_courses.ensures.graph)

pub returns-clause-cause : goal.returns-clause-cause
returns-clause-cause c =
    let feed = c.args.tables.now in
    let near = c.settings.inside.near in
    let count : c.len.result ≡ length feed.lines = c.len.ensures ∙ c.tables.inside.lines.ok.0 ∙ ap (λ (f : Feed). length f.lines) c.tables.view_is in
    let is = outcome_is near c.len.result feed c.in_ok-courses.courses count c.in_ok-courses.ensures.courses in
    subst (λ (n : ℕ). IfErr c.graph_of_courses.result (λ fault. HasCause (graph_outcome n feed) fault)) (ap (λ (choices : Choices). choices.near) c.settings.view_is)
    (subst (λ (o : Result GraphParts Limit). IfErr c.graph_of_courses.result (λ fault. HasCause o fault)) (sym is) c.graph_of_courses.ensures.cause)

pub returns-clause-stations : goal.returns-clause-stations
returns-clause-stations c =
    let near = c.settings.inside.near in
    known_where near c.len.result c.args.tables.now c.in_ok-courses.courses (net_of_courses near c.in_ok-courses.courses) c.graph_of_courses.result c.in_ok-courses.ensures.courses
    c.graph_of_courses.ensures.graph

pub returns-clause-lines : goal.returns-clause-lines
returns-clause-lines c =
    let feed = c.args.tables.now in
    let count : c.len.result ≡ length feed.lines = c.len.ensures ∙ c.tables.inside.lines.ok.0 ∙ ap (λ (f : Feed). length f.lines) c.tables.view_is in
    below_where c.settings.inside.near c.len.result (length feed.lines) c.in_ok-courses.courses (net_of_courses c.settings.inside.near c.in_ok-courses.courses) c.graph_of_courses.result count
    c.graph_of_courses.ensures.graph

pub returns-clause-kept : goal.returns-clause-kept
returns-clause-kept c =
    let feed = c.args.tables.now in
    let near = c.settings.inside.near in
    let count : c.len.result ≡ length feed.lines = c.len.ensures ∙ c.tables.inside.lines.ok.0 ∙ ap (λ (f : Feed). length f.lines) c.tables.view_is in
    subst (λ (n : ℕ). IfOk c.graph_of_courses.result (λ graph. KeepsLines n feed graph)) (ap (λ (choices : Choices). choices.near) c.settings.view_is)
    (kept_where (λ (graph : GraphParts). graph) near c.len.result feed c.in_ok-courses.courses c.graph_of_courses.result count c.in_ok-courses.ensures.courses c.graph_of_courses.ensures.graph c.graph_of_courses.ensures.kept)
