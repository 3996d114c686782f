use Rattle.std.proofs.Common.{◌≡◌, ◌∙◌, sym, ap, subst, Ok, Result, IfOk, IfErr, ℕ, List, length}
use Rattle.map_base.specs.declared.limit.Limit.{Limit}
use Rattle.map_base.specs.declared.point.Point.{Point}
use Rattle.map_base.specs.Faults.{HasCause}
use Rattle.map_base.specs.Settings.{Choices}
use Rattle.transit_feed.specs.Feeds.{Feed}
use Rattle.graph_core.specs.declared.parts.GraphParts.{GraphParts}
use Rattle.line_graph.specs.declared.lines_of_segments.GraphWithLines.{GraphWithLines}
use Rattle.line_graph.specs.Outcome.{graph_outcome}
use Rattle.line_graph.specs.Rides.{KeepsLines}
use Rattle.line_graph.specs.SegmentLines.{lines_outcome}
use Rattle.line_graph.proofs.Outcomes.{outcome_is, kept_where}
use Rattle.line_graph.proofs.SegmentCourses.{lines_are}
use Rattle.line_graph.proofs.lines_of_segments.build_with_lines.Goals as goal

pub returns-clause-graph : goal.returns-clause-graph
returns-clause-graph c =
    let feed = c.args.tables.now in
    let near = c.settings.inside.near in
    let count : c.len.result ≡ length feed.lines = c.len.ensures ∙ c.tables.inside.lines.ok.0 ∙ ap (λ (f : Feed). length f.lines) c.tables.view_is in
    let is = outcome_is near c.len.result feed c.in_ok-courses.courses count c.in_ok-courses.ensures.courses in
    subst (λ (n : ℕ). IfOk c.lines_of_courses.result (λ (made : GraphWithLines). graph_outcome n feed ≡ Ok made.graph)) (ap (λ (choices : Choices). choices.near) c.settings.view_is)
    (subst (λ (o : Result GraphParts Limit). IfOk c.lines_of_courses.result (λ (made : GraphWithLines). o ≡ Ok made.graph)) (sym is) c.lines_of_courses.ensures.graph)

pub returns-clause-lines : goal.returns-clause-lines
returns-clause-lines c =
    let feed = c.args.tables.now in
    let near = c.settings.inside.near in
    let count : c.len.result ≡ length feed.lines = c.len.ensures ∙ c.tables.inside.lines.ok.0 ∙ ap (λ (f : Feed). length f.lines) c.tables.view_is in
    let is = lines_are near c.len.result feed c.in_ok-courses.courses count c.in_ok-courses.ensures.courses in
    subst (λ (n : ℕ). IfOk c.lines_of_courses.result (λ (made : GraphWithLines). lines_outcome n feed ≡ Ok made.lines)) (ap (λ (choices : Choices). choices.near) c.settings.view_is)
    (subst (λ (o : Result (List (List Point)) Limit). IfOk c.lines_of_courses.result (λ (made : GraphWithLines). o ≡ Ok made.lines)) (sym is) c.lines_of_courses.ensures.lines)

pub returns-clause-cause : goal.returns-clause-cause
returns-clause-cause c =
    let feed = c.args.tables.now in
    let near = c.settings.inside.near in
    let count : c.len.result ≡ length feed.lines = c.len.ensures ∙ c.tables.inside.lines.ok.0 ∙ ap (λ (f : Feed). length f.lines) c.tables.view_is in
    let is = outcome_is near c.len.result feed c.in_ok-courses.courses count c.in_ok-courses.ensures.courses in
    subst (λ (n : ℕ). IfErr c.lines_of_courses.result (λ fault. HasCause (graph_outcome n feed) fault)) (ap (λ (choices : Choices). choices.near) c.settings.view_is)
    (subst (λ (o : Result GraphParts Limit). IfErr c.lines_of_courses.result (λ fault. HasCause o fault)) (sym is) c.lines_of_courses.ensures.cause)

pub returns-clause-kept : goal.returns-clause-kept
returns-clause-kept c =
    let feed = c.args.tables.now in
    let near = c.settings.inside.near in
    let count : c.len.result ≡ length feed.lines = c.len.ensures ∙ c.tables.inside.lines.ok.0 ∙ ap (λ (f : Feed). length f.lines) c.tables.view_is in
    subst (λ (n : ℕ). IfOk c.lines_of_courses.result (λ (made : GraphWithLines). KeepsLines n feed made.graph)) (ap (λ (choices : Choices). choices.near) c.settings.view_is)
    (kept_where (λ (made : GraphWithLines). made.graph) near c.len.result feed c.in_ok-courses.courses c.lines_of_courses.result count c.in_ok-courses.ensures.courses c.lines_of_courses.ensures.graph c.lines_of_courses.ensures.kept)
