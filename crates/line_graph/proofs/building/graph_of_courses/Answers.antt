use Rattle.std.proofs.Common.{◌≡◌, ◌∙◌, sym, ap, subst, Ok, Result, IfOk, IfErr}
use Rattle.map_base.specs.declared.limit.Limit.{Limit}
use Rattle.graph_core.specs.declared.parts.GraphParts.{GraphParts}
use Rattle.line_graph.specs.Outcome.{graph_over_net}
use Rattle.map_base.specs.Faults.{HasCause}
use Rattle.line_graph.specs.Rides.{AreKept}
use Rattle.track_net.specs.Nets.{NetParts}
use Rattle.line_graph.proofs.Outcomes.{net_fits}
use Rattle.line_graph.proofs.building.graph_of_courses.Goals as goal

pub returns-clause-graph : goal.returns-clause-graph
returns-clause-graph c =
    let all = c.args.courses.now in
    let is = ap (graph_over_net c.args.near c.args.lines all) (sym c.in_ok-net.ensures.net) ∙ net_fits c.args.near c.args.lines all c.in_ok-net.net c.in_ok-net.ensures.few in
    subst (λ (o : Result GraphParts Limit). IfOk c.graph_of_net.result (λ graph. o ≡ Ok graph)) (sym is) c.graph_of_net.ensures.graph

pub returns-clause-cause : goal.returns-clause-cause
returns-clause-cause c =
    let all = c.args.courses.now in
    let is = ap (graph_over_net c.args.near c.args.lines all) (sym c.in_ok-net.ensures.net) ∙ net_fits c.args.near c.args.lines all c.in_ok-net.net c.in_ok-net.ensures.few in
    subst (λ (o : Result GraphParts Limit). IfErr c.graph_of_net.result (λ fault. HasCause o fault)) (sym is) c.graph_of_net.ensures.cause

pub returns-clause-kept : goal.returns-clause-kept
returns-clause-kept c =
    subst (λ (n : NetParts). IfOk c.graph_of_net.result (λ (graph : GraphParts). AreKept c.args.near c.args.lines c.args.courses.now n)) c.in_ok-net.ensures.net c.graph_of_net.ensures.kept
