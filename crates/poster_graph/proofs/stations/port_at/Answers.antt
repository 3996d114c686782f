use Rattle.std.proofs.Common.{◌≡◌, ◌==◌, Bool, true, false, cond, [], pos, Option, Some, None, unwrap_or, refl, ap, sym, ◌∙◌}
use Rattle.map_base.specs.declared.ids.NodeId.{NodeId}
use Rattle.octi_grid.specs.declared.dir.Dir.{Dir}
use Rattle.octi_grid.specs.Walks.{PlainWalk, end_port, start_port}
use Rattle.svg_writer.specs.Picture.{ends_at}
use Rattle.poster_rules.specs.Stations.{port_at}
use Rattle.poster_graph.proofs.stations.port_at.Goals as goal

abbrev no_walk : PlainWalk
no_walk = record { start = record { x = pos 0; y = pos 0 }; steps = [] }

none_at : (b : Bool) → (let o : Option Dir = None in o) ≡ cond b (start_port no_walk) (end_port no_walk)
none_at true = refl
none_at false = refl

pub returns-in-Some : goal.returns-in-Some
returns-in-Some c =
    let n = c.args.n.0 in
    let ends = ends_at c.args.served.graph.now.ends c.args.s.0 in
    sym c.port_of.ensures
    ∙ ap (λ (e : NodeId × NodeId). port_at n e c.in-Some.walk.now) c.ends_of.ensures
    ∙ sym (ap (λ (o : Option PlainWalk). port_at n ends (unwrap_or o no_walk)) c.in-Some.ensures)

pub returns-in-None : goal.returns-in-None
returns-in-None c =
    let n = c.args.n.0 in
    let ends = ends_at c.args.served.graph.now.ends c.args.s.0 in
    none_at (ends.0.0 == n) ∙ sym (ap (λ (o : Option PlainWalk). port_at n ends (unwrap_or o no_walk)) c.in-None.ensures)
