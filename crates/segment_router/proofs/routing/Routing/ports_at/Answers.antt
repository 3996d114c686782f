use Rattle.std.proofs.Common.{◌≡◌, ◌+◌, ◌++◌, List, [], get_or, drop, sym, ap, ◌∙◌}
use Rattle.std.proofs.lemmas.List.{append-nil, drop_all}
use Rattle.map_base.specs.declared.ids.SegId.{SegId}
use Rattle.octi_grid.specs.declared.dir.Dir.{Dir}
use Rattle.segment_router.specs.Routes.{port_at_node}
use Rattle.segment_router.specs.Underway.{known_ports, routed_of, with_known}
use Rattle.segment_router.proofs.OrderLemmas.{read_at}
use Rattle.segment_router.proofs.RoutingLemmas.{known_more, round_within}
use Rattle.segment_router.proofs.routing.Routing.ports_at.Goals as goal

pub loop-s-init : goal.loop-s-init
loop-s-init c =
    let f = port_at_node c.args.graph.now (routed_of c.args.self.now) c.args.n.0 in
    ap (λ (v : List (SegId × Dir)). v ++ known_ports f c.round-s-items.result.now) c.new-ports.ensures.items
    ∙ ap (known_ports f) (sym (read_at c.args.graph.now.rounds c.args.n.0 c.round-s-items.result.now [] c.round-s-items.ensures))

pub port_at-requires-clause-seg : goal.port_at-requires-clause-seg
port_at-requires-clause-seg c =
    let items : get_or c.args.graph.now.rounds c.args.n.0 [] ≡ c.round-s-items.result.now = read_at c.args.graph.now.rounds c.args.n.0 c.round-s-items.result.now [] c.round-s-items.ensures in
    round_within c.args.graph.now c.requires.graph c.args.n.0 c.requires.node c.round-s-items.result.now items c.loop-s.s-index (record { 0 = 0 }) c.loop-s-test.true

pub loop-s-preserved : goal.loop-s-preserved
loop-s-preserved c =
    let f = port_at_node c.args.graph.now (routed_of c.args.self.now) c.args.n.0 in
    let items = c.round-s-items.result.now in
    let s : SegId = get_or items c.loop-s.s-index (record { 0 = 0 }) in
    ap (λ (v : List (SegId × Dir)). v ++ known_ports f (drop (c.loop-s.s-index + 1) items))
    (c.in_ok-push_port.ensures ∙ ap (λ o. c.loop-s.ports.items ++ with_known s o []) c.port_at.ensures)
    ∙ sym (known_more f items c.loop-s.s-index (record { 0 = 0 }) c.loop-s.ports.items c.loop-s-test.true)
    ∙ c.loop-s.invariant

pub returns : goal.returns
returns c =
    let f = port_at_node c.args.graph.now (routed_of c.args.self.now) c.args.n.0 in
    sym (append-nil c.loop-s.ports.items)
    ∙ ap (λ (v : List SegId). c.loop-s.ports.items ++ known_ports f v) (sym (drop_all c.loop-s.s-index c.round-s-items.result.now c.loop-s-test.false))
    ∙ c.loop-s.invariant
