use Rattle.std.proofs.Common.{◌≡◌, ◌+◌, ◌++◌, List, [], get_or, drop, sym, ap, ◌∙◌}
use Rattle.segment_router.specs.Underway.{known_ports, with_known}
use Rattle.drawing_search.proofs.Common.{allowed_known, allowed_mask, append-nil, board_under, drop_all, known_more}
use Rattle.drawing_search.proofs.Common.{port_at_node, port_in, read_at, round_within, Dir, SegId}
use Rattle.drawing_search.proofs.sketch.Sketch.ports_for.Goals as goal

pub loop-s-init : goal.loop-s-init
loop-s-init c =
    let f = port_at_node c.args.graph.now (board_under c.args.self.now) c.args.n.0 in
    ap (λ (v : List (SegId × Dir)). v ++ known_ports f c.round-s-items.result.now) c.new-taken.ensures.items
    ∙ ap (known_ports f) (sym (read_at c.args.graph.now.rounds c.args.n.0 c.round-s-items.result.now [] c.round-s-items.ensures))

pub port-requires-clause-segment : goal.port-requires-clause-segment
port-requires-clause-segment c =
    let items : get_or c.args.graph.now.rounds c.args.n.0 [] ≡ c.round-s-items.result.now = read_at c.args.graph.now.rounds c.args.n.0 c.round-s-items.result.now [] c.round-s-items.ensures in
    round_within c.args.graph.now c.requires.graph c.args.n.0 c.requires.node c.round-s-items.result.now items c.loop-s.s-index (record { 0 = 0 }) c.loop-s-test.true

pub loop-s-preserved : goal.loop-s-preserved
loop-s-preserved c =
    let f = port_at_node c.args.graph.now (board_under c.args.self.now) c.args.n.0 in
    let items = c.round-s-items.result.now in
    let s : SegId = get_or items c.loop-s.s-index (record { 0 = 0 }) in
    ap (λ (v : List (SegId × Dir)). v ++ known_ports f (drop (c.loop-s.s-index + 1) items))
    (c.in_ok-push_port.ensures ∙ ap (λ o. c.loop-s.taken.items ++ with_known s o []) c.port.ensures)
    ∙ sym (known_more f items c.loop-s.s-index (record { 0 = 0 }) c.loop-s.taken.items c.loop-s-test.true)
    ∙ c.loop-s.invariant

pub returns : goal.returns
returns c =
    let f = port_at_node c.args.graph.now (board_under c.args.self.now) c.args.n.0 in
    let round = get_or c.args.graph.now.rounds c.args.n.0 [] in
    let all : c.loop-s.taken.items ≡ known_ports f round =
    sym (append-nil c.loop-s.taken.items)
    ∙ ap (λ (v : List SegId). c.loop-s.taken.items ++ known_ports f v) (sym (drop_all c.loop-s.s-index c.round-s-items.result.now c.loop-s-test.false))
    ∙ c.loop-s.invariant in
    c.allowed_ports.ensures
    ∙ ap (λ (ports : List (SegId × Dir)). allowed_mask round (port_in ports) c.args.seg) (c.deref.ensures.value ∙ all)
    ∙ allowed_known f round c.args.seg
