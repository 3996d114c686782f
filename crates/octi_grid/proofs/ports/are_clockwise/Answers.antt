use Rattle.std.proofs.Common.{◌+◌, List, [], drop, take, sym, ap, ◌∙◌, arith}
use Rattle.std.proofs.lemmas.List.{drop_all}
use Rattle.std.specs.List.{filter_map}
use Rattle.map_base.specs.declared.ids.SegId.{SegId}
use Rattle.octi_grid.specs.Legal.{are_clockwise, legs_of, port_of}
use Rattle.octi_grid.specs.Sweeps.{goes_on, sweep_past, sweeps}
use Rattle.octi_grid.proofs.SweepLemmas.{get_or_got, sweeps_clockwise, sweeps_more}
use Rattle.octi_grid.proofs.ports.are_clockwise.Goals as goal

pub loop-s-init : goal.loop-s-init
loop-s-init c = sweeps_clockwise (filter_map (port_of (take c.args.count (legs_of c.args.graph.now.ends c.args.walks.now)) c.args.n.0) c.round-s-items.result.now)

pub returns-in-None : goal.returns-in-None
returns-in-None c =
    let port = port_of (take c.args.count (legs_of c.args.graph.now.ends c.args.walks.now)) c.args.n.0 in
    let items = c.round-s-items.result.now in
    let rest = sweeps (filter_map port (drop (c.loop-s.s-index + 1) items)) in
    ap (goes_on rest) (sym c.in-None.is ∙ c.past.ensures ∙ ap (sweep_past c.loop-s.sweep) c.port_at.ensures)
    ∙ sym (sweeps_more port items c.loop-s.s-index _ c.loop-s.sweep c.loop-s-test.true)
    ∙ c.loop-s.invariant
    ∙ ap (λ (v : List SegId). are_clockwise (filter_map port v)) (sym (get_or_got c.args.graph.now.rounds c.args.n.0 items [] c.round-s-items.ensures))

pub loop-s-preserved : goal.loop-s-preserved
loop-s-preserved c =
    let port = port_of (take c.args.count (legs_of c.args.graph.now.ends c.args.walks.now)) c.args.n.0 in
    let items = c.round-s-items.result.now in
    let rest = sweeps (filter_map port (drop (c.loop-s.s-index + 1) items)) in
    ap (goes_on rest) (sym c.in-Some.is ∙ c.past.ensures ∙ ap (sweep_past c.loop-s.sweep) c.port_at.ensures)
    ∙ sym (sweeps_more port items c.loop-s.s-index _ c.loop-s.sweep c.loop-s-test.true)
    ∙ c.loop-s.invariant

pub returns : goal.returns
returns c =
    let port = port_of (take c.args.count (legs_of c.args.graph.now.ends c.args.walks.now)) c.args.n.0 in
    let items = c.round-s-items.result.now in
    ap (λ (v : List SegId). sweeps (filter_map port v) c.loop-s.sweep) (sym (drop_all c.loop-s.s-index items (omega arith)))
    ∙ c.loop-s.invariant
    ∙ ap (λ (v : List SegId). are_clockwise (filter_map port v)) (sym (get_or_got c.args.graph.now.rounds c.args.n.0 items [] c.round-s-items.ensures))
