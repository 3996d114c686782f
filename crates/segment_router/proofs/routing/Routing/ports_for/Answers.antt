use Rattle.std.proofs.Common.{List, [], get_or, ap, ◌∙◌}
use Rattle.map_base.specs.declared.ids.SegId.{SegId}
use Rattle.octi_grid.specs.declared.dir.Dir.{Dir}
use Rattle.segment_router.specs.Ports.{allowed_mask, port_in}
use Rattle.segment_router.specs.Routes.{port_at_node}
use Rattle.segment_router.specs.Underway.{routed_of}
use Rattle.segment_router.proofs.MaskLemmas.{allowed_known}
use Rattle.segment_router.proofs.routing.Routing.ports_for.Goals as goal

pub returns : goal.returns
returns c =
    let round = get_or c.args.graph.now.rounds c.args.n.0 [] in
    c.allowed_ports.ensures
    ∙ ap (λ (ports : List (SegId × Dir)). allowed_mask round (port_in ports) c.args.seg) (c.deref.ensures.value ∙ c.in_ok-taken.ensures)
    ∙ allowed_known (port_at_node c.args.graph.now (routed_of c.args.self.now) c.args.n.0) round c.args.seg
