use Rattle.std.proofs.Common.{◌+◌, length, drop, sym, ap, ◌∙◌}
use Rattle.segment_router.specs.Ports.{port_in, stops_from, with_port}
use Rattle.segment_router.specs.Tours.{may_end_well, tour_on}
use Rattle.segment_router.proofs.TourLemmas.{tour_more, within_more, within_turned}
use Rattle.segment_router.proofs.ports.is_allowed.Goals as goal

pub goes_on-requires : goal.goes_on-requires
goes_on-requires c = within_turned (length c.args.round.now) c.loop-place.tour c.loop-place.invariant.within

pub returns-in-None : goal.returns-in-None
returns-in-None c =
    let port = with_port c.args.seg c.args.port (port_in c.args.taken.now) in
    let rest = stops_from (c.loop-place.place + 1) port (drop (c.loop-place.place + 1) c.args.round.now) in
    ap (may_end_well (length c.args.round.now) rest) (sym c.in-None.is ∙ c.goes_on.ensures.tour ∙ ap (tour_on c.loop-place.tour c.loop-place.place) c.port_with.ensures)
    ∙ sym (tour_more (length c.args.round.now) port c.args.round.now c.loop-place.place _ c.loop-place.tour c.loop-place-test.true)
    ∙ c.loop-place.invariant.rest

pub loop-place-preserved : goal.loop-place-preserved
loop-place-preserved c =
    let port = with_port c.args.seg c.args.port (port_in c.args.taken.now) in
    let rest = stops_from (c.loop-place.place + 1) port (drop (c.loop-place.place + 1) c.args.round.now) in
    record {
      rest = ap (may_end_well (length c.args.round.now) rest) (sym c.in-Some.is ∙ c.goes_on.ensures.tour ∙ ap (tour_on c.loop-place.tour c.loop-place.place) c.port_with.ensures)
          ∙ sym (tour_more (length c.args.round.now) port c.args.round.now c.loop-place.place _ c.loop-place.tour c.loop-place-test.true)
          ∙ c.loop-place.invariant.rest;
      within = within_more (length c.args.round.now) c.loop-place.tour c.loop-place.place c.port_with.result c.in-Some.next c.loop-place-test.true c.loop-place.invariant.within (sym c.goes_on.ensures.tour ∙ c.in-Some.is);
    }
