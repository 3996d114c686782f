use Rattle.std.proofs.Common.{◌≡◌, drop, length}
use Rattle.std.specs.Prelude.{IfSome}
use Rattle.segment_router.specs.Ports.{is_allowed, port_in, stops_from, with_port}
use Rattle.segment_router.specs.Tours.{ends_well}
use Rattle.segment_router.proofs.TourLemmas.{IsWithinTour}
use Rattle.segment_router.proofs.ports.is_allowed.Given as goal

-- the tour so far, over the stops that are left
abbrev pub invariant-loop-place : goal.invariant-loop-place
invariant-loop-place l = record {
  rest : ends_well (length l.round) l.tour (stops_from l.place (with_port l.seg l.port (port_in l.taken)) (drop l.place l.round)) ≡ is_allowed l.round (port_in l.taken) l.seg l.port;
  within : IfSome l.tour (IsWithinTour (length l.round));
}
