use Rattle.std.proofs.Common.{◌≡◌, drop}
use Rattle.segment_router.specs.Ports.{port_in}
use Rattle.segment_router.proofs.ports.port_in.Given as goal

abbrev pub invariant-loop-known : goal.invariant-loop-known
invariant-loop-known l = port_in (drop l.known-index l.taken) l.s ≡ port_in l.taken l.s
