use Rattle.drawing_laws.proofs.NoRoute.{homes_each, homes_legal}
use Rattle.drawing_laws.proofs.routing.routing_from_homes_is_legal.Goals as goal

pub returns : goal.returns
returns c = record { legal = homes_legal; each = homes_each }
