use Rattle.geo_map.proofs.Reaching.{near_place}
use Rattle.geo_map.proofs.plane.place_of.Goals as goal

pub returns-then-n-nodes-clause-near : goal.returns-then-n-nodes-clause-near
returns-then-n-nodes-clause-near c = near_place c.args.graph.now.places c.args.n.0 c.place.result c.nodes.ensures.fits.places c.place.ensures
