use Rattle.std.proofs.Common.{rules}
use Rattle.std.proofs.lemmas.Slice.Eq.{slice_eq-Decides}
use Rattle.map_base.specs.declared.ids.StationId.{StationId}
use Rattle.kept_drawing.proofs.same_courses.are_same_stations.Goals as goal

pub returns : goal.returns
returns c = (slice_eq-Decides (λ (a b : StationId). search rules) c.args.some.now c.args.other.now c.eq.result c.eq.ensures).0
