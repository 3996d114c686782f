use Rattle.std.proofs.Common.{rules}
use Rattle.std.proofs.lemmas.Slice.Eq.{slice_eq-Decides}
use Rattle.map_base.specs.declared.point.Point.{Point}
use Rattle.kept_drawing.proofs.same_courses.are_same_points.Goals as goal

pub returns : goal.returns
returns c = (slice_eq-Decides (λ (a b : Point). search rules) c.args.some.now c.args.other.now c.eq.result c.eq.ensures).0
