use Rattle.std.proofs.Common.{sym, subst, List}
use Rattle.std.specs.List.{All}
use Rattle.map_base.specs.declared.point.Point.{Point}
use Rattle.fixed_plane.specs.Plane.{IsInPlane}
use Rattle.shape_track.specs.Samples.{Joins, first_of, last_of}
use Rattle.shape_track.proofs.Closeness.{samples_join}
use Rattle.shape_track.proofs.InPlane.{samples_in_plane}
use Rattle.shape_track.proofs.samples.sample.Goals as goal

pub returns-clause-joins : goal.returns-clause-joins
returns-clause-joins c =
    subst (λ (xs : List Point). Joins c.args.near (first_of c.args.points.now) (last_of c.args.points.now) xs) (sym c.in_ok-sampler.ensures.samples)
    (samples_join c.args.near c.args.points.now c.requires.near_low)

pub returns-clause-in_plane : goal.returns-clause-in_plane
returns-clause-in_plane c =
    subst (λ (xs : List Point). All IsInPlane xs) (sym c.in_ok-sampler.ensures.samples) (samples_in_plane c.args.near c.args.points.now c.requires.in_plane)
