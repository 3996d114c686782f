use Rattle.std.proofs.Common.{◌≡◌, sym, subst, rules}
use Rattle.fixed_plane.specs.Plane.{projected}
use Rattle.feed_courses.specs.Runs.{IsOnEarth}
use Rattle.feed_courses.proofs.Earth.{projected-on_earth}
use Rattle.feed_courses.proofs.plane.point_of.Goals as goal

pub returns-clause-on_earth : goal.returns-clause-on_earth
returns-clause-on_earth c =
    let is : c.project.result ≡ projected c.args.lat c.args.lon c.args.band = search rules in
    subst IsOnEarth (sym is) (projected-on_earth c.args.lat c.args.lon c.args.band c.requires.place)
