use Rattle.std.proofs.Common.{◌≡◌, ◌∙◌, sym, ap, subst, ℕ, ◌<◌, ◌≤◌, List, Some, Vec, length, get_or, arith, refl}
use Rattle.std.specs.Global.{Global}
use Rattle.std.specs.List.{slice_get}
use Rattle.std.proofs.lemmas.List.{length-map}
use Rattle.std.proofs.lemmas.List.Elements.{All-get_or}
use Rattle.std.proofs.lemmas.Option.{slice_get_read}
use Rattle.std.proofs.lemmas.Result.{IfOk-weaker}
use Rattle.map_base.specs.declared.point.Point.{Point}
use Rattle.transit_feed.specs.declared.shape.Shape.{Shape}
use Rattle.transit_feed.specs.Feeds.{Feed, IsFeed, IsShape}
use Rattle.feed_courses.specs.Places.{feed_band}
use Rattle.feed_courses.specs.Outcome.{course_points, shape_points}
use Rattle.feed_courses.proofs.CourseLemmas.{shape_named, points_of_shape, stops_give_points}
use Rattle.feed_courses.proofs.building.course_points.Goals as goal

-- the shape that is read is one of the feed
shape_there : (feed : Feed) (shapes : List Shape) (n : ℕ) (shape : Shape) → n < length feed.shapes → shapes ≡ feed.shapes → shape ≡ get_or shapes n shape → slice_get feed.shapes n ≡ Some shape
shape_there feed shapes n shape below same is = slice_get_read feed.shapes (length feed.shapes) n shape refl below (is ∙ ap (λ (xs : List Shape). get_or xs n shape) same)

shape_fits : (feed : Feed) (shapes : List Shape) (n : ℕ) (shape : Shape) → IsFeed feed → n < length feed.shapes → shapes ≡ feed.shapes → shape ≡ get_or shapes n shape → IsShape shape
shape_fits feed shapes n shape fits below same is = subst IsShape (sym (is ∙ ap (λ (xs : List Shape). get_or xs n shape) same)) (All-get_or IsShape feed.shapes n shape below fits.shapes)

pub index-requires : goal.index-requires
index-requires c =
    let feed = c.args.tables.now in
    let below : c.in-Some.number < length feed.shapes = shape_named feed c.args.pattern.now c.in-Some.number c.requires.pattern c.in-Some.is in
    let same : length c.tables.inside.shapes.items ≡ length feed.shapes = ap (λ (f : Feed). length f.shapes) c.tables.view_is in
    omega (arith, below, same, c.tables.inside.shapes.ok.0)

pub shape_points-requires-clause-shape : goal.shape_points-requires-clause-shape
shape_points-requires-clause-shape c =
    let feed = c.args.tables.now in
    let fits : IsFeed feed = subst IsFeed c.tables.view_is c.tables.invariant in
    let below : c.in-Some.number < length feed.shapes = shape_named feed c.args.pattern.now c.in-Some.number c.requires.pattern c.in-Some.is in
    shape_fits feed c.tables.inside.shapes.items c.in-Some.number c.index.result.now fits below (ap (λ (f : Feed). f.shapes) c.tables.view_is) c.index.ensures

pub returns-in_ok-to_vec-in-None-clause-some : goal.returns-in_ok-to_vec-in-None-clause-some
returns-in_ok-to_vec-in-None-clause-some c =
    let feed = c.args.tables.now in
    let some : 0 < length c.args.stations.now = stops_give_points feed c.args.pattern.now c.args.stations.now c.requires.pattern c.requires.stations in
    let same : length c.in_ok-to_vec-in-None.field-0.items ≡ length c.args.stations.now = search (arith, c.in_ok-to_vec-in-None.ensures.len) in
    omega (arith, some, same)

pub returns-in-Some-clause-points : goal.returns-in-Some-clause-points
returns-in-Some-clause-points c =
    let feed = c.args.tables.now in
    let below : c.in-Some.number < length feed.shapes = shape_named feed c.args.pattern.now c.in-Some.number c.requires.pattern c.in-Some.is in
    let there : slice_get feed.shapes c.in-Some.number ≡ Some c.index.result.now =
    shape_there feed c.tables.inside.shapes.items c.in-Some.number c.index.result.now below (ap (λ (f : Feed). f.shapes) c.tables.view_is) c.index.ensures in
    let band : c.feed_band-band.result ≡ feed_band feed.stations = c.feed_band-band.ensures.value ∙ ap feed_band (c.deref.ensures.value ∙ ap (λ (f : Feed). f.stations) c.tables.view_is) in
    IfOk-weaker c.shape_points.result (λ (points : Vec Point Global). points.items ≡ shape_points c.feed_band-band.result (Some c.index.result.now))
    (λ (points : Vec Point Global). points.items ≡ course_points feed c.args.pattern.now c.args.pattern.now.shape)
    (λ points is. points_of_shape feed c.args.pattern.now c.in-Some.number c.feed_band-band.result c.index.result.now points.items c.in-Some.is there band is) c.shape_points.ensures.points

pub returns-in-Some-clause-some : goal.returns-in-Some-clause-some
returns-in-Some-clause-some c =
    let feed = c.args.tables.now in
    let fits : IsFeed feed = subst IsFeed c.tables.view_is c.tables.invariant in
    let below : c.in-Some.number < length feed.shapes = shape_named feed c.args.pattern.now c.in-Some.number c.requires.pattern c.in-Some.is in
    let shape : IsShape c.index.result.now = shape_fits feed c.tables.inside.shapes.items c.in-Some.number c.index.result.now fits below (ap (λ (f : Feed). f.shapes) c.tables.view_is) c.index.ensures in
    IfOk-weaker c.shape_points.result (λ (points : Vec Point Global). points.items ≡ shape_points c.feed_band-band.result (Some c.index.result.now)) (λ (points : Vec Point Global). 0 < length points.items)
    (λ points is. some_points c.feed_band-band.result c.index.result.now points.items shape is) c.shape_points.ensures.points
  where
    some_points : (band : ℕ) (shape : Shape) (points : List Point) → IsShape shape → points ≡ shape_points band (Some shape) → 0 < length points
    some_points band shape points fits is =
        let count : length points ≡ length shape.points = ap length is ∙ length-map shape.points _ in
        let two : 2 ≤ length shape.points = fits.some_points in
        omega (arith, count, two)
