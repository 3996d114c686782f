use Rattle.std.proofs.Common.{◌≡◌, subst, Option, Vec, ℕ}
use Rattle.std.specs.Global.{Global}
use Rattle.std.specs.Option.{IfSome}
use Rattle.std.proofs.lemmas.Result.{IfOk-weaker}
use Rattle.shape_track.specs.Snaps.{IsSnap}
use Rattle.shape_track.specs.Choices.{snap_of}
use Rattle.shape_track.proofs.Choosing.{snap-chosen}
use Rattle.shape_track.proofs.snapping.snap.Goals as goal

pub returns-in-Some-clause-chosen : goal.returns-in-Some-clause-chosen
returns-in-Some-clause-chosen c =
    snap-chosen c.args.samples.now c.args.stations.now c.in-Some.places.items
    (subst (λ (o : Option (Vec ℕ Global)). IfSome o (λ (v : Vec ℕ Global). IsSnap c.args.samples.now c.args.stations.now v.items)) c.in-Some.is c.in_ok-places.ensures)

pub returns-clause-chosen : goal.returns-clause-chosen
returns-clause-chosen c =
    IfOk-weaker c.far_snap.result (λ places. IsSnap c.args.samples.now c.args.stations.now places.items) (λ places. places.items ≡ snap_of c.args.samples.now c.args.stations.now)
    (λ places snap. snap-chosen c.args.samples.now c.args.stations.now places.items snap) c.far_snap.ensures
