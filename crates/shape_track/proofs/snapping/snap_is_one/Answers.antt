use Rattle.shape_track.proofs.OneSnap.{one_snap}
use Rattle.shape_track.proofs.snapping.snap_is_one.Goals as goal

pub returns : goal.returns
returns c = one_snap
