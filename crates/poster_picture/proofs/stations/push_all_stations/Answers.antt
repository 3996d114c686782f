use Rattle.std.proofs.Common.{string_bytes}
use Rattle.poster_picture.specs.Parts.{station_at}
use Rattle.poster_picture.specs.Sheets.{plain}
use Rattle.poster_picture.proofs.Writing.{numbered_more}
use Rattle.poster_picture.proofs.stations.push_all_stations.Goals as goal

pub loop-n-preserved : goal.loop-n-preserved
loop-n-preserved c = numbered_more (station_at (plain c.args.sheet)) c.loop-n.n (string_bytes c.args.text.now) (string_bytes c.loop-n.text) (string_bytes c.push_node.new.text) c.loop-n.invariant c.in_ok-push_node.ensures
