use Rattle.poster_layout.proofs.Sharing.{share_is}
use Rattle.poster_layout.proofs.fitting.is_share.Goals as goal

pub returns : goal.returns
returns c = share_is c.args.few c.args.all c.args.parts c.requires
