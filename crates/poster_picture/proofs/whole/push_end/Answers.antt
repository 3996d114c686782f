use Rattle.poster_picture.proofs.Wholes.{legend_written}
use Rattle.poster_picture.proofs.whole.push_end.Goals as goal

pub returns : goal.returns
returns c = legend_written c.args.names.now c.args.legend c.args.lines.now _ _ _ _ _ c.in_ok-open_legend.ensures c.in_ok-push_legend.ensures c.in_ok-close_group.ensures c.in_ok-push_tail.ensures
