use Rattle.poster_picture.specs.Sheets.{plain}
use Rattle.poster_picture.proofs.Wholes.{names_written}
use Rattle.poster_picture.proofs.whole.push_names.Goals as goal

pub returns : goal.returns
returns c = names_written (plain c.args.sheet) c.args.plan.now c.args.printed.now _ _ _ _ c.in_ok-open_names.ensures c.in_ok-push_all_names.ensures c.in_ok-close_group.ensures
