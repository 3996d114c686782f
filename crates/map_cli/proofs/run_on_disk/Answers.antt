use Rattle.map_cli.proofs.EndLemmas.{promised_end}
use Rattle.map_cli.proofs.run_on_disk.Goals as goal

pub returns : goal.returns
returns g c = promised_end c.args.words.now _ _ _ _ _ _ _ c.run_whole-status.result c.end-ended.result c.run_whole-status.ensures c.end-ended.ensures
