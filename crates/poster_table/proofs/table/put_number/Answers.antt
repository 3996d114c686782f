use Rattle.poster_table.proofs.Putting.{put_one}
use Rattle.poster_table.proofs.table.put_number.Goals as goal

pub returns : goal.returns
returns c = put_one c.args.buckets.now.items c.args.bucket c.index_mut-numbers.result.now c.push.new.self c.args.number c.requires c.index_mut-numbers.ensures.value c.in_ok-push.ensures.items
