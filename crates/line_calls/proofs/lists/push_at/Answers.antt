use Rattle.line_calls.proofs.ListLemmas.{list_grown}
use Rattle.line_calls.proofs.lists.push_at.Goals as goal

pub returns : goal.returns
returns c = list_grown c.args.lists.now.items c.args.place c.index_mut-list.result.now c.push.new.self c.args.number c.requires c.index_mut-list.ensures.value c.in_ok-push.ensures.items
