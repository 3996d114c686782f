use Rattle.part_bounds.proofs.ApartLists.{list_grown}
use Rattle.part_bounds.proofs.aparts.push_at.Goals as goal

pub returns : goal.returns
returns c = list_grown c.args.lists.now.items c.args.seg.0 c.index_mut-list.result.now c.push.new.self c.args.term c.requires c.index_mut-list.ensures.value c.in_ok-push.ensures.items
