use Rattle.std.proofs.Common.{refl}
use Rattle.part_bounds.proofs.Groups.{pushed_at, pushed_pairs}
use Rattle.part_bounds.proofs.pair_terms.push_at.Goals as goal

pub returns-clause-added : goal.returns-clause-added
returns-clause-added c =
    pushed_at c.args.pairs.now.items c.args.place c.index_mut-group.result.now _ (c.args.number, c.args.term) c.requires c.index_mut-group.ensures.value refl c.in_ok-push.ensures.items

pub returns-clause-pairs : goal.returns-clause-pairs
returns-clause-pairs c = pushed_pairs c.args.pairs.now.items c.args.place c.index_mut-group.result.now _ c.index_mut-group.ensures.value refl
