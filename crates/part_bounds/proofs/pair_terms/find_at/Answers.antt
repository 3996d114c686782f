use Rattle.std.proofs.Common.{refl}
use Rattle.part_bounds.proofs.OwnUse.{same_groups}
use Rattle.part_bounds.proofs.pair_terms.find_at.Goals as goal

pub returns-clause-same : goal.returns-clause-same
returns-clause-same c = same_groups c.args.pairs.now.items c.args.place c.index_mut-entry.result.now _ c.index_mut-entry.ensures.value refl
