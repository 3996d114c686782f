use Rattle.std.proofs.Common.{◌≡◌, ◌<◌, length, set, false, refl, sym, ap, ◌∙◌, get_or, get_or-set_same, arith}
use Rattle.std.proofs.lemmas.List.{length-map}
use Rattle.std.proofs.lemmas.Grind.{get_or_default_zero}
use Rattle.order_bound.proofs.Parts.{rising_apart}
use Rattle.part_bounds.specs.PairGroups.{Group, group_in, groups_in, no_group, terms_in, share_of, IsGroup}
use Rattle.pair_bounds.specs.Slots.{HasRoom}
use Rattle.part_bounds.proofs.KeptUp.{group_at, group_here}
use Rattle.part_bounds.proofs.KeptShares.{kept_anew}
use Rattle.part_bounds.proofs.kept_pairs.renew_at.Goals as goal

pub price_anew-share-requires-clause-apart : goal.price_anew-share-requires-clause-apart
price_anew-share-requires-clause-apart c = rising_apart c.args.part.now c.requires.table.rises

pub price_anew-share-requires-clause-group : goal.price_anew-share-requires-clause-group
price_anew-share-requires-clause-group c =
    group_at (IsGroup c.args.problem.now.segs c.args.part.now) c.args.pairs.now c.args.place c.index-pairs-place.result c.requires.table.groups c.requires.within c.index-pairs-place.is

pub price_anew-share-requires-clause-room : goal.price_anew-share-requires-clause-room
price_anew-share-requires-clause-room c =
    group_at (λ (g : Group). HasRoom (length c.args.part.now) (terms_in g) c.args.room.now) c.args.pairs.now c.args.place c.index-pairs-place.result c.requires.room c.requires.within c.index-pairs-place.is

pub returns-clause-kept : goal.returns-clause-kept
returns-clause-kept c =
    kept_anew c.args.problem.now c.args.part.now c.args.prefix.now.placed c.args.pairs.now c.args.place c.price_anew-share.result c.index-pairs-place.result c.args.kept.now _
    c.requires.table c.requires.within c.index-pairs-place.is c.price_anew-share.ensures.share c.price_anew-share.ensures.each c.price_anew-share.ensures.noted refl refl c.requires.kept

pub returns-clause-share : goal.returns-clause-share
returns-clause-share c =
    c.price_anew-share.ensures.share ∙ ap (share_of c.args.problem.now.segs c.args.part.now c.args.prefix.now.placed) (sym (group_here c.args.pairs.now c.args.place c.index-pairs-place.result c.requires.within c.index-pairs-place.is))
