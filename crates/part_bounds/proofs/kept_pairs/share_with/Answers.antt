use Rattle.std.proofs.Common.{◌≡◌, ◌<◌, ◌&&◌, false, length, subst, sym, ap, ◌∙◌, arith}
use Rattle.std.proofs.lemmas.List.{length-map}
use Rattle.std.proofs.lemmas.Grind.{get_or_default_zero}
use Rattle.order_bound.proofs.Parts.{rising_apart}
use Rattle.part_bounds.specs.PairGroups.{Group, KnowsOwn, group_in, groups_in, no_group, terms_in, share_of, IsGroup}
use Rattle.part_bounds.specs.Changes.{is_new_pair, is_changed}
use Rattle.pair_bounds.specs.Slots.{HasRoom}
use Rattle.part_bounds.proofs.KeptUp.{group_at, group_here}
use Rattle.part_bounds.proofs.PairsKept.{unchanged}
use Rattle.part_bounds.proofs.kept_pairs.share_with.Goals as goal

pub price_entry-requires-clause-apart : goal.price_entry-requires-clause-apart
price_entry-requires-clause-apart c = rising_apart c.args.part.now c.requires.table.rises

pub price_entry-requires-clause-group : goal.price_entry-requires-clause-group
price_entry-requires-clause-group c =
    group_at (IsGroup c.args.problem.now.segs c.args.part.now) c.args.pairs.now c.args.place c.index-pairs-place.result c.requires.table.groups c.requires.within c.index-pairs-place.is

pub price_entry-requires-clause-room : goal.price_entry-requires-clause-room
price_entry-requires-clause-room c =
    group_at (λ (g : Group). HasRoom (length c.args.part.now) (terms_in g) c.args.room.now) c.args.pairs.now c.args.place c.index-pairs-place.result c.requires.room c.requires.within c.index-pairs-place.is

pub returns-clause-share : goal.returns-clause-share
returns-clause-share c =
    c.price_entry.ensures.share ∙ ap (share_of c.args.problem.now.segs c.args.part.now c.args.prefix.now.placed) (sym (group_here c.args.pairs.now c.args.place c.index-pairs-place.result c.requires.within c.index-pairs-place.is))

pub returns-then-not-is_changed-clause-share : goal.returns-then-not-is_changed-clause-share
returns-then-not-is_changed-clause-share c =
    let within : c.args.place < length (groups_in c.args.pairs.now) = omega (arith, c.requires.within, length-map c.args.pairs.now group_in) in
    let here = group_here c.args.pairs.now c.args.place c.index-pairs-place.result c.requires.within c.index-pairs-place.is in
    let fit = group_at (IsGroup c.args.problem.now.segs c.args.part.now) c.args.pairs.now c.args.place c.index-pairs-place.result c.requires.table.groups c.requires.within c.index-pairs-place.is in
    let known : KnowsOwn c.args.part.now c.index-pairs-place.result =
    subst (KnowsOwn c.args.part.now) (sym c.index-pairs-place.is) (c.requires.table.own c.args.place c.index-pairs-place.result c.requires.within) in
    let none : is_changed c.args.change.now (group_in c.index-pairs-place.result) ≡ false =
    unchanged c.args.part.now c.index-pairs-place.result.terms.items c.index-pairs-place.result.segs.items c.args.change.now.seg (is_new_pair c.args.change.now c.index-pairs-place.result.pair)
    known fit.inside (sym c.is_changed.ensures ∙ c.if-not-is_changed.true) in
    c.requires.left c.args.place within (ap (is_changed c.args.change.now) here ∙ none)
