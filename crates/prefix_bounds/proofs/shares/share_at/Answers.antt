use Rattle.std.proofs.Common.{◌∙◌, ap, sym, subst, FitsSigned, w64}
use Rattle.std.proofs.lemmas.Int.{to_z-of_z}
use Rattle.order_model.specs.Problems.{IsPair, IsTerm}
use Rattle.order_check.specs.Slots.{slot_on, slot_share}
use Rattle.prefix_bounds.proofs.LinkShares.{link_is}
use Rattle.prefix_bounds.proofs.shares.share_at.Goals as goal

pub returns-in-Link-clause-share : goal.returns-in-Link-clause-share
returns-in-Link-clause-share c =
    let fits : FitsSigned w64 c.link_share.result = record { sfits = c.link_share.type_inv } in
    let pair : IsPair c.args.problem.now.segs c.in-Link.seg c.in-Link.other c.in-Link.a c.in-Link.b c.in-Link.w = subst (IsTerm c.args.problem.now.segs) c.in-Link.is c.requires.term in
    to_z-of_z w64 c.link_share.result fits ∙ c.link_share.ensures.share
    ∙ link_is c.args.prefix.now.placed c.args.list.now c.args.place.seg c.args.place.pair c.args.lesser_first
    (record { number = c.args.number; seg = c.in-Link.seg; other = c.in-Link.other; flip = c.in-Link.flip; weight = c.in-Link.w }) c.in-Link.a c.in-Link.b pair.seg_below
    ∙ ap (λ t. slot_share c.args.prefix.now.placed c.args.list.now (slot_on c.args.place.seg c.args.place.pair) c.args.lesser_first (c.args.number, t)) (sym c.in-Link.is)
