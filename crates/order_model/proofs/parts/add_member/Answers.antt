use Rattle.std.proofs.Common.{◌≡◌, ◌∙◌, get_or}
use Rattle.std.proofs.lemmas.Grind.{get_or_default_zero}
use Rattle.std.proofs.lemmas.Result.{on_ok_weaker}
use Rattle.order_model.specs.Gathering.{part_lists}
use Rattle.order_model.proofs.Placing.{member_joined}
use Rattle.order_model.proofs.parts.add_member.Goals as goal

pub returns-else-label-s-clause-parts : goal.returns-else-label-s-clause-parts
returns-else-label-s-clause-parts c =
    let is : c.index.result.now ≡ get_or c.args.places.now.items c.args.label 0 =
    c.index.ensures ∙ get_or_default_zero c.args.places.now.items c.args.label c.index.result.now c.requires.label_known in
    on_ok_weaker c.join_part.result
    (λ e. e ∙ member_joined c.args.label c.args.s _ c.index.result.now (part_lists c.args.parts.now.items) c.if-label-s.false is (c.requires.joins c.if-label-s.false))
    c.join_part.ensures
