use Rattle.std.proofs.Common.{ℕ, ap, ◌∙◌}
use Rattle.std.specs.List.{list_all}
use Rattle.order_rules.specs.Dividing.{can_part, others}
use Rattle.order_rules.proofs.divides.can_all_part.Goals as goal

pub returns : goal.returns
returns c =
    c.all_part_from_rest.ensures
    ∙ ap (λ (most : ℕ). list_all (λ a. list_all (can_part most c.args.terms.now c.args.seg a) (others c.args.lines.now c.args.group.now)) c.args.group.now) c.most_apart.ensures.most
