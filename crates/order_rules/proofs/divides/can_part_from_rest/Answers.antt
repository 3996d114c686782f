use Rattle.std.proofs.Common.{◌∙◌, sym}
use Rattle.order_model.specs.Places.{has_line}
use Rattle.order_rules.specs.Dividing.{can_part}
use Rattle.order_rules.proofs.LineLists.{all_of_filter}
use Rattle.order_rules.proofs.divides.can_part_from_rest.Goals as goal

pub returns : goal.returns
returns c =
    c.are_in_or_part.ensures
    ∙ sym (all_of_filter (has_line c.args.group.now) (can_part c.args.most c.args.terms.now c.args.seg c.args.line) c.args.lines.now)
