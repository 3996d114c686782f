use Rattle.std.proofs.Common.{◌≡◌, Bool, true, ◌&&◌, length, sym, ap, ◌∙◌, eqb-true}
use Rattle.std.specs.List.{list_all}
use Rattle.order_rules.specs.Dividing.{is_group, others, can_part}
use Rattle.order_untangle.specs.Segments.{most_by_lines}
use Rattle.order_untangle.proofs.ReadLemmas.{group_among, no_terms_divide}
use Rattle.order_untangle.proofs.segments.divides_by.Goals as goal

pub parts_by-requires-clause-among : goal.parts_by-requires-clause-among
parts_by-requires-clause-among c = group_among c.args.lines.now c.args.group.now (sym c.is_group.ensures ∙ c.if-not-is_group.false)

pub returns-then-is_empty : goal.returns-then-is_empty
returns-then-is_empty c =
    sym (no_terms_divide c.args.terms.now c.args.seg c.args.lines.now c.args.group.now (eqb-true (length c.args.terms.now) 0 (sym c.is_empty.ensures ∙ c.if-is_empty.true))
    (sym c.is_group.ensures ∙ c.if-not-is_group.false))

pub returns : goal.returns
returns c =
    let in_group : is_group c.args.lines.now c.args.group.now ≡ true = sym c.is_group.ensures ∙ c.if-not-is_group.false in
    c.in_ok-parts.ensures
    ∙ ap (λ (b : Bool). b && list_all (λ a. list_all (can_part (most_by_lines c.args.terms.now c.args.seg c.args.lines.now) c.args.terms.now c.args.seg a) (others c.args.lines.now c.args.group.now)) c.args.group.now) (sym in_group)
