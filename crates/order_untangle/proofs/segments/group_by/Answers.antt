use Rattle.std.proofs.Common.{length, sym, ◌∙◌, eqb-true}
use Rattle.order_untangle.proofs.ReadLemmas.{no_terms_group}
use Rattle.order_untangle.proofs.segments.group_by.Goals as goal

pub returns-then-is_empty : goal.returns-then-is_empty
returns-then-is_empty c =
    no_terms_group c.args.terms.now c.args.seg c.args.lines.now c.in_ok-group.group (eqb-true (length c.args.terms.now) 0 (sym c.is_empty.ensures ∙ c.if-is_empty.true)) c.requires.rising
    c.in_ok-group.ensures
