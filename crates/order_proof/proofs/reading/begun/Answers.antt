use Rattle.std.proofs.Common.{refl, ap, sym, subst, ◌∙◌}
use Rattle.order_proof.specs.Plain.{plain_children}
use Rattle.order_proof.specs.Begun.{begins_with, IsBegun}
use Rattle.order_proof.proofs.Views.{plain-Split, plain-Close}
use Rattle.order_proof.proofs.reading.begun.Goals as goal

pub returns-in-Close-clause-line : goal.returns-in-Close-clause-line
returns-in-Close-clause-line c = ap (begins_with 0) (plain-Close c.in-Close.prices) ∙ sym c.in-Close.is

pub returns-in-Close-clause-begun : goal.returns-in-Close-clause-begun
returns-in-Close-clause-begun c = subst (IsBegun 0) (sym (plain-Close c.in-Close.prices)) refl

pub returns-in-Split-clause-line : goal.returns-in-Split-clause-line
returns-in-Split-clause-line c = ap (begins_with c.in-Split.count) (plain-Split c.in-Split.seg c.new-children.result) ∙ sym c.in-Split.is

pub returns-in-Split-clause-begun : goal.returns-in-Split-clause-begun
returns-in-Split-clause-begun c = subst (IsBegun c.in-Split.count) (sym (plain-Split c.in-Split.seg c.new-children.result)) (ap plain_children c.new-children.ensures.items)
