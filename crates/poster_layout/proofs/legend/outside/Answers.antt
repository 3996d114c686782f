use Rattle.std.proofs.Common.{Bool, cond, ap, sym, ◌∙◌}
use Rattle.poster_layout.specs.Extents.{below, right_of}
use Rattle.poster_layout.proofs.legend.outside.Goals as goal

pub returns-then-is_no_wider-clause-value : goal.returns-then-is_no_wider-clause-value
returns-then-is_no_wider-clause-value c =
    let f = c.args.f in
    c.right_of.ensures.value ∙ sym (ap (λ (b : Bool). cond b (right_of f) (below f)) (sym c.is_no_wider.ensures ∙ c.if-is_no_wider.true))

pub returns-clause-value : goal.returns-clause-value
returns-clause-value c =
    let f = c.args.f in
    c.below.ensures.value ∙ sym (ap (λ (b : Bool). cond b (right_of f) (below f)) (sym c.is_no_wider.ensures ∙ c.if-is_no_wider.false))
