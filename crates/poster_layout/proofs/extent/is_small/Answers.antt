use Rattle.std.proofs.Common.{Bool, ◌&&◌, pos, ◌-ℤ◌, ap, sym, ◌∙◌}
use Rattle.std.specs.Prelude.{int_le}
use Rattle.poster_layout.proofs.extent.is_small.Goals as goal

pub returns-then-not-is_short : goal.returns-then-not-is_short
returns-then-not-is_short c =
    let f = c.args.f in
    sym (ap (λ (b : Bool). b && int_le (f.down.greatest -ℤ f.down.least) (pos 4200)) (sym c.is_short.ensures ∙ c.if-not-is_short.true))

pub returns : goal.returns
returns c =
    let f = c.args.f in
    c.is_short-2.ensures ∙ sym (ap (λ (b : Bool). b && int_le (f.down.greatest -ℤ f.down.least) (pos 4200)) (sym c.is_short.ensures ∙ c.if-not-is_short.false))
