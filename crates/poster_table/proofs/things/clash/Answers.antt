use Rattle.std.proofs.Common.{Bool, ◌&&◌, not, ap, sym, ◌∙◌}
use Rattle.eight_sides.specs.Shapes.{meet}
use Rattle.poster_table.proofs.things.clash.Goals as goal

pub returns-then-are_kin : goal.returns-then-are_kin
returns-then-are_kin c = sym (ap (λ (b : Bool). not b && meet c.args.a.shape c.args.b.shape) (sym c.are_kin.ensures ∙ c.if-are_kin.true))

pub returns : goal.returns
returns c = c.meet.ensures ∙ sym (ap (λ (b : Bool). not b && meet c.args.a.shape c.args.b.shape) (sym c.are_kin.ensures ∙ c.if-are_kin.false))
