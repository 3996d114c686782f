use Rattle.std.proofs.Common.{Bool, cond, w32, ap, sym, ◌∙◌}
use Rattle.std.proofs.lemmas.Bool.{eq-eqb, ne_eqb}
use Rattle.std.proofs.lemmas.Int.{to_z-of_z}
use Rattle.svg_writer.proofs.lines.end_at.Goals as goal

pub returns-then-ends-n : goal.returns-then-ends-n
returns-then-ends-n g c =
    let d = g.D.Drawn.courses c.args.drawn.now in
    c.start.ensures ∙ ap (d.start c.args.s) (to_z-of_z w32 c.args.k c.ranges.k)
    ∙ sym (ap (λ (b : Bool). cond b (d.start c.args.s c.args.k) (d.end c.args.s c.args.k)) (eq-eqb c.args.ends.0.0 c.args.n c.if-ends-n.true))

pub returns-else-ends-n : goal.returns-else-ends-n
returns-else-ends-n g c =
    let d = g.D.Drawn.courses c.args.drawn.now in
    c.end.ensures ∙ ap (d.end c.args.s) (to_z-of_z w32 c.args.k c.ranges.k)
    ∙ sym (ap (λ (b : Bool). cond b (d.start c.args.s c.args.k) (d.end c.args.s c.args.k)) (ne_eqb c.args.ends.0.0 c.args.n c.if-ends-n.false))
