use Rattle.std.proofs.Common.{Bool, cond, w32, ap, sym, ◌∙◌}
use Rattle.std.proofs.lemmas.Bool.{eq-eqb, ne_eqb}
use Rattle.std.proofs.lemmas.Int.{to_z-of_z}
use Rattle.line_offsets.specs.Paths.{path_end_at, path_start_at}
use Rattle.svg_writer.specs.Picture.{walk_at}
use Rattle.poster_picture.specs.Sheets.{plain}
use Rattle.poster_picture.proofs.sheet.foot_at.Goals as goal

pub returns-then-first-n : goal.returns-then-first-n
returns-then-first-n c =
    let sheet = plain c.args.sheet in
    let walk = walk_at sheet.walks c.args.s in
    c.start_on.ensures ∙ ap (path_start_at sheet.pitch walk) (to_z-of_z w32 c.args.k c.ranges.k)
    ∙ sym (ap (λ (b : Bool). cond b (path_start_at sheet.pitch walk c.args.k) (path_end_at sheet.pitch walk c.args.k)) (eq-eqb c.args.first.0 c.args.n.0 c.if-first-n.true))

pub returns-else-first-n : goal.returns-else-first-n
returns-else-first-n c =
    let sheet = plain c.args.sheet in
    let walk = walk_at sheet.walks c.args.s in
    c.end_on.ensures ∙ ap (path_end_at sheet.pitch walk) (to_z-of_z w32 c.args.k c.ranges.k)
    ∙ sym (ap (λ (b : Bool). cond b (path_start_at sheet.pitch walk c.args.k) (path_end_at sheet.pitch walk c.args.k)) (ne_eqb c.args.first.0 c.args.n.0 c.if-first-n.false))
