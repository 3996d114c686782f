use Rattle.std.proofs.Common.{◌∙◌, sym, ap, [], pos, Option, unwrap_or, w32}
use Rattle.std.proofs.lemmas.Int.{to_z-of_z}
use Rattle.octi_grid.specs.Walks.{PlainWalk}
use Rattle.line_offsets.specs.Paths.{path_end_at}
use Rattle.poster_picture.proofs.sheet.end_on.Goals as goal

abbrev no_walk : PlainWalk
no_walk = record { start = record { x = pos 0; y = pos 0 }; steps = [] }

pub returns-in-Some : goal.returns-in-Some
returns-in-Some c =
    c.path_end_at.ensures
    ∙ ap (path_end_at c.args.sheet.pitch c.in-Some.walk.now) (to_z-of_z w32 c.args.k c.ranges.k)
    ∙ sym (ap (λ (o : Option PlainWalk). path_end_at c.args.sheet.pitch (unwrap_or o no_walk) c.args.k) c.in-Some.ensures)

pub returns-in-None : goal.returns-in-None
returns-in-None c = c.drawn_at.ensures.value ∙ sym (ap (λ (o : Option PlainWalk). path_end_at c.args.sheet.pitch (unwrap_or o no_walk) c.args.k) c.in-None.ensures)
