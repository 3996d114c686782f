use Rattle.std.proofs.Common.{◌∙◌, sym, ap, [], pos, Option, unwrap_or, w32}
use Rattle.std.proofs.lemmas.Int.{to_z-of_z}
use Rattle.octi_grid.specs.Walks.{PlainWalk}
use Rattle.line_offsets.specs.Paths.{path_start}
use Rattle.svg_writer.proofs.grid.start_at.Goals as goal

abbrev no_walk : PlainWalk
no_walk = record { start = record { x = pos 0; y = pos 0 }; steps = [] }

pub returns-in-Some : goal.returns-in-Some
returns-in-Some c =
    c.path_start.ensures
    ∙ ap (path_start c.in-Some.walk.now) (to_z-of_z w32 c.args.k c.ranges.k)
    ∙ sym (ap (λ (o : Option PlainWalk). path_start (unwrap_or o no_walk) c.args.k) c.in-Some.ensures)

pub returns-in-None : goal.returns-in-None
returns-in-None c = sym (ap (λ (o : Option PlainWalk). path_start (unwrap_or o no_walk) c.args.k) c.in-None.ensures)
