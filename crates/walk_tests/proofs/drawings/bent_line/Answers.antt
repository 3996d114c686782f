use Rattle.std.proofs.Common.{length, refl, sym, ap, ◌∙◌}
use Rattle.octi_grid.specs.Walks.{walk_by}
use Rattle.grid_board.specs.Points.{are_near}
use Rattle.walk_tests.proofs.Drawn.{origin, middle, bent_near}
use Rattle.walk_tests.proofs.drawings.bent_line.Goals as goal

pub returns-clause-each : goal.returns-clause-each
returns-clause-each g c = ap length (c.of.ensures ∙ c.in_ok-walks.ensures.items)

pub returns-clause-near : goal.returns-clause-near
returns-clause-near g c =
    ap (are_near 1900) (c.of.ensures ∙ c.in_ok-walks.ensures.items)
    ∙ bent_near 1900 refl c.walk-first.result c.walk-second.result (ap (walk_by origin) (sym c.in_ok-up.ensures.items) ∙ c.walk-first.ensures)
    (ap (walk_by middle) (sym c.in_ok-down.ensures.items) ∙ c.walk-second.ensures)

pub returns-clause-nearer : goal.returns-clause-nearer
returns-clause-nearer g c =
    ap (are_near 1800) (c.of.ensures ∙ c.in_ok-walks.ensures.items)
    ∙ bent_near 1800 refl c.walk-first.result c.walk-second.result (ap (walk_by origin) (sym c.in_ok-up.ensures.items) ∙ c.walk-first.ensures)
    (ap (walk_by middle) (sym c.in_ok-down.ensures.items) ∙ c.walk-second.ensures)
