use Rattle.std.proofs.Common.{◌≡◌, List, [], pos, Option, OnOk, unwrap_or, subst, sym, ap, ◌∙◌, w32}
use Rattle.std.proofs.lemmas.Int.{to_z-of_z}
use Rattle.octi_grid.specs.Walks.{PlainWalk}
use Rattle.line_offsets.specs.declared.corner.Corner.{Corner}
use Rattle.line_offsets.specs.Paths.{line_path_at}
use Rattle.poster_picture.proofs.lines.put_line.Goals as goal

abbrev no_walk : PlainWalk
no_walk = record { start = record { x = pos 0; y = pos 0 }; steps = [] }

pub returns-in-Some : goal.returns-in-Some
returns-in-Some c =
    subst (λ (path : List Corner). OnOk c.put_path_at.result (c.put_path_at.new.path.items ≡ path))
    (ap (line_path_at c.args.sheet.pitch c.in-Some.walk.now) (to_z-of_z w32 c.args.k c.ranges.k)
    ∙ sym (ap (λ (o : Option PlainWalk). line_path_at c.args.sheet.pitch (unwrap_or o no_walk) c.args.k) c.in-Some.ensures))
    c.put_path_at.ensures

pub returns-in-None : goal.returns-in-None
returns-in-None c = c.clear.ensures.items ∙ sym (ap (λ (o : Option PlainWalk). line_path_at c.args.sheet.pitch (unwrap_or o no_walk) c.args.k) c.in-None.ensures)
