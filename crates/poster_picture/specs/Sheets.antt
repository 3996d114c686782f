-- A sheet as it is lent.
use Rattle.std.specs.Prelude.{ℕ, ◌==◌, ℤ, if◌then◌else◌}
use Rattle.line_offsets.specs.declared.corner.Corner.{Corner}
use Rattle.line_offsets.specs.Paths.{path_end_at, path_start_at}
use Rattle.svg_writer.specs.Picture.{walk_at}
use Rattle.poster_rules.specs.Posters.{Sheet}
use Rattle.poster_picture.specs.declared.sheet.Sheet.{Sheet as LentSheet}

-- what is drawn, and how
abbrev pub plain : LentSheet → Sheet
plain sheet =
    record {
      names = sheet.names.now;
      graph = sheet.graph.now;
      walks = sheet.drawing.now.walks;
      orders = sheet.orders.now.lists;
      callers = sheet.callers.now;
      pitch = sheet.pitch;
    }

-- where a line that stands k places beside segment s, which starts at this node, ends at node n
abbrev pub foot_at : Sheet → ℕ → ℕ → ℕ → ℤ → Corner
foot_at sheet first n s k = if first == n then path_start_at sheet.pitch (walk_at sheet.walks s) k else path_end_at sheet.pitch (walk_at sheet.walks s) k
