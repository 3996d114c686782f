use Rattle.std.proofs.Common.{◌≡◌, ◌∙◌, ℤ, is_some, ap, sym, arith}
use Rattle.table_rows.specs.Cells.{row_at}
use Rattle.table_rows.proofs.ReasonLemmas.{first_below-more}
use Rattle.sequence_tables.specs.declared.reads.Read.{Read}
use Rattle.sequence_tables.specs.Shapes.{point_in}
use Rattle.sequence_tables.specs.ShapeReads.{own_reason, own_reason_at, entry_in, is_read, shape_place, read_by}
use Rattle.sequence_tables.proofs.ReadLemmas.{read_more, place_more}
use Rattle.sequence_tables.proofs.ShapeLemmas.{read_in, entry_says, point_says, read_says, own_behind}
use Rattle.sequence_tables.proofs.shapes_read.read_shapes.Goals as goal

pub loop-row-preserved : goal.loop-row-preserved
loop-row-preserved c =
    let named = c.args.named.now in
    let columns = c.args.columns.now in
    let rows = c.args.rows.now in
    let row = c.loop-row.row in
    let shape = c.next-last.ensures.place ∙ ap (shape_place named) c.field_in.ensures in
    let says : c.in-Ok.read ≡ read_in named columns (row_at rows row) = c.in-Ok.ensures.read ∙ ap (read_by columns (row_at rows row)) shape in
    record {
      last = c.next-last.ensures.place ∙ ap (shape_place named) (sym c.next-last.ensures.id);
      good = first_below-more (own_reason_at named rows) row c.loop-row.invariant.good
          (own_behind named rows row c.loop-row.auto.row ∙ ap (λ cs. own_reason (is_read named cs (row_at rows row)) cs (row_at rows row)) (sym c.requires.columns)
          ∙ ap (λ p. own_reason (is_some p) columns (row_at rows row)) (sym shape) ∙ c.in-Ok.ensures.good);
      entries = read_more (is_read named columns) (entry_in named columns) (λ (r : Read (ℤ × ℤ)). r.entry) (read_in named columns) rows row c.loop-row.so_far.entries.items c.note.new.self.entries.items c.in-Ok.read
          (entry_says named columns) c.loop-row.auto.row (omega arith) c.loop-row.invariant.entries says c.in_ok-note-in-Ok.ensures.entries;
      points = read_more (is_read named columns) (point_in columns) (λ (r : Read (ℤ × ℤ)). r.value) (read_in named columns) rows row c.loop-row.so_far.values.items c.note.new.self.values.items c.in-Ok.read
          (point_says named columns) c.loop-row.auto.row (omega arith) c.loop-row.invariant.points says c.in_ok-note-in-Ok.ensures.values;
      places = place_more (is_read named columns) (read_in named columns) rows row c.loop-row.so_far.places c.note.new.self.places c.in-Ok.read
          (read_says named columns) c.loop-row.auto.row c.loop-row.invariant.places says c.in_ok-note-in-Ok.ensures.places;
    }
