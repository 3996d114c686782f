use Rattle.std.proofs.Common.{◌∙◌, ◌||◌, ◌&&◌, ap, sym, bytes_eq}
use Rattle.table_rows.specs.Ids.{is_among}
use Rattle.stop_table.proofs.parents.note_if.Goals as goal

pub returns-in_ok-note : goal.returns-in_ok-note
returns-in_ok-note c other =
    c.in_ok-note.ensures.among other
    ∙ ap (λ wanted. is_among other c.args.ids.now || (wanted && bytes_eq other c.args.id.now)) (sym c.if-wanted.true)
