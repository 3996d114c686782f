use Rattle.std.proofs.Common.{◌∙◌, ap, sym, arith, ◌||◌, bytes_eq}
use Rattle.table_rows.specs.declared.why.Table.TheVariants.{Stops}
use Rattle.table_rows.specs.Ids.{is_among}
use Rattle.stop_table.specs.Stops.{stops_reason, stop_reason}
use Rattle.table_rows.proofs.ReasonLemmas.{first_below-more, Refuses-bad}
use Rattle.table_rows.proofs.RowLemmas.{AreSame-more}
use Rattle.stop_table.proofs.StopLemmas.{stops_reason-behind}
use Rattle.stop_table.proofs.stops_check.check_rows.Goals as goal

pub loop-row-preserved : goal.loop-row-preserved
loop-row-preserved c = record {
  good = first_below-more (stops_reason c.args.rows.now) c.loop-row.row c.loop-row.invariant.good
      (stops_reason-behind c.args.rows.now c.loop-row.row c.loop-row.auto.row
      ∙ ap (λ columns. stop_reason columns c.args.rows.now c.loop-row.row) (sym c.requires.columns)
      ∙ sym c.stop_reason.ensures ∙ c.in_default.is);
  seen = AreSame-more c.args.columns.now.id c.loop-row.row c.args.rows.now c.loop-row.seen c.note.new.self
      c.loop-row.auto.row (omega arith) c.loop-row.invariant.seen
      (λ other. c.in_ok-is_new.ensures.among other
      ∙ ap (λ id. is_among other c.loop-row.seen || bytes_eq other id) c.field_in.ensures);
}

pub returns-in-Some : goal.returns-in-Some
returns-in-Some c =
    Refuses-bad Stops (stops_reason c.args.rows.now) c.args.rows.now tt c.loop-row.row c.in-Some.why c.bad_row.result
    (omega arith)
    c.loop-row.invariant.good
    (stops_reason-behind c.args.rows.now c.loop-row.row c.loop-row.auto.row
    ∙ ap (λ columns. stop_reason columns c.args.rows.now c.loop-row.row) (sym c.requires.columns)
    ∙ sym c.stop_reason.ensures ∙ c.in-Some.is)
    c.bad_row.ensures
