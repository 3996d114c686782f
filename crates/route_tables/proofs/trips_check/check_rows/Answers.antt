use Rattle.std.proofs.Common.{◌∙◌, ap, sym, arith, ◌||◌, bytes_eq}
use Rattle.table_rows.specs.declared.why.Table.TheVariants.{Trips}
use Rattle.table_rows.specs.Ids.{is_among}
use Rattle.table_rows.proofs.ReasonLemmas.{first_below-more, Refuses-bad}
use Rattle.table_rows.proofs.RowLemmas.{AreSame-more}
use Rattle.route_tables.specs.Trips.{trips_reason, trip_reason}
use Rattle.route_tables.proofs.TripLemmas.{trips_reason-behind}
use Rattle.route_tables.proofs.trips_check.check_rows.Goals as goal

pub loop-row-preserved : goal.loop-row-preserved
loop-row-preserved c = record {
  good = first_below-more (trips_reason c.args.routes.now c.args.rows.now) c.loop-row.row c.loop-row.invariant.good
      (trips_reason-behind c.args.routes.now c.args.rows.now c.loop-row.row c.loop-row.auto.row
      ∙ ap (λ columns. trip_reason c.args.routes.now columns c.args.rows.now c.loop-row.row) (sym c.requires.columns)
      ∙ sym c.trip_reason.ensures ∙ c.in_default.is);
  seen = AreSame-more c.args.columns.now.id c.loop-row.row c.args.rows.now c.loop-row.seen c.note.new.self
      c.loop-row.auto.row (omega arith) c.loop-row.invariant.seen
      (λ other. c.in_ok-is_new.ensures.among other
      ∙ ap (λ id. is_among other c.loop-row.seen || bytes_eq other id) c.field_in.ensures);
}

pub returns-in-Some : goal.returns-in-Some
returns-in-Some c =
    Refuses-bad Trips (trips_reason c.args.routes.now c.args.rows.now) c.args.rows.now tt c.loop-row.row c.in-Some.why c.bad_row.result
    (omega arith)
    c.loop-row.invariant.good
    (trips_reason-behind c.args.routes.now c.args.rows.now c.loop-row.row c.loop-row.auto.row
    ∙ ap (λ columns. trip_reason c.args.routes.now columns c.args.rows.now c.loop-row.row) (sym c.requires.columns)
    ∙ sym c.trip_reason.ensures ∙ c.in-Some.is)
    c.bad_row.ensures
