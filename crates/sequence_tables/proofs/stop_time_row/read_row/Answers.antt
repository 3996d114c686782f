use Rattle.std.proofs.Common.{◌∙◌, ◌&&◌, not, is_some, ap, sym}
use Rattle.table_rows.specs.Cells.{is_empty}
use Rattle.route_tables.specs.Trips.{line_at}
use Rattle.sequence_tables.proofs.StopTimeLemmas.{unknown_trip, passed_over, good_in_full, fails_in_full}
use Rattle.sequence_tables.proofs.stop_time_row.read_row.Goals as goal

pub returns-in_default-clause-bad : goal.returns-in_default-clause-bad
returns-in_default-clause-bad c =
    unknown_trip c.args.trips.now c.args.stops.now c.args.columns.now c.args.row.now
    (sym c.row_ends_early.ensures ∙ c.if-row_ends_early.false) (sym c.is_text.ensures ∙ c.if-not-is_text.false) (sym c.requires.trip ∙ c.in_default.is)

pub returns-then-not-is_read-clause-good : goal.returns-then-not-is_read-clause-good
returns-then-not-is_read-clause-good c =
    passed_over c.args.trips.now c.args.stops.now c.args.columns.now c.args.row.now c.in-Some.trip
    (sym c.row_ends_early.ensures ∙ c.if-row_ends_early.false) (sym c.is_text.ensures ∙ c.if-not-is_text.false) (sym c.requires.trip ∙ c.in-Some.is)
    (ap (λ stop. is_some (line_at c.args.trips.now c.in-Some.trip) && not (is_empty stop)) (sym c.field_of.ensures) ∙ sym c.is_read.ensures ∙ c.if-not-is_read.true)

pub returns-in-Ok-clause-good : goal.returns-in-Ok-clause-good
returns-in-Ok-clause-good c =
    good_in_full c.args.trips.now c.args.stops.now c.args.columns.now c.args.row.now c.in-Some.trip
    (sym c.row_ends_early.ensures ∙ c.if-row_ends_early.false) (sym c.is_text.ensures ∙ c.if-not-is_text.false) (sym c.requires.trip ∙ c.in-Some.is)
    (ap (λ stop. is_some (line_at c.args.trips.now c.in-Some.trip) && not (is_empty stop)) (sym c.field_of.ensures) ∙ sym c.is_read.ensures ∙ c.if-not-is_read.false)
    c.in-Ok.ensures.sequence c.in-Ok.ensures.station

pub returns-in-Err-clause-bad : goal.returns-in-Err-clause-bad
returns-in-Err-clause-bad c =
    fails_in_full c.args.trips.now c.args.stops.now c.args.columns.now c.args.row.now c.in-Some.trip c.in-Err.why
    (sym c.row_ends_early.ensures ∙ c.if-row_ends_early.false) (sym c.is_text.ensures ∙ c.if-not-is_text.false) (sym c.requires.trip ∙ c.in-Some.is)
    (ap (λ stop. is_some (line_at c.args.trips.now c.in-Some.trip) && not (is_empty stop)) (sym c.field_of.ensures) ∙ sym c.is_read.ensures ∙ c.if-not-is_read.false)
    c.in-Err.ensures.bad
