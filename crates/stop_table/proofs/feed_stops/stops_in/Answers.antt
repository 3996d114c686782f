use Rattle.std.proofs.Common.{◌∙◌, sym, subst}
use Rattle.table_rows.specs.declared.why.Table.TheVariants.{Stops}
use Rattle.table_rows.specs.NewIds.{AreNew}
use Rattle.table_rows.specs.Reasons.{first_bad}
use Rattle.table_rows.proofs.ReasonLemmas.{unless_bad-good}
use Rattle.stop_table.specs.Stops.{stops_reason}
use Rattle.stop_table.proofs.LeadLemmas.{feed_stops_good}
use Rattle.stop_table.proofs.StopLemmas.{stops_new}
use Rattle.stop_table.proofs.feed_stops.stops_in.Goals as goal

pub known_stops-requires-clause-new : goal.known_stops-requires-clause-new
known_stops-requires-clause-new c =
    subst (λ columns. AreNew columns.id c.args.rows.now) (sym c.stop_columns-columns.ensures)
    (stops_new c.args.rows.now (unless_bad-good Stops (first_bad (stops_reason c.args.rows.now) c.args.rows.now) c.in_ok-check_stops.field-0 c.in_ok-check_stops.ensures))

pub returns : goal.returns
returns c =
    feed_stops_good c.args.rows.now c.of.result c.in_ok-known.known
    (unless_bad-good Stops (first_bad (stops_reason c.args.rows.now) c.args.rows.now) c.in_ok-check_stops.field-0 c.in_ok-check_stops.ensures)
    (c.of.ensures ∙ c.in_ok-stations.ensures)
    c.in_ok-known.ensures
