use Rattle.std.proofs.Common.{◌≡◌, ℕ, List, [], IfOk, ap, ◌∙◌, subst}
use Rattle.trial_feed.specs.Lattice.{side, line_count}
use Rattle.trial_feed.specs.Lines.{lines, stops_of}
use Rattle.trial_feed.specs.Folder.{stops_table, routes_table, trips_table, calls_table}
use Rattle.trial_feed.proofs.FolderLemmas.{folder_same}
use Rattle.trial_feed.proofs.folder.trial_files.Goals as goal

pub returns : goal.returns
returns c =
    let stops : c.in_ok-stops.stops.items ≡ stops_table (side c.args.trial) = c.in_ok-stops.ensures ∙ ap stops_table c.side-side.ensures.value in
    let routes : c.in_ok-routes.routes.items ≡ routes_table (line_count c.args.trial) =
    c.in_ok-routes.ensures ∙ ap routes_table c.line_count-count.ensures.value in
    let trips : c.in_ok-trips.trips.items ≡ trips_table (line_count c.args.trial) =
    c.in_ok-trips.ensures ∙ ap trips_table c.line_count-count.ensures.value in
    let drawn : stops_of c.as_slice.result.now ≡ lines c.args.trial = ap stops_of c.as_slice.ensures.value ∙ c.in_ok-lines.ensures in
    let calls : c.in_ok-calls.calls.items ≡ calls_table (lines c.args.trial) = c.in_ok-calls.ensures ∙ ap calls_table drawn in
    let P : List (List ℕ × List ℕ) → Type 0 = λ folder. IfOk c.folder_of.result (λ files. files ≡ record { files = folder; unread = [] }) in
    subst P (folder_same c.args.trial c.in_ok-stops.stops.items c.in_ok-routes.routes.items c.in_ok-trips.trips.items c.in_ok-calls.calls.items stops routes trips calls)
    c.folder_of.ensures
