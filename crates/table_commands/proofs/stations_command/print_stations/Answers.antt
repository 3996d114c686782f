use Rattle.std.proofs.Common.{List, Result, Ok, Err, Vec, ◌∙◌, ap, sym, refl}
use Rattle.std.proofs.lemmas.Result.{err_from_is_err_and}
use Rattle.std.specs.declared.alloc.Global.{Global}
use Rattle.table_rows.specs.declared.why.Table.TheVariants.{Stops}
use Rattle.transit_feed.specs.declared.station.Station.{Station}
use Rattle.stop_table.specs.Stops.{stops_outcome}
use Rattle.files_door.specs.Fault.{Rose}
use Rattle.command_run.specs.declared.output.Output.{Output}
use Rattle.command_run.specs.Work.{ends}
use Rattle.run_status.specs.declared.refusal.Refusal.{Refusal}
use Rattle.command_inputs.specs.Inputs.{input_at, inputs_by}
use Rattle.run_status.specs.Refusals.{of_feed}
use Rattle.run_status.specs.Outputs.{said}
use Rattle.table_commands.specs.Stations.{stations_text}
use Rattle.command_inputs.specs.Loading.{table_work}
use Rattle.run_status.proofs.FollowLemmas.{follows_refused, follows_value}
use Rattle.command_inputs.proofs.TableLemmas.{read_follows}
use Rattle.table_commands.proofs.stations_command.print_stations.Goals as goal

pub returns-in_err-stations : goal.returns-in_err-stations
returns-in_err-stations g c =
    let told = g.F.Files.told c.args.files.now in
    let old = g.F.Files.faults c.args.files.now in
    let now = g.F.Files.faults c.read_stations.new.files in
    let inputs = inputs_by c.args.inputs.now in
    let fault = c.in_err-stations.field-0.0 in
    let items = λ (all : Vec Station Global). all.items in
    record {
      follows = follows_refused told (input_at inputs) (Rose old now) items (λ (o : List Output). o) (table_work Stops stops_outcome) (λ all. ends (Ok (said (stations_text all)))) (of_feed fault) c.from_residual.result
          (err_from_is_err_and c.from_residual.result c.from_residual.ensures.1)
          (read_follows told inputs c.args.inputs.now.feed.now Stops stops_outcome old now items (Err fault) refl c.in_err-stations.ensures.told c.in_err-stations.ensures.untold);
    }

pub returns : goal.returns
returns g c =
    let told = g.F.Files.told c.args.files.now in
    let old = g.F.Files.faults c.args.files.now in
    let now = g.F.Files.faults c.read_stations.new.files in
    let inputs = inputs_by c.args.inputs.now in
    let items = λ (all : Vec Station Global). all.items in
    let printed : List Output → Result (List Output) Refusal = λ o. Ok o in
    let text = c.in_ok-text.ensures ∙ ap stations_text c.deref.ensures.value in
    record {
      follows = follows_value told (input_at inputs) (Rose old now) items (λ (o : List Output). o) (table_work Stops stops_outcome) (λ all. Ok (said (stations_text all))) c.in_ok-stations.stations (Ok c.in_ok-say.field-0)
          (read_follows told inputs c.args.inputs.now.feed.now Stops stops_outcome old now items (Ok c.in_ok-stations.stations) refl c.in_ok-stations.ensures.told c.in_ok-stations.ensures.untold)
          (ap printed (ap said (sym text) ∙ sym c.in_ok-say.ensures));
    }
