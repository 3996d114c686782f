use Rattle.std.proofs.Common.{Ok, Err, ◌∙◌, ap, refl}
use Rattle.std.proofs.lemmas.Result.{err_from_is_err_and}
use Rattle.map_base.specs.Settings.{Choices}
use Rattle.transit_feed.specs.Feeds.{Feed}
use Rattle.files_door.specs.Fault.{Rose}
use Rattle.command_inputs.specs.Inputs.{input_at, inputs_by}
use Rattle.run_status.specs.Refusals.{of_feed}
use Rattle.command_inputs.specs.Loading.{tables_work}
use Rattle.run_status.proofs.FollowLemmas.{follows_as}
use Rattle.command_inputs.proofs.TableLemmas.{reads_follow}
use Rattle.command_inputs.proofs.loaded.tables_by.Goals as goal

pub returns-in_err-read_tables-clause-follows : goal.returns-in_err-read_tables-clause-follows
returns-in_err-read_tables-clause-follows g c =
    let told = g.F.Files.told c.args.files.now in
    let old = g.F.Files.faults c.args.files.now in
    let now = g.F.Files.faults c.read_tables.new.files in
    let inputs = inputs_by c.args.inputs.now in
    let fault = c.in_err-read_tables.field-0.0 in
    follows_as told (input_at inputs) (Rose old now) (λ (feed : Feed). feed) (tables_work c.args.settings.now.types) (of_feed fault) c.from_residual.result
    (err_from_is_err_and c.from_residual.result c.from_residual.ensures.1)
    (reads_follow told inputs c.args.inputs.now.feed.now c.as_slice-types.result.now c.args.settings.now.types old now (λ (feed : Feed). feed) (Err fault)
    refl (c.as_slice-types.ensures ∙ ap (λ (choices : Choices). choices.types) c.settings.view_is) c.in_err-read_tables.ensures.told c.in_err-read_tables.ensures.untold)

pub returns-clause-follows : goal.returns-clause-follows
returns-clause-follows g c =
    reads_follow (g.F.Files.told c.args.files.now) (inputs_by c.args.inputs.now) c.args.inputs.now.feed.now c.as_slice-types.result.now c.args.settings.now.types
    (g.F.Files.faults c.args.files.now) (g.F.Files.faults c.read_tables.new.files) (λ (feed : Feed). feed) (Ok c.in_ok-read_tables.field-0)
    refl (c.as_slice-types.ensures ∙ ap (λ (choices : Choices). choices.types) c.settings.view_is) c.in_ok-read_tables.ensures.told c.in_ok-read_tables.ensures.untold
