use Rattle.std.proofs.Common.{Ok, Err, subst}
use Rattle.std.proofs.lemmas.Result.{err_from_is_err_and}
use Rattle.transit_feed.specs.Feeds.{Feed}
use Rattle.files_door.specs.Fault.{Rose}
use Rattle.files_door.proofs.Faults.{rose_later}
use Rattle.command_inputs.specs.Inputs.{input_at, inputs_by}
use Rattle.command_inputs.specs.Loading.{tables_work}
use Rattle.run_status.specs.Following.{Follows}
use Rattle.run_status.proofs.FollowLemmas.{Told}
use Rattle.command_inputs.proofs.LoadLemmas.{settings_refused, tables_refused, tables_loaded}
use Rattle.command_inputs.proofs.loaded.load_feed.Goals as goal

pub returns-in_err-all-clause-follows : goal.returns-in_err-all-clause-follows
returns-in_err-all-clause-follows g c =
    let inputs = inputs_by c.args.inputs.now in
    settings_refused (g.F.Files.told c.args.files.now) (input_at inputs) inputs.chosen (Rose (g.F.Files.faults c.args.files.now) (g.F.Files.faults c.settings_for.new.files))
    c.in_err-all.field-0.0 c.from_residual.result
    (err_from_is_err_and c.from_residual.result c.from_residual.ensures.1) c.in_err-all.ensures.follows

pub returns-in_err-tables-clause-follows : goal.returns-in_err-tables-clause-follows
returns-in_err-tables-clause-follows g c =
    let told = g.F.Files.told c.args.files.now in
    let inputs = inputs_by c.args.inputs.now in
    let old = g.F.Files.faults c.args.files.now in
    let read = g.F.Files.faults c.settings_for.new.files in
    let now = g.F.Files.faults c.tables_by.new.files in
    let choices = c.in_ok-all.all in
    let why = c.in_err-tables.field-0.0 in
    let second = subst (λ (t : Told). Follows t (input_at inputs) (Rose read now) (λ (feed : Feed). feed) (tables_work choices.settings.types) (Err why)) c.in_ok-all.ensures.kept c.in_err-tables.ensures.follows in
    tables_refused told (input_at inputs) inputs.chosen (Rose old read) (Rose read now) (Rose old now) choices
    (rose_later old read now c.in_ok-all.ensures.later c.in_err-tables.ensures.later) c.in_ok-all.ensures.follows
    why c.from_residual-in_err-tables.result
    (err_from_is_err_and c.from_residual-in_err-tables.result c.from_residual-in_err-tables.ensures.1) second

pub returns-clause-follows : goal.returns-clause-follows
returns-clause-follows g c =
    let told = g.F.Files.told c.args.files.now in
    let inputs = inputs_by c.args.inputs.now in
    let old = g.F.Files.faults c.args.files.now in
    let read = g.F.Files.faults c.settings_for.new.files in
    let now = g.F.Files.faults c.tables_by.new.files in
    let choices = c.in_ok-all.all in
    let feed = c.in_ok-tables.tables in
    let second = subst (λ (t : Told). Follows t (input_at inputs) (Rose read now) (λ (f : Feed). f) (tables_work choices.settings.types) (Ok feed)) c.in_ok-all.ensures.kept c.in_ok-tables.ensures.follows in
    tables_loaded told (input_at inputs) inputs.chosen (Rose old read) (Rose read now) (Rose old now) choices
    (rose_later old read now c.in_ok-all.ensures.later c.in_ok-tables.ensures.later) c.in_ok-all.ensures.follows feed second
