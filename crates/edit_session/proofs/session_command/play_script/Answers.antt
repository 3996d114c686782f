use Rattle.std.proofs.Common.{◌≡◌, ℕ, List, Option, Ok, Err, refl, subst}
use Rattle.std.proofs.lemmas.Result.{err_from_is_err_and}
use Rattle.files_door.specs.Fault.{Rose}
use Rattle.files_door.specs.declared.stop.Stop.TheVariants.{Failed}
use Rattle.files_door.proofs.Faults.{rose_later}
use Rattle.run_status.specs.Following.{Follows}
use Rattle.run_status.proofs.FollowLemmas.{Told}
use Rattle.command_inputs.specs.Inputs.{input_at, inputs_by}
use Rattle.edit_session.specs.declared.stop.ScriptStop.TheVariants as script_stop
use Rattle.command_run.specs.Delivered.{outputs_acts}
use Rattle.command_run.specs.Pieces.{DoesUpTo}
use Rattle.edit_session.specs.SessionWorks.{played_by, script_work}
use Rattle.edit_session.specs.Promises.{IsScript, KeepDraws}
use Rattle.edit_session.specs.Playing.{stopped_by}
use Rattle.edit_session.proofs.PlayLemmas.{bytes_in, load_refused, script_left, script_played, script_refused, stopped_as}
use Rattle.edit_session.proofs.session_command.play_script.Goals as goal

pub returns-in_err-loaded-clause-plays : goal.returns-in_err-loaded-clause-plays
returns-in_err-loaded-clause-plays g c =
    let inputs = inputs_by c.args.inputs.now in
    let faults = g.S.Sinks.faults c.args.sinks.now in
    let written = g.S.Sinks.written c.args.sinks.now in
    let why = c.in_err-loaded.field-0.0 in
    load_refused (g.F.Files.told c.args.files.now) inputs c.args.out.now (Rose (g.F.Files.faults c.args.files.now) (g.F.Files.faults c.load.new.files)) (Rose faults faults) written written why c.from_residual.result
    (stopped_as (script_stop.Refused why) c.from_residual.result (err_from_is_err_and c.from_residual.result c.from_residual.ensures.1)) refl c.in_err-loaded.ensures.follows

pub returns-in_err-script-clause-plays : goal.returns-in_err-script-clause-plays
returns-in_err-script-clause-plays g c =
    let told = g.F.Files.told c.args.files.now in
    let inputs = inputs_by c.args.inputs.now in
    let faults = g.S.Sinks.faults c.args.sinks.now in
    let written = g.S.Sinks.written c.args.sinks.now in
    let old = g.F.Files.faults c.args.files.now in
    let loaded = g.F.Files.faults c.load.new.files in
    let now = g.F.Files.faults c.read_script.new.files in
    let why = c.in_err-script.field-0.0 in
    let second = subst (λ (t : Told). Follows t (input_at inputs) (Rose loaded now) bytes_in script_work (Err why)) c.in_ok-loaded.ensures.kept c.in_err-script.ensures.follows in
    script_refused told inputs c.args.out.now (Rose old loaded) (Rose loaded now) (Rose old now) (Rose faults faults)
    (rose_later old loaded now c.in_ok-loaded.ensures.later c.in_err-script.ensures.later) written written c.in_ok-loaded.loaded c.in_ok-loaded.ensures.follows
    why c.from_residual-in_err-script.result (stopped_as (script_stop.Refused why) c.from_residual-in_err-script.result (err_from_is_err_and c.from_residual-in_err-script.result c.from_residual-in_err-script.ensures.1)) refl second

pub returns-in_err-play-clause-plays : goal.returns-in_err-play-clause-plays
returns-in_err-play-clause-plays g c =
    let told = g.F.Files.told c.args.files.now in
    let inputs = inputs_by c.args.inputs.now in
    let old = g.F.Files.faults c.args.files.now in
    let loaded = g.F.Files.faults c.load.new.files in
    let now = g.F.Files.faults c.read_script.new.files in
    let why = c.in_err-play.field-0.0 in
    let second = subst (λ (t : Told). Follows t (input_at inputs) (Rose loaded now) bytes_in script_work (Ok c.in_ok-script.script)) c.in_ok-loaded.ensures.kept c.in_ok-script.ensures.follows in
    let due = subst (λ (s : List ℕ). DoesUpTo {T = Option ℕ} (outputs_acts (played_by c.args.out.now c.in_ok-loaded.loaded s).outputs) (g.S.Sinks.written c.args.sinks.now) (g.S.Sinks.written c.play.new.sinks) (Err why))
    c.as_slice.ensures.value c.in_err-play.ensures.written in
    script_left told inputs c.args.out.now (Rose old loaded) (Rose loaded now) (Rose old now) (Rose (g.S.Sinks.faults c.args.sinks.now) (g.S.Sinks.faults c.play.new.sinks))
    (rose_later old loaded now c.in_ok-loaded.ensures.later c.in_ok-script.ensures.later) (g.S.Sinks.written c.args.sinks.now) (g.S.Sinks.written c.play.new.sinks)
    c.in_ok-loaded.loaded c.in_ok-loaded.ensures.follows c.in_ok-script.script second why c.from_residual-in_err-play.result
    (stopped_as (stopped_by why) c.from_residual-in_err-play.result (err_from_is_err_and c.from_residual-in_err-play.result c.from_residual-in_err-play.ensures.1))
    (λ (failed : why ≡ Failed). c.in_err-play.ensures.cause.failed (cc)) due

pub returns-clause-plays : goal.returns-clause-plays
returns-clause-plays g c =
    let told = g.F.Files.told c.args.files.now in
    let inputs = inputs_by c.args.inputs.now in
    let old = g.F.Files.faults c.args.files.now in
    let loaded = g.F.Files.faults c.load.new.files in
    let now = g.F.Files.faults c.read_script.new.files in
    let second = subst (λ (t : Told). Follows t (input_at inputs) (Rose loaded now) bytes_in script_work (Ok c.in_ok-script.script)) c.in_ok-loaded.ensures.kept c.in_ok-script.ensures.follows in
    let lies = subst (λ (t : Told). IsScript t inputs c.in_ok-script.script.items) c.in_ok-loaded.ensures.kept c.in_ok-script.ensures.lies in
    let bad = subst (λ (s : List ℕ). c.in_ok-play.field-0 ≡ (played_by c.args.out.now c.in_ok-loaded.loaded s).bad) c.as_slice.ensures.value c.in_ok-play.ensures.bad in
    let kept = subst (KeepDraws c.in_ok-loaded.loaded) c.as_slice.ensures.value c.in_ok-play.ensures.kept in
    let due = subst (λ (s : List ℕ). DoesUpTo {T = Option ℕ} (outputs_acts (played_by c.args.out.now c.in_ok-loaded.loaded s).outputs) (g.S.Sinks.written c.args.sinks.now) (g.S.Sinks.written c.play.new.sinks) (Ok c.in_ok-play.field-0))
    c.as_slice.ensures.value c.in_ok-play.ensures.written in
    script_played told inputs c.args.out.now (Rose old loaded) (Rose loaded now) (Rose old now) (Rose (g.S.Sinks.faults c.args.sinks.now) (g.S.Sinks.faults c.play.new.sinks))
    (rose_later old loaded now c.in_ok-loaded.ensures.later c.in_ok-script.ensures.later) (g.S.Sinks.written c.args.sinks.now) (g.S.Sinks.written c.play.new.sinks)
    c.in_ok-loaded.loaded c.in_ok-loaded.ensures.follows c.in_ok-script.script second c.in_ok-play.field-0 _ refl lies bad kept due
