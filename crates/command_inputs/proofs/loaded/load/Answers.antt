use Rattle.std.proofs.Common.{subst}
use Rattle.std.proofs.lemmas.Result.{err_from_is_err_and}
use Rattle.files_door.specs.Fault.{Rose}
use Rattle.files_door.proofs.Faults.{rose_later}
use Rattle.run_status.specs.Following.{Follows}
use Rattle.run_status.proofs.FollowLemmas.{Told, follows_refused, follows_then}
use Rattle.command_inputs.specs.declared.loaded.Loaded.{Loaded}
use Rattle.command_inputs.specs.Inputs.{input_at, inputs_by}
use Rattle.command_inputs.specs.Loading.{feed_work, edited_by}
use Rattle.command_inputs.proofs.loaded.load.Goals as goal

pub returns-in_err-loaded-clause-follows : goal.returns-in_err-loaded-clause-follows
returns-in_err-loaded-clause-follows g c =
    let inputs = inputs_by c.args.inputs.now in
    follows_refused (g.F.Files.told c.args.files.now) (input_at inputs) (Rose (g.F.Files.faults c.args.files.now) (g.F.Files.faults c.load_feed.new.files)) (λ (l : Loaded). l)
    (λ (l : Loaded). l) (feed_work inputs.chosen) (λ (l : Loaded). edited_by inputs.chosen.edits l) c.in_err-loaded.field-0.0 c.from_residual.result
    (err_from_is_err_and c.from_residual.result c.from_residual.ensures.1) c.in_err-loaded.ensures.follows

pub returns-clause-follows : goal.returns-clause-follows
returns-clause-follows g c =
    let told = g.F.Files.told c.args.files.now in
    let inputs = inputs_by c.args.inputs.now in
    let old = g.F.Files.faults c.args.files.now in
    let read = g.F.Files.faults c.load_feed.new.files in
    let now = g.F.Files.faults c.edited_for.new.files in
    let loaded = c.in_ok-loaded.loaded in
    let second = subst (λ (t : Told). Follows t (input_at inputs) (Rose read now) (λ (l : Loaded). l) (edited_by inputs.chosen.edits loaded) c.edited_for.result)
    c.in_ok-loaded.ensures.kept c.edited_for.ensures.follows in
    follows_then told (input_at inputs) (Rose old read) (Rose read now) (Rose old now) (λ (l : Loaded). l) (λ (l : Loaded). l) (feed_work inputs.chosen)
    (λ (l : Loaded). edited_by inputs.chosen.edits l) loaded c.edited_for.result
    (rose_later old read now c.in_ok-loaded.ensures.later c.edited_for.ensures.later) c.in_ok-loaded.ensures.follows second
