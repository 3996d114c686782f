use Rattle.std.proofs.Common.{Ok, Err, IfOk, IfSome, Some, ◌≡◌, ◌≤◌, ◌∙◌, subst, arith}
use Rattle.std.proofs.lemmas.Result.{err_from_is_err_and}
use Rattle.files_door.specs.Fault.{Rose}
use Rattle.files_door.specs.Files.{file_at}
use Rattle.files_door.proofs.Faults.{rose_later}
use Rattle.graph_maps.specs.Checking.{checked_bytes}
use Rattle.run_status.specs.declared.input.Input.TheVariants as input
use Rattle.command_inputs.specs.Inputs.{input_at, inputs_by}
use Rattle.map_commands.specs.MapWorks.{certificate_work, picture_work}
use Rattle.run_status.specs.Following.{Follows}
use Rattle.map_commands.specs.Promises.{IsAccepted}
use Rattle.run_status.proofs.FollowLemmas.{Told}
use Rattle.map_commands.proofs.CheckLemmas.{same_outputs, refused_load, graph_refused, certificate_refused, picture_follows, says_yes}
use Rattle.map_commands.proofs.check_command.check_map.Goals as goal

pub returns-in_err-loaded-clause-follows : goal.returns-in_err-loaded-clause-follows
returns-in_err-loaded-clause-follows g c =
    refused_load (g.F.Files.told c.args.files.now) (input_at (inputs_by c.args.inputs.now)) (inputs_by c.args.inputs.now).chosen (Rose (g.F.Files.faults c.args.files.now) (g.F.Files.faults c.load.new.files))
    c.in_err-loaded.field-0.0 c.from_residual.result
    (err_from_is_err_and c.from_residual.result c.from_residual.ensures.1) c.in_err-loaded.ensures.follows

pub returns-in_err-graph-clause-follows : goal.returns-in_err-graph-clause-follows
returns-in_err-graph-clause-follows g c =
    graph_refused (g.F.Files.told c.args.files.now) (input_at (inputs_by c.args.inputs.now)) (inputs_by c.args.inputs.now).chosen (Rose (g.F.Files.faults c.args.files.now) (g.F.Files.faults c.load.new.files))
    c.in_ok-loaded.loaded c.in_ok-loaded.ensures.follows c.from_residual-in_err-graph.result c.in_err-graph.field-0.0 c.in_err-graph.ensures.given
    (err_from_is_err_and c.from_residual-in_err-graph.result c.from_residual-in_err-graph.ensures.1)

pub returns-in_err-checked-clause-follows : goal.returns-in_err-checked-clause-follows
returns-in_err-checked-clause-follows g c =
    let told = g.F.Files.told c.args.files.now in
    let paths = input_at (inputs_by c.args.inputs.now) in
    let old = g.F.Files.faults c.args.files.now in
    let loaded = g.F.Files.faults c.load.new.files in
    let now = g.F.Files.faults c.read_certificate.new.files in
    let why = c.in_err-checked.field-0.0 in
    let first = subst (λ (t : Told). Follows t paths (Rose loaded now) checked_bytes (certificate_work c.in_ok-loaded.loaded c.in_ok-graph.graph) (Err why)) c.in_ok-loaded.ensures.kept c.in_err-checked.ensures.follows in
    certificate_refused told paths (inputs_by c.args.inputs.now).chosen (Rose old now) c.in_ok-loaded.loaded c.in_ok-loaded.ensures.follows c.from_residual-in_err-checked.result
    c.in_ok-graph.graph c.in_ok-graph.ensures.given (Rose loaded now) (rose_later old loaded now c.in_ok-loaded.ensures.later c.in_err-checked.ensures.later) why first
    (err_from_is_err_and c.from_residual-in_err-checked.result c.from_residual-in_err-checked.ensures.1)

pub returns-clause-follows : goal.returns-clause-follows
returns-clause-follows g c =
    let told = g.F.Files.told c.args.files.now in
    let paths = input_at (inputs_by c.args.inputs.now) in
    let old = g.F.Files.faults c.args.files.now in
    let loaded = g.F.Files.faults c.load.new.files in
    let read = g.F.Files.faults c.read_certificate.new.files in
    let now = g.F.Files.faults c.read_picture.new.files in
    let first = subst (λ (t : Told). Follows t paths (Rose loaded read) checked_bytes (certificate_work c.in_ok-loaded.loaded c.in_ok-graph.graph) (Ok c.in_ok-checked.checked)) c.in_ok-loaded.ensures.kept c.in_ok-checked.ensures.follows in
    let second = subst (λ (t : Told). Follows t paths (Rose read now) same_outputs (picture_work (checked_bytes c.in_ok-checked.checked)) c.read_picture.result) (c.in_ok-checked.ensures.kept ∙ c.in_ok-loaded.ensures.kept) c.read_picture.ensures.follows in
    let before : old ≤ read = omega (arith, c.in_ok-loaded.ensures.later, c.in_ok-checked.ensures.later) in
    picture_follows told paths (inputs_by c.args.inputs.now).chosen (Rose old now) c.in_ok-loaded.loaded c.in_ok-loaded.ensures.follows c.read_picture.result
    c.in_ok-graph.graph c.in_ok-graph.ensures.given (Rose read now) (rose_later old read now before c.read_picture.ensures.later) (Rose loaded read) c.in_ok-checked.checked first second

pub returns-clause-keeps : goal.returns-clause-keeps
returns-clause-keeps g c =
    let told = g.F.Files.told c.args.files.now in
    let inputs = inputs_by c.args.inputs.now in
    let checked = c.in_ok-checked.checked in
    let accepted = subst (λ (t : Told). IsAccepted t inputs c.in_ok-loaded.loaded checked.svg.items checked.proved) c.in_ok-loaded.ensures.kept c.in_ok-checked.ensures.certified in
    let lies = subst (λ (t : Told). IfOk c.read_picture.result (λ _. IfSome t (λ all. file_at all (input_at inputs input.Picture) ≡ Some checked.svg.items))) (c.in_ok-checked.ensures.kept ∙ c.in_ok-loaded.ensures.kept) c.read_picture.ensures.lies in
    says_yes told inputs (Rose (g.F.Files.faults c.args.files.now) (g.F.Files.faults c.load.new.files)) c.in_ok-loaded.loaded checked c.read_picture.result
    c.in_ok-loaded.ensures.follows accepted lies c.read_picture.ensures.proved
