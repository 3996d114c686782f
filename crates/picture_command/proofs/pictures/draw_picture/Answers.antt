use Rattle.std.proofs.Common.{IfOk, subst}
use Rattle.std.proofs.lemmas.Result.{err_from_is_err_and}
use Rattle.files_door.specs.Fault.{Rose}
use Rattle.files_door.proofs.Faults.{rose_later}
use Rattle.run_status.specs.Following.{Follows}
use Rattle.run_status.proofs.FollowLemmas.{Told}
use Rattle.command_inputs.specs.Inputs.{input_at, inputs_by}
use Rattle.picture_command.specs.PictureWorks.{certificate_work, IsPictureAt}
use Rattle.picture_command.proofs.PictureLemmas.{same_outputs, refused_load, graph_refused, certificate_follows, are_of_picture}
use Rattle.picture_command.proofs.pictures.draw_picture.Goals as goal

pub returns-in_err-loaded-clause-follows : goal.returns-in_err-loaded-clause-follows
returns-in_err-loaded-clause-follows g c =
    let rose = Rose (g.F.Files.faults c.args.files.now) (g.F.Files.faults c.load.new.files) in
    refused_load c.args.kind (g.F.Files.told c.args.files.now) (input_at (inputs_by c.args.inputs.now)) (inputs_by c.args.inputs.now).chosen c.args.map.now rose c.from_residual.result
    c.in_err-loaded.field-0.0 (err_from_is_err_and c.from_residual.result c.from_residual.ensures.1) c.in_err-loaded.ensures.follows

pub returns-in_err-graph-clause-follows : goal.returns-in_err-graph-clause-follows
returns-in_err-graph-clause-follows g c =
    let rose = Rose (g.F.Files.faults c.args.files.now) (g.F.Files.faults c.load.new.files) in
    let result = c.from_residual-in_err-graph.result in
    graph_refused c.args.kind (g.F.Files.told c.args.files.now) (input_at (inputs_by c.args.inputs.now)) (inputs_by c.args.inputs.now).chosen c.args.map.now rose result
    c.in_ok-loaded.loaded c.in_ok-loaded.ensures.follows c.in_err-graph.field-0.0 c.in_err-graph.ensures.given
    (err_from_is_err_and result c.from_residual-in_err-graph.ensures.1)

pub returns-clause-follows : goal.returns-clause-follows
returns-clause-follows g c =
    let told = g.F.Files.told c.args.files.now in
    let paths = input_at (inputs_by c.args.inputs.now) in
    let old = g.F.Files.faults c.args.files.now in
    let loaded = g.F.Files.faults c.load.new.files in
    let now = g.F.Files.faults c.read_certificate.new.files in
    let work = certificate_work c.args.kind c.args.map.now c.in_ok-loaded.loaded c.in_ok-graph.graph.graph in
    let second = subst (λ (t : Told). Follows t paths (Rose loaded now) same_outputs work c.read_certificate.result) c.in_ok-loaded.ensures.kept c.read_certificate.ensures.follows in
    certificate_follows c.args.kind told paths (inputs_by c.args.inputs.now).chosen c.args.map.now (Rose old now) c.read_certificate.result
    c.in_ok-loaded.loaded c.in_ok-loaded.ensures.follows c.in_ok-graph.graph.graph (Rose loaded now)
    (rose_later old loaded now c.in_ok-loaded.ensures.later c.read_certificate.ensures.later) c.in_ok-graph.ensures.given second

pub returns-clause-keeps : goal.returns-clause-keeps
returns-clause-keeps g c =
    let told = g.F.Files.told c.args.files.now in
    let inputs = inputs_by c.args.inputs.now in
    let loaded = c.in_ok-loaded.loaded in
    let labelled = subst (λ (t : Told). IfOk c.read_certificate.result (IsPictureAt c.args.kind t inputs c.args.map.now loaded)) c.in_ok-loaded.ensures.kept c.read_certificate.ensures.labelled in
    are_of_picture c.args.kind told inputs c.args.map.now (Rose (g.F.Files.faults c.args.files.now) (g.F.Files.faults c.load.new.files)) loaded c.read_certificate.result
    c.in_ok-loaded.ensures.follows labelled
