use Rattle.std.proofs.Common.{Option, ℕ, Result, Vec, sym, subst, ◌∙◌, arith}
use Rattle.std.specs.declared.alloc.Global.{Global}
use Rattle.files_door.specs.Fault.{Rose}
use Rattle.run_status.specs.declared.refusal.Refusal.{Refusal}
use Rattle.command_inputs.specs.Inputs.{input_at, inputs_by}
use Rattle.command_inputs.specs.Loading.{file_work}
use Rattle.run_status.specs.Following.{Follows}
use Rattle.command_inputs.proofs.FileLemmas.{bytes_in, read_ok_at, read_err_at}
use Rattle.command_inputs.proofs.input_file.read_file.Goals as goal

pub returns-in-Ok-clause-follows : goal.returns-in-Ok-clause-follows
returns-in-Ok-clause-follows g c =
    read_ok_at (g.F.Files.told c.args.files.now) (input_at (inputs_by c.args.inputs.now)) c.args.input (g.F.Files.faults c.args.files.now) (g.F.Files.faults c.read_all.new.files)
    c.as_str.result.now c.most.result c.in-Ok.bytes (c.as_str.ensures ∙ c.in_ok-path.ensures) c.most.ensures c.in-Ok.ensures.whole (omega (arith, c.in-Ok.ensures.within, c.in-Ok.bytes.ok))

pub returns-clause-follows : goal.returns-clause-follows
returns-clause-follows g c =
    let told = g.F.Files.told c.args.files.now in
    let paths = input_at (inputs_by c.args.inputs.now) in
    let old = g.F.Files.faults c.args.files.now in
    let now = g.F.Files.faults c.read_all.new.files in
    let P : Result (Option (Vec ℕ Global)) Refusal → Type 0 = λ r. Follows told paths (Rose old now) bytes_in (file_work c.args.input) r in
    subst P (sym c.not_read.ensures)
    (read_err_at told paths c.args.input old now c.as_str.result.now c.most.result c.in-Err.fault (c.as_str.ensures ∙ c.in_ok-path.ensures) c.most.ensures c.in-Err.ensures.whole c.in-Err.ensures.cause)
