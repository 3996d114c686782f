use Rattle.std.proofs.Common.{◌≡◌, ◌≢◌, ◌∙◌, ap, sym, subst, ℕ, List, Option, None, Some, Result, Ok, IfOk}
use Rattle.std.specs.Option.{option_to_list}
use Rattle.std.proofs.lemmas.Result.{IfOk-weaker}
use Rattle.map_faults.specs.declared.fault.CheckFault.{CheckFault}
use Rattle.map_faults.specs.declared.fault.CheckFault.TheVariants as refuted
use Rattle.command_run.specs.declared.output.Output.{Output}
use Rattle.map_commands.specs.MapWorks.{page_output, poster_by}
use Rattle.map_commands.proofs.MakeLemmas.{no_page}
use Rattle.map_commands.proofs.outputs.poster_page.Goals as goal

pub returns-in-Ok : goal.returns-in-Ok
returns-in-Ok c =
    let ok : List ℕ → Result (List ℕ) CheckFault = λ poster. Ok poster in
    subst (λ (r : Result (List ℕ) CheckFault). IfOk c.page_to.result (λ (o : Option Output). option_to_list o ≡ page_output (Some c.args.path.now) r))
    (ap ok c.as_slice.ensures.value ∙ sym c.in-Ok.ensures) c.page_to.ensures

pub returns-in-Err : goal.returns-in-Err
returns-in-Err c =
    let poster = poster_by c.args.loaded.now c.args.graph.now c.args.certificate.now in
    let fault = c.in-Err.fault in
    IfOk-weaker c.unless_no_memory.result
    (λ (o : Option Output). (o ≡ None) × (fault ≢ refuted.NoMemory))
    (λ (o : Option Output). option_to_list o ≡ page_output (Some c.args.path.now) poster)
    (λ o is. ap option_to_list is.0 ∙ sym (no_page c.args.path.now poster fault c.in-Err.ensures is.1))
    c.unless_no_memory.ensures
