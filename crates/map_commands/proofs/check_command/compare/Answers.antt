use Rattle.std.proofs.Common.{◌≡◌, Some, sym, ap, ◌∙◌}
use Rattle.map_commands.proofs.CheckLemmas.{same_text}
use Rattle.command_inputs.proofs.FileLemmas.{bytes_in}
use Rattle.map_commands.proofs.check_command.compare.Goals as goal

pub returns-in-None-clause-same : goal.returns-in-None-clause-same
returns-in-None-clause-same c =
    let same : c.in-Some.bytes.items ≡ c.args.checked.now.svg.items =
    sym c.as_slice-2.ensures.value ∙ same_text c.as_slice.result.now c.as_slice-2.result.now (sym c.in-None.ensures) ∙ c.as_slice.ensures.value in
    ap bytes_in c.in-Some.is ∙ ap Some same
