use Rattle.std.proofs.Common.{ℕ, List, Option, Vec, option_map, sym, subst}
use Rattle.std.specs.Global.{Global}
use Rattle.std.proofs.lemmas.Result.{err_from_is_err_and}
use Rattle.graph_maps.specs.Readings.{certificate_in}
use Rattle.graph_maps.specs.Checking.{checked_bytes, HasCause}
use Rattle.map_engine.specs.Checking.{checked_text}
use Rattle.run_status.specs.Following.{Gives}
use Rattle.map_commands.specs.MapWorks.{certificate_checked}
use Rattle.map_commands.proofs.CheckLemmas.{given_refused}
use Rattle.map_commands.proofs.check_command.check_certificate.Goals as goal

pub returns-in_err-check_on_graph-clause-given : goal.returns-in_err-check_on_graph-clause-given
returns-in_err-check_on_graph-clause-given c =
    let feed = c.args.loaded.now.tables in
    let choices = c.args.loaded.now.settings in
    let claimed = c.args.loaded.now.method.claim in
    let graph = c.args.graph.now in
    let fault = c.in_err-check_on_graph.field-0.0 in
    let same = err_from_is_err_and c.from_residual.result c.from_residual.ensures.1 in
    let asked = subst (λ claim. HasCause
    (checked_text feed choices claim graph (certificate_in c.as_slice.result.now)) fault)
    c.claim-claim.ensures c.in_err-check_on_graph.ensures.outcome in
    let cause = subst (λ (text : List ℕ). HasCause (checked_text feed choices claimed graph (certificate_in text))
    fault) c.as_slice.ensures.value asked in
    subst (λ (bytes : Option (Vec ℕ Global)). Gives checked_bytes c.from_residual.result
    (certificate_checked c.args.loaded.now graph (option_map (λ (v : Vec ℕ Global). v.items) bytes)))
    (sym c.in-Some.is)
    (given_refused fault (checked_text feed choices claimed graph (certificate_in c.in-Some.bytes.items))
    c.from_residual.result same cause)
