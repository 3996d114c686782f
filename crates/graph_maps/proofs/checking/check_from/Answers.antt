use Rattle.std.proofs.Common.{◌∙◌, ap, sym, List, ℕ, Ok, Result}
use Rattle.std.proofs.lemmas.Result.{err_from_is_err_and}
use Rattle.map_faults.specs.declared.fault.CheckFault.{CheckFault}
use Rattle.graph_maps.specs.Subjects.{told_by}
use Rattle.graph_maps.specs.Readings.{certificate_in}
use Rattle.graph_maps.specs.Checking.{PlainChecked, accepted_map, due_of, held_by}
use Rattle.graph_maps.proofs.Accepted.{accepted_made, certified_by, refused_made}
use Rattle.graph_maps.proofs.checking.check_from.Goals as goal

pub returns-in_err-checked-clause-outcome : goal.returns-in_err-checked-clause-outcome
returns-in_err-checked-clause-outcome c =
    let p = err_from_is_err_and c.from_residual.result c.from_residual.ensures.1 in
    rw (p.1, p.2) (refused_made (due_of c.args.names.now c.args.graph.now) c.args.importance.now c.args.settings.now
    c.args.claim c.args.graph.now
    held_by (certificate_in c.args.certificate.now) c.in_err-checked.field-0.0 c.in_err-checked.ensures.outcome)

pub returns-clause-outcome : goal.returns-clause-outcome
returns-clause-outcome c =
    let due : List ℕ → Result PlainChecked CheckFault = λ bytes. Ok
    (record { proved = c.in_ok-checked.checked.proved; svg = bytes }) in
    accepted_made (due_of c.args.names.now c.args.graph.now) c.args.importance.now c.args.settings.now c.args.claim
    c.args.graph.now held_by (certificate_in c.args.certificate.now)
    (accepted_map c.in_ok-checked.checked) c.in_ok-checked.ensures.outcome ∙ ap due (sym c.in_ok-svg.ensures)

pub returns-clause-certified : goal.returns-clause-certified
returns-clause-certified c =
    certified_by (told_by c.args.names.now c.args.importance.now) c.args.settings.now c.args.claim c.args.graph.now
    c.args.certificate.now
    (accepted_map c.in_ok-checked.checked) c.in_ok-checked.ensures.accepted c.in_ok-svg.svg.items c.in_ok-svg.ensures
