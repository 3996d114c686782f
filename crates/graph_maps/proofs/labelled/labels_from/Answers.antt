use Rattle.std.proofs.Common.{◌∙◌, ap, sym, List, ℕ, Ok, Result}
use Rattle.std.proofs.lemmas.Result.{err_from_is_err_and}
use Rattle.map_faults.specs.declared.fault.CheckFault.{CheckFault}
use Rattle.graph_maps.specs.Subjects.{told_by}
use Rattle.graph_maps.specs.Readings.{certificate_in}
use Rattle.graph_maps.specs.Checking.{accepted_map, held_by}
use Rattle.graph_maps.specs.Labelling.{labelled_of}
use Rattle.graph_maps.proofs.Accepted.{accepted_made, labelled_by, refused_made}
use Rattle.graph_maps.proofs.labelled.labels_from.Goals as goal

pub returns-in_err-checked-clause-outcome : goal.returns-in_err-checked-clause-outcome
returns-in_err-checked-clause-outcome c =
    let p = err_from_is_err_and c.from_residual.result c.from_residual.ensures.1 in
    rw (p.1, p.2) (refused_made (labelled_of c.args.names.now c.args.graph.now) c.args.importance.now
    c.args.settings.now c.args.claim c.args.graph.now
    held_by (certificate_in c.args.certificate.now) c.in_err-checked.field-0.0 c.in_err-checked.ensures.outcome)

pub returns-clause-outcome : goal.returns-clause-outcome
returns-clause-outcome c =
    let ok : List ℕ → Result (List ℕ) CheckFault = λ bytes. Ok bytes in
    accepted_made (labelled_of c.args.names.now c.args.graph.now) c.args.importance.now c.args.settings.now c.args.claim
    c.args.graph.now held_by (certificate_in c.args.certificate.now)
    (accepted_map c.in_ok-checked.checked) c.in_ok-checked.ensures.outcome ∙ ap ok (sym c.in_ok-labelled.ensures)

pub returns-clause-certified : goal.returns-clause-certified
returns-clause-certified c =
    labelled_by (told_by c.args.names.now c.args.importance.now) c.args.settings.now c.args.claim c.args.graph.now
    c.args.certificate.now
    (accepted_map c.in_ok-checked.checked) c.in_ok-checked.ensures.accepted c.in_ok-labelled.field-0.items
    c.in_ok-labelled.ensures
