use Rattle.std.proofs.Common.{ap}
use Rattle.std.proofs.lemmas.Result.{err_from_is_err_and}
use Rattle.cert_file.specs.Plain.{plain}
use Rattle.graph_maps.specs.Readings.{certificate_in}
use Rattle.graph_maps.specs.Checking.{accepted_items, accepted_map, accepted_text, held_by}
use Rattle.graph_maps.proofs.ReadAgain.{text_read}
use Rattle.graph_maps.proofs.CheckSteps.{text_refused, gives_same}
use Rattle.graph_maps.proofs.Accepted.{accepted_by}
use Rattle.graph_maps.proofs.checking.checked_certificate.Goals as goal

pub returns-in_err-read-clause-outcome : goal.returns-in_err-read-clause-outcome
returns-in_err-read-clause-outcome c =
    let p = err_from_is_err_and c.from_residual.result c.from_residual.ensures.1 in
    rw (p.1, p.2) (text_refused held_by c.args.importance.now c.args.settings.now c.args.claim c.args.graph.now
    c.args.certificate.now c.in_err-read.field-0.0 c.in_err-read.ensures.end)

pub returns-clause-outcome : goal.returns-clause-outcome
returns-clause-outcome c =
    let read = plain c.in_ok-read.read in
    gives_same accepted_map c.check_items.result
    (accepted_text held_by c.args.importance.now c.args.settings.now c.args.claim c.args.graph.now
    (certificate_in c.args.certificate.now))
    (accepted_items c.args.importance.now c.args.settings.now c.args.claim c.args.graph.now read (held_by read))
    (ap (accepted_text held_by c.args.importance.now c.args.settings.now c.args.claim c.args.graph.now)
    (text_read read c.args.certificate.now c.in_ok-read.ensures.certificate)) c.check_items.ensures.outcome

pub returns-clause-accepted : goal.returns-clause-accepted
returns-clause-accepted c = accepted_by c.args.importance.now c.args.settings.now c.args.claim c.args.graph.now
    (plain c.in_ok-read.read) c.args.certificate.now
    c.check_items.result c.in_ok-read.ensures.certificate c.check_items.ensures.accepted
