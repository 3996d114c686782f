use Rattle.std.proofs.lemmas.Result.{IfOk-weaker}
use Rattle.cert_file.specs.Plain.{plain}
use Rattle.trial_command.proofs.summary.summary_in.Goals as goal

pub returns-in-Ok : goal.returns-in-Ok
returns-in-Ok c =
    IfOk-weaker c.summary_of.result _ _
    (λ summary is. (plain c.in-Ok.read, c.each_certificate_is_read_from_its_text.ensures (plain c.in-Ok.read) c.args.certificate.now c.in-Ok.ensures.certificate, is))
    c.summary_of.ensures
