use Rattle.cert_file.proofs.LawLemmas.{certificate_same}
use Rattle.cert_file.proofs.laws.every_certificate_has_one_spelling.Goals as goal

pub returns : goal.returns
returns c = λ d e first second same. certificate_same d e first second same
