use Rattle.cert_file.proofs.LawLemmas.{none_where_stopped}
use Rattle.cert_file.proofs.laws.no_certificate_where_reading_stops.Goals as goal

pub returns : goal.returns
returns c = λ bytes at d stopped range same. none_where_stopped bytes at d stopped range same
