use Rattle.cert_file.proofs.LawLemmas.{whole_again}
use Rattle.cert_file.proofs.laws.what_is_written_is_read.Goals as goal

pub returns : goal.returns
returns c = λ d range. whole_again d range
