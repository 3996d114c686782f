use Rattle.std.proofs.Common.{[], ◌∷◌}
use Rattle.cert_file.specs.Reading.{Version}
use Rattle.cert_file.proofs.Heads.{stop_within}
use Rattle.cert_file.proofs.whole.read_certificate.Goals as goal

pub bad_text-requires : goal.bad_text-requires
bad_text-requires c = stop_within c.in-Err.stop (Version ∷ []) c.args.bytes.now c.in-Err.ensures.follows
