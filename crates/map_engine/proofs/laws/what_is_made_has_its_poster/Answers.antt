use Rattle.map_engine.proofs.MadePosters.{made_poster}
use Rattle.map_engine.proofs.laws.what_is_made_has_its_poster.Goals as goal

pub returns : goal.returns
returns c = λ feed choices claim made is. made_poster feed choices claim made is
    (c.each_certificate_is_read_from_its_text.ensures is.certified.certificate made.certificate is.certified.written)
