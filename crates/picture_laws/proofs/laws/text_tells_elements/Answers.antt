use Rattle.picture_laws.proofs.Tells.{text_tells}
use Rattle.picture_laws.proofs.laws.text_tells_elements.Goals as goal

pub returns : goal.returns
returns c = text_tells
