use Rattle.picture_laws.proofs.Marks.{escaped_text}
use Rattle.picture_laws.proofs.laws.names_write_no_markup.Goals as goal

pub returns : goal.returns
returns c = escaped_text
