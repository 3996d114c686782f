use Rattle.session_laws.proofs.Draws.{edits_at, made_at}
use Rattle.session_laws.proofs.laws.each_draw_is_a_make_with_its_edits.Goals as goal

pub returns : goal.returns
returns c = record { edits = edits_at; made = made_at }
