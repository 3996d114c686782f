use Rattle.std.proofs.Common.{[]}
use Rattle.edit_session.proofs.LawLemmas.{drawn_behind}
use Rattle.edit_session.proofs.laws.a_draw_shows_the_edits_before_it.Goals as goal

pub returns : goal.returns
returns c = λ named lines standing comes. drawn_behind named standing lines 0 [] comes
