use Rattle.session_laws.proofs.Comes.{comes_to}
use Rattle.session_laws.proofs.laws.each_draw_is_what_make_comes_to.Goals as goal

pub returns : goal.returns
returns c = comes_to
