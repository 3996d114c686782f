use Rattle.std.proofs.Common.{sym, None}
use Rattle.std.proofs.lemmas.List.{get_or-replicate}
use Rattle.state_search.proofs.row.Row.known_in.Goals as goal

pub returns-in-None : goal.returns-in-None
returns-in-None c = rw c.in-None.is (sym (get_or-replicate 9 c.args.arrival None None c.requires))
