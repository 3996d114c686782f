use Rattle.std.proofs.Common.{sym, ◌∙◌}
use Rattle.track_net.proofs.SameLists.{divided_by_some}
use Rattle.track_net.proofs.edges.are_undivided_by_both.Goals as goal

pub returns-then-not-are_undivided : goal.returns-then-not-are_undivided
returns-then-not-are_undivided c =
    sym (divided_by_some c.args.points.now c.args.first.now c.args.candidates.now c.args.i c.args.j c.requires.first (sym c.are_undivided.ensures ∙ c.if-not-are_undivided.true))
