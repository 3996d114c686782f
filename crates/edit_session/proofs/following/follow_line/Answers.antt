use Rattle.std.proofs.Common.{Some, ap, ◌∙◌}
use Rattle.edit_session.proofs.EditLemmas.{edit_ended}
use Rattle.edit_session.proofs.following.follow_line.Goals as goal

pub returns-in-Edit-clause-ended : goal.returns-in-Edit-clause-ended
returns-in-Edit-clause-ended g c =
    edit_ended c.args.session.now c.edit_next.new.session c.args.count.now c.args.line.now c.in-Edit.edit c.edit_next.result
    (c.in-Ok.ensures ∙ ap (λ x. Some x) c.in-Edit.is) c.edit_next.ensures.ended
