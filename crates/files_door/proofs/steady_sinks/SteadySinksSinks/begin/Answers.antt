use Rattle.std.proofs.Common.{◌∙◌, ap, Some}
use Rattle.files_door.specs.Acts.{begin_target}
use Rattle.files_door.specs.SinksInMemory.{target_at, written_in}
use Rattle.files_door.proofs.Kept.{first_at_place, same_sinks, target_at_place}
use Rattle.files_door.proofs.steady_sinks.SteadySinksSinks.begin.Goals as goal

pub invariant_of-self-2 : goal.invariant_of-self-2
invariant_of-self-2 c =
    λ place is. first_at_place c.args.to.now (written_in c.begin_in.new.targets.items) place (c.in_ok-begin_in.ensures.place ∙ is)

pub returns-clause-ok : goal.returns-clause-ok
returns-clause-ok c =
    let w = written_in c.begin_in.new.targets.items in
    let place = c.in_ok-begin_in.field-0 in
    rw (← c.self.view_is) (same_sinks w (begin_target c.args.to.now (written_in c.self.inside.targets.items)) (Some (target_at w place)) (Some c.args.to.now) c.in_ok-begin_in.ensures.begun (ap Some (target_at_place c.args.to.now w place c.in_ok-begin_in.ensures.place)))
