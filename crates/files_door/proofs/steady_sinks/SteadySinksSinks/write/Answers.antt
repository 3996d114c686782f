use Rattle.std.proofs.Common.{◌++◌, ◌∙◌, sym, ap, subst, Some, Option}
use Rattle.std.specs.Option.{option_map}
use Rattle.files_door.specs.declared.target.Target.{Target}
use Rattle.files_door.specs.Targets.{Written}
use Rattle.files_door.specs.Acts.{after, puts}
use Rattle.files_door.specs.SinksInMemory.{IsFirst, target_at, written_in}
use Rattle.files_door.proofs.Kept.{IsFirst-change, same_current}
use Rattle.files_door.proofs.Targets.{after-puts}
use Rattle.files_door.proofs.steady_sinks.SteadySinksSinks.write.Goals as goal

pub invariant_of-self-2 : goal.invariant_of-self-2
invariant_of-self-2 c =
    let w = written_in c.self.inside.targets.items in
    λ place is. subst (λ (v : Written). IsFirst v place) (sym c.in_ok-append_at.ensures.ok) (IsFirst-change (target_at w c.unwrap-place.result) (λ held. held ++ c.args.piece.now) w place (c.self.invariant place is))

pub returns-clause-appended : goal.returns-clause-appended
returns-clause-appended c =
    let w = written_in c.self.inside.targets.items in
    let piece = c.args.piece.now in
    rw (← c.self.view_is) (ap Some (c.in_ok-append_at.ensures.ok ∙ sym (after-puts (target_at w c.unwrap-place.result) piece w)
    ∙ ap (λ (target : Option Target). after (puts target piece) w) (sym (ap (option_map (target_at w)) c.unwrap-place.ensures))))

pub returns-clause-current : goal.returns-clause-current
returns-clause-current c =
    let w = written_in c.self.inside.targets.items in
    rw (← c.self.view_is) (same_current (target_at w c.unwrap-place.result) (λ held. held ++ c.args.piece.now) w (written_in c.append_at.new.targets.items) c.self.inside.current c.in_ok-append_at.ensures.ok)
