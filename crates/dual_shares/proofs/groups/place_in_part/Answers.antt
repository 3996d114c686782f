use Rattle.std.proofs.Common.{rules}
use Rattle.std.proofs.lemmas.List.Sorted.{answers_always}
use Rattle.map_base.specs.declared.ids.SegId.{SegId}
use Rattle.dual_shares.proofs.Grouping.{found_in_part, missing_in_part}
use Rattle.dual_shares.proofs.groups.place_in_part.Goals as goal

pub returns-in-Ok : goal.returns-in-Ok
returns-in-Ok c =
    found_in_part c.args.part.now c.args.s c.in-Ok.k c.in-Ok.ensures.bound (c.in-Ok.ensures.position (λ (t : SegId). t.0) (answers_always _ _ _ (λ f a r g called. search rules)))

pub returns-in-Err : goal.returns-in-Err
returns-in-Err c =
    missing_in_part c.args.part.now c.args.s c.in-Err.field-0 c.requires (c.in-Err.ensures.position (λ (t : SegId). t.0) (answers_always _ _ _ (λ f a r g called. search rules)))
