use Rattle.std.proofs.Common.{◌+◌, ◌≤◌, ap, sym, subst, ◌∙◌, refl, rules}
use Rattle.order_bound.specs.Bounds.{bound_of}
use Rattle.part_bounds.specs.PairGroups.{groups_in}
use Rattle.part_bounds.specs.PartStates.{PartState}
use Rattle.part_bounds.specs.Kept.{HasRoomFor, ArePairsOf, AreKept}
use Rattle.part_bounds.proofs.KeptUp.{bound_is, kept_up}
use Rattle.part_bounds.proofs.part_bounds.PartBounds.bound.Goals as goal

pub renew_pairs-shares-requires-clause-table : goal.renew_pairs-shares-requires-clause-table
renew_pairs-shares-requires-clause-table c = subst (ArePairsOf c.self.inside.problem.now c.self.inside.part.now) (sym c.as_slice.ensures.value) c.self.invariant.table

pub renew_pairs-shares-requires-clause-room : goal.renew_pairs-shares-requires-clause-room
renew_pairs-shares-requires-clause-room c = subst (λ l. HasRoomFor c.self.inside.part.now (groups_in l) c.self.inside.room) (sym c.as_slice.ensures.value) c.self.invariant.has_room

pub renew_pairs-shares-requires-clause-kept : goal.renew_pairs-shares-requires-clause-kept
renew_pairs-shares-requires-clause-kept c =
    subst (λ l. AreKept c.self.inside.problem.now c.self.inside.part.now c.self.inside.prefix.placed l c.self.inside.kept) (sym c.as_slice.ensures.value) c.self.invariant.kept_are

pub overflow_add-result : goal.overflow_add-result
overflow_add-result c =
    let most : c.renew_pairs-shares.result + c.self.inside.aparts.total ≤ 8192000000000 =
    (bound_is c.self.inside.problem.now c.self.inside.part.now c.self.inside.numbers.now c.self.inside.prefix c.self.inside.pairs.items c.as_slice.result.now c.self.inside.kept c.self.inside.room c.self.inside.aparts c.renew_pairs-shares.result
    c.self.invariant c.as_slice.ensures.value c.renew_pairs-shares.ensures.total).1 in
    search rules

pub invariant_of-self : goal.invariant_of-self
invariant_of-self c =
    kept_up c.self.inside.problem.now c.self.inside.part.now c.self.inside.numbers.now c.self.inside.prefix c.self.inside.prefix c.self.inside.pairs.items c.self.inside.kept c.renew_pairs-shares.new.kept
    c.self.inside.room c.renew_pairs-shares.new.room c.self.inside.aparts c.self.inside.aparts c.self.invariant c.self.invariant.fits
    (subst (λ l. AreKept c.self.inside.problem.now c.self.inside.part.now c.self.inside.prefix.placed l c.renew_pairs-shares.new.kept) c.as_slice.ensures.value c.renew_pairs-shares.ensures.kept)
    c.renew_pairs-shares.ensures.room c.self.invariant.settled

pub returns-clause-bound : goal.returns-clause-bound
returns-clause-bound c =
    (bound_is c.self.inside.problem.now c.self.inside.part.now c.self.inside.numbers.now c.self.inside.prefix c.self.inside.pairs.items c.as_slice.result.now c.self.inside.kept c.self.inside.room c.self.inside.aparts c.renew_pairs-shares.result
    c.self.invariant c.as_slice.ensures.value c.renew_pairs-shares.ensures.total).0
    ∙ ap (λ (b : PartState). bound_of b.segs b.part b.terms b.placed) c.self.view_is
