use Rattle.std.proofs.Common.{sym, subst, arith}
use Rattle.dual_shares.specs.GroupSteps.{IsPlaceInPart}
use Rattle.dual_check.specs.Nodes.{Forgets, IsForgotten}
use Rattle.dual_check.proofs.Known.{forgets_none, forgets_at, forgotten_none, forgotten_at}
use Rattle.dual_check.proofs.node.forget.Goals as goal

pub returns-in_default-clause-fewer : goal.returns-in_default-clause-fewer
returns-in_default-clause-fewer c = forgets_none c.args.shares.now

pub returns-in_default-clause-forgotten : goal.returns-in_default-clause-forgotten
returns-in_default-clause-forgotten c =
    forgotten_none c.args.asked.now.part.now c.args.s c.args.shares.now (subst (IsPlaceInPart c.args.asked.now.part.now c.args.s) c.in_default.is c.place_in_part.ensures)

pub forget_at-requires : goal.forget_at-requires
forget_at-requires c =
    let at = subst (IsPlaceInPart c.args.asked.now.part.now c.args.s) c.in-Some.is c.place_in_part.ensures in
    let below = at.0 in
    omega (arith, below, c.requires.each)

pub returns-clause-fewer : goal.returns-clause-fewer
returns-clause-fewer c =
    let at = subst (IsPlaceInPart c.args.asked.now.part.now c.args.s) c.in-Some.is c.place_in_part.ensures in
    let below = at.0 in
    subst (Forgets c.args.shares.now) (sym c.forget_at.ensures) (forgets_at c.args.shares.now c.in-Some.k (omega (arith, below, c.requires.each)))

pub returns-clause-forgotten : goal.returns-clause-forgotten
returns-clause-forgotten c =
    let at = subst (IsPlaceInPart c.args.asked.now.part.now c.args.s) c.in-Some.is c.place_in_part.ensures in
    let below = at.0 in
    subst (IsForgotten c.args.asked.now.part.now c.args.s) (sym c.forget_at.ensures)
    (forgotten_at c.args.asked.now.part.now c.args.s c.in-Some.k c.args.shares.now c.requires.asked.rising at (omega (arith, below, c.requires.each)))
