use Rattle.std.proofs.Common.{sym, subst, inl, inr}
use Rattle.order_model.specs.Parts.{PointWithin, joined_by}
use Rattle.order_model.proofs.labels.join_by.Goals as goal

pub returns-in-Link-clause-within : goal.returns-in-Link-clause-within
returns-in-Link-clause-within c ls own ok = elim c.in-Link.is [
  | inl link ↦ subst (λ t. PointWithin (joined_by ls t) c.join.new.parents) (sym link.4) (c.join.ensures.within ls own ok)
  | inr apart ↦ subst (λ t. PointWithin (joined_by ls t) c.join.new.parents) (sym apart.3) (c.join.ensures.within ls own ok)
]
