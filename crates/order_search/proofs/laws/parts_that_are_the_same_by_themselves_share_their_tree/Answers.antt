use Rattle.std.proofs.Common.{sym, ◌∙◌, ap}
use Rattle.order_model.specs.PartTerms.{part_numbers}
use Rattle.order_search.specs.LiveTrees.{GrownTree}
use Rattle.order_search.specs.ByItself.{renumbered}
use Rattle.order_search.proofs.OwnParts.{from_own, to_own, own_again}
use Rattle.order_search.proofs.laws.parts_that_are_the_same_by_themselves_share_their_tree.Goals as goal

pub returns-clause-tree : goal.returns-clause-tree
returns-clause-tree c p q part other known rising other_known other_rising same =
    ap (λ (g : GrownTree). g.tree) (from_own q other other_known other_rising)
    ∙ ap (λ (g : GrownTree). renumbered other (part_numbers q.terms other) g.tree) (sym (own_again p q part other same))
    ∙ ap (λ (g : GrownTree). renumbered other (part_numbers q.terms other) g.tree) (sym (to_own p part known rising))

pub returns-clause-best : goal.returns-clause-best
returns-clause-best c p q part other known rising other_known other_rising same =
    ap (λ (g : GrownTree). g.best) (from_own q other other_known other_rising)
    ∙ ap (λ (g : GrownTree). g.best) (sym (own_again p q part other same))
    ∙ ap (λ (g : GrownTree). g.best) (sym (from_own p part known rising))
