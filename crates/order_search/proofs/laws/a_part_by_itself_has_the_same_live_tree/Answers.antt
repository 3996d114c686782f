use Rattle.std.proofs.Common.{sym, ◌∙◌, ap, subst}
use Rattle.order_proof.specs.Trees.{splits_of}
use Rattle.order_model.specs.Prefixes.{none_placed}
use Rattle.order_model.specs.PartTerms.{part_numbers}
use Rattle.order_search.specs.LiveTrees.{GrownTree, number_order, live_tree}
use Rattle.order_search.specs.Living.{IsLive}
use Rattle.order_search.specs.FoundParts.{part_in}
use Rattle.order_search.specs.ByItself.{by_itself, own_segments, renumbered, seg_from, number_from}
use Rattle.order_search.proofs.OneLive.{only, lives}
use Rattle.order_search.proofs.Roots.{none_each}
use Rattle.order_search.proofs.OwnParts.{from_own, to_own, own_known_all, splits_by}
use Rattle.order_search.proofs.laws.a_part_by_itself_has_the_same_live_tree.Goals as goal

pub returns-clause-there : goal.returns-clause-there
returns-clause-there c p part known rising = ap (λ (g : GrownTree). g.tree) (from_own p part known rising)

pub returns-clause-back : goal.returns-clause-back
returns-clause-back c p part known rising = ap (λ (g : GrownTree). g.tree) (sym (to_own p part known rising))

pub returns-clause-stays_live : goal.returns-clause-stays_live
returns-clause-stays_live c p part tree known rising live =
    let q = part_in p part in
    let own = part_in (by_itself p part) (own_segments part) in
    let alone = only own (own_known_all p part known rising) tree (none_placed own.segs) (number_order own) (none_each own.segs) live in
    let whole = lives q known (none_placed q.segs) (number_order q) (none_each q.segs) in
    subst (IsLive q) (ap (λ (g : GrownTree). g.tree) (from_own p part known rising) ∙ ap (renumbered part (part_numbers p.terms part)) (sym alone.0)) whole.0

pub returns-clause-best : goal.returns-clause-best
returns-clause-best c p part known rising = ap (λ (g : GrownTree). g.best) (from_own p part known rising)

pub returns-clause-branches : goal.returns-clause-branches
returns-clause-branches c p part known rising =
    ap (λ (g : GrownTree). splits_of g.tree) (from_own p part known rising)
    ∙ splits_by (seg_from part) (number_from (part_numbers p.terms part)) (live_tree (part_in (by_itself p part) (own_segments part))).tree
