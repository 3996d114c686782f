use Rattle.std.proofs.Common.{◌∙◌, sym, ap, ap₂, subst, fold, List}
use Rattle.drawing_search.proofs.Common.{stood_at, walked_by, CanStandEach, CanWalkEach, GridPoint, NodeId, Sketch}
use Rattle.drawing_search.proofs.lifting.put_back.Goals as goal

pub stand_each-requires : goal.stand_each-requires
stand_each-requires c = subst (CanStandEach c.args.sketch.now) (sym c.deref.ensures.value) c.requires.moved

pub stand_each-requires-2 : goal.stand_each-requires-2
stand_each-requires-2 c =
    let first = c.stand_each.ensures ∙ ap (λ (ms : List (NodeId × GridPoint)). fold stood_at c.args.sketch.now ms) c.deref.ensures.value in
    subst (λ (k : Sketch). CanStandEach k c.deref-2.result.now) (sym first) (subst (CanStandEach (fold stood_at c.args.sketch.now c.args.lifted.moved.items)) (sym c.deref-2.ensures.value) c.requires.inner)

pub put_walks-requires : goal.put_walks-requires
put_walks-requires c =
    let first = c.stand_each.ensures ∙ ap (λ (ms : List (NodeId × GridPoint)). fold stood_at c.args.sketch.now ms) c.deref.ensures.value in
    let second = c.stand_each-2.ensures ∙ ap₂ (λ (k : Sketch) (ms : List (NodeId × GridPoint)). fold stood_at k ms) first c.deref-2.ensures.value in
    subst (λ (k : Sketch). CanWalkEach k c.args.lifted.walks.items) (sym second) c.requires.walks

pub returns : goal.returns
returns c =
    let first = c.stand_each.ensures ∙ ap (λ (ms : List (NodeId × GridPoint)). fold stood_at c.args.sketch.now ms) c.deref.ensures.value in
    let second = c.stand_each-2.ensures ∙ ap₂ (λ (k : Sketch) (ms : List (NodeId × GridPoint)). fold stood_at k ms) first c.deref-2.ensures.value in
    c.put_walks.ensures ∙ ap (λ (k : Sketch). fold walked_by k c.args.lifted.walks.items) second
