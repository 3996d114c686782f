use Rattle.std.proofs.Common.{◌≡◌, ap, subst, List}
use Rattle.drawing_search.proofs.Common.{walks_of, IfOk, PlainWalk}
use Rattle.drawing_search.proofs.sketch.Sketch.into_walks.Goals as goal

pub returns : goal.returns
returns c = subst (λ (ws : List PlainWalk). IfOk c.into_walks.result (λ walks. walks.items ≡ ws)) (ap walks_of c.self.view_is) c.into_walks.ensures
