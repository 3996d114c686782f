use Rattle.std.proofs.Common.{◌∙◌, ◌<◌, None, List, Option, length, get_or, sym, ap, arith}
use Rattle.drawing_search.proofs.Common.{get_or_read, PlainWalk, Sketch}
use Rattle.drawing_search.proofs.Takable.{walk_short}
use Rattle.drawing_search.proofs.gains.Field.walk_at.Goals as goal

pub walk_weight-requires-clause-short : goal.walk_weight-requires-clause-short
walk_weight-requires-clause-short c =
    let there = ap (λ (j : Sketch). j.walks) c.sketch.view_is in
    let below : c.args.s.0 < length c.sketch.inside.walks.items = omega (arith, c.requires.segment, c.requires.legal.walks_each, ap length there) in
    walk_short c.args.self.graph.now c.args.sketch.now c.requires.legal c.args.s c.in-Some.walk
    (ap (λ (os : List (Option PlainWalk)). get_or os c.args.s.0 None) (sym there) ∙ sym (get_or_read c.sketch.inside.walks.items c.args.s.0 c.index.result.now below c.index.ensures None) ∙ c.in-Some.is)
