use Rattle.std.proofs.Common.{◌≡◌, ℕ, ◌+◌, ◌<◌, Bool, true, false, cond, eqb, List, pos, length, get_or, drop, sym, ap, ◌∙◌}
use Rattle.drawing_search.specs.Changes.{point_after}
use Rattle.drawing_search.proofs.Common.{at_drop_all, at_drop_more, eq-eqb, moved_by, ne_eqb, GridPoint, NodeId, Sketch}
use Rattle.drawing_search.proofs.Common.{Vector}
use Rattle.drawing_search.proofs.trying.Search.point_after.Goals as goal

abbrev nobody : NodeId × GridPoint
nobody = (record { 0 = 0 }, record { x = pos 0; y = pos 0 })

next : (k : Sketch) (v : Vector) (ms : List (NodeId × GridPoint)) (n : NodeId) (i : ℕ) (b : Bool) → i < length ms → eqb (get_or ms i nobody).0.0 n.0 ≡ b → point_after k v (drop i ms) n ≡ cond b (moved_by v (get_or ms i nobody).1) (point_after k v (drop (i + 1) ms) n)
next k v ms n i b h is = at_drop_more (λ (xs : List (NodeId × GridPoint)). point_after k v xs n) ms i nobody h ∙ ap (λ t. cond t (moved_by v (get_or ms i nobody).1) (point_after k v (drop (i + 1) ms) n)) is

pub returns-then-known-n : goal.returns-then-known-n
returns-then-known-n c =
    let ms = c.args.moved.now in
    let i = c.loop-known.known-index in
    c.after.ensures ∙ sym (next c.args.self.now.sketch c.args.vector ms c.args.n i true c.loop-known-test.true (eq-eqb (get_or ms i nobody).0.0 c.args.n.0 c.if-known-n.true)) ∙ c.loop-known.invariant

pub loop-known-preserved : goal.loop-known-preserved
loop-known-preserved c =
    let ms = c.args.moved.now in
    let i = c.loop-known.known-index in
    sym (next c.args.self.now.sketch c.args.vector ms c.args.n i false c.loop-known-test.true (ne_eqb (get_or ms i nobody).0.0 c.args.n.0 c.if-known-n.false)) ∙ c.loop-known.invariant

pub returns : goal.returns
returns c =
    c.point.ensures ∙ sym (at_drop_all (λ (xs : List (NodeId × GridPoint)). point_after c.args.self.now.sketch c.args.vector xs c.args.n) c.args.moved.now c.loop-known.known-index c.loop-known-test.false) ∙ c.loop-known.invariant
