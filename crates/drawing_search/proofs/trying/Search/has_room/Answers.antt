use Rattle.std.proofs.Common.{◌≡◌, ℕ, ◌+◌, ◌<◌, ◌&&◌, Bool, true, false, List, pos, length, get_or, drop, sym, ap, subst, ◌∙◌, arith, zero, suc, ◌≤◌, unsigned_abs, replicate}
use Rattle.drawing_search.proofs.Common.{after, and_from, and_parts, at_drop_all, at_drop_more, east_of, east_small}
use Rattle.drawing_search.proofs.Common.{has_room, is_near, is_open, le-leb, leb-true, moved_by, nat_le, north_of}
use Rattle.drawing_search.proofs.Common.{north_small, reach, step_from, Dir, GridPoint, NodeId, Sketch, Vector}
use Rattle.drawing_search.proofs.trying.Search.has_room.Goals as goal

far_across : (most n : ℕ) (p : GridPoint) (d : Dir) → unsigned_abs p.x ≤ most → unsigned_abs (after p (replicate n d)).x ≤ most + n
far_across most zero p d h = omega (arith, h)
far_across most (suc n) p d h =
    let rest = far_across (most + 1) n (step_from p d) d (reach p.x (east_of d) most 0 (omega (arith, h)) (east_small d)) in omega (arith, rest)

far_along : (most n : ℕ) (p : GridPoint) (d : Dir) → unsigned_abs p.y ≤ most → unsigned_abs (after p (replicate n d)).y ≤ most + n
far_along most zero p d h = omega (arith, h)
far_along most (suc n) p d h =
    let rest = far_along (most + 1) n (step_from p d) d (reach p.y (north_of d) most 0 (omega (arith, h)) (north_small d)) in omega (arith, rest)

moved_near : (most more : ℕ) (v : Vector) (p : GridPoint) → is_near most p ≡ true → most + v.count ≤ more → is_near more (moved_by v p) ≡ true
moved_near most more v p near few =
    let parts = and_parts (nat_le (unsigned_abs p.x) most) (nat_le (unsigned_abs p.y) most) near in
    let x = far_across most v.count p v.dir (leb-true (unsigned_abs p.x) most parts.0) in
    let y = far_along most v.count p v.dir (leb-true (unsigned_abs p.y) most parts.1) in
    and_from (nat_le (unsigned_abs (moved_by v p).x) more) (nat_le (unsigned_abs (moved_by v p).y) more) (le-leb (unsigned_abs (moved_by v p).x) more (omega (arith, x, few))) (le-leb (unsigned_abs (moved_by v p).y) more (omega (arith, y, few)))

abbrev nobody : NodeId × GridPoint
nobody = (record { 0 = 0 }, record { x = pos 0; y = pos 0 })

-- whether there is room depends on the next node, and then on the others
next : (k : Sketch) (v : Vector) (ms : List (NodeId × GridPoint)) (i : ℕ) (b : Bool) → i < length ms → is_open k (moved_by v (get_or ms i nobody).1) ≡ b → has_room k v (drop i ms) ≡ (b && has_room k v (drop (i + 1) ms))
next k v ms i b h is = at_drop_more (has_room k v) ms i nobody h ∙ ap (λ t. t && has_room k v (drop (i + 1) ms)) is

pub is_open-requires : goal.is_open-requires
is_open-requires c =
    subst (λ (p : GridPoint). is_near 3000 p ≡ true) (sym c.after.ensures)
    (moved_near 2000 3000 c.args.vector (get_or c.args.moved.now c.loop-known.known-index nobody).1 (c.requires.near c.loop-known.known-index nobody c.loop-known-test.true) (omega (arith, c.requires.count)))

pub returns-then-not-is_open : goal.returns-then-not-is_open
returns-then-not-is_open c =
    let here = ap (is_open c.args.self.now.sketch) (sym c.after.ensures) ∙ sym c.is_open.ensures ∙ c.if-not-is_open.true in
    sym (next c.args.self.now.sketch c.args.vector c.args.moved.now c.loop-known.known-index false c.loop-known-test.true here) ∙ c.loop-known.invariant

pub loop-known-preserved : goal.loop-known-preserved
loop-known-preserved c =
    let here = ap (is_open c.args.self.now.sketch) (sym c.after.ensures) ∙ sym c.is_open.ensures ∙ c.if-not-is_open.false in
    sym (next c.args.self.now.sketch c.args.vector c.args.moved.now c.loop-known.known-index true c.loop-known-test.true here) ∙ c.loop-known.invariant

pub returns : goal.returns
returns c = sym (at_drop_all (has_room c.args.self.now.sketch c.args.vector) c.args.moved.now c.loop-known.known-index c.loop-known-test.false) ∙ c.loop-known.invariant
