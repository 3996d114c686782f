use Rattle.std.proofs.Common.{◌≡◌, ℕ, ◌+◌, ◌<◌, ◌||◌, Bool, true, false, is_some, List, [], Option, None, length, get_or, drop, sym, ap, ◌∙◌, arith}
use Rattle.drawing_search.proofs.Common.{at_drop_all, at_drop_more, get_or_read, list_any, or_left, read_at}
use Rattle.drawing_search.proofs.Common.{round_within, PlainWalk, SegId}
use Rattle.drawing_search.proofs.sketch.has_walk_at.Goals as goal

abbrev none : SegId
none = record { 0 = 0 }

abbrev has : List (Option PlainWalk) → SegId → Bool
has walks t = is_some (get_or walks t.0 None)

has_is : (walks : List (Option PlainWalk)) (t : SegId) (o : Option PlainWalk) (b : Bool) → t.0 < length walks → o ≡ get_or walks t.0 o → is_some o ≡ b → has walks t ≡ b
has_is walks t o b below is e = ap is_some (sym (get_or_read walks t.0 o below is None)) ∙ e

found : (f : SegId → Bool) (items : List SegId) (i : ℕ) → i < length items → f (get_or items i none) ≡ true → list_any f (drop i items) ≡ true
found f items i h e = at_drop_more (list_any f) items i none h ∙ or_left (f (get_or items i none)) (list_any f (drop (i + 1) items)) e

passed : (f : SegId → Bool) (items : List SegId) (i : ℕ) → i < length items → f (get_or items i none) ≡ false → list_any f (drop i items) ≡ list_any f (drop (i + 1) items)
passed f items i h e = at_drop_more (list_any f) items i none h ∙ ap (λ b. b || list_any f (drop (i + 1) items)) e

pub loop-s-init : goal.loop-s-init
loop-s-init c = ap (list_any (has c.args.walks.now)) (sym (read_at c.args.graph.now.rounds c.args.n.0 c.round-s-items.result.now [] c.round-s-items.ensures))

pub bounds-walks-s : goal.bounds-walks-s
bounds-walks-s c =
    let items = c.round-s-items.result.now in
    let same : get_or c.args.graph.now.rounds c.args.n.0 [] ≡ items = read_at c.args.graph.now.rounds c.args.n.0 items [] c.round-s-items.ensures in
    omega (arith, round_within c.args.graph.now c.requires.graph c.args.n.0 c.requires.node items same c.loop-s.s-index none c.loop-s-test.true, c.requires.walks)

pub returns-then-is_some : goal.returns-then-is_some
returns-then-is_some c =
    let items = c.round-s-items.result.now in
    let same : get_or c.args.graph.now.rounds c.args.n.0 [] ≡ items = read_at c.args.graph.now.rounds c.args.n.0 items [] c.round-s-items.ensures in
    let below : (get_or items c.loop-s.s-index none).0 < length c.args.walks.now =
    omega (arith, round_within c.args.graph.now c.requires.graph c.args.n.0 c.requires.node items same c.loop-s.s-index none c.loop-s-test.true, c.requires.walks) in
    let here = has_is c.args.walks.now (get_or items c.loop-s.s-index none) c.index-walks-s.result true below c.index-walks-s.is (sym c.is_some.ensures ∙ c.if-is_some.true) in
    sym (found (has c.args.walks.now) items c.loop-s.s-index c.loop-s-test.true here) ∙ c.loop-s.invariant

pub loop-s-preserved : goal.loop-s-preserved
loop-s-preserved c =
    let items = c.round-s-items.result.now in
    let same : get_or c.args.graph.now.rounds c.args.n.0 [] ≡ items = read_at c.args.graph.now.rounds c.args.n.0 items [] c.round-s-items.ensures in
    let below : (get_or items c.loop-s.s-index none).0 < length c.args.walks.now =
    omega (arith, round_within c.args.graph.now c.requires.graph c.args.n.0 c.requires.node items same c.loop-s.s-index none c.loop-s-test.true, c.requires.walks) in
    let here = has_is c.args.walks.now (get_or items c.loop-s.s-index none) c.index-walks-s.result false below c.index-walks-s.is (sym c.is_some.ensures ∙ c.if-is_some.false) in
    sym (passed (has c.args.walks.now) items c.loop-s.s-index c.loop-s-test.true here) ∙ c.loop-s.invariant

pub returns : goal.returns
returns c = sym (at_drop_all (list_any (has c.args.walks.now)) c.round-s-items.result.now c.loop-s.s-index c.loop-s-test.false) ∙ c.loop-s.invariant
