use Rattle.std.proofs.Common.{◌≡◌, refl, sym, ◌∙◌, ap, subst, ◌-◌, ◌<◌, ◌∷◌, ◌++◌, [], List, length, map, get_or, Some, arith, rules}
use Rattle.std.proofs.lemmas.Iterator.Adapters.{YieldsList-from_vec}
use Rattle.std.proofs.lemmas.Iterator.Consumers.{YieldsList-end, YieldsList-turn}
use Rattle.drawing_search.proofs.Common.{all_place, bare_sketch, contains, is_even, is_standing, length_push, list_all}
use Rattle.drawing_search.proofs.Common.{nowhere, points_of, stood, walk_in, with_walk_of, PlainWalk, Sketch}
use Rattle.drawing_search.proofs.Beginning.{node_built, node_flag, node_low, nodes_none, walk_below, walk_built, walk_free, walks_all, walks_none, with_walks}
use Rattle.drawing_search.proofs.searching.sketch_of.Goals as goal

same : (ws : List PlainWalk) → map (λ w. w) ws ≡ ws
same [] = refl
same (w ∷ ws) = ap (λ (v : List PlainWalk). w ∷ v) (same ws)

pub loop-n-init : goal.loop-n-init
loop-n-init c =
    c.in_ok-sketch.ensures ∙ ap (bare_sketch c.args.bounds c.args.points.now) (c.segs.ensures ∙ sym c.requires.walks) ∙ nodes_none c.args.bounds c.args.points.now (length c.args.walks.items)

pub stand-requires : goal.stand-requires
stand-requires c =
    let ps = c.args.points.now in
    let n = c.loop-n.n in
    let below : n < length ps = omega (arith, c.loop-n-test.true, c.nodes-n-end.ensures.count, c.requires.points) in
    record {
      node = omega (arith, ap (λ (k : Sketch). length k.points) c.loop-n.invariant, c.loop-n-test.true, c.nodes-n-end.ensures.count, c.requires.points);
      flag = subst (λ (k : Sketch). n < length k.stand) (sym c.loop-n.invariant) (node_flag c.args.bounds ps (length c.args.walks.items) n below);
      lifted = ap (λ (k : Sketch). is_standing k n) c.loop-n.invariant ∙ node_low c.args.bounds ps (length c.args.walks.items) n (omega (arith, c.loop-n-test.true, c.nodes-n-end.ensures.count, c.requires.points));
      inside =
          ap (λ (k : Sketch). contains k.bounds (get_or ps n nowhere)) c.loop-n.invariant
          ∙ all_place (contains c.args.bounds) ps n nowhere c.requires.inside (omega (arith, c.loop-n-test.true, c.nodes-n-end.ensures.count, c.requires.points));
      even = all_place is_even c.args.points.now c.loop-n.n nowhere c.requires.even (omega (arith, c.loop-n-test.true, c.nodes-n-end.ensures.count, c.requires.points));
    }

pub loop-n-preserved : goal.loop-n-preserved
loop-n-preserved c =
    let ps = c.args.points.now in
    let n = c.loop-n.n in
    c.stand.ensures
    ∙ ap (λ (k : Sketch). stood k (record { 0 = n }) (get_or ps n nowhere)) c.loop-n.invariant
    ∙ node_built c.args.bounds ps (length c.args.walks.items) n (omega (arith, c.loop-n-test.true, c.nodes-n-end.ensures.count, c.requires.points)) (get_or ps n nowhere) refl

pub loop-walk-init : goal.loop-walk-init
loop-walk-init c =
    let ps = c.args.points.now in
    let all : c.loop-n.n ≡ length ps = omega (arith, c.loop-n-test.false, c.loop-n.auto.n-end, c.nodes-n-end.ensures.count, c.requires.points) in
    let whole : length c.args.walks.items ≡ length c.args.walks.items - 0 = omega arith in
    record { sketch = c.loop-n.invariant ∙ walks_none c.args.bounds ps (length c.args.walks.items) c.loop-n.n all ∙ ap (with_walks c.args.bounds ps []) whole; count = refl }

pub put_walk-requires : goal.put_walk-requires
put_walk-requires c =
    let ws = c.args.walks.items in
    let t = YieldsList-turn (YieldsList-from_vec {s = c.into_iter-walk-iterator.result} ws (search rules) (search rules)) c.loop-walk.yielded c.loop-walk.walk-iterator c.loop-walk.yielded_by c.next.result c.next.new.self c.in-Some.walk c.in-Some.is c.next.ensures.steps in
    let some : 0 < length ws - length c.loop-walk.yielded = omega (arith, t.0) in
    let w = c.in-Some.walk in
    record {
      segment = omega (arith, ap (λ (k : Sketch). length k.walks) c.loop-walk.invariant.sketch, c.loop-walk.invariant.count, walk_below c.args.bounds c.args.points.now c.loop-walk.yielded (length ws - length c.loop-walk.yielded) some);
      free =
          ap (λ (k : Sketch). walk_in k (record { 0 = c.loop-walk.s })) c.loop-walk.invariant.sketch
          ∙ ap (λ i. walk_in (with_walks c.args.bounds c.args.points.now c.loop-walk.yielded (length ws - length c.loop-walk.yielded)) (record { 0 = i })) c.loop-walk.invariant.count
          ∙ walk_free c.args.bounds c.args.points.now c.loop-walk.yielded (length ws - length c.loop-walk.yielded) some;
      inside =
          ap (λ (k : Sketch). list_all (contains k.bounds) (points_of w)) c.loop-walk.invariant.sketch
          ∙ ap (λ (x : PlainWalk). list_all (contains c.args.bounds) (points_of x)) t.1
          ∙ all_place (λ (x : PlainWalk). list_all (contains c.args.bounds) (points_of x)) ws (length c.loop-walk.yielded) w c.requires.within t.0;
    }

pub overflow_add-s : goal.overflow_add-s
overflow_add-s c =
    let t = YieldsList-turn (YieldsList-from_vec {s = c.into_iter-walk-iterator.result} c.args.walks.items (search rules) (search rules)) c.loop-walk.yielded c.loop-walk.walk-iterator c.loop-walk.yielded_by c.next.result c.next.new.self c.in-Some.walk c.in-Some.is c.next.ensures.steps in
    omega (arith, t.0, c.loop-walk.invariant.count, c.requires.walks, c.requires.graph.few_segments)

pub loop-walk-preserved : goal.loop-walk-preserved
loop-walk-preserved c =
    let ws = c.args.walks.items in
    let done = c.loop-walk.yielded in
    let t = YieldsList-turn (YieldsList-from_vec {s = c.into_iter-walk-iterator.result} ws (search rules) (search rules)) done c.loop-walk.walk-iterator c.loop-walk.yielded_by c.next.result c.next.new.self c.in-Some.walk c.in-Some.is c.next.ensures.steps in
    let w = c.in-Some.walk in
    let left = length ws - length done in
    let some : 0 < left = omega (arith, t.0) in
    let more = length_push done w in
    let less : left - 1 ≡ length ws - length (done ++ w ∷ []) = omega (arith, more) in
    record {
      sketch = c.put_walk.ensures
          ∙ ap (λ (k : Sketch). with_walk_of k (record { 0 = c.loop-walk.s }) (Some w)) c.loop-walk.invariant.sketch
          ∙ ap (λ i. with_walk_of (with_walks c.args.bounds c.args.points.now done left) (record { 0 = i }) (Some w)) c.loop-walk.invariant.count
          ∙ walk_built c.args.bounds c.args.points.now done left some w
          ∙ ap (with_walks c.args.bounds c.args.points.now (done ++ w ∷ [])) less;
      count = omega (arith, c.loop-walk.invariant.count, more);
    }

pub returns : goal.returns
returns c =
    let ws = c.args.walks.items in
    let all = YieldsList-end (YieldsList-from_vec {s = c.into_iter-walk-iterator.result} ws (search rules) (search rules)) c.loop-walk.yielded c.loop-walk.walk-iterator c.loop-walk.yielded_by c.next.result c.next.new.self c.in-None.is c.next.ensures.steps in
    let end : c.loop-walk.yielded ≡ ws = sym (same c.loop-walk.yielded) ∙ all.0 in
    let none : length ws - length c.loop-walk.yielded ≡ 0 = omega (arith, all.1) in
    c.loop-walk.invariant.sketch
    ∙ ap (λ (v : List PlainWalk). with_walks c.args.bounds c.args.points.now v (length ws - length c.loop-walk.yielded)) end
    ∙ ap (with_walks c.args.bounds c.args.points.now ws) none
    ∙ walks_all c.args.bounds c.args.points.now ws
