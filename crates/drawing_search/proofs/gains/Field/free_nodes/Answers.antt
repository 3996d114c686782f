use Rattle.std.proofs.Common.{◌≡◌, refl, sym, ◌∙◌, ap, ℕ, ◌+◌, ◌-◌, ◌<◌, ◌≤◌, Bool, true, false, cond, List, ◌∷◌, length, filter, drop, get_or, arith}
use Rattle.drawing_search.proofs.Common.{free_nodes, inner_nodes, is_free_node, scale_of, ChainStep, GraphParts, NodeId}
use Rattle.drawing_search.proofs.Common.{Scale}
use Rattle.drawing_search.proofs.RunEnds.{inner_end, inner_more}
use Rattle.drawing_search.proofs.RunReads.{no_step}
use Rattle.drawing_search.proofs.gains.Field.free_nodes.Goals as goal

-- one node more, which is free or not
one_more : (scale : Scale) (graph : GraphParts) (ts : List ChainStep) (i : ℕ) (b : Bool) → 1 ≤ i → i < length ts → is_free_node scale graph (get_or ts (i - 1) no_step).to ≡ b
    → cond b 1 0 + free_nodes scale graph (drop (i + 1 - 1) ts) ≡ free_nodes scale graph (drop (i - 1) ts)
one_more scale graph ts i b some h is =
    let next : i ≡ i + 1 - 1 = omega arith in
    ap (λ j. cond b 1 0 + free_nodes scale graph (drop j ts)) (sym next)
    ∙ by_test b
    ∙ ap (λ t. length (cond t ((get_or ts (i - 1) no_step).to ∷ rest) rest)) (sym is)
    ∙ sym (ap (λ (ns : List NodeId). length (filter (is_free_node scale graph) ns)) (inner_more ts i no_step (omega (arith, some)) h))
  where
    rest : List NodeId
    rest = filter (is_free_node scale graph) (inner_nodes (drop i ts))

    by_test : (t : Bool) → cond t 1 0 + length (filter (is_free_node scale graph) (inner_nodes (drop i ts))) ≡ length (cond t ((get_or ts (i - 1) no_step).to ∷ filter (is_free_node scale graph) (inner_nodes (drop i ts))) (filter (is_free_node scale graph) (inner_nodes (drop i ts))))
    by_test true = omega arith
    by_test false = omega arith

none_left : (scale : Scale) (graph : GraphParts) (ts : List ChainStep) (i : ℕ) → length ts ≤ i → free_nodes scale graph (drop (i - 1) ts) ≡ 0
none_left scale graph ts i past = ap (λ (ns : List NodeId). length (filter (is_free_node scale graph) ns)) (inner_end ts i past)

pub free_at-count-requires-clause-node : goal.free_at-count-requires-clause-node
free_at-count-requires-clause-node c = (c.requires.steps (c.loop-i.i - 1) no_step (omega (arith, c.loop-i-test.true, c.loop-i.auto.i))).1

pub loop-i-preserved : goal.loop-i-preserved
loop-i-preserved c =
    let f = c.args.self in
    let ts = c.args.steps.now in
    let i = c.loop-i.i in
    let h = c.loop-i.invariant in
    let more = one_more (scale_of f.by) f.graph.now ts i (is_free_node (scale_of f.by) f.graph.now (get_or ts (i - 1) no_step).to) c.loop-i.auto.i c.loop-i-test.true refl in
    record {
      all = omega (arith, h.all, more, c.free_at-count.ensures.count);
      few = omega (arith, h.few, c.free_at-count.ensures.small);
      within = omega (arith, h.few, c.free_at-count.ensures.small, c.loop-i-test.true);
    }

pub returns-clause-count : goal.returns-clause-count
returns-clause-count c =
    let f = c.args.self in
    let left = none_left (scale_of f.by) f.graph.now c.args.steps.now c.loop-i.i c.loop-i-test.false in
    omega (arith, c.loop-i.invariant.all, left)
