use Rattle.std.proofs.Common.{◌≡◌, ◌∙◌, ◌∷◌, ◌++◌, [], List, ap, ap₂, length, map, sym, arith}
use Rattle.std.proofs.lemmas.List.FromFn.{map-range_with_len_more}
use Rattle.std.specs.List.{range_with_len}
use Rattle.line_chains.specs.declared.chain.Chain.{Chain}
use Rattle.run_laying.specs.Attempts.{run_of}
use Rattle.kept_walks.proofs.runs.single_runs.Goals as goal

pub loop-s-preserved : goal.loop-s-preserved
loop-s-preserved c =
    let s = c.loop-s.s in
    c.in_ok-push.ensures.items
    ∙ ap₂ (λ (v : List Chain) (x : Chain). v ++ x ∷ []) c.loop-s.invariant c.in_ok-run.ensures
    ∙ sym (map-range_with_len_more (λ i. run_of c.args.graph.now (record { 0 = i })) 0 s s (omega arith))

pub returns : goal.returns
returns c =
    let at_end : c.loop-s.s ≡ length c.args.graph.now.ends = omega (arith, c.loop-s-test.false, c.loop-s.auto.s-end, c.segs-s-end.ensures) in
    c.loop-s.invariant ∙ ap (λ n. map (λ i. run_of c.args.graph.now (record { 0 = i })) (range_with_len 0 n)) at_end
