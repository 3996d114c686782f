use Rattle.std.proofs.Common.{◌≡◌, ◌∙◌, sym, ap, subst, ◌+◌, List, min, arith}
use Rattle.drawing_search.proofs.Common.{attempts_of, scale_of, sketch_weight, walks_of, GridPoint, IsSettled}
use Rattle.drawing_search.proofs.Beginning.{outcome_is, passes_begin}
use Rattle.drawing_search.proofs.Searches.{good_then, no_heavier_then, passes_end, passes_more, passes_stop, rises, settled_then}
use Rattle.drawing_search.proofs.searching.passes.Goals as goal

pub loop-search-init : goal.loop-search-init
loop-search-init c =
    let f = c.args.field in
    let k = c.args.sketch in
    passes_begin f.graph.now c.requires.field.graph (scale_of f.by) k c.requires.legal c.requires.whole c.args.groups.now c.args.at_once c.args.most c.weight_of-before.result
    (c.weight_of-before.ensures.weight ∙ ap (λ (ps : List GridPoint). sketch_weight (scale_of f.by) f.graph.now ps k) c.requires.first) c.weight_of-before.ensures.small

pub try_groups-requires-clause-settled : goal.try_groups-requires-clause-settled
try_groups-requires-clause-settled c =
    let f = c.args.field in
    subst (λ (ps : List GridPoint). IsSettled (scale_of f.by) f.graph.now ps c.loop-search.search.sketch c.loop-search.search.weight) (sym c.requires.first) c.loop-search.invariant.settled

pub try_groups-requires-clause-most : goal.try_groups-requires-clause-most
try_groups-requires-clause-most c = omega (arith, c.min-limit.ensures, c.saturating_add-raised.ensures, c.loop-search-test.true)

-- a pass made nothing
pub returns-then-search-made : goal.returns-then-search-made
returns-then-search-made c =
    let f = c.args.field in
    let k = c.args.sketch in
    let old = c.loop-search.search in
    let new = c.try_groups.new.self in
    let limit : c.min-limit.result ≡ min c.args.most (old.made + c.args.at_once) = omega (arith, c.min-limit.ensures, c.saturating_add-raised.ensures, c.ranges.most) in
    outcome_is f.graph.now c.requires.field.graph (scale_of f.by) k c.requires.legal c.requires.whole (attempts_of c.args.groups.now) c.args.at_once c.args.most new.sketch new.weight new.made c.weight_of-before.result c.outcome_of.result
    (good_then (scale_of f.by) f.graph.now c.requires.field.graph (walks_of k) k.bounds c.args.groups.now c.args.at_once c.args.most c.weight_of-before.result c.requires.fitting old.sketch old.weight old.made c.loop-search.invariant c.loop-search-test.true new.sketch new.weight new.made f.first.now c.min-limit.result c.requires.first limit c.in_ok-try_groups.ensures.settled c.in_ok-try_groups.ensures.tried)
    (settled_then (scale_of f.by) f.graph.now c.requires.field.graph (walks_of k) k.bounds c.args.groups.now c.args.at_once c.args.most c.weight_of-before.result c.requires.fitting old.sketch old.weight old.made c.loop-search.invariant c.loop-search-test.true new.sketch new.weight new.made f.first.now c.min-limit.result c.requires.first limit c.in_ok-try_groups.ensures.settled c.in_ok-try_groups.ensures.tried).weight_is
    (no_heavier_then (scale_of f.by) f.graph.now c.requires.field.graph (walks_of k) k.bounds c.args.groups.now c.args.at_once c.args.most c.weight_of-before.result c.requires.fitting old.sketch old.weight old.made c.loop-search.invariant c.loop-search-test.true new.sketch new.weight new.made f.first.now c.min-limit.result c.requires.first limit c.in_ok-try_groups.ensures.settled c.in_ok-try_groups.ensures.tried)
    (c.weight_of-before.ensures.weight ∙ ap (λ (ps : List GridPoint). sketch_weight (scale_of f.by) f.graph.now ps k) c.requires.first)
    (passes_stop (scale_of f.by) f.graph.now c.requires.field.graph (walks_of k) k.bounds c.args.groups.now c.args.at_once c.args.most c.weight_of-before.result c.requires.fitting old.sketch old.weight old.made c.loop-search.invariant c.loop-search-test.true new.sketch new.weight new.made f.first.now c.min-limit.result c.requires.first limit c.in_ok-try_groups.ensures.settled c.in_ok-try_groups.ensures.tried c.if-search-made.true)
    c.outcome_of.ensures.drawing c.outcome_of.ensures.made c.outcome_of.ensures.before c.outcome_of.ensures.after

pub loop-search-smaller : goal.loop-search-smaller
loop-search-smaller c =
    let f = c.args.field in
    let k = c.args.sketch in
    let old = c.loop-search.search in
    let new = c.try_groups.new.self in
    let limit : c.min-limit.result ≡ min c.args.most (old.made + c.args.at_once) = omega (arith, c.min-limit.ensures, c.saturating_add-raised.ensures, c.ranges.most) in
    let up = rises (scale_of f.by) f.graph.now c.requires.field.graph (walks_of k) k.bounds c.args.groups.now c.args.at_once c.args.most c.weight_of-before.result c.requires.fitting old.sketch old.weight old.made c.loop-search.invariant c.loop-search-test.true new.sketch new.weight new.made f.first.now c.min-limit.result c.requires.first limit c.in_ok-try_groups.ensures.settled c.in_ok-try_groups.ensures.tried c.if-search-made.false in
    omega (arith, up, c.loop-search-test.true)

pub loop-search-preserved : goal.loop-search-preserved
loop-search-preserved c =
    let f = c.args.field in
    let k = c.args.sketch in
    let old = c.loop-search.search in
    let new = c.try_groups.new.self in
    let limit : c.min-limit.result ≡ min c.args.most (old.made + c.args.at_once) = omega (arith, c.min-limit.ensures, c.saturating_add-raised.ensures, c.ranges.most) in
    passes_more (scale_of f.by) f.graph.now c.requires.field.graph (walks_of k) k.bounds c.args.groups.now c.args.at_once c.args.most c.weight_of-before.result c.requires.fitting old.sketch old.weight old.made c.loop-search.invariant c.loop-search-test.true new.sketch new.weight new.made f.first.now c.min-limit.result c.requires.first limit c.in_ok-try_groups.ensures.settled c.in_ok-try_groups.ensures.tried c.if-search-made.false

-- or all attempts were made
pub returns : goal.returns
returns c =
    let f = c.args.field in
    let k = c.args.sketch in
    let old = c.loop-search.search in
    outcome_is f.graph.now c.requires.field.graph (scale_of f.by) k c.requires.legal c.requires.whole (attempts_of c.args.groups.now) c.args.at_once c.args.most old.sketch old.weight old.made c.weight_of-before.result c.outcome_of-2.result
    c.loop-search.invariant.good c.loop-search.invariant.settled.weight_is c.loop-search.invariant.no_heavier
    (c.weight_of-before.ensures.weight ∙ ap (λ (ps : List GridPoint). sketch_weight (scale_of f.by) f.graph.now ps k) c.requires.first)
    (passes_end (scale_of f.by) f.graph.now c.requires.field.graph (walks_of k) k.bounds c.args.groups.now c.args.at_once c.args.most c.weight_of-before.result c.requires.fitting old.sketch old.weight old.made c.loop-search.invariant c.loop-search-test.false) c.outcome_of-2.ensures.drawing c.outcome_of-2.ensures.made c.outcome_of-2.ensures.before c.outcome_of-2.ensures.after
