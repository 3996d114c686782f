use Rattle.std.proofs.Common.{◌≡◌, ◌∙◌, sym, ap, ap₂, subst, ◌+◌, ◌-◌, Bool, Some, arith}
use Rattle.drawing_search.proofs.Common.{laid, laid_within, limit_between, point_of_node, scale_of, slice_index}
use Rattle.drawing_search.proofs.Common.{straight_way, AreAlike, GridPoint, IsLaid, NodeId, Sketch}
use Rattle.drawing_search.proofs.Alikes.{alike_self}
use Rattle.drawing_search.proofs.LayingAll.{laid_from_within}
use Rattle.drawing_search.proofs.LaidBack.{one_back, one_fails, one_heavy, one_inner, one_legal, one_takable}
use Rattle.drawing_search.proofs.RunReads.{run_from, run_to}
use Rattle.drawing_search.proofs.trying.Search.lay_run.Goals as goal

pub point-from-requires : goal.point-from-requires
point-from-requires c = omega (arith, run_from c.args.field.graph.now c.requires.field.graph c.args.run.now c.requires.run, c.requires.legal.points_each)

pub point-to-requires : goal.point-to-requires
point-to-requires c = omega (arith, run_to c.args.field.graph.now c.requires.field.graph c.args.run.now c.requires.run, c.requires.legal.points_each, ap (λ (n : NodeId). n.0) c.end-end.ensures)

pub walk_limit-most-requires-clause-enough : goal.walk_limit-most-requires-clause-enough
walk_limit-most-requires-clause-enough c =
    let to = c.point-to.ensures ∙ ap (λ (n : NodeId). point_of_node c.args.self.now.sketch n.0) c.end-end.ensures in
    omega (arith, c.requires.room, ap₂ (λ (p q : GridPoint). slice_index c.args.least.by (straight_way p q)) c.point-from.ensures to)

-- no walk within the limit
pub returns-then-not-branch-clause-laid : goal.returns-then-not-branch-clause-laid
returns-then-not-branch-clause-laid c =
    let f = c.args.field in
    let k = c.args.self.now.sketch in
    let w = c.args.self.now.weight in
    let most = c.walk_limit-most.result in
    let none = subst (λ (b : Bool). IsLaid (laid_within f.graph.now most c.args.run.now k) k c.lay.new.self b) c.if-not-branch.true c.in_ok-lay.ensures in
    let to = c.point-to.ensures ∙ ap (λ (n : NodeId). point_of_node k n.0) c.end-end.ensures in
    let limit = c.walk_limit-most.ensures.value ∙ ap₂ (λ (p q : GridPoint). limit_between c.args.least (w - 1 - c.args.weight - c.args.ahead) p q) c.point-from.ensures to in (
      subst (λ (j : Sketch). AreAlike j k) (sym none.1) (alike_self k),
      one_fails f.graph.now c.requires.field.graph c.args.run.now k c.requires.legal c.requires.run c.requires.free (scale_of f.by) f.first.now c.args.least c.requires.bound w c.args.weight c.args.ahead most (omega (arith, c.requires.room)) limit none.0,
    )

pub run_gain-gain-requires-clause-legal : goal.run_gain-gain-requires-clause-legal
run_gain-gain-requires-clause-legal c =
    let f = c.args.field in
    let k = c.args.self.now.sketch in
    let mid = c.lay.new.self in
    let there : laid f.graph.now c.args.run.now k ≡ Some mid = laid_from_within f.graph.now c.walk_limit-most.result c.args.run.now k mid (subst (λ (b : Bool). IsLaid (laid_within f.graph.now c.walk_limit-most.result c.args.run.now k) k mid b) c.if-not-branch.false c.in_ok-lay.ensures) in
    one_legal f.graph.now c.requires.field.graph c.args.run.now k c.requires.legal c.requires.run c.requires.free mid there

pub run_gain-gain-requires-clause-inner : goal.run_gain-gain-requires-clause-inner
run_gain-gain-requires-clause-inner c =
    let f = c.args.field in
    let k = c.args.self.now.sketch in
    let mid = c.lay.new.self in
    let there : laid f.graph.now c.args.run.now k ≡ Some mid = laid_from_within f.graph.now c.walk_limit-most.result c.args.run.now k mid (subst (λ (b : Bool). IsLaid (laid_within f.graph.now c.walk_limit-most.result c.args.run.now k) k mid b) c.if-not-branch.false c.in_ok-lay.ensures) in
    one_inner f.graph.now c.requires.field.graph c.args.run.now k c.requires.legal c.requires.run c.requires.free mid there

-- too heavy
pub take_run-requires-clause-takable : goal.take_run-requires-clause-takable
take_run-requires-clause-takable c =
    let f = c.args.field in
    let k = c.args.self.now.sketch in
    let mid = c.lay.new.self in
    let there : laid f.graph.now c.args.run.now k ≡ Some mid = laid_from_within f.graph.now c.walk_limit-most.result c.args.run.now k mid (subst (λ (b : Bool). IsLaid (laid_within f.graph.now c.walk_limit-most.result c.args.run.now k) k mid b) c.if-not-branch.false c.in_ok-lay.ensures) in
    one_takable f.graph.now c.requires.field.graph c.args.run.now k c.requires.legal c.requires.run c.requires.free mid there

pub returns-then-whole-self-clause-laid : goal.returns-then-whole-self-clause-laid
returns-then-whole-self-clause-laid c =
    let f = c.args.field in
    let k = c.args.self.now.sketch in
    let mid = c.lay.new.self in
    let there : laid f.graph.now c.args.run.now k ≡ Some mid = laid_from_within f.graph.now c.walk_limit-most.result c.args.run.now k mid (subst (λ (b : Bool). IsLaid (laid_within f.graph.now c.walk_limit-most.result c.args.run.now k) k mid b) c.if-not-branch.false c.in_ok-lay.ensures) in (
      subst (λ (j : Sketch). AreAlike j k) (sym c.take_run.ensures) (one_back f.graph.now c.requires.field.graph c.args.run.now k c.requires.legal c.requires.run c.requires.free mid there),
      one_heavy f.graph.now c.requires.field.graph c.args.run.now k c.requires.legal c.requires.run c.requires.free mid there (scale_of f.by) f.first.now c.args.self.now.weight c.args.weight c.args.ahead (omega (arith, c.run_gain-gain.ensures.gain, c.if-whole-self.true)),
    )

pub returns-clause-laid : goal.returns-clause-laid
returns-clause-laid c =
    let f = c.args.field in
    let k = c.args.self.now.sketch in
    let mid = c.lay.new.self in
    let there : laid f.graph.now c.args.run.now k ≡ Some mid = laid_from_within f.graph.now c.walk_limit-most.result c.args.run.now k mid (subst (λ (b : Bool). IsLaid (laid_within f.graph.now c.walk_limit-most.result c.args.run.now k) k mid b) c.if-not-branch.false c.in_ok-lay.ensures) in
    (there, ap (λ g. c.args.weight + g) c.run_gain-gain.ensures.gain, omega (arith, c.if-whole-self.false))
