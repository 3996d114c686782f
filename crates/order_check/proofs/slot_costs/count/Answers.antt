use Rattle.std.proofs.Common.{◌≡◌, ℕ, ◌*◌, ◌<◌, ◌∙◌, List, length, take, get_or, ap, sym, arith, refl, rules}
use Rattle.std.specs.Prelude.{ℤ}
use Rattle.std.specs.List.{sum_by}
use Rattle.std.proofs.lemmas.List.{take_all}
use Rattle.std.proofs.lemmas.List.Sums.{sum_by_more}
use Rattle.map_base.specs.declared.ids.LineId.{LineId}
use Rattle.whole_sums.specs.Sums.{int_sum}
use Rattle.order_check.specs.declared.slot.PartTerm.{PartTerm}
use Rattle.order_check.specs.Slots.{cost_at}
use Rattle.order_check.specs.Charging.{no_part_term}
use Rattle.order_check.specs.Counting.{added_by, decided_of, shifted}
use Rattle.order_check.proofs.SignedSums.{sum_more}
use Rattle.order_check.proofs.Counting.{added_small, small_sum, shifted_more, shifted_small, shifted_none}
use Rattle.order_check.proofs.slot_costs.count.Goals as goal
use Rattle.std.specs.Int.{w128}
use Rattle.std.proofs.lemmas.Int.{to_z-of_z}

pub count_term-added-requires-clause-small : goal.count_term-added-requires-clause-small
count_term-added-requires-clause-small c = λ k x below.
    (let segs : List (List LineId) = c.args.problem.now.segs in
    let placed : List (List LineId) = c.args.prefix.now.placed in
    let f : PartTerm → ℤ = added_by segs placed k x in
    let most = small_sum f c.args.terms.now no_part_term c.loop-i.i (λ j h. added_small segs placed k x (get_or c.args.terms.now j no_part_term) (c.requires.terms j no_part_term h))
    (omega (arith, c.loop-i-test.true)) in
    let old = c.requires.small k x (omega (arith, below, c.loop-i.invariant.each)) in
    let sum = shifted_small c.args.off (cost_at c.args.costs.now k x) (int_sum f (take c.loop-i.i c.args.terms.now)) 8192000000000 (256000 * c.loop-i.i) old most in
    rw (c.loop-i.invariant.slots k below x) (omega (arith, sum, c.loop-i-test.true, c.requires.few)))

pub loop-i-init : goal.loop-i-init
loop-i-init c = record {
  decided = refl;
  most = omega arith;
  each = refl;
  least = to_z-of_z w128 c.args.least c.ranges.least ∙ c.requires.least;
  slots = λ k below x. shifted_none c.args.off (cost_at c.args.costs.now k x);
}

pub loop-i-preserved : goal.loop-i-preserved
loop-i-preserved c =
    let segs : List (List LineId) = c.args.problem.now.segs in
    let placed : List (List LineId) = c.args.prefix.now.placed in
    let terms : List PartTerm = c.args.terms.now in
    let i : ℕ = c.loop-i.i in record {
      decided = (omega (arith, c.loop-i.invariant.decided, c.count_term-added.ensures.decided, sum_by_more (decided_of segs placed) terms i no_part_term c.loop-i-test.true));
      most = omega (arith, c.loop-i.invariant.most, c.count_term-added.ensures.most);
      each = omega (arith, c.loop-i.invariant.each, c.count_term-added.auto.costs);
      least = to_z-of_z w128 c.count_term-added.result.least (search rules) ∙ c.count_term-added.ensures.least;
      slots = λ k below x.
          (let f : PartTerm → ℤ = added_by segs placed k x in
          let under : k < length c.loop-i.costs = omega (arith, below, c.count_term-added.auto.costs) in
          shifted_more c.args.off (cost_at c.args.costs.now k x) (int_sum f (take i terms)) (f (get_or terms i no_part_term)) (cost_at c.count_term-added.new.costs k x)
          (c.count_term-added.ensures.slots k under x ∙ ap (λ v. shifted c.args.off v (f (get_or terms i no_part_term))) (c.loop-i.invariant.slots k under x))
          ∙ ap (shifted c.args.off (cost_at c.args.costs.now k x)) (sym (sum_more f terms i no_part_term c.loop-i-test.true)));
    }

pub returns : goal.returns
returns c =
    let all : take c.loop-i.i c.args.terms.now ≡ c.args.terms.now = take_all c.loop-i.i c.args.terms.now (omega (arith, c.loop-i-test.false)) in record {
      decided = c.loop-i.invariant.decided ∙ ap (sum_by (decided_of c.args.problem.now.segs c.args.prefix.now.placed)) all;
      most = omega (arith, c.loop-i.invariant.most, c.loop-i.auto.i-end, c.requires.few);
      least = c.loop-i.invariant.least;
      slots = λ k below x. c.loop-i.invariant.slots k (omega (arith, below, c.loop-i.invariant.each)) x
          ∙ ap (λ ts. shifted c.args.off (cost_at c.args.costs.now k x) (int_sum (added_by c.args.problem.now.segs c.args.prefix.now.placed k x) ts)) all;
    }
