use Rattle.std.proofs.Common.{◌+◌, arith, sym, subst, take}
use Rattle.order_model.specs.declared.term.Term.TheVariants.{Side}
use Rattle.order_rules.specs.declared.merges.MergeWeights.{MergeWeights}
use Rattle.order_rules.specs.MergeWeights.{HaveWeights}
use Rattle.order_rules.proofs.MergeGains.{weights_more}
use Rattle.order_rules.proofs.merges.weights_of.Goals as goal

pub loop-term-preserved : goal.loop-term-preserved
loop-term-preserved c =
    let i = c.loop-term.term-index in
    let none = Side (record { 0 = 0 }) (record { 0 = 0 }) (record { 0 = 0 }) 0 in
    let Have : MergeWeights → Type 0 = λ ws. HaveWeights c.args.into c.args.from (take (i + 1) c.args.terms.now) c.args.a c.args.b ws in
    record {
      weights = subst Have (sym c.with_of-weights.ensures.sum)
          (weights_more c.args.into c.args.from c.args.a c.args.b c.args.terms.now i none c.loop-term.weights c.loop-term-test.true c.loop-term.invariant.weights);
      links = omega arith;
      aparts = omega arith;
      beside = omega arith;
      aparts_beside = omega arith;
    }
