use Rattle.std.proofs.Common.{◌≡◌, ◌≤◌, arith}
use Rattle.part_bounds.specs.PairGroups.{Group, group_in, terms_in}
use Rattle.part_bounds.proofs.KeptUp.{group_at, most_more}
use Rattle.part_bounds.proofs.pair_terms.most_terms.Goals as goal

own : (c : goal.After-greater-most) → c.len.result ≡ terms_in (group_in c.entry-item.result)
own c = omega (arith, c.len.ensures, c.entry-item.result.terms.ok.0)

pub loop-entry-preserved : goal.loop-entry-preserved
loop-entry-preserved c =
    let count = own c in
    record {
      each = most_more c.args.pairs.now c.loop-entry.entry-index c.entry-item.result c.loop-entry.most c.greater-most.result c.loop-entry-test.true c.entry-item.is c.loop-entry.invariant.each
          c.greater-most.ensures.first (omega (arith, count, c.greater-most.ensures.second));
      few = c.greater-most.ensures.one 4000000 c.loop-entry.invariant.few
          (let few = group_at (λ (g : Group). terms_in g ≤ 4000000) c.args.pairs.now c.loop-entry.entry-index c.entry-item.result c.requires c.loop-entry-test.true c.entry-item.is in omega (arith, count, few));
    }
