use Rattle.std.proofs.Common.{◌<◌, ◌^◌, length, sym, ap, rules, arith, subst}
use Rattle.std.specs.List.{All}
use Rattle.map_base.specs.declared.ids.SegId.{SegId}
use Rattle.order_model.specs.Numbers.{AreGiven}
use Rattle.order_model.proofs.PartLists.{parts_few_at, part_known_at}
use Rattle.order_model.proofs.Numbering.{one_part_more}
use Rattle.order_model.proofs.part_numbers.numbers_of.Goals as goal

pub overflow_cast-absent : goal.overflow_cast-absent
overflow_cast-absent c =
    let few = parts_few_at c.args.problem.now.segs c.args.problem.now.terms c.args.parts.now c.requires.parts in
    let below : length c.args.parts.now < 2 ^ 32 = omega (arith, few, c.segs-count.ensures.fits.few_choices) in
    search rules

pub overflow_cast-k : goal.overflow_cast-k
overflow_cast-k c =
    let few = parts_few_at c.args.problem.now.segs c.args.problem.now.terms c.args.parts.now c.requires.parts in
    let below : c.loop-k.k < 2 ^ 32 = omega (arith, few, c.loop-k-test.true, c.segs-count.ensures.fits.few_choices) in
    search rules

pub set_numbers-requires : goal.set_numbers-requires
set_numbers-requires c =
    let whole : All (λ (s : SegId). s.0 < length c.args.problem.now.segs) c.index-parts-k.result.items =
    part_known_at c.args.problem.now.segs c.args.problem.now.terms c.args.parts.now c.loop-k.k c.index-parts-k.result c.requires.parts c.loop-k-test.true c.index-parts-k.is in
    let all : All (λ (s : SegId). s.0 < length c.args.problem.now.segs) c.as_slice.result.now =
    subst (λ part. All (λ (s : SegId). s.0 < length c.args.problem.now.segs) part) (sym c.as_slice.ensures.value) whole in
    λ k d below. omega (arith, all k d below, c.loop-k.invariant.each, ap length c.as_mut_slice.ensures.value)

pub loop-k-preserved : goal.loop-k-preserved
loop-k-preserved c =
    let given : AreGiven c.index-parts-k.result.items c.loop-k.k c.as_mut_slice.result.now c.set_numbers.new.numbers =
    subst (λ part. AreGiven part c.loop-k.k c.as_mut_slice.result.now c.set_numbers.new.numbers) c.as_slice.ensures.value c.set_numbers.ensures in
    one_part_more c.args.problem.now.segs c.args.problem.now.terms c.args.parts.now c.loop-k.k c.loop-k.numbers.len c.index-parts-k.result c.loop-k.numbers.items c.set_numbers.new.numbers
    c.requires.parts c.loop-k-test.true c.index-parts-k.is c.loop-k.invariant
    (subst (λ before. AreGiven c.index-parts-k.result.items c.loop-k.k before c.set_numbers.new.numbers) c.as_mut_slice.ensures.value given)
    (omega (arith, c.loop-k.numbers.ok.0))
