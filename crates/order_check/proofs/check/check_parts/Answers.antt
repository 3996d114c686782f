use Rattle.std.proofs.Common.{◌≡◌, ◌∙◌, ℕ, ◌<◌, ◌^◌, List, [], length, map, get_or, sym, ap, subst, arith, rules, None}
use Rattle.std.specs.List.{All}
use Rattle.std.proofs.lemmas.List.{length-map}
use Rattle.std.proofs.lemmas.Result.{err_from_is_err_and}
use Rattle.map_base.specs.declared.ids.SegId.{SegId}
use Rattle.order_model.specs.declared.term.Term.{Term}
use Rattle.order_model.specs.Gathering.{part_lists}
use Rattle.order_model.proofs.Placing.{length-part_lists}
use Rattle.order_proof.specs.Plain.{plain_part}
use Rattle.order_model.specs.PartTerms.{part_numbers}
use Rattle.order_model.specs.Parts.{IsRisingPart}
use Rattle.order_model.specs.Numbers.{TellPart}
use Rattle.order_model.proofs.PartLists.{part_at, part_known_at, parts_few_at}
use Rattle.order_model.proofs.PartNumbers.{tell_part_at}
use Rattle.order_model.proofs.KeptTerms.{group_items}
use Rattle.order_check.specs.Verdict.{part_refusal, IsCause}
use Rattle.order_check.proofs.Verdicts.{proof_at, tree_at, part_missing, part_left_over, part_passed, part_refused}
use Rattle.order_check.proofs.check.check_parts.Goals as goal

pub overflow_cast-k : goal.overflow_cast-k
overflow_cast-k c =
    let few = parts_few_at c.args.problem.now.segs c.args.problem.now.terms c.args.parts.now c.requires.parts in
    let below : c.loop-k.k < 2 ^ 32 = omega (arith, few, c.loop-k-test.true, c.requires.problem.few_choices) in
    search rules

pub overflow_cast-k-in-loop-k : goal.overflow_cast-k-in-loop-k
overflow_cast-k-in-loop-k c =
    let few = parts_few_at c.args.problem.now.segs c.args.problem.now.terms c.args.parts.now c.requires.parts in
    let below : c.loop-k.k < 2 ^ 32 = omega (arith, few, c.loop-k-test.true, c.requires.problem.few_choices) in
    search rules

pub overflow_cast-parts : goal.overflow_cast-parts
overflow_cast-parts c =
    let few = parts_few_at c.args.problem.now.segs c.args.problem.now.terms c.args.parts.now c.requires.parts in
    let below : length c.args.parts.now < 2 ^ 32 = omega (arith, few, c.requires.problem.few_choices) in
    search rules

pub returns-then-k-proofs-clause-refused : goal.returns-then-k-proofs-clause-refused
returns-then-k-proofs-clause-refused c =
    rw c.part_alone.ensures
    (part_missing c.args.problem.now.segs c.args.problem.now.terms (part_lists c.args.parts.now) (map plain_part c.args.proofs.now) c.loop-k.k []
    (omega (arith, length-part_lists c.args.parts.now, c.loop-k-test.true)) (omega (arith, length-map c.args.proofs.now plain_part, c.if-k-proofs.true)) c.loop-k.invariant.1)

pub returns-then-proofs-parts-clause-refused : goal.returns-then-proofs-parts-clause-refused
returns-then-proofs-parts-clause-refused c =
    let k : c.loop-k.k ≡ length c.args.parts.now = omega (arith, c.loop-k-test.false, c.loop-k.auto.k-end) in
    rw (c.part_alone-then-proofs-parts.ensures, sym k)
    (part_left_over c.args.problem.now.segs c.args.problem.now.terms (part_lists c.args.parts.now) (map plain_part c.args.proofs.now) c.loop-k.k
    (omega (arith, length-part_lists c.args.parts.now, c.loop-k-test.false)) (omega (arith, length-map c.args.proofs.now plain_part, k, c.if-proofs-parts.true)) c.loop-k.invariant.1)

pub check_part-requires-clause-known : goal.check_part-requires-clause-known
check_part-requires-clause-known c =
    subst (λ (p : List SegId). All (λ (s : SegId). s.0 < length c.args.problem.now.segs) p) (sym c.as_slice-in-loop-k.ensures.value)
    (part_known_at c.args.problem.now.segs c.args.problem.now.terms c.args.parts.now c.loop-k.k c.index-parts-k.result c.requires.parts c.loop-k-test.true c.index-parts-k.is)

pub check_part-requires-clause-numbers : goal.check_part-requires-clause-numbers
check_part-requires-clause-numbers c =
    let count : ℕ = length c.args.problem.now.segs in
    let told = tell_part_at c.args.problem.now.segs c.args.problem.now.terms c.args.parts.now c.loop-k.k c.index-parts-k.result c.in_ok-numbers.numbers.items
    c.requires.parts c.in_ok-numbers.ensures c.loop-k-test.true c.index-parts-k.is in
    let told_here = subst (λ (p : List SegId). TellPart p c.loop-k.k count c.in_ok-numbers.numbers.items) (sym c.as_slice-in-loop-k.ensures.value) told in
    subst (λ (ns : List ℕ). TellPart c.as_slice-in-loop-k.result.now c.loop-k.k count ns) (sym c.as_slice-in-loop-k-2.ensures.value) told_here

pub check_part-requires-clause-terms : goal.check_part-requires-clause-terms
check_part-requires-clause-terms c =
    let terms : List Term = c.args.problem.now.terms in
    c.as_slice-in-loop-k-3.ensures.value
    ∙ group_items terms c.args.parts.now c.in_ok-groups.groups.items c.loop-k.k c.index-parts-k.result c.index.result.now c.in_ok-groups.ensures c.loop-k-test.true c.index-parts-k.is c.index.ensures
    ∙ sym (ap (part_numbers terms) c.as_slice-in-loop-k.ensures.value)

pub check_part-requires-clause-tree : goal.check_part-requires-clause-tree
check_part-requires-clause-tree c =
    tree_at c.args.proofs.now c.loop-k.k c.index-proofs-k.result c.requires.trees (omega (arith, c.if-k-proofs.false)) c.index-proofs-k.is

pub loop-k-preserved : goal.loop-k-preserved
loop-k-preserved c =
    let segs = c.args.problem.now.segs in
    let terms = c.args.problem.now.terms in
    let k : ℕ = c.loop-k.k in
    let proof = plain_part c.index-proofs-k.result in
    let below : k < length (part_lists c.args.parts.now) = omega (arith, length-part_lists c.args.parts.now, c.loop-k-test.true) in
    let here : c.as_slice-in-loop-k.result.now ≡ get_or (part_lists c.args.parts.now) k [] =
    c.as_slice-in-loop-k.ensures.value ∙ sym (part_at c.args.parts.now k c.index-parts-k.result c.loop-k-test.true c.index-parts-k.is) in
    let there = proof_at c.args.proofs.now k c.index-proofs-k.result (omega (arith, c.if-k-proofs.false)) c.index-proofs-k.is in
    let none = c.in_ok-check_part.ensures.accepted in
    let none_here = subst (λ (p : List SegId). part_refusal segs terms k p proof ≡ None) here none in
    let none_there = subst (λ p. part_refusal segs terms k (get_or (part_lists c.args.parts.now) k []) p ≡ None) there none_here in (
      omega (arith, c.if-k-proofs.false),
      part_passed segs terms (part_lists c.args.parts.now) (map plain_part c.args.proofs.now) k [] proof below
          (omega (arith, length-map c.args.proofs.now plain_part, c.if-k-proofs.false)) c.loop-k.invariant.1 none_there,
      c.check_part.ensures.fits,
      c.check_part.ensures.kept ∙ c.loop-k.invariant.3,
    )

pub returns-in_err-check_part-clause-refused : goal.returns-in_err-check_part-clause-refused
returns-in_err-check_part-clause-refused c =
    let segs = c.args.problem.now.segs in
    let terms = c.args.problem.now.terms in
    let k : ℕ = c.loop-k.k in
    let proof = plain_part c.index-proofs-k.result in
    let below : k < length (part_lists c.args.parts.now) = omega (arith, length-part_lists c.args.parts.now, c.loop-k-test.true) in
    let here : c.as_slice-in-loop-k.result.now ≡ get_or (part_lists c.args.parts.now) k [] =
    c.as_slice-in-loop-k.ensures.value ∙ sym (part_at c.args.parts.now k c.index-parts-k.result c.loop-k-test.true c.index-parts-k.is) in
    let there = proof_at c.args.proofs.now k c.index-proofs-k.result (omega (arith, c.if-k-proofs.false)) c.index-proofs-k.is in
    let some = c.in_err-check_part.ensures.refused in
    let some_here = subst (λ (p : List SegId). IsCause (part_refusal segs terms k p proof) c.in_err-check_part.field-0.0) here some in
    let some_there = subst (λ p. IsCause (part_refusal segs terms k (get_or (part_lists c.args.parts.now) k []) p) c.in_err-check_part.field-0.0) there some_here in
    let p = err_from_is_err_and c.from_residual-in_err-check_part.result c.from_residual-in_err-check_part.ensures.1 in
    rw (p.1, p.2)
    (part_refused segs terms (part_lists c.args.parts.now) (map plain_part c.args.proofs.now) k [] proof c.in_err-check_part.field-0.0 below
    (omega (arith, length-map c.args.proofs.now plain_part, c.if-k-proofs.false)) c.loop-k.invariant.1 some_there)

pub check_part-requires-clause-rising : goal.check_part-requires-clause-rising
check_part-requires-clause-rising c =
    subst IsRisingPart (part_at c.args.parts.now c.loop-k.k c.index-parts-k.result c.loop-k-test.true c.index-parts-k.is ∙ sym c.as_slice-in-loop-k.ensures.value)
    (c.requires.parts.rising c.loop-k.k [] (omega (arith, length-part_lists c.args.parts.now, c.loop-k-test.true)))
