use Rattle.std.proofs.Common.{◌≡◌, ◌<◌, ◌∙◌, ℕ, List, length, take, ap, sym, subst, arith, get_or, refl}
use Rattle.std.proofs.lemmas.List.{length-map, length-take-le}
use Rattle.order_model.specs.declared.term.Term.{Term}
use Rattle.order_model.specs.PartTerms.{terms_by_number, no_term}
use Rattle.order_check.specs.Slots.{plain_term}
use Rattle.order_check.specs.Spots.{term_lists, AreTwo}
use Rattle.order_check.specs.PartTables.{IsPartTable}
use Rattle.order_check.proofs.TableSteps.{few_slots, table_more, numbers_more}
use Rattle.order_check.proofs.SpotLists.{two_of_term, table_listed}
use Rattle.order_check.proofs.part_table.part_table.Goals as goal

pub part_term-requires : goal.part_term-requires
part_term-requires c =
    let terms : List Term = c.terms-terms.result.now in
    let some : List (ℕ × Term) = terms_by_number terms (take c.loop-n.n-index c.args.numbers.now) in
    let count : length some ≡ c.loop-n.n-index =
    omega (arith, length-map {B = ℕ × Term} (take c.loop-n.n-index c.args.numbers.now) (λ m. (m, get_or terms m no_term)), length-take-le c.loop-n.n-index c.args.numbers.now (omega (arith, c.loop-n-test.true))) in
    record { few = omega (arith, count, few_slots some, ap length c.loop-n.invariant.table.are_slots, c.loop-n-test.true, c.requires.few) }

pub next_place-place-requires : goal.next_place-place-requires
next_place-place-requires c =
    let some : List (ℕ × Term) = terms_by_number c.terms-terms.result.now (take c.loop-n.n-index c.args.numbers.now) in
    let count : length some ≡ c.loop-n.n-index =
    omega (arith, length-map {B = ℕ × Term} (take c.loop-n.n-index c.args.numbers.now) (λ m. (m, get_or c.terms-terms.result.now m no_term)), length-take-le c.loop-n.n-index c.args.numbers.now (omega (arith, c.loop-n-test.true))) in
    omega (
      arith,
      count,
      ap length c.as_slice.ensures.value,
      ap length c.loop-n.invariant.table.listed,
      length-map c.loop-n.entries.items plain_term,
      c.loop-n-test.true,
      c.requires.few,
    )

pub list_term-requires-clause-each : goal.list_term-requires-clause-each
list_term-requires-clause-each c = sym (length-map c.loop-n.spots.lists.items (λ v. v.items)) ∙ c.loop-n.invariant.spots.each

pub list_term-requires-clause-two : goal.list_term-requires-clause-two
list_term-requires-clause-two c =
    let terms : List Term = c.terms-terms.result.now in
    let n : ℕ = get_or c.args.numbers.now c.loop-n.n-index 0 in
    let same : terms ≡ c.args.problem.now.terms = c.terms-terms.ensures.list in
    let known : n < length c.args.problem.now.terms = c.requires.known c.loop-n.n-index 0 c.loop-n-test.true in
    let is : c.in_ok-entry.entry.term ≡ get_or terms n no_term = ap (λ (q : ℕ × Term). q.1) c.in_ok-entry.ensures.plain in
    subst AreTwo (sym (is ∙ ap (λ ts. get_or ts n no_term) same)) (two_of_term c.args.problem.now.segs (get_or c.args.problem.now.terms n no_term) (c.requires.problem.terms n no_term known))

pub loop-n-preserved : goal.loop-n-preserved
loop-n-preserved c =
    let terms : List Term = c.terms-terms.result.now in
    let n : ℕ = get_or c.args.numbers.now c.loop-n.n-index 0 in record {
      table = subst (λ (ts : List (ℕ × Term)). IsPartTable ts c.push.new.self.items c.part_term.new.slots.keys)
          (sym (numbers_more terms c.args.numbers.now c.loop-n.n-index n c.loop-n-test.true refl))
          (table_more (terms_by_number terms (take c.loop-n.n-index c.args.numbers.now)) c.loop-n.entries.items c.push.new.self.items c.loop-n.slots.keys c.part_term.new.slots.keys
          (n, get_or terms n no_term) c.in_ok-entry.entry c.loop-n.invariant.table c.in_ok-entry.ensures.plain c.in_ok-entry.ensures.slots c.in_ok-entry.ensures.ends c.in_ok-push.ensures.items);
      spots = table_listed c.loop-n.entries.items c.push.new.self.items c.in_ok-entry.entry c.next_place-place.result c.loop-n.spots.spots.keys c.list_term.new.table.spots.keys (term_lists c.loop-n.spots.lists.items)
          (term_lists c.list_term.new.table.lists.items) c.loop-n.invariant.spots c.in_ok-push.ensures.items
          (c.next_place-place.ensures ∙ ap length c.as_slice.ensures.value)
          (length-map c.list_term.new.table.lists.items (λ v. v.items) ∙ c.in_ok-list_term.ensures.each) c.in_ok-list_term.ensures.listed;
    }
