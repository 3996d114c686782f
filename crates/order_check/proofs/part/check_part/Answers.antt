use Rattle.std.proofs.Common.{ℕ, ◌<◌, ◌∙◌, List, length, ap, sym, subst, arith}
use Rattle.std.specs.List.{All}
use Rattle.std.proofs.lemmas.List.{length-map}
use Rattle.order_model.specs.declared.term.Term.{Term}
use Rattle.order_model.specs.PartTerms.{part_terms, terms_by_number}
use Rattle.order_model.proofs.KeptTerms.{part_terms_few, part_numbers_known, part_terms_by_number}
use Rattle.order_check.specs.PartTables.{IsPartTable}
use Rattle.order_check.proofs.part.check_part.Goals as goal

pub part_table-requires : goal.part_table-requires
part_table-requires c = record {
  problem = c.requires.problem;
  known = subst (All (λ n. n < length c.args.problem.now.terms)) (sym c.requires.terms) (part_numbers_known c.args.segs.now c.args.problem.now.terms);
  few = omega (
    arith,
    ap length c.requires.terms,
    length-map (part_terms c.args.problem.now.terms c.args.segs.now) (λ (q : ℕ × Term). q.0),
    part_terms_few c.args.segs.now c.args.problem.now.terms,
    c.requires.problem.few_terms,
  );
}

pub check_tree-requires-clause-asked : goal.check_tree-requires-clause-asked
check_tree-requires-clause-asked c = record {
  problem = c.requires.problem;
  rising = c.requires.rising;
  known = c.requires.known;
  numbers = c.requires.numbers;
  terms = c.requires.terms;
  table = subst (λ (ts : List (ℕ × Term)). IsPartTable ts c.in_ok-table-in-ByCases.table.terms.items c.in_ok-table-in-ByCases.table.slots.keys)
      (ap (terms_by_number c.args.problem.now.terms) c.requires.terms ∙ part_terms_by_number c.args.segs.now c.args.problem.now.terms) c.in_ok-table-in-ByCases.ensures.table;
  spots = c.in_ok-table-in-ByCases.ensures.spots;
}
