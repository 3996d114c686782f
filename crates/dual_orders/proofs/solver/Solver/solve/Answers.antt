use Rattle.std.proofs.Common.{length, take, ◌∙◌, ap, arith}
use Rattle.std.proofs.lemmas.List.{with_items_is}
use Rattle.subset_program.specs.PlainRows.{plain_rows}
use Rattle.dual_orders.proofs.Solving.{solver_tells}
use Rattle.dual_orders.proofs.solver.Solver.solve.Goals as goal

pub returns-clause-found : goal.returns-clause-found
returns-clause-found c = λ costs settled tells. (
    ap (take (length c.args.lines.now))
    (with_items_is c.args.self.now.found c.take_least_ahead.new.found
    (c.take_least_ahead.auto.found ∙ c.as_mut_slice-2.ensures.len))
    ∙ c.take_least_ahead.ensures.found costs settled
    (solver_tells c.args.lines.now c.args.self.now (plain_rows c.with_ahead-rows.result) c.requires.room
    c.requires.ready c.requires.few c.with_ahead-rows.ensures.count c.with_ahead-rows.ensures.before
    c.with_ahead-rows.ensures.beside (c.with_ahead-rows.ensures.ahead ∙ c.as_slice.ensures.value) costs settled tells))

pub returns-clause-room : goal.returns-clause-room
returns-clause-room c = λ width h. record {
  rows = h.rows;
  ahead = h.ahead;
  places =
      ap length (with_items_is c.args.self.now.places c.take_least_ahead.new.places
      (c.take_least_ahead.auto.places ∙ c.as_mut_slice.ensures.len))
      ∙ (c.take_least_ahead.auto.places ∙ (ap length c.as_mut_slice.ensures.value ∙ h.places));
  found =
      ap length (with_items_is c.args.self.now.found c.take_least_ahead.new.found
      (c.take_least_ahead.auto.found ∙ c.as_mut_slice-2.ensures.len))
      ∙ (c.take_least_ahead.auto.found ∙ (ap length c.as_mut_slice-2.ensures.value ∙ h.found));
  program = let same = c.take_least_ahead.ensures.room in let room = h.program in omega (arith, same, room);
}
