use Rattle.std.proofs.Common.{◌≡◌, ◌∙◌, ℕ, List, Option, Vec, option_map, ap, sym, subst}
use Rattle.std.specs.declared.alloc.Global.{Global}
use Rattle.table_rows.specs.Values.{rows_of}
use Rattle.table_rows.specs.Cells.{Row}
use Rattle.table_rows.specs.Outcome.{Answers, never}
use Rattle.sequence_tables.specs.Shapes.{shapes_of, shapes_of_file}
use Rattle.sequence_tables.proofs.shape_file.shapes_in_file.Goals as goal

pub returns-in_ok-rows-in-Some : goal.returns-in_ok-rows-in-Some
returns-in_ok-rows-in-Some c =
    let trips = c.args.trips.now in
    let rows : c.in_ok-rows-in-Some.rows ≡ rows_of c.in-Some.bytes.items = c.in_ok-rows-in-Some.ensures ∙ ap rows_of c.deref.ensures.value in
    subst (λ (b : Option (Vec ℕ Global)). Answers never (λ shapes. shapes) c.shapes_in.result (shapes_of_file trips (option_map {T = Vec ℕ Global} {U = List ℕ} (λ v. v.items) b))) (sym c.in-Some.is)
    (subst (λ (r : List Row). Answers never (λ shapes. shapes) c.shapes_in.result (shapes_of trips r)) rows c.shapes_in.ensures)
