use Rattle.std.proofs.Common.{sym, ◌∙◌, ap, subst, ℕ, ◌+◌, ◌*◌, ◌≤◌, Option, List, length}
use Rattle.state_search.specs.Rows.{with_row}
use Rattle.state_search.proofs.RowTables.{costs_in-row, length-costs_in}
use Rattle.state_search.proofs.known.Known.put.Goals as goal

pub returns : goal.returns
returns c =
    let rows = c.self.inside.rows in
    let n = c.self.inside.count in
    let fits : c.args.place * 9 + 9 ≤ n =
    subst (λ (k : ℕ). c.args.place * 9 + 9 ≤ k) (length-costs_in rows n) (subst (λ (t : List (Option ℕ)). c.args.place * 9 + 9 ≤ length t) (sym c.self.view_is) c.requires.fits) in
    costs_in-row rows c.insert.new.self n c.args.place c.args.row fits c.requires.whole c.in_ok-insert.ensures.updates.0
    ∙ ap (λ (t : List (Option ℕ)). with_row t c.args.place c.args.row.costs) c.self.view_is
