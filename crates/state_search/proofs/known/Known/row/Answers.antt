use Rattle.std.proofs.Common.{sym, ◌∙◌, ap, subst, ℕ, ◌+◌, ◌*◌, ◌≤◌, Option, List, length}
use Rattle.state_search.specs.Rows.{costs_of, row_at}
use Rattle.state_search.proofs.RowTables.{length-costs_in, row_at-costs_in}
use Rattle.state_search.proofs.known.Known.row.Goals as goal

pub returns-clause-value : goal.returns-clause-value
returns-clause-value c =
    let rows = c.self.inside.rows in
    let n = c.self.inside.count in
    let fits : c.args.place * 9 + 9 ≤ n =
    subst (λ (k : ℕ). c.args.place * 9 + 9 ≤ k) (length-costs_in rows n) (subst (λ (t : List (Option ℕ)). c.args.place * 9 + 9 ≤ length t) (sym c.self.view_is) c.requires) in
    let is = c.or_unknown.ensures.value ∙ ap costs_of (c.copied.ensures ∙ c.get.ensures.value) in
    is ∙ row_at-costs_in rows n c.args.place fits (ap length (sym is) ∙ c.or_unknown.ensures.whole)
    ∙ ap (λ (t : List (Option ℕ)). row_at t c.args.place) c.self.view_is
