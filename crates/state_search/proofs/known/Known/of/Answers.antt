use Rattle.std.proofs.Common.{sym, ◌∙◌, ap, subst, ℕ, ◌<◌, ◌%◌, Option, List, length}
use Rattle.state_search.specs.Searching.{known_at}
use Rattle.state_search.specs.Rows.{costs_of}
use Rattle.state_search.specs.declared.row.Row.{Row}
use Rattle.state_search.proofs.RowTables.{known_at-costs_in, length-costs_in}
use Rattle.state_search.proofs.known.Known.of.Goals as goal

pub returns : goal.returns
returns c =
    let rows = c.self.inside.rows in
    let n = c.self.inside.count in
    let below : c.args.at < n =
    subst (λ (k : ℕ). c.args.at < k) (length-costs_in rows n) (subst (λ (t : List (Option ℕ)). c.args.at < length t) (sym c.self.view_is) c.requires) in
    c.known_in.ensures ∙ ap (λ (r : Option Row). known_at (costs_of r) (c.args.at % 9)) c.get.ensures.value ∙ sym (known_at-costs_in rows n c.args.at below)
    ∙ ap (λ (t : List (Option ℕ)). known_at t c.args.at) c.self.view_is
