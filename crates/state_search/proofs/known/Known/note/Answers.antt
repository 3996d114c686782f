use Rattle.std.proofs.Common.{sym, ◌∙◌, ap, subst, ℕ, ◌<◌, ◌%◌, Option, Some, List, length, set}
use Rattle.state_search.specs.Rows.{costs_of}
use Rattle.state_search.proofs.RowTables.{costs_in-more, length-costs_in}
use Rattle.state_search.proofs.known.Known.note.Goals as goal

pub returns : goal.returns
returns c =
    let rows = c.self.inside.rows in
    let n = c.self.inside.count in
    let below : c.args.at < n =
    subst (λ (k : ℕ). c.args.at < k) (length-costs_in rows n) (subst (λ (t : List (Option ℕ)). c.args.at < length t) (sym c.self.view_is) c.requires) in
    costs_in-more rows c.insert.new.self n c.args.at c.args.cost c.note.new.self below
    (c.note.ensures.value ∙ ap (λ (t : List (Option ℕ)). set t (c.args.at % 9) (Some c.args.cost)) (c.or_unknown-row.ensures.value ∙ ap costs_of (c.copied.ensures ∙ c.get.ensures.value)))
    c.note.ensures.whole c.in_ok-insert.ensures.updates.0
    ∙ ap (λ (t : List (Option ℕ)). set t c.args.at (Some c.args.cost)) c.self.view_is
