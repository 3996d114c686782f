use Rattle.std.proofs.Common.{ℕ, Vec, ap, sym, ◌∙◌, arith}
use Rattle.std.specs.Global.{Global}
use Rattle.line_calls.specs.Tables.{is_last, lists_in}
use Rattle.line_calls.proofs.ListLemmas.{list_is, lists_count}
use Rattle.line_calls.proofs.Noting.{notes_already, notes_here}
use Rattle.line_calls.proofs.table.note_call.Goals as goal

pub returns-then-is_last : goal.returns-then-is_last
returns-then-is_last c =
    let table = c.args.table.now.items in
    let k = c.args.station.0 in
    notes_already c.args.line k (lists_in table) (ap (is_last c.args.line) (list_is table k c.index.result.now c.requires ∙ ap (λ (v : Vec ℕ Global). v.items) (sym c.index.ensures) ∙ sym c.as_slice.ensures.value) ∙ sym c.is_last.ensures ∙ c.if-is_last.true)

pub returns : goal.returns
returns c =
    let table = c.args.table.now.items in
    let k = c.args.station.0 in
    notes_here c.args.line k (lists_in table) (lists_in c.push_at.new.lists.items) (omega (arith, c.requires, lists_count table)) (ap (is_last c.args.line) (list_is table k c.index.result.now c.requires ∙ ap (λ (v : Vec ℕ Global). v.items) (sym c.index.ensures) ∙ sym c.as_slice.ensures.value) ∙ sym c.is_last.ensures ∙ c.if-is_last.false)
    c.in_ok-push_at.ensures
