use Rattle.std.proofs.Common.{◌≡◌, ℕ, List, [], Vec, get_or, length, ◌<◌, sym, subst, ◌∙◌, ap}
use Rattle.std.specs.Global.{Global}
use Rattle.line_calls.specs.Tables.{lists_in, served_by, AreInRange}
use Rattle.line_calls.proofs.ListLemmas.{list_is, lists_count}
use Rattle.line_calls.proofs.Noting.{table_more, table_none}
use Rattle.line_calls.proofs.table.call_table.Goals as goal

pub loop-line-init : goal.loop-line-init
loop-line-init c = table_none c.args.patterns.now (lists_in c.args.by_line.now) c.args.stations (lists_in c.in_ok-table.table.items) c.in_ok-table.ensures

pub note_line-requires-clause-known : goal.note_line-requires-clause-known
note_line-requires-clause-known c =
    let by_line = c.args.by_line.now in
    let line = c.loop-line.line in
    let read : c.as_slice.result.now ≡ get_or (lists_in by_line) line [] =
    c.as_slice.ensures.value ∙ ap (λ (v : Vec ℕ Global). v.items) c.index-by_line-line.is ∙ sym (list_is by_line line c.index-by_line-line.result c.loop-line-test.true) in
    subst (AreInRange (length c.args.patterns.now)) (sym read) (c.requires.known line [] (subst (λ (n : ℕ). line < n) (sym (lists_count by_line)) c.loop-line-test.true))

pub loop-line-preserved : goal.loop-line-preserved
loop-line-preserved c =
    let patterns = c.args.patterns.now in
    let by_line = c.args.by_line.now in
    let line = c.loop-line.line in
    let read : c.as_slice.result.now ≡ get_or (lists_in by_line) line [] =
    c.as_slice.ensures.value ∙ ap (λ (v : Vec ℕ Global). v.items) c.index-by_line-line.is ∙ sym (list_is by_line line c.index-by_line-line.result c.loop-line-test.true) in
    table_more patterns (lists_in by_line) c.args.stations line (served_by patterns c.as_slice.result.now) (lists_in c.loop-line.table.items) (lists_in c.note_line.new.table.items)
    (λ s. ap (λ (ns : List ℕ). served_by patterns ns s) read) c.loop-line.invariant c.in_ok-note_line.ensures
