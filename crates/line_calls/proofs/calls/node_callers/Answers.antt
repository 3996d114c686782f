use Rattle.std.proofs.Common.{◌≡◌, ℕ, List, Vec, length, sym, subst, ap, ◌∙◌, arith}
use Rattle.std.specs.Prelude.{All}
use Rattle.std.specs.Global.{Global}
use Rattle.transit_feed.specs.declared.pattern.Pattern.{Pattern}
use Rattle.transit_feed.specs.Feeds.{Feed, IsFeed}
use Rattle.line_calls.specs.Tables.{lists_in, AreInRange}
use Rattle.line_calls.proofs.ByLine.{by_line_known}
use Rattle.line_calls.proofs.Calling.{found_are}
use Rattle.line_calls.proofs.calls.node_callers.Goals as goal

pub call_table-requires-clause-known : goal.call_table-requires-clause-known
call_table-requires-clause-known c =
    subst (λ (lists : List (Vec ℕ Global)). All (AreInRange (length c.deref-3.result.now)) (lists_in lists)) (sym c.as_slice.ensures.value)
    (subst (λ (ps : List Pattern). All (AreInRange (length ps)) (lists_in c.in_ok-by_line.by_line.items)) (c.deref-2.ensures.value ∙ sym c.deref-3.ensures.value)
    (by_line_known c.deref.result.now c.deref-2.result.now (lists_in c.in_ok-by_line.by_line.items) c.in_ok-by_line.ensures))

pub returns : goal.returns
returns c =
    let count : c.len.result ≡ length c.tables.inside.stations.items = omega (arith, c.len.ensures, c.tables.inside.stations.ok.0) in
    c.of.ensures
    ∙ found_are c.args.tables.now (subst IsFeed c.tables.view_is c.tables.invariant) c.deref.result.now c.deref-2.result.now c.deref-3.result.now c.len.result c.in_ok-by_line.by_line.items c.as_slice.result.now c.in_ok-table.table.items c.as_slice-2.result.now
    c.args.graph.now.kinds c.in_ok-lists.lists.items
    (c.deref.ensures.value ∙ ap (λ (f : Feed). f.lines) c.tables.view_is) (c.deref-2.ensures.value ∙ ap (λ (f : Feed). f.patterns) c.tables.view_is) (c.deref-3.ensures.value ∙ ap (λ (f : Feed). f.patterns) c.tables.view_is)
    (count ∙ ap (λ (f : Feed). length f.stations) c.tables.view_is) c.as_slice.ensures.value c.in_ok-by_line.ensures c.in_ok-table.ensures c.as_slice-2.ensures.value c.in_ok-lists.ensures
