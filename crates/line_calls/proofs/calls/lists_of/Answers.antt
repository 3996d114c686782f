use Rattle.std.proofs.Common.{◌++◌, ◌∷◌, [], List, ap, sym, ◌∙◌, arith}
use Rattle.map_base.specs.declared.ids.LineId.{LineId}
use Rattle.line_calls.specs.Tables.{lists_in, numbers_at}
use Rattle.line_calls.proofs.Calling.{one_kind_more}
use Rattle.line_calls.proofs.calls.lists_of.Goals as goal

pub loop-n-preserved : goal.loop-n-preserved
loop-n-preserved c =
    let table = lists_in c.args.table.now in
    c.in_ok-push.ensures.items
    ∙ ap (λ (ls : List LineId). c.loop-n.lists.items ++ ls ∷ []) c.in_ok-lines_of.ensures
    ∙ ap (λ (lists : List (List LineId)). lists ++ numbers_at table c.kind.result ∷ []) c.loop-n.invariant
    ∙ sym (one_kind_more table c.args.graph.now.kinds c.loop-n.n c.kind.result (omega arith) c.kind.ensures)
