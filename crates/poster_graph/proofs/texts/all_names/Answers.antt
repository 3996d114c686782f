use Rattle.std.proofs.Common.{List, ℕ, ◌++◌, ap, sym, ◌∙◌, arith}
use Rattle.poster_rules.specs.Texts.{node_names}
use Rattle.poster_graph.proofs.Words.{names_more}
use Rattle.poster_graph.proofs.texts.all_names.Goals as goal

pub loop-n-preserved : goal.loop-n-preserved
loop-n-preserved c =
    let names = c.args.names.now in
    c.in_ok-put_name.ensures
    ∙ ap (λ (ns : List (List ℕ)). ns ++ node_names names c.kind.result) c.loop-n.invariant
    ∙ sym (names_more names c.args.graph.now.kinds c.loop-n.n c.kind.result (omega arith) c.kind.ensures)
