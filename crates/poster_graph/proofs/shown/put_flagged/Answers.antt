use Rattle.std.proofs.Common.{Bool, cond, [], ◌∷◌, ◌++◌, append-nil, ap, sym, ◌∙◌}
use Rattle.poster_rules.specs.Plans.{line_numbered}
use Rattle.poster_graph.proofs.shown.put_flagged.Goals as goal

pub returns-then-not-flag : goal.returns-then-not-flag
returns-then-not-flag c =
    let old = c.args.lines.now.items in
    sym (ap (λ (b : Bool). old ++ cond b (line_numbered c.args.number ∷ []) []) c.if-not-flag.true ∙ append-nil old)

pub returns : goal.returns
returns c =
    let old = c.args.lines.now.items in
    c.in_ok-push.ensures.items ∙ sym (ap (λ (b : Bool). old ++ cond b (line_numbered c.args.number ∷ []) []) c.if-not-flag.false)
