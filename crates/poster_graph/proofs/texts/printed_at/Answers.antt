use Rattle.std.proofs.Common.{◌≡◌, ◌<◌, Bool, false, get_or, length, ap, ◌∙◌, arith}
use Rattle.std.proofs.lemmas.List.{get_or_default}
use Rattle.poster_rules.specs.Texts.{all_rests, is_second, unless_second}
use Rattle.poster_graph.specs.Words.{text_in}
use Rattle.poster_graph.proofs.Words.{none_past}
use Rattle.poster_graph.proofs.texts.printed_at.Goals as goal

pub returns-then-n-nodes : goal.returns-then-n-nodes
returns-then-n-nodes c =
    let g = c.args.graph.now in
    let rests = all_rests c.args.names.now g in
    let n = c.args.n.0 in
    let seconds = c.args.texts.now.seconds.items in
    let low : n < length g.kinds = omega (arith, c.if-n-nodes.true) in
    let read : c.index.result.now ≡ get_or seconds n false = c.index.ensures ∙ get_or_default seconds n c.index.result.now false (omega (arith, low, c.requires.seconds.each)) in
    c.unless_second.ensures
    ∙ ap (λ (b : Bool). unless_second b (text_in c.rest_at-rest.result)) (read ∙ c.requires.seconds.of n low)
    ∙ ap (unless_second (is_second g rests n)) c.rest_at-rest.ensures

pub returns : goal.returns
returns c = none_past c.args.names.now c.args.graph.now c.args.n.0 (omega (arith, c.if-n-nodes.false))
