use Rattle.std.proofs.Common.{List, ◌++◌, ◌∙◌, append-nil, refl, get_or, ap, sym, arith}
use Rattle.graph_core.specs.declared.parts.Join.{Join}
use Rattle.drawing_search.proofs.Common.{at_drop_all, joined_pairs, no_join, SegId}
use Rattle.drawing_search.proofs.FieldFacts.{pairs_more}
use Rattle.drawing_search.proofs.pairs.pairs_of.Goals as goal

pub loop-i-init : goal.loop-i-init
loop-i-init c = ap (λ (ps : List (SegId × SegId)). ps ++ joined_pairs c.args.joins.now) c.new-pairs.ensures.items

pub loop-i-preserved : goal.loop-i-preserved
loop-i-preserved c =
    let js = c.args.joins.now in
    let i = c.loop-i.i in
    pairs_more js i no_join (get_or js i no_join) c.is_followed.result c.loop-i.pairs.items c.push_pair.new.pairs.items c.loop-i-test.true c.requires refl c.is_followed.ensures c.in_ok-push_pair.ensures ∙ c.loop-i.invariant

pub returns : goal.returns
returns c =
    sym (append-nil c.loop-i.pairs.items)
    ∙ sym (at_drop_all (λ (js : List Join). c.loop-i.pairs.items ++ joined_pairs js) c.args.joins.now c.loop-i.i (omega arith))
    ∙ c.loop-i.invariant
