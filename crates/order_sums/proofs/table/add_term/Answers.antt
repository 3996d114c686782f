use Rattle.std.proofs.Common.{List, [], set, get_or, sym, ap, subst, ◌∙◌}
use Rattle.std.specs.Prelude.{Vec}
use Rattle.std.specs.Global.{Global}
use Rattle.order_sums.specs.declared.pair_sums.PairSums.{PairSums}
use Rattle.order_sums.specs.PairSums.{with_sum}
use Rattle.order_sums.specs.PairTables.{IsTable, lists_of, sums_at, with_pair}
use Rattle.order_sums.proofs.TableLemmas.{term_added}
use Rattle.order_sums.proofs.table.add_term.Goals as goal

pub returns : goal.returns
returns c = λ w is.
    subst (IsTable (with_pair w c.args.into c.args.from c.args.term) c.args.lines.now)
    (sym (c.put-2.ensures ∙ ap (λ (t : List (List PairSums)). set t c.in-Some-place_of.q (set (get_or t c.in-Some-place_of.q []) c.in-Some.p c.with-turned.result)) c.put.ensures))
    (term_added w c.args.into c.args.from c.args.term c.lines_of.result.0 c.lines_of.result.1 c.lines_of.ensures c.args.lines.now (lists_of c.args.table.now.items) c.in-Some.p c.in-Some-place_of.q
    c.with-sums.result c.with-turned.result c.requires.rising c.in-Some.ensures c.in-Some-place_of.ensures
    (c.with-sums.ensures
    ∙ ap (λ (s : PairSums). with_sum s c.args.into c.args.from c.lines_of.result.0 c.lines_of.result.1 c.args.term)
    (c.sums_at.ensures ∙ ap (λ (ts : List (Vec PairSums Global)). sums_at (lists_of ts) c.in-Some.p c.in-Some-place_of.q) c.as_slice.ensures.value))
    (c.with-turned.ensures
    ∙ ap (λ (s : PairSums). with_sum s c.args.into c.args.from c.lines_of.result.1 c.lines_of.result.0 c.args.term)
    (c.sums_at-2.ensures ∙ ap (λ (ts : List (Vec PairSums Global)). sums_at (lists_of ts) c.in-Some-place_of.q c.in-Some.p) c.as_slice-2.ensures.value)) is)
