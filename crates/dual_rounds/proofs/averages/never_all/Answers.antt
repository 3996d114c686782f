use Rattle.std.proofs.Common.{◌++◌, sym, ◌∙◌, ap, arith}
use Rattle.std.proofs.lemmas.List.{drop_all, append-nil}
use Rattle.dual_ascent.specs.Averages.{never_all}
use Rattle.dual_rounds.proofs.averages.never_all.Goals as goal

pub returns : goal.returns
returns c =
    sym (append-nil c.loop-i.pairs.items)
    ∙ (ap (λ l. c.loop-i.pairs.items ++ never_all l) (sym (drop_all c.loop-i.i c.args.lines.now (omega (arith, c.loop-i-test.false)))) ∙ c.loop-i.invariant)
