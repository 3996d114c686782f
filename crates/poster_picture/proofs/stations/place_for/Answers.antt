use Rattle.std.proofs.Common.{length, sym, ◌∙◌, arith}
use Rattle.std.proofs.lemmas.List.Sums.{position_or_len_is}
use Rattle.poster_rules.specs.Posters.{goes_before}
use Rattle.poster_picture.proofs.Sorting.{no_segment}
use Rattle.poster_picture.proofs.stations.place_for.Goals as goal

pub returns-clause-value : goal.returns-clause-value
returns-clause-value c =
    sym (position_or_len_is (goes_before c.args.graph.now.lines c.args.s) c.args.sorted.now (length c.args.sorted.now) no_segment (omega arith) (λ k low. c.loop-place.invariant k (omega arith)) (λ low. absurd (omega arith)))

pub returns-then-goes_before-clause-value : goal.returns-then-goes_before-clause-value
returns-then-goes_before-clause-value c =
    sym (position_or_len_is (goes_before c.args.graph.now.lines c.args.s) c.args.sorted.now c.loop-place.place no_segment (omega arith) c.loop-place.invariant (λ _. sym c.goes_before.ensures ∙ c.if-goes_before.true))
