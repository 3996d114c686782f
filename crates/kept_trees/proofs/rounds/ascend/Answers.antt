use Rattle.std.proofs.Common.{◌≡◌, subst, arith, inl, inr, true≢false}
use Rattle.dual_ascent.specs.Rounds as rounds
use Rattle.dual_orders.specs.SettledPairs.{pairs_of}
use Rattle.dual_orders.specs.Values.{incumbent_of}
use Rattle.kept_trees.specs.declared.rounds.Stage.{Stage}
use Rattle.kept_trees.specs.Searching.{search_of, ascent_of, StageIs}
use Rattle.kept_trees.proofs.Composing.{rounds_end, closed_is}
use Rattle.kept_trees.proofs.rounds.ascend.Goals as goal

pub returns-in-Going : goal.returns-in-Going
returns-in-Going g c =
    let q : rounds.Search = search_of c.args.search.now in
    let settled = pairs_of c.args.settled.now in
    let a : rounds.Ascent = ascent_of c.go_on.new.now c.go_on.new.ascent in
    let all : rounds.Stage = rounds.rounds q settled c.args.most (ascent_of c.args.now.now c.args.ascent.now) in
    let over : all ≡ rounds.over a =
    elim c.in-Going.is [
      | inl e ↦ absurd
          (rounds_end q settled c.args.most (ascent_of c.args.now.now c.args.ascent.now) a
          (subst (λ (s : Stage). StageIs s a all) e c.go_on.ensures.stage))
      | inr e ↦ subst (λ (s : Stage). StageIs s a all) e c.go_on.ensures.stage
    ] in
    let closed = closed_is q settled all a
    (incumbent_of c.offer_averaged.new.now.incumbent) c.offer_averaged.new.now.branches over
    c.offer_averaged.ensures.offered c.offer_averaged.ensures.branches in
    record {
      answers = c.go_on.ensures.answers;
      now = c.offer_averaged.ensures.now;
      ascent = c.go_on.ensures.ascent;
      over = λ so. closed;
      spent = λ so. absurd (true≢false so);
      steps = omega (arith, c.go_on.ensures.steps, c.offer_averaged.ensures.branches);
    }
