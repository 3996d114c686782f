use Rattle.std.proofs.Common.{refl, sym, subst, ◌∙◌, ap, ap₂, ℕ, ◌<◌, Option, None, List, fold, get_or, arith}
use Rattle.octi_grid.specs.declared.dir.Dir.TheVariants as dir
use Rattle.drawing_search.proofs.Common.{direction, directions, fold_more, number_of, number_of-direction, take_all}
use Rattle.drawing_search.proofs.Common.{with_first_by, with_last_by, Dir, IsSmallOver, LeastTurns}
use Rattle.drawing_search.proofs.least.LeastTurns.with_first.Goals as goal

pub loop-i-init : goal.loop-i-init
loop-i-init c = record { value = refl; small = c.requires.small }

pub with_last-requires-clause-here : goal.with_last-requires-clause-here
with_last-requires-clause-here c = subst IsSmallOver c.in-Some.is c.requires.overs

pub with_last-requires-clause-overs : goal.with_last-requires-clause-overs
with_last-requires-clause-overs c = c.requires.to c.loop-i.i None (omega (arith, c.loop-i-test.true))

pub loop-i-preserved : goal.loop-i-preserved
loop-i-preserved c =
    let i = c.loop-i.i in
    let to = c.args.to.now in
    let here = c.in-Some.here in
    let first = c.args.first in
    let step = λ (m : LeastTurns) (e : Dir). with_last_by m first here e (get_or to (number_of e) None) in
    let few : i < 8 = c.loop-i-test.true in
    record {
      value = c.with_last.ensures.value
          ∙ ap₂ (λ (e : Dir) (o : Option ℕ). with_last_by c.loop-i.self first here e o) c.direction.ensures (sym (ap (λ n. get_or to n None) (number_of-direction i few)))
          ∙ ap (λ (m : LeastTurns). step m (direction i)) c.loop-i.invariant.value
          ∙ sym (fold_more step c.args.self.now directions i dir.N few);
      small = c.with_last.ensures.small;
    }

pub returns : goal.returns
returns c =
    let i = c.loop-i.i in
    let step = λ (m : LeastTurns) (e : Dir). with_last_by m c.args.first c.in-Some.here e (get_or c.args.to.now (number_of e) None) in
    record {
      value = c.loop-i.invariant.value ∙ ap (λ (ds : List Dir). fold step c.args.self.now ds) (take_all i directions c.loop-i-test.false)
          ∙ sym (ap (λ (o : Option ℕ). with_first_by c.args.self.now c.args.first o c.args.to.now) c.in-Some.is);
      small = c.loop-i.invariant.small;
    }
