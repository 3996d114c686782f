use Rattle.std.proofs.Common.{sym, subst, ℕ, List, arith}
use Rattle.walk_search.specs.Asking.{question}
use Rattle.walk_search.specs.Spots.{spots_of}
use Rattle.walk_search.proofs.Walking.{IsWalking, nearer, walking_begins, walking_ends, walking_goes_on}
use Rattle.walk_search.proofs.walk.labels_along.Goals as goal

pub loop-step-init : goal.loop-step-init
loop-step-init c =
    let q = question c.args.asked.now in
    record {
      in_range = omega (arith, c.before-at.ensures.value);
      walking =
          subst (λ (n : ℕ). IsWalking q c.args.known.now c.new-labels.result.items n) (sym c.before-at.ensures.value)
          (subst (λ (ls : List ℕ). IsWalking q c.args.known.now ls (spots_of q.board.bounds)) (sym c.new-labels.ensures.items) (walking_begins q c.args.known.now));
    }

pub loop-step-smaller : goal.loop-step-smaller
loop-step-smaller c =
    nearer (question c.args.asked.now) c.before-at.ensures.asked c.args.known.now c.loop-step.at c.in-Some.step.label c.in-Some.step.to c.in-Some.ensures.least

pub loop-step-preserved : goal.loop-step-preserved
loop-step-preserved c =
    let q = question c.args.asked.now in
    record {
      in_range = c.in-Some.ensures.within;
      walking =
          subst (λ (ls : List ℕ). IsWalking q c.args.known.now ls c.in-Some.step.to) (sym c.in_ok-push.ensures.items)
          (walking_goes_on q c.before-at.ensures.asked c.args.known.now c.requires c.loop-step.labels.items c.loop-step.at c.in-Some.step.label c.in-Some.step.to c.loop-step.invariant.walking c.in-Some.ensures.least);
    }

pub returns : goal.returns
returns c =
    walking_ends (question c.args.asked.now) c.before-at.ensures.asked c.args.known.now c.requires c.loop-step.labels.items c.loop-step.at c.loop-step.invariant.walking c.in_default.ensures.none
