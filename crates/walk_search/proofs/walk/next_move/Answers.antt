use Rattle.std.proofs.Common.{◌≡◌, sym, subst, ℕ, ◌+◌, ◌<◌, ◌≤◌, ◌⊎◌, inl, inr, arith}
use Rattle.std.proofs.lemmas.Bool.{cases_lt, iff_false}
use Rattle.walk_search.specs.Asking.{question}
use Rattle.walk_search.specs.Walked.{KeepsCost}
use Rattle.walk_search.proofs.Walking.{label_small}
use Rattle.walk_search.proofs.walk.next_move.Goals as goal

pub returns-in-Some-clause-least : goal.returns-in-Some-clause-least
returns-in-Some-clause-least c = record {
  goes_on = iff_false c.ends_at.ensures c.if-ends_at.false;
  keeps = subst (λ (n : ℕ). KeepsCost (question c.args.asked.now) c.args.known.now c.args.at n c.in-Some.step.to) (sym c.in-Some.ensures.some.0) c.in-Some.ensures.some.1;
  least = λ other there k. subst (λ (n : ℕ). n ≤ other) (sym c.in-Some.ensures.some.0) (not_less other there k (cases_lt other c.loop-label.label));
}
  where
    not_less : (other there : ℕ) → KeepsCost (question c.args.asked.now) c.args.known.now c.args.at other there → (other < c.loop-label.label) ⊎ (c.loop-label.label ≤ other) → c.loop-label.label ≤ other
    not_less other there k (inl h) = absurd (c.loop-label.invariant other there h k)
    not_less other there k (inr h) = h

pub loop-label-preserved : goal.loop-label-preserved
loop-label-preserved c = λ i to below k. here i to k below (cases_lt i c.loop-label.label)
  where
    here : (i to : ℕ) → KeepsCost (question c.args.asked.now) c.args.known.now c.args.at i to → i < c.loop-label.label + 1 → (i < c.loop-label.label) ⊎ (c.loop-label.label ≤ i) → ⊥
    here i to k below (inl h) = c.loop-label.invariant i to h k
    here i to k below (inr h) =
        let same : i ≡ c.loop-label.label = omega arith in
        c.in_default.ensures.none to (subst (λ (n : ℕ). KeepsCost (question c.args.asked.now) c.args.known.now c.args.at n to) same k)

pub returns-clause-none : goal.returns-clause-none
returns-clause-none c =
    inr (λ label to k. let small : label < 9 = label_small (question c.args.asked.now) c.args.at label to k.cost k.goes in c.loop-label.invariant label to (omega arith) k)
