use Rattle.std.proofs.Common.{◌≡◌, refl, sym, subst, ◌∙◌, ap₂, ◌+◌, ◌*◌, ◌<◌, ◌≢◌, length, min, below_more, length-set, get_or-set_other, get_or-set_same, arith}
use Rattle.drawing_search.specs.Bounds.{IsSmallLeast}
use Rattle.drawing_search.proofs.LeastTurning.{walk_made, walk_small}
use Rattle.drawing_search.proofs.least.LeastTurns.with_walk.Goals as goal

pub loop-way-init : goal.loop-way-init
loop-way-init c = record {
  each = c.requires.small.each;
  price = refl;
  free = refl;
  done = λ k less. absurd (omega (arith, less));
  left = λ k past. refl;
}

pub loop-way-preserved : goal.loop-way-preserved
loop-way-preserved c =
    let by = c.loop-way.self.by in
    let i = c.loop-way.way in
    let h = c.loop-way.invariant in
    let new = c.min.result in
    let below : i < length by = omega (arith, c.loop-way-test.true, h.each) in
    let same : i ≡ i = refl in
    record {
      each = length-set by i new ∙ h.each;
      price = h.price;
      free = h.free;
      done =
          below_more _ _ (λ k less. let ne : k ≢ i = (λ e. absurd (omega (arith, less, e))) in get_or-set_other by i k new 0 ne ∙ h.done k less)
          (get_or-set_same by i new 0 below
          ∙ c.min.ensures
          ∙ ap₂ min (h.left i (omega (arith, same))) (ap₂ (λ p t. c.args.overs + p * t) h.price c.turns_at_least.ensures.value));
      left = λ k past. let ne : k ≢ i = (λ e. absurd (omega (arith, past, e))) in get_or-set_other by i k new 0 ne ∙ h.left k (omega (arith, past));
    }

pub returns : goal.returns
returns c =
    let h = c.loop-way.invariant in
    let made = walk_made c.args.self.now c.loop-way.self c.args.first c.args.last c.args.overs h.each (λ k few. h.done k (omega (arith, few, c.loop-way-test.false))) h.price h.free in
    record { value = made; small = subst IsSmallLeast (sym made) (walk_small c.args.self.now c.args.first c.args.last c.args.overs c.requires.small) }
