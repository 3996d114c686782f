use Rattle.std.proofs.Common.{◌-ℤ◌, sym, ◌∙◌, arith}
use Rattle.std.proofs.lemmas.Int.{ints}
use Rattle.label_place.proofs.Numbers.{same_times, times_down, times_up}
use Rattle.label_place.proofs.strokes.times_within.Goals as goal

pub returns-then-sense-gt0-clause-value : goal.returns-then-sense-gt0-clause-value
returns-then-sense-gt0-clause-value c =
    let a = c.args in
    same_times _ _ (a.low -ℤ a.from) (a.high -ℤ a.from) (omega (arith, ints)) (omega (arith, ints)) ∙ sym (times_up a.from a.sense a.low a.high (omega (arith, ints)))

pub returns-then-sense-lt0-clause-value : goal.returns-then-sense-lt0-clause-value
returns-then-sense-lt0-clause-value c =
    let a = c.args in
    same_times _ _ (a.from -ℤ a.high) (a.from -ℤ a.low) (omega (arith, ints)) (omega (arith, ints)) ∙ sym (times_down a.from a.sense a.low a.high (omega (arith, ints)))
