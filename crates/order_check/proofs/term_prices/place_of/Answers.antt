use Rattle.std.proofs.Common.{◌≡◌, ℕ, ◌<◌, ◌≤◌, length, get_or, arith, inl, inr, Err, ap}
use Rattle.std.proofs.lemmas.Bool.{cases_lt}
use Rattle.std.proofs.lemmas.List.Sorted.{searched}
use Rattle.order_check.proofs.term_prices.place_of.Goals as goal

pub returns-in-Err : goal.returns-in-Err
returns-in-Err c = λ i below here.
    (let rising : (i j : ℕ) → i ≤ j → j < length c.args.numbers.now → get_or c.args.numbers.now i 0 ≤ get_or c.args.numbers.now j 0 =
    λ i j h known. elim (cases_lt i j) [
      | inl under ↦ (let up = c.requires i j under known in omega (arith, up))
      | inr over ↦ (let same : i ≡ j = omega (arith, h, over) in let e = ap (λ k. get_or c.args.numbers.now k 0) same in omega (arith, e))
    ] in
    let found = searched c.args.numbers.now c.args.number (Err c.in-Err.field-0) c.in-Err.ensures.position rising in
    elim (cases_lt i c.in-Err.field-0) [
      | inl under ↦ (let low = found.1 i under in omega (arith, low, here))
      | inr over ↦ (let high = found.2 i over below in omega (arith, high, here))
    ])
