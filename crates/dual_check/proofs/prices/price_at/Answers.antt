use Rattle.std.proofs.Common.{ℕ, ℤ, ◌∙◌, rules, w64, FitsSigned, get_or, pos}
use Rattle.std.proofs.lemmas.Int.{to_z-of_z}
use Rattle.std.proofs.lemmas.List.{get_or_default}
use Rattle.std.proofs.lemmas.List.Sorted.{answers_always}
use Rattle.dual_check.proofs.PriceTests.{price_found, price_missing}
use Rattle.dual_check.proofs.prices.price_at.Goals as goal

pub returns-in-Ok : goal.returns-in-Ok
returns-in-Ok c =
    let q : ℕ × ℤ = get_or c.args.prices.now c.in-Ok.k (0, pos 0) in
    let fits : FitsSigned w64 q.1 = search rules in
    to_z-of_z w64 q.1 fits
    ∙ price_found c.args.prices.now c.args.number c.in-Ok.k q c.requires c.in-Ok.ensures.bound (get_or_default c.args.prices.now c.in-Ok.k (0, pos 0) q c.in-Ok.ensures.bound)
    (c.in-Ok.ensures.position (λ (q : ℕ × ℤ). q.0) (answers_always _ _ _ (λ f a r g called. search rules)))

pub returns-in-Err : goal.returns-in-Err
returns-in-Err c =
    price_missing c.args.prices.now c.args.number c.in-Err.field-0 c.requires (c.in-Err.ensures.position (λ (q : ℕ × ℤ). q.0) (answers_always _ _ _ (λ f a r g called. search rules)))
