use Rattle.std.proofs.Common.{◌≡◌, ◌∙◌, ap, subst, sym, ℕ, ◌+◌, ◌*◌, ◌-◌, ◌<◌, ◌≤◌, arith}
use Rattle.std.specs.Int.{div_ceil}
use Rattle.shape_track.proofs.Parts.{parts_by_root}
use Rattle.shape_track.proofs.piece.parts.Goals as goal

pub returns-clause-value : goal.returns-clause-value
returns-clause-value c =
    let count = c.root_above.result in
    let squares = c.div_ceil-squares.result in
    let is : squares ≡ div_ceil (4 * c.args.distance2) (c.args.near * c.args.near) =
    c.div_ceil-squares.ensures ∙ ap (λ n. div_ceil (4 * c.args.distance2) (n * n)) c.from-near.ensures in
    let whole : count - 1 + 1 ≡ count = omega (arith, c.root_above.ensures.some) in
    let low : (count - 1) * (count - 1) ≤ squares - 1 = subst (λ (n : ℕ). (count - 1) * (count - 1) ≤ n) c.saturating_sub.ensures c.root_above.ensures.least in
    let high_here : squares - 1 < count * count = subst (λ (n : ℕ). n < count * count) c.saturating_sub.ensures c.root_above.ensures.above in
    let high : squares - 1 < (count - 1 + 1) * (count - 1 + 1) = subst (λ (n : ℕ). squares - 1 < n * n) (sym whole) high_here in
    sym whole ∙ parts_by_root c.args.near c.args.distance2 squares (count - 1) (omega arith) is low high
