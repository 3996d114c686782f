-- Bounds are the same where their parts are.
use Rattle.std.proofs.Common.{◌≡◌, ◌∙◌, ℤ, ap}
use Rattle.grid_board.specs.declared.bounds.Bounds.{Bounds}

pub same_bounds : (a b c d e f g h : ℤ) → a ≡ e → b ≡ f → c ≡ g → d ≡ h → (let v : Bounds = record { left = a; right = b; bottom = c; top = d } in v) ≡ record { left = e; right = f; bottom = g; top = h }
same_bounds a b c d e f g h i j k l =
    ap (λ (z : ℤ). let v : Bounds = record { left = z; right = b; bottom = c; top = d } in v) i
    ∙ ap (λ (z : ℤ). let v : Bounds = record { left = e; right = z; bottom = c; top = d } in v) j
    ∙ ap (λ (z : ℤ). let v : Bounds = record { left = e; right = f; bottom = z; top = d } in v) k
    ∙ ap (λ (z : ℤ). let v : Bounds = record { left = e; right = f; bottom = g; top = z } in v) l
