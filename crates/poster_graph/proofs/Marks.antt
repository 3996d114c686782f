-- Station nodes as they are computed.
use Rattle.std.proofs.Common.{◌≡◌, ℕ, Bool, Option, ap, ◌∙◌}
use Rattle.map_base.specs.declared.ids.NodeId.{NodeId}
use Rattle.octi_grid.specs.declared.point.GridPoint.{GridPoint}
use Rattle.poster_plan.specs.declared.plan.Mark.{Mark}

pub same_mark : (n : NodeId) (a b : GridPoint) (r s : ℕ) (m k : Option ℕ) (l t : Bool) → a ≡ b → r ≡ s → m ≡ k → l ≡ t
    → (let x : Mark = record { node = n; at = a; radius = r; name = m; level = l } in x) ≡ record { node = n; at = b; radius = s; name = k; level = t }
same_mark n a b r s m k l t e f g h =
    ap (λ (p : GridPoint). let x : Mark = record { node = n; at = p; radius = r; name = m; level = l } in x) e
    ∙ ap (λ (q : ℕ). let x : Mark = record { node = n; at = b; radius = q; name = m; level = l } in x) f
    ∙ ap (λ (o : Option ℕ). let x : Mark = record { node = n; at = b; radius = s; name = o; level = l } in x) g
    ∙ ap (λ (q : Bool). let x : Mark = record { node = n; at = b; radius = s; name = k; level = q } in x) h
