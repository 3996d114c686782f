-- Counting the splits of trees.
use Rattle.std.proofs.Common.{◌≡◌, ℕ, ◌+◌, List, ◌∷◌, ap, ◌∙◌, arith}
use Rattle.map_base.specs.declared.ids.LineId.{LineId}
use Rattle.order_proof.specs.Plain.{plain, plain_children}
use Rattle.order_proof.specs.Trees.{splits_of, splits_of_cases}
use Rattle.order_proof.specs.declared.tree.Tree.{Tree}

-- one case more
pub splits_next : (count now : ℕ) (child : LineId × Tree) (rest : List (LineId × Tree)) → now ≡ count + splits_of (plain child.1)
    → now + splits_of_cases (plain_children rest) ≡ count + splits_of_cases (plain_children (child ∷ rest))
splits_next count now child rest is =
    let below = splits_of_cases (plain_children rest) in
    let step : (count + splits_of (plain child.1)) + below ≡ count + (splits_of (plain child.1) + below) = omega (arith) in
    ap (λ (n : ℕ). n + below) is ∙ step
