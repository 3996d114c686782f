-- Chains, one step after another.
use Rattle.std.proofs.Common.{◌≡◌, refl, sym, ◌∙◌, ap, ℕ, zero, suc, ◌+◌, ◌-◌, ◌<◌, true, false, cond, not, eqb, List, [], ◌∷◌, ◌++◌, append_assoc, length, get_or, All, map, arith, Some}
use Rattle.std.specs.List.{find}
use Rattle.std.specs.Option.{unwrap_or}
use Rattle.std.proofs.lemmas.List.Elements.{All-head, All-tail}
use Rattle.way_network.specs.declared.edges.UsedEdge.{UsedEdge}
use Rattle.way_network.specs.Segments.{last_of}
use Rattle.way_network.specs.Tables.{row_at}
use Rattle.way_network.specs.Uses.{has_number}
use Rattle.way_network.specs.Rows.{point_of, other_in, walked_on}

-- one point more of a chain
pub walk_more : (rows : List (List UsedEdge)) (nodes : List ℕ) (n i from here : ℕ) → i < n →
    walked_on rows nodes (n - i) from here ≡ here ∷ cond (has_number nodes here) [] (walked_on rows nodes (n - (i + 1)) here (other_in (row_at rows here) from here))
walk_more rows nodes n i from here below =
    let e : n - i ≡ suc (n - (i + 1)) = omega arith in
    ap (λ m. walked_on rows nodes m from here) e

-- where no step is left the chain ends here
pub walk_all : (rows : List (List UsedEdge)) (nodes : List ℕ) (n i from here : ℕ) → n ≡ i → walked_on rows nodes (n - i) from here ≡ here ∷ []
walk_all rows nodes n i from here same =
    let e : n - i ≡ zero = omega arith in
    ap (λ m. walked_on rows nodes m from here) e

-- a chain goes on to a point that is known
pub other_in_known : (m : ℕ) (row : List UsedEdge) (from here : ℕ) → All (λ (edge : UsedEdge). edge.to < m) row → here < m → other_in row from here < m
other_in_known m [] from here known stays = stays
other_in_known m (edge ∷ row) from here known stays =
    elim (not (eqb edge.to from)) as (λ t. unwrap_or (cond t (Some edge.to) (find (λ p. not (eqb p from)) (map point_of row))) here < m) [
      | true ↦ All-head (λ (edge : UsedEdge). edge.to < m) edge row known
      | false ↦ other_in_known m row from here (All-tail (λ (edge : UsedEdge). edge.to < m) edge row known) stays
    ]

-- the last point by its place
pub last_of_at : (xs : List ℕ) → get_or xs (length xs - 1) 0 ≡ last_of xs
last_of_at [] = refl
last_of_at (a ∷ []) = refl
last_of_at (a ∷ b ∷ rest) =
    let n : ℕ = length rest in
    let e : suc (suc n) - 1 ≡ suc (suc n - 1) = omega arith in
    ap (λ m. get_or (a ∷ b ∷ rest) m 0) e ∙ last_of_at (b ∷ rest)

-- a chain of which one more point is taken
pub walk_step : (rows : List (List UsedEdge)) (nodes : List ℕ) (n i last here next : ℕ) (row : List UsedEdge) (chain after whole : List ℕ) → i < n →
    after ≡ chain ++ here ∷ [] → has_number nodes here ≡ false → row ≡ row_at rows here → next ≡ other_in row last here →
    chain ++ walked_on rows nodes (n - i) last here ≡ whole → after ++ walked_on rows nodes (n - (i + 1)) here next ≡ whole
walk_step rows nodes n i last here next row chain after whole below pushed plain is_row is_next before =
    let rest = walked_on rows nodes (n - (i + 1)) here in
    let more : walked_on rows nodes (n - i) last here ≡ here ∷ rest (other_in (row_at rows here) last here) =
    walk_more rows nodes n i last here below
    ∙ ap (λ t. here ∷ cond t [] (rest (other_in (row_at rows here) last here))) plain in
    ap (λ ps. ps ++ rest next) pushed
    ∙ append_assoc chain (here ∷ []) (rest next)
    ∙ ap (λ p. chain ++ here ∷ rest p) (is_next ∙ ap (λ r. other_in r last here) is_row)
    ∙ ap (λ ps. chain ++ ps) (sym more) ∙ before
