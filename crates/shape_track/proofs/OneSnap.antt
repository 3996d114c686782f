-- There is one snap.
use Rattle.std.proofs.Common.{◌≡◌, refl, ◌∙◌, ap, ℕ, ◌<◌, ◌≤◌, Bool, true, false, nat_lt, ◌==◌, ◌||◌, ◌&&◌, List, [], ◌∷◌, ◌⊎◌, inl, inr, arith}
use Rattle.std.proofs.Math.Nat.{le_antisymm}
use Rattle.std.proofs.lemmas.Bool.{ltb-true, eqb-true}
use Rattle.map_base.specs.declared.point.Point.{Point}
use Rattle.shape_track.specs.Snaps.{cost_of, is_not_after, IsSnap}

-- the first of a list that is not after another is below the other's, or equal and so on
pub by_head : (i j : ℕ) (rest : Bool) → (nat_lt i j || ((i == j) && rest)) ≡ true → (i < j) ⊎ ((i ≡ j) × (rest ≡ true))
by_head i j rest not_after =
    (elim (nat_lt i j) as (λ b. nat_lt i j ≡ b → (b || ((i == j) && rest)) ≡ true → (i < j) ⊎ ((i ≡ j) × (rest ≡ true))) [
      | true ↦ λ below h. inl (ltb-true i j below)
      | false ↦ λ below h. inr (eqb-true i j (first (i == j) rest h), second (i == j) rest h)
    ]) refl not_after
  where
    first : (a b : Bool) → (a && b) ≡ true → a ≡ true
    first true b h = refl
    first false b h = cc

    second : (a b : Bool) → (a && b) ≡ true → b ≡ true
    second true b h = h
    second false b h = cc

-- lists of which neither is after the other are one list
pub not_after-both : (is js : List ℕ) → is_not_after is js ≡ true → is_not_after js is ≡ true → is ≡ js
not_after-both [] [] h k = refl
not_after-both [] (j ∷ js) h k = cc
not_after-both (i ∷ is) [] h k = cc
not_after-both (i ∷ is) (j ∷ js) h k =
    by_heads (by_head i j (is_not_after is js) h) (by_head j i (is_not_after js is) k) (not_after-both is js)
  where
    by_heads : (i < j) ⊎ ((i ≡ j) × (is_not_after is js ≡ true)) → (j < i) ⊎ ((j ≡ i) × (is_not_after js is ≡ true)) →
        (is_not_after is js ≡ true → is_not_after js is ≡ true → is ≡ js) → i ∷ is ≡ j ∷ js
    by_heads (inl p) (inl q) rest = absurd (omega arith)
    by_heads (inl p) (inr q) rest = let e : j ≡ i = q.0 in absurd (omega arith)
    by_heads (inr p) (inl q) rest = let e : i ≡ j = p.0 in absurd (omega arith)
    by_heads (inr p) (inr q) rest = ap (λ x. x ∷ is) p.0 ∙ ap (λ xs. j ∷ xs) (rest p.1 q.1)

pub one_snap : (samples stations : List Point) (places others : List ℕ) → IsSnap samples stations places → IsSnap samples stations others → places ≡ others
one_snap samples stations places others p q =
    let no_more : cost_of samples stations places ≤ cost_of samples stations others = p.least others q.placed in
    let no_less : cost_of samples stations others ≤ cost_of samples stations places = q.least places p.placed in
    let same : cost_of samples stations others ≡ cost_of samples stations places = le_antisymm no_less no_more in
    let turned : cost_of samples stations places ≡ cost_of samples stations others = le_antisymm no_more no_less in
    not_after-both places others (p.first others q.placed same) (q.first places p.placed turned)
