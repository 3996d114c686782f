-- Uses of edges, one way after another and one step after another.
use Rattle.std.proofs.Common.{◌≡◌, ℕ, zero, suc, ◌+◌, ◌-◌, ◌<◌, ◌≤◌, List, [], ◌∷◌, ◌++◌, length, get_or, take, refl, sym, ◌∙◌, ap, append_assoc, append-nil, arith}
use Rattle.std.proofs.lemmas.List.{take_more, flat_map_more}
use Rattle.way_network.specs.declared.way.Way.{Way}
use Rattle.way_network.specs.declared.edge_use.EdgeUse.{EdgeUse}
use Rattle.way_network.specs.Uses.{uses_along, uses_of, uses_of_way}

-- one more point
along_more : (line k : ℕ) (points : List ℕ) (d : ℕ) → suc k < length points
    → uses_along line (take (suc (suc k)) points) ≡ uses_along line (take (suc k) points) ++ uses_along line (get_or points k d ∷ get_or points (suc k) d ∷ [])
along_more line k [] d l = absurd (omega (arith, l))
along_more line k (a ∷ []) d l = absurd (omega (arith, l))
along_more line zero (a ∷ b ∷ rest) d l = refl
along_more line (suc k) (a ∷ b ∷ rest) d l =
    ap (λ (us : List EdgeUse). record { from = a; to = b; line = line } ∷ record { from = b; to = a; line = line } ∷ us) (along_more line k (b ∷ rest) d (omega (arith, l)))

pub pushed_step : (line k : ℕ) (points : List ℕ) (start before after : List EdgeUse) → 1 ≤ k → k < length points → before ≡ start ++ uses_along line (take k points)
    → after ≡ before ++ uses_along line (get_or points (k - 1) 0 ∷ get_or points k 0 ∷ []) → after ≡ start ++ uses_along line (take (k + 1) points)
pushed_step line zero points start before after some l so_far more = absurd (omega (arith, some))
pushed_step line (suc k) points start before after some l so_far more =
    let two : suc k + 1 ≡ suc (suc k) = omega arith in
    let one : suc k - 1 ≡ k = omega arith in
    more
    ∙ ap (λ (us : List EdgeUse). us ++ uses_along line (get_or points (suc k - 1) 0 ∷ get_or points (suc k) 0 ∷ [])) so_far
    ∙ ap (λ (m : ℕ). (start ++ uses_along line (take (suc k) points)) ++ uses_along line (get_or points m 0 ∷ get_or points (suc k) 0 ∷ [])) one
    ∙ append_assoc start (uses_along line (take (suc k) points)) (uses_along line (get_or points k 0 ∷ get_or points (suc k) 0 ∷ []))
    ∙ ap (λ (us : List EdgeUse). start ++ us) (sym (along_more line k points 0 l))
    ∙ ap (λ (m : ℕ). start ++ uses_along line (take m points)) (sym two)

pub pushed_none : (line : ℕ) (points : List ℕ) (start : List EdgeUse) → start ≡ start ++ uses_along line (take 1 points)
pushed_none line [] start = sym (append-nil start)
pushed_none line (a ∷ rest) start = sym (append-nil start)

pub pushed_way : (ways : List Way) (k : ℕ) (d : Way) (before after : List EdgeUse) → k < length ways → before ≡ uses_of (take k ways)
    → after ≡ before ++ uses_of_way (get_or ways k d) → after ≡ uses_of (take (k + 1) ways)
pushed_way ways k d before after l so_far more =
    more
    ∙ ap (λ (us : List EdgeUse). us ++ uses_of_way (get_or ways k d)) so_far
    ∙ flat_map_more uses_of_way [] (take k ways) (get_or ways k d)
    ∙ ap uses_of (sym (take_more ways k d l))
