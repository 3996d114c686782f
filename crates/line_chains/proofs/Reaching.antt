-- Which nodes ways from corners come over, node by node, and once a node of a ring is a corner too.
use Rattle.std.proofs.Common.{◌≡◌, ◌≢◌, ◌∙◌, refl, sym, ap, ap₂, subst, ℕ, zero, suc, ◌+◌, ◌<◌, ◌⊎◌, inl, inr, Bool, true, false, not, ◌&&◌, ◌||◌, eqb, List, [], ◌∷◌, ◌++◌, length, get_or, set, map, arith, get_or-set_same, get_or-set_other}
use Rattle.std.specs.List.{list_any, range_with_len}
use Rattle.std.proofs.lemmas.Bool.{cases_eq, eq-eqb, or_parts}
use Rattle.map_base.specs.declared.ids.NodeId.{NodeId}
use Rattle.map_base.specs.declared.ids.SegId.{SegId}
use Rattle.graph_core.specs.declared.parts.GraphParts.{GraphParts}
use Rattle.line_chains.specs.declared.chain.Chain.{Chain}
use Rattle.line_chains.specs.declared.chain.ChainStep.{ChainStep}
use Rattle.line_chains.specs.Chains.{comes_over, far_end, is_corner, is_reached_from, nodes_along, other_of, round_of, steps_from, unless_ended, way_from}
use Rattle.line_chains.proofs.Listing.{nodes_between}

-- one node more
between_suc : (i n : ℕ) → nodes_between i (suc n) ≡ nodes_between i n ++ record { 0 = i + n } ∷ []
between_suc i zero = ap (λ k. (let m : NodeId = record { 0 = k } in m) ∷ []) (omega arith)
between_suc i (suc n) =
    let next : i + 1 + n ≡ i + suc n = omega arith in
    ap (λ (v : List NodeId). record { 0 = i } ∷ v) (between_suc (i + 1) n ∙ ap (λ k. nodes_between (i + 1) n ++ (let m : NodeId = record { 0 = k } in m) ∷ []) next)

pub between_last : (n : ℕ) → nodes_between 0 (n + 1) ≡ nodes_between 0 n ++ record { 0 = n } ∷ []
between_last n =
    let more : n + 1 ≡ suc n = omega arith in
    let same : 0 + n ≡ n = omega arith in
    ap (nodes_between 0) more ∙ between_suc 0 n ∙ ap (λ k. nodes_between 0 n ++ (let m : NodeId = record { 0 = k } in m) ∷ []) same

any_last : (p : NodeId → Bool) (ns : List NodeId) (n : NodeId) → list_any p (ns ++ n ∷ []) ≡ (list_any p ns || p n)
any_last p [] n = or_none (p n)
  where
    or_none : (t : Bool) → (t || false) ≡ t
    or_none true = refl
    or_none false = refl
any_last p (m ∷ ns) n = ap (λ t. p m || t) (any_last p ns n) ∙ or_assoc (p m) (list_any p ns) (p n)
  where
    or_assoc : (s t x : Bool) → (s || (t || x)) ≡ ((s || t) || x)
    or_assoc true t x = refl
    or_assoc false t x = refl

or_turned : (s t : Bool) → (s || t) ≡ (t || s)
or_turned true true = refl
or_turned true false = refl
or_turned false true = refl
or_turned false false = refl

-- the nodes that ways from the first corners come over
abbrev pub reached_upto : GraphParts → List Bool → ℕ → NodeId → Bool
reached_upto graph corners n k = list_any (is_reached_from graph corners k) (nodes_between 0 n)

pub upto_last : (graph : GraphParts) (corners : List Bool) (n : ℕ) (k : NodeId) → reached_upto graph corners (n + 1) k ≡ (reached_upto graph corners n k || is_reached_from graph corners k (record { 0 = n }))
upto_last graph corners n k = ap (list_any (is_reached_from graph corners k)) (between_last n) ∙ any_last (is_reached_from graph corners k) (nodes_between 0 n) (record { 0 = n })

pub upto_corner : (graph : GraphParts) (corners : List Bool) (n : ℕ) (k : NodeId) (flag : Bool) → is_corner corners (record { 0 = n }) ≡ true → flag ≡ reached_upto graph corners n k
    → (list_any (λ s. comes_over k (way_from graph corners (record { 0 = n }) s)) (round_of graph (record { 0 = n })) || flag) ≡ reached_upto graph corners (n + 1) k
upto_corner graph corners n k flag corner before =
    let over = list_any (λ s. comes_over k (way_from graph corners (record { 0 = n }) s)) (round_of graph (record { 0 = n })) in
    ap (λ t. over || t) before
    ∙ or_turned over (reached_upto graph corners n k)
    ∙ sym (ap (λ t. reached_upto graph corners n k || (t && over)) corner)
    ∙ sym (upto_last graph corners n k)

pub upto_other : (graph : GraphParts) (corners : List Bool) (n : ℕ) (k : NodeId) (flag : Bool) → is_corner corners (record { 0 = n }) ≡ false → flag ≡ reached_upto graph corners n k → flag ≡ reached_upto graph corners (n + 1) k
upto_other graph corners n k flag other before =
    let over = list_any (λ s. comes_over k (way_from graph corners (record { 0 = n }) s)) (round_of graph (record { 0 = n })) in
    before
    ∙ sym (or_nothing (reached_upto graph corners n k))
    ∙ sym (ap (λ t. reached_upto graph corners n k || (t && over)) other)
    ∙ sym (upto_last graph corners n k)
  where
    or_nothing : (t : Bool) → (t || false) ≡ t
    or_nothing true = refl
    or_nothing false = refl

-- a way that doesn't come over a node stays where that becomes a corner
pub same_steps : (graph : GraphParts) (corners : List Bool) (c : NodeId) (most : ℕ) (n : NodeId) (s : SegId) → list_any (λ (t : ChainStep). eqb t.to.0 c.0) (steps_from graph corners most n s) ≡ false
    → steps_from graph (set corners c.0 true) most n s ≡ steps_from graph corners most n s
same_steps graph corners c zero n s away = refl
same_steps graph corners c (suc most) n s away =
    ap (λ t. step ∷ unless_ended t (steps_from graph (set corners c.0 true) most far (other_of (round_of graph far) s))) (same_corner (cases_eq far.0 c.0))
    ∙ ap (λ (v : List ChainStep). step ∷ v) (by_corner (λ h. same_steps graph corners c most far (other_of (round_of graph far) s) h) (is_corner corners far) refl)
  where
    far : NodeId
    far = far_end graph s n

    step : ChainStep
    step = record { seg = s; to = far }

    rest : List ChainStep
    rest = steps_from graph corners most far (other_of (round_of graph far) s)

    parts : (eqb far.0 c.0 ≡ false) × (list_any (λ (t : ChainStep). eqb t.to.0 c.0) (unless_ended (is_corner corners far) rest) ≡ false)
    parts = or_parts (eqb far.0 c.0) (list_any (λ (t : ChainStep). eqb t.to.0 c.0) (unless_ended (is_corner corners far) rest)) away

    same_corner : (far.0 ≡ c.0) ⊎ (far.0 ≢ c.0) → is_corner (set corners c.0 true) far ≡ is_corner corners far
    same_corner (inl e) = let clash : true ≡ false = sym (eq-eqb far.0 c.0 e) ∙ parts.0 in cc
    same_corner (inr f) = get_or-set_other corners c.0 far.0 true false f

    by_corner : (list_any (λ (u : ChainStep). eqb u.to.0 c.0) rest ≡ false → steps_from graph (set corners c.0 true) most far (other_of (round_of graph far) s) ≡ rest) → (t : Bool) → is_corner corners far ≡ t
        → unless_ended (is_corner corners far) (steps_from graph (set corners c.0 true) most far (other_of (round_of graph far) s)) ≡ unless_ended (is_corner corners far) rest
    by_corner same true e = ap (λ t. unless_ended t (steps_from graph (set corners c.0 true) most far (other_of (round_of graph far) s))) e ∙ sym (ap (λ t. unless_ended t rest) e)
    by_corner same false e =
        ap (λ t. unless_ended t (steps_from graph (set corners c.0 true) most far (other_of (round_of graph far) s))) e
        ∙ same (ap (λ t. list_any (λ (u : ChainStep). eqb u.to.0 c.0) (unless_ended t rest)) (sym e) ∙ parts.1)
        ∙ sym (ap (λ t. unless_ended t rest) e)
