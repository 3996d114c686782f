-- Lists that are made step by step: what is made so far, and what is left.
use Rattle.std.proofs.Common.{◌≡◌, ◌∙◌, refl, sym, ap, ℕ, suc, ◌+◌, ◌-◌, ◌<◌, Bool, true, false, cond, List, [], ◌∷◌, ◌++◌, append_assoc, drop, get_or, length, map, arith}
use Rattle.std.specs.List.{flat_map, range_with_len}
use Rattle.std.proofs.lemmas.List.{drop_more}
use Rattle.map_base.specs.declared.ids.NodeId.{NodeId}
use Rattle.map_base.specs.declared.ids.SegId.{SegId}
use Rattle.graph_core.specs.declared.parts.GraphParts.{GraphParts}
use Rattle.line_chains.specs.declared.chain.Chain.{Chain}
use Rattle.line_chains.specs.Chains.{chains_at, chains_by, is_forward, way_from}

-- the nodes from one number on, so many
abbrev pub nodes_between : ℕ → ℕ → List NodeId
nodes_between i m = map (λ n. record { 0 = n }) (range_with_len i m)

pub one_node : (count i : ℕ) → i < count → nodes_between i (count - i) ≡ record { 0 = i } ∷ nodes_between (i + 1) (count - (i + 1))
one_node count i h = let more : count - i ≡ suc (count - (i + 1)) = omega arith in ap (nodes_between i) more

pub no_node : (count i : ℕ) → count - i ≡ 0 → nodes_between i (count - i) ≡ []
no_node count i e = ap (nodes_between i) e

-- the chains from one node more
pub chains_more : (graph : GraphParts) (corners : List Bool) (count i : ℕ) (old new whole : List Chain) → i < count → new ≡ old ++ chains_at graph corners (record { 0 = i })
    → old ++ flat_map (chains_at graph corners) (nodes_between i (count - i)) ≡ whole → new ++ flat_map (chains_at graph corners) (nodes_between (i + 1) (count - (i + 1))) ≡ whole
chains_more graph corners count i old new whole h step e =
    ap (λ (v : List Chain). v ++ flat_map (chains_at graph corners) (nodes_between (i + 1) (count - (i + 1)))) step
    ∙ append_assoc old (chains_at graph corners (record { 0 = i })) (flat_map (chains_at graph corners) (nodes_between (i + 1) (count - (i + 1))))
    ∙ sym (ap (λ (v : List NodeId). old ++ flat_map (chains_at graph corners) v) (one_node count i h))
    ∙ e

-- the chain by one segment more
pub way_more : (graph : GraphParts) (corners : List Bool) (n : NodeId) (round : List SegId) (i : ℕ) (d : SegId) (old new whole : List Chain) → i < length round
    → new ≡ cond (is_forward graph (get_or round i d) (way_from graph corners n (get_or round i d))) (old ++ way_from graph corners n (get_or round i d) ∷ []) old
    → old ++ chains_by graph corners n (drop i round) ≡ whole → new ++ chains_by graph corners n (drop (i + 1) round) ≡ whole
way_more graph corners n round i d old new whole h step e =
    ap (λ (v : List Chain). v ++ rest) step
    ∙ by_test (is_forward graph (get_or round i d) way)
    ∙ sym (ap (λ (v : List SegId). old ++ chains_by graph corners n v) (drop_more round i d h))
    ∙ e
  where
    way : Chain
    way = way_from graph corners n (get_or round i d)

    rest : List Chain
    rest = chains_by graph corners n (drop (i + 1) round)

    by_test : (t : Bool) → cond t (old ++ way ∷ []) old ++ rest ≡ old ++ cond t (way ∷ rest) rest
    by_test true = append_assoc old (way ∷ []) rest
    by_test false = refl
