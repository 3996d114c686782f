-- What edges cost, and tables of known costs in maps.
use Rattle.std.proofs.Common.{◌≡◌, refl, sym, ◌∙◌, ap, ℕ, zero, suc, ◌+◌, ◌*◌, ◌<◌, ◌⊎◌, inl, inr, Bool, true, false, cond, nat_eq, ◌&&◌, List, Option, Some, None, length, get_or, set, replicate, arith, length-set, get_or-set_same, get_or-set_other}
use Rattle.std.specs.declared.hash.FoldHasher.{FoldHasher}
use Rattle.std.specs.declared.hash.BuildHasherDefault.{BuildHasherDefault}
use Rattle.std.specs.HashMap.{get, HashMap}
use Rattle.std.proofs.lemmas.Bool.{cases_eq, eq-eqb, ne_eqb}
use Rattle.std.proofs.lemmas.List.{same_lists, length-replicate}
use Rattle.std.proofs.lemmas.List.FromFn.{length-map-range_with_len, get_or-map-range_with_len}
use Rattle.map_base.specs.declared.point.Point.{Point}
use Rattle.fixed_plane.specs.Measures.{dist2_of}
use Rattle.fixed_plane.proofs.Distances.{dist2_of_comm}
use Rattle.track_net.specs.Nearness.{point_at}
use Rattle.track_net.specs.Nets.{NetParts}
use Rattle.net_paths.specs.Corridors.{is_in_corridor, edge_cost, CorridorParts}
use Rattle.net_paths.specs.Searching.{cost_along, known_at, costs_below}

both_ways_round : (a b : Bool) → (a && b) ≡ (b && a)
both_ways_round true true = refl
both_ways_round true false = refl
both_ways_round false true = refl
both_ways_round false false = refl

-- the cost of an edge is the same both ways
pub edge_cost-comm : (near : ℕ) (corridor : List Point) (p q : Point) → edge_cost near corridor p q ≡ edge_cost near corridor q p
edge_cost-comm near corridor p q =
    ap (λ (n : ℕ). cond (is_in_corridor near corridor p && is_in_corridor near corridor q) n (8 * n)) (dist2_of_comm p q)
    ∙ ap (λ b. cond b (dist2_of q p) (8 * dist2_of q p)) (both_ways_round (is_in_corridor near corridor p) (is_in_corridor near corridor q))

-- what an edge costs, by the numbers of its ends
pub cost_at : (corridor : CorridorParts) (net : NetParts) (a b : ℕ) (p q : Point) (n : ℕ) → p ≡ point_at net.points a → q ≡ point_at net.points b →
    n ≡ edge_cost corridor.near corridor.samples p q → n ≡ cost_along corridor net.points a b
cost_at corridor net a b p q n p_is q_is is =
    is ∙ ap (λ (r : Point). edge_cost corridor.near corridor.samples r q) p_is ∙ ap (edge_cost corridor.near corridor.samples (point_at net.points a)) q_is

abbrev Costs : Type 0
Costs = HashMap ℕ ℕ (BuildHasherDefault FoldHasher)

pub length-costs_below : (costs : Costs) (n : ℕ) → length (costs_below costs n) ≡ n
length-costs_below costs n = length-map-range_with_len (λ s. get nat_eq costs s) 0 n

-- what is known of a point
pub known_at-costs_below : (costs : Costs) (n s : ℕ) → s < n → known_at (costs_below costs n) s ≡ get nat_eq costs s
known_at-costs_below costs n s below =
    let same : 0 + s ≡ s = omega arith in get_or-map-range_with_len (λ k. get nat_eq costs k) 0 n s s None below same

-- where a map has nothing, nothing is known
pub costs_below-none : (costs : Costs) (n : ℕ) → ((s : ℕ) → get nat_eq costs s ≡ None) → costs_below costs n ≡ replicate n None
costs_below-none costs n none = same_lists (costs_below costs n) (replicate n None) (length-costs_below costs n ∙ sym (length-replicate n None)) each
  where
    nothing_at : (n k : ℕ) (d : Option ℕ) → k < n → get_or (replicate n None) k d ≡ None
    nothing_at zero k d below = absurd (omega arith)
    nothing_at (suc n) zero d below = refl
    nothing_at (suc n) (suc k) d below = nothing_at n k d (omega arith)

    each : (k : ℕ) (d : Option ℕ) → k < length (costs_below costs n) → get_or (costs_below costs n) k d ≡ get_or (replicate n None) k d
    each k d below =
        let inside : k < n = omega (arith, length-costs_below costs n) in
        let same : 0 + k ≡ k = omega arith in
        get_or-map-range_with_len (λ s. get nat_eq costs s) 0 n k k d inside same ∙ none k ∙ sym (nothing_at n k d inside)

-- where a map has one more, one more is known
pub costs_below-more : (old new : Costs) (n at cost : ℕ) → at < n → ((q : ℕ) → get nat_eq new q ≡ cond (nat_eq at q) (Some cost) (get nat_eq old q)) →
    costs_below new n ≡ set (costs_below old n) at (Some cost)
costs_below-more old new n at cost below put =
    same_lists (costs_below new n) (set (costs_below old n) at (Some cost)) (length-costs_below new n ∙ sym (length-set (costs_below old n) at (Some cost) ∙ length-costs_below old n)) each
  where
    within : at < length (costs_below old n)
    within = omega (arith, length-costs_below old n)

    here : (k : ℕ) (d : Option ℕ) (m : Costs) → k < n → get_or (costs_below m n) k d ≡ get nat_eq m k
    here k d m inside = let same : 0 + k ≡ k = omega arith in get_or-map-range_with_len (λ s. get nat_eq m s) 0 n k k d inside same

    of_case : (k : ℕ) (d : Option ℕ) → k < n → (k ≡ at) ⊎ (k ≡ at → ⊥) → get nat_eq new k ≡ get_or (set (costs_below old n) at (Some cost)) k d
    of_case k d inside (inl e) =
        put k ∙ ap (λ b. cond b (Some cost) (get nat_eq old k)) (eq-eqb at k (sym e))
        ∙ sym (ap (λ (m : ℕ). get_or (set (costs_below old n) at (Some cost)) m d) e ∙ get_or-set_same (costs_below old n) at (Some cost) d within)
    of_case k d inside (inr apart) =
        put k ∙ ap (λ b. cond b (Some cost) (get nat_eq old k)) (ne_eqb at k (λ e. apart (sym e)))
        ∙ sym (get_or-set_other (costs_below old n) at k (Some cost) d apart ∙ here k d old inside)

    each : (k : ℕ) (d : Option ℕ) → k < length (costs_below new n) → get_or (costs_below new n) k d ≡ get_or (set (costs_below old n) at (Some cost)) k d
    each k d lower =
        let inside : k < n = omega (arith, length-costs_below new n) in here k d new inside ∙ of_case k d inside (cases_eq k at)
