-- The search keeps its state: at its begin, where a cost is taken, lowered or followed, and at its end.
use Rattle.std.proofs.Common.{◌≡◌, ◌≢◌, refl, sym, ◌∙◌, ap, subst, ℕ, suc, ◌+◌, ◌*◌, ◌<◌, ◌≤◌, ◌⊎◌, inl, inr, List, [], ◌∷◌, Option, Some, None, length, get_or, set, replicate, IsPermutation, arith, length-set}
use Rattle.std.proofs.lemmas.Bool.{cases_eq}
use Rattle.std.proofs.lemmas.List.{get_or_default, length-replicate}
use Rattle.std.proofs.lemmas.List.Sorted.{IsPermutation-sym, length_permutation}
use Rattle.std.specs.declared.cmp.Reverse.{Reverse}
use Rattle.least_path.specs.Orders.{AtMost}
use Rattle.least_path.specs.Paths.{Path}
use Rattle.least_path.proofs.Costs.{least_when_closed}
use Rattle.track_net.specs.Nets.{NetParts, IsNet, HasEdge, edges_of_point, Joins}
use Rattle.net_paths.specs.Corridors.{CorridorParts}
use Rattle.net_paths.specs.Searching.{cost_along, StepAlong, known_at, entry, Waits, IsBeyond, IsLowered, dearest, unknowns_of, height_of, left_of, IsFollowed, IsSearch, is_point_at, nothing, IsSearched}
use Rattle.net_paths.proofs.Tables.{known_at-same, known_at-other, AtMost-lowered, unknowns_of-first, unknowns_of-again, below_known, Waits-pushed, Waits-new, Waits-cases, known_at-none, unknowns_of-none}
use Rattle.net_paths.proofs.NetSteps.{HasEdge_symm, path_of_leads}

-- a cost is in bounds where it and the number of points without one come to no more than all points together
abbrev pub IsBounded : List (Option ℕ) → ℕ → Type 0
IsBounded table k = k + dearest * unknowns_of table ≤ dearest * length table

-- the cost of one more edge is in bounds too, once it is known
pub bounded_step : (table : List (Option ℕ)) (at k c t : ℕ) → at < length table → IsBounded table k → c ≤ dearest → t ≡ k + c → (AtMost (known_at table at) t → ⊥) →
    ((j : ℕ) → known_at table at ≡ Some j → IsBounded table j) → IsBounded (set table at (Some t)) t
bounded_step table at k c t below bounded cheap sum not_low others = of_known (known_at table at) refl
  where
    each : length (set table at (Some t)) ≡ length table
    each = length-set table at (Some t)

    first : (u v n m : ℕ) → u + 1 ≡ v → m ≡ n → k + dearest * v ≤ dearest * n → t + dearest * u ≤ dearest * m
    first u v n m e f h = omega arith

    again : (u v n m j : ℕ) → u ≡ v → m ≡ n → t < j → j + dearest * v ≤ dearest * n → t + dearest * u ≤ dearest * m
    again u v n m j e f g h = omega arith

    of_known : (o : Option ℕ) → known_at table at ≡ o → IsBounded (set table at (Some t)) t
    of_known None e = first (unknowns_of (set table at (Some t))) (unknowns_of table) (length table) (length (set table at (Some t))) (unknowns_of-first table at t below e) each bounded
    of_known (Some j) e =
        again (unknowns_of (set table at (Some t))) (unknowns_of table) (length table) (length (set table at (Some t))) j (unknowns_of-again table at t j below e) each
        (below_known (known_at table at) t j e not_low) (others j e)

-- what was in bounds stays so
bounded_kept : (table : List (Option ℕ)) (at t k : ℕ) → at < length table → IsBounded table k → IsBounded (set table at (Some t)) k
bounded_kept table at t k below bounded = of_known (known_at table at) refl
  where
    sums : (u v n m : ℕ) → u ≤ v → m ≡ n → k + dearest * v ≤ dearest * n → k + dearest * u ≤ dearest * m
    sums u v n m e f h = omega arith

    of_known : (o : Option ℕ) → known_at table at ≡ o → IsBounded (set table at (Some t)) k
    of_known None e =
        sums (unknowns_of (set table at (Some t))) (unknowns_of table) (length table) (length (set table at (Some t))) (omega (arith, unknowns_of-first table at t below e)) (length-set table at (Some t)) bounded
    of_known (Some j) e =
        sums (unknowns_of (set table at (Some t))) (unknowns_of table) (length table) (length (set table at (Some t))) (omega (arith, unknowns_of-again table at t j below e)) (length-set table at (Some t)) bounded

-- a known cost or the state of a point after a write
set_cases : (table : List (Option ℕ)) (at t s k : ℕ) → at < length table → known_at (set table at (Some t)) s ≡ Some k → ((s ≡ at) × (t ≡ k)) ⊎ ((s ≢ at) × (known_at table s ≡ Some k))
set_cases table at t s k below is = of_place (cases_eq s at)
  where
    of_place : (s ≡ at) ⊎ (s ≡ at → ⊥) → ((s ≡ at) × (t ≡ k)) ⊎ ((s ≢ at) × (known_at table s ≡ Some k))
    of_place (inl e) =
        let here : Some t ≡ Some k = sym (known_at-same table at (Some t) below) ∙ sym (ap (known_at (set table at (Some t))) e) ∙ is in inl (e, (let same : t ≡ k = cc in same))
    of_place (inr ne) = inr (ne, sym (known_at-other table at s (Some t) ne) ∙ is)

-- one cost is lowered: the state is kept
pub search_written : (corridor : CorridorParts) (net : NetParts) (to : ℕ) (table : List (Option ℕ)) (queue longer : List (Reverse (ℕ × ℕ))) (excepted : ℕ → ℕ → Type 0) (at t : ℕ) →
    IsSearch corridor net to table queue excepted → at < length table → (labels : List ℕ) → Path (StepAlong corridor net) at to labels t → IsBounded (set table at (Some t)) t →
    (AtMost (known_at table at) t → ⊥) → IsPermutation (entry t at ∷ queue) longer → IsSearch corridor net to (set table at (Some t)) longer excepted
search_written corridor net to table queue longer excepted at t s below labels path bounded not_low moved = record {
  each = length-set table at (Some t) ∙ s.each;
  attained = λ p k is. attained p k (set_cases table at t p k below is);
  target = AtMost-lowered table at t to 0 below not_low s.target;
  bounded = λ p k is. in_bounds p k (set_cases table at t p k below is);
  in_range = λ p k w. subst (λ (n : ℕ). p < n) (sym (length-set table at (Some t))) (range p k (Waits-cases queue longer t at k p moved w));
  settled = λ p k is. settled p k (set_cases table at t p k below is);
}
  where
    attained : (p k : ℕ) → ((p ≡ at) × (t ≡ k)) ⊎ ((p ≢ at) × (known_at table p ≡ Some k)) → (ls : List ℕ) × Path (StepAlong corridor net) p to ls k
    attained p k (inl h) = (labels, subst (λ (q : ℕ). Path (StepAlong corridor net) q to labels k) (sym h.0) (subst (λ (n : ℕ). Path (StepAlong corridor net) at to labels n) h.1 path))
    attained p k (inr h) = s.attained p k h.1

    in_bounds : (p k : ℕ) → ((p ≡ at) × (t ≡ k)) ⊎ ((p ≢ at) × (known_at table p ≡ Some k)) → IsBounded (set table at (Some t)) k
    in_bounds p k (inl h) = subst (λ (n : ℕ). IsBounded (set table at (Some t)) n) h.1 bounded
    in_bounds p k (inr h) = bounded_kept table at t k below (s.bounded p k h.1)

    range : (p k : ℕ) → ((at ≡ p) × (t ≡ k)) ⊎ Waits queue p k → p < length table
    range p k (inl h) = subst (λ (n : ℕ). n < length table) h.0 below
    range p k (inr w) = s.in_range p k w

    kept : (p k : ℕ) → Waits queue p k ⊎ (IsFollowed corridor net table p k ⊎ excepted p k) → Waits longer p k ⊎ (IsFollowed corridor net (set table at (Some t)) p k ⊎ excepted p k)
    kept p k (inl w) = inl (Waits-pushed queue longer t at k p moved w)
    kept p k (inr (inl f)) = inr (inl (λ a l c step. AtMost-lowered table at t a (c + k) below not_low (f a l c step)))
    kept p k (inr (inr x)) = inr (inr x)

    settled : (p k : ℕ) → ((p ≡ at) × (t ≡ k)) ⊎ ((p ≢ at) × (known_at table p ≡ Some k)) →
        Waits longer p k ⊎ (IsFollowed corridor net (set table at (Some t)) p k ⊎ excepted p k)
    settled p k (inl h) = inl (subst (λ (q : ℕ). Waits longer q k) (sym h.0) (subst (λ (n : ℕ). Waits longer at n) h.1 (Waits-new queue longer t at moved)))
    settled p k (inr h) = kept p k (s.settled p k h.1)

-- a cost is taken from the queue: it is the known one, or it is not
pub search_taken : (corridor : CorridorParts) (net : NetParts) (to : ℕ) (table : List (Option ℕ)) (queue rest : List (Reverse (ℕ × ℕ))) (at k : ℕ) →
    IsSearch corridor net to table queue nothing → IsPermutation queue (entry k at ∷ rest) → IsSearch corridor net to table rest (is_point_at at k)
search_taken corridor net to table queue rest at k s moved = record {
  each = s.each;
  attained = s.attained;
  target = s.target;
  bounded = s.bounded;
  in_range = λ p j w. s.in_range p j (back p j w);
  settled = λ p j is. settled p j (s.settled p j is);
}
  where
    turned : IsPermutation (entry k at ∷ rest) queue
    turned = IsPermutation-sym queue (entry k at ∷ rest) moved

    back : (p j : ℕ) → Waits rest p j → Waits queue p j
    back p j w = Waits-pushed rest queue k at j p turned w

    settled : (p j : ℕ) → Waits queue p j ⊎ (IsFollowed corridor net table p j ⊎ nothing p j) → Waits rest p j ⊎ (IsFollowed corridor net table p j ⊎ is_point_at at k p j)
    settled p j (inl w) = of_case (Waits-cases rest queue k at j p turned w)
      where
        of_case : ((at ≡ p) × (k ≡ j)) ⊎ Waits rest p j → Waits rest p j ⊎ (IsFollowed corridor net table p j ⊎ is_point_at at k p j)
        of_case (inl h) = inr (inr (sym h.0, sym h.1))
        of_case (inr v) = inl v
    settled p j (inr (inl f)) = inr (inl f)
    settled p j (inr (inr x)) = absurd x

pub search_stale : (corridor : CorridorParts) (net : NetParts) (to : ℕ) (table : List (Option ℕ)) (queue : List (Reverse (ℕ × ℕ))) (at k : ℕ) →
    IsSearch corridor net to table queue (is_point_at at k) → (known_at table at ≡ Some k → ⊥) → IsSearch corridor net to table queue nothing
search_stale corridor net to table queue at k s stale = record {
  each = s.each;
  attained = s.attained;
  target = s.target;
  bounded = s.bounded;
  in_range = s.in_range;
  settled = λ p j is. settled p j is (s.settled p j is);
}
  where
    settled : (p j : ℕ) → known_at table p ≡ Some j → Waits queue p j ⊎ (IsFollowed corridor net table p j ⊎ is_point_at at k p j) → Waits queue p j ⊎ (IsFollowed corridor net table p j ⊎ nothing p j)
    settled p j is (inl w) = inl w
    settled p j is (inr (inl f)) = inr (inl f)
    settled p j is (inr (inr x)) = absurd (stale (sym (ap (known_at table) x.0) ∙ is ∙ ap Some x.1))

-- all edges of a point were followed
pub search_followed : (corridor : CorridorParts) (net : NetParts) (to : ℕ) (table : List (Option ℕ)) (queue : List (Reverse (ℕ × ℕ))) (at k : ℕ) → IsNet net →
    IsSearch corridor net to table queue (is_point_at at k) →
    ((i : ℕ) → i < length (edges_of_point net at) → AtMost (known_at table (get_or (edges_of_point net at) i 0)) (cost_along corridor net.points (get_or (edges_of_point net at) i 0) at + k)) →
    IsSearch corridor net to table queue nothing
search_followed corridor net to table queue at k kept s lowered = record {
  each = s.each;
  attained = s.attained;
  target = s.target;
  bounded = s.bounded;
  in_range = s.in_range;
  settled = λ p j is. settled p j (s.settled p j is);
}
  where
    followed : (a l c : ℕ) → StepAlong corridor net a l at c → AtMost (known_at table a) (c + k)
    followed a l c step =
        let edge : HasEdge net a at = subst (λ (n : ℕ). HasEdge net a n) (sym step.leads_to) step.edge in
        let back = HasEdge_symm net kept a at edge in
        let here : get_or (edges_of_point net at) back.0 0 ≡ a = get_or_default (edges_of_point net at) back.0 0 a back.1 ∙ back.2 in
        let low : AtMost (known_at table a) (cost_along corridor net.points a at + k) =
        subst (λ (n : ℕ). AtMost (known_at table n) (cost_along corridor net.points n at + k)) here (lowered back.0 back.1) in
        let cost : cost_along corridor net.points a at ≡ c = ap (cost_along corridor net.points a) step.leads_to ∙ sym step.cost in
        subst (λ (n : ℕ). AtMost (known_at table a) (n + k)) cost low

    settled : (p j : ℕ) → Waits queue p j ⊎ (IsFollowed corridor net table p j ⊎ is_point_at at k p j) → Waits queue p j ⊎ (IsFollowed corridor net table p j ⊎ nothing p j)
    settled p j (inl w) = inl w
    settled p j (inr (inl f)) = inr (inl f)
    settled p j (inr (inr x)) =
        inr (inl (subst (λ (q : ℕ). IsFollowed corridor net table q j) (sym x.0) (subst (λ (n : ℕ). IsFollowed corridor net table at n) (sym x.1) followed)))

-- a search begins with the cost 0 of its target
pub search_begins : (corridor : CorridorParts) (net : NetParts) (to : ℕ) (table : List (Option ℕ)) (queue : List (Reverse (ℕ × ℕ))) → to < length net.points →
    IsLowered (replicate (length net.points) None) table [] queue to 0 → IsSearch corridor net to table queue nothing
search_begins corridor net to table queue below (inl h) =
    absurd (subst (λ (o : Option ℕ). AtMost o 0) (known_at-none (length net.points) to) h.0)
search_begins corridor net to table queue below (inr h) =
    subst (λ (t : List (Option ℕ)). IsSearch corridor net to t queue nothing) (sym h.1) begun
  where
    none : List (Option ℕ)
    none = replicate (length net.points) None

    within : to < length none
    within = subst (λ (n : ℕ). to < n) (sym (length-replicate (length net.points) None)) below

    not_known : (s k : ℕ) → known_at none s ≡ Some k → ⊥
    not_known s k e = let clash : None ≡ Some k = sym (known_at-none (length net.points) s) ∙ e in cc

    bounded : IsBounded (set none to (Some 0)) 0
    bounded =
        sums (unknowns_of (set none to (Some 0))) (unknowns_of none) (length net.points) (length (set none to (Some 0)))
        (unknowns_of-first none to 0 within (known_at-none (length net.points) to)) (unknowns_of-none (length net.points)) (length-set none to (Some 0) ∙ length-replicate (length net.points) None)
      where
        sums : (u v n m : ℕ) → u + 1 ≡ v → v ≡ n → m ≡ n → 0 + dearest * u ≤ dearest * m
        sums u v n m e f g = omega arith

    begun : IsSearch corridor net to (set none to (Some 0)) queue nothing
    begun = record {
      each = length-set none to (Some 0) ∙ length-replicate (length net.points) None;
      attained = λ s k is. attained s k (set_cases none to 0 s k within is);
      target = subst (λ (o : Option ℕ). AtMost o 0) (sym (known_at-same none to (Some 0) within)) (omega arith);
      bounded = λ s k is. in_bounds s k (set_cases none to 0 s k within is);
      in_range = λ s k w. range s k (Waits-cases [] queue 0 to k s h.2 w);
      settled = λ s k is. settled s k (set_cases none to 0 s k within is);
    }
      where
        attained : (s k : ℕ) → ((s ≡ to) × (0 ≡ k)) ⊎ ((s ≢ to) × (known_at none s ≡ Some k)) → (ls : List ℕ) × Path (StepAlong corridor net) s to ls k
        attained s k (inl e) = ([], (e.0, sym e.1))
        attained s k (inr e) = absurd (not_known s k e.1)

        in_bounds : (s k : ℕ) → ((s ≡ to) × (0 ≡ k)) ⊎ ((s ≢ to) × (known_at none s ≡ Some k)) → IsBounded (set none to (Some 0)) k
        in_bounds s k (inl e) = subst (λ (n : ℕ). IsBounded (set none to (Some 0)) n) e.1 bounded
        in_bounds s k (inr e) = absurd (not_known s k e.1)

        range : (s k : ℕ) → ((to ≡ s) × (0 ≡ k)) ⊎ Waits [] s k → s < length (set none to (Some 0))
        range s k (inl e) = subst (λ (n : ℕ). s < n) (sym (length-set none to (Some 0))) (subst (λ (n : ℕ). n < length none) e.0 within)
        range s k (inr w) = let nowhere : w.0 < 0 = w.1 in absurd (omega arith)

        settled : (s k : ℕ) → ((s ≡ to) × (0 ≡ k)) ⊎ ((s ≢ to) × (known_at none s ≡ Some k)) → Waits queue s k ⊎ (IsFollowed corridor net (set none to (Some 0)) s k ⊎ nothing s k)
        settled s k (inl e) = inl (subst (λ (q : ℕ). Waits queue q k) (sym e.0) (subst (λ (n : ℕ). Waits queue to n) e.1 (Waits-new [] queue 0 to h.2)))
        settled s k (inr e) = absurd (not_known s k e.1)

-- a search is over where what waits is beyond the known cost of a point that the net joins to the target
pub search_ends : (corridor : CorridorParts) (net : NetParts) (from to : ℕ) (table : List (Option ℕ)) (queue : List (Reverse (ℕ × ℕ))) → Joins net from to →
    IsSearch corridor net to table queue nothing → ((s k : ℕ) → Waits queue s k → IsBeyond (known_at table from) k) → IsSearched corridor net from to table
search_ends corridor net from to table queue joined s beyond = of_known (known_at table from) refl
  where
    waiting_none : known_at table from ≡ None → (p k : ℕ) → Waits queue p k → ⊥
    waiting_none e p k w = subst (λ (o : Option ℕ). IsBeyond o k) e (beyond p k w)

    way : (c : ℕ) × Path (StepAlong corridor net) from to joined.0 c
    way = path_of_leads corridor net from to joined.0 joined.1

    of_known : (o : Option ℕ) → known_at table from ≡ o → IsSearched corridor net from to table
    of_known None e =
        let low : AtMost (known_at table from) way.0 =
        least_when_closed (StepAlong corridor net) to way.0 (known_at table) s.target (λ a p l c d step is within. closed a p l c d step (s.settled p d is)) from joined.0 way.0 (omega arith) way.1 in
        absurd (subst (λ (o : Option ℕ). AtMost o way.0) e low)
      where
        closed : (a p l c d : ℕ) → StepAlong corridor net a l p c → Waits queue p d ⊎ (IsFollowed corridor net table p d ⊎ nothing p d) → AtMost (known_at table a) (c + d)
        closed a p l c d step (inl w) = absurd (waiting_none e p d w)
        closed a p l c d step (inr (inl f)) = f a l c step
        closed a p l c d step (inr (inr x)) = absurd x
    of_known (Some bound) e = record {
      cost = bound;
      known = e;
      each = s.each;
      least = record {
        attained = s.attained;
        least = λ a labels k within path.
            least_when_closed (StepAlong corridor net) to bound (known_at table) s.target (λ b p l c d step is inside. closed b p l c d step inside (s.settled p d is)) a labels k within path;
      };
    }
      where
        closed : (a p l c d : ℕ) → StepAlong corridor net a l p c → d ≤ bound → Waits queue p d ⊎ (IsFollowed corridor net table p d ⊎ nothing p d) → AtMost (known_at table a) (c + d)
        closed a p l c d step inside (inl w) =
            let above : bound < d = subst (λ (o : Option ℕ). IsBeyond o d) e (beyond p d w) in absurd (omega arith)
        closed a p l c d step inside (inr (inl f)) = f a l c step
        closed a p l c d step inside (inr (inr x)) = absurd x

-- what is taken from the queue was a number of a point
pub taken_in_range : (corridor : CorridorParts) (net : NetParts) (to : ℕ) (table : List (Option ℕ)) (queue rest : List (Reverse (ℕ × ℕ))) (at k : ℕ) →
    IsSearch corridor net to table queue nothing → IsPermutation queue (entry k at ∷ rest) → at < length table
taken_in_range corridor net to table queue rest at k s moved =
    s.in_range at k (Waits-new rest queue k at (IsPermutation-sym queue (entry k at ∷ rest) moved))

-- and less is left to do
pub less_left : (table new : List (Option ℕ)) (queue rest longer : List (Reverse (ℕ × ℕ))) (at k : ℕ) → IsPermutation queue (entry k at ∷ rest) → left_of new longer ≤ left_of table rest →
    left_of new longer < left_of table queue
less_left table new queue rest longer at k moved no_more =
    sums (left_of new longer) (2 * height_of (dearest * length table + 1) table) (length queue) (length rest) (length_permutation queue (entry k at ∷ rest) moved) no_more
  where
    sums : (a h m n : ℕ) → suc n ≡ m → a ≤ h + n → a < h + m
    sums a h m n e f = omega arith
