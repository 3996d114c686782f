-- The edges of a point are followed one by one.
use Rattle.std.proofs.Common.{◌≡◌, ◌≢◌, refl, sym, ◌∙◌, ap, subst, ℕ, suc, ◌+◌, ◌*◌, ◌<◌, ◌≤◌, ◌⊎◌, inl, inr, List, ◌∷◌, Option, Some, length, get_or, set, Contains, arith, length-set}
use Rattle.std.proofs.lemmas.Bool.{cases_lt}
use Rattle.std.proofs.lemmas.List.Elements.{Contains-get_or}
use Rattle.std.proofs.lemmas.List.Sorted.{length_permutation}
use Rattle.std.specs.declared.cmp.Reverse.{Reverse}
use Rattle.least_path.specs.Orders.{AtMost}
use Rattle.least_path.specs.Paths.{Path}
use Rattle.track_net.specs.Nets.{NetParts, IsNet, HasEdge, edges_of_point}
use Rattle.net_paths.specs.Corridors.{CorridorParts}
use Rattle.net_paths.specs.Searching.{cost_along, StepAlong, known_at, entry, IsLowered, dearest, height_of, left_of, IsSearch, is_point_at, nothing}
use Rattle.net_paths.proofs.Tables.{known_at-same, known_at-other, AtMost-lowered, height_of-lowered}
use Rattle.net_paths.proofs.NetSteps.{edge_of, HasEdge_symm}
use Rattle.net_paths.proofs.Searches.{IsBounded, bounded_step, search_written, search_followed}

-- the first edges of a point are followed
pub record IsSpreading (corridor : CorridorParts) (net : NetParts) (to at cost : ℕ) (edges : List ℕ) (done left : ℕ) (table : List (Option ℕ)) (queue : List (Reverse (ℕ × ℕ))) : Type 0 where
  pub search : IsSearch corridor net to table queue (is_point_at at cost)
  pub known : known_at table at ≡ Some cost
  pub lowered : (i : ℕ) → i < done → AtMost (known_at table (get_or edges i 0)) (cost_along corridor net.points (get_or edges i 0) at + cost)
  pub left_over : left_of table queue ≤ left

pub spreading_begins : (corridor : CorridorParts) (net : NetParts) (to at cost : ℕ) (edges : List ℕ) (table : List (Option ℕ)) (queue : List (Reverse (ℕ × ℕ))) →
    IsSearch corridor net to table queue (is_point_at at cost) → known_at table at ≡ Some cost → IsSpreading corridor net to at cost edges 0 (left_of table queue) table queue
spreading_begins corridor net to at cost edges table queue s known = record { search = s; known = known; lowered = λ i below. absurd (omega arith); left_over = omega arith }

-- the number of a point that one has an edge with
pub edge_at : (net : NetParts) → IsNet net → (at done next : ℕ) (edges : List ℕ) → edges ≡ edges_of_point net at → done < length edges → next ≡ get_or edges done 0 → HasEdge net at next
edge_at net kept at done next edges is below here =
    subst (λ (es : List ℕ). Contains es next) is (subst (λ (n : ℕ). Contains edges n) (sym here) (Contains-get_or edges done 0 below))

pub edge_in_range : (net : NetParts) → IsNet net → (at done next : ℕ) (edges : List ℕ) → edges ≡ edges_of_point net at → done < length edges → next ≡ get_or edges done 0 → next < length net.points
edge_in_range net kept at done next edges is below here = (edge_of net kept at next (edge_at net kept at done next edges is below here)).j_in

-- a cost that is known is in bounds
pub cost_in_bounds : (corridor : CorridorParts) (net : NetParts) (to at cost : ℕ) (table : List (Option ℕ)) (queue : List (Reverse (ℕ × ℕ))) (excepted : ℕ → ℕ → Type 0) → IsNet net →
    IsSearch corridor net to table queue excepted → known_at table at ≡ Some cost → cost ≤ dearest * 100000
cost_in_bounds corridor net to at cost table queue excepted kept s known =
    let bounded = s.bounded at cost known in
    let few : length table ≤ 100000 = subst (λ (n : ℕ). n ≤ 100000) (sym s.each) kept.few in
    omega arith

-- a table keeps its length
pub length-lowered : (table lower : List (Option ℕ)) (queue longer : List (Reverse (ℕ × ℕ))) (at cost : ℕ) → IsLowered table lower queue longer at cost → length lower ≡ length table
length-lowered table lower queue longer at cost (inl h) = ap length h.1
length-lowered table lower queue longer at cost (inr h) = ap length h.1 ∙ length-set table at (Some cost)

-- one more edge
pub spreading_goes_on : (corridor : CorridorParts) (net : NetParts) (to at cost : ℕ) (edges : List ℕ) (done left : ℕ) (table lower : List (Option ℕ)) (queue longer : List (Reverse (ℕ × ℕ))) (next c : ℕ) →
    IsNet net → edges ≡ edges_of_point net at → done < length edges → next ≡ get_or edges done 0 → c ≡ cost_along corridor net.points next at → c ≤ dearest →
    IsSpreading corridor net to at cost edges done left table queue → IsLowered table lower queue longer next (cost + c) → IsSpreading corridor net to at cost edges (done + 1) left lower longer
spreading_goes_on corridor net to at cost edges done left table lower queue longer next c kept is below here cost_is cheap s lowered = of_case lowered
  where
    t : ℕ
    t = cost + c

    edge : HasEdge net at next
    edge = edge_at net kept at done next edges is below here

    below_one : (i : ℕ) → i < done + 1 → (i < done) ⊎ (i ≡ done)
    below_one i h = by_order (cases_lt i done)
      where
        by_order : (i < done) ⊎ (done ≤ i) → (i < done) ⊎ (i ≡ done)
        by_order (inl k) = inl k
        by_order (inr k) = inr (omega arith)

    all_lowered : (new : List (Option ℕ)) → ((a m : ℕ) → AtMost (known_at table a) m → AtMost (known_at new a) m) → AtMost (known_at new next) t → (i : ℕ) → i < done + 1 →
        AtMost (known_at new (get_or edges i 0)) (cost_along corridor net.points (get_or edges i 0) at + cost)
    all_lowered new stays low i h = by_case (below_one i h)
      where
        by_case : (i < done) ⊎ (i ≡ done) → AtMost (known_at new (get_or edges i 0)) (cost_along corridor net.points (get_or edges i 0) at + cost)
        by_case (inl k) = stays (get_or edges i 0) (cost_along corridor net.points (get_or edges i 0) at + cost) (s.lowered i k)
        by_case (inr e) =
            let point : next ≡ get_or edges i 0 = here ∙ ap (λ n. get_or edges n 0) (sym e) in
            let sum : t ≡ cost_along corridor net.points next at + cost = omega arith in
            subst (λ (n : ℕ). AtMost (known_at new n) (cost_along corridor net.points n at + cost)) point (subst (λ (n : ℕ). AtMost (known_at new next) n) sum low)

    of_case : IsLowered table lower queue longer next t → IsSpreading corridor net to at cost edges (done + 1) left lower longer
    of_case (inl h) =
        subst (λ (new : List (Option ℕ)). IsSpreading corridor net to at cost edges (done + 1) left new longer) (sym h.1)
        (subst (λ (q : List (Reverse (ℕ × ℕ))). IsSpreading corridor net to at cost edges (done + 1) left table q) (sym h.2)
        (record { search = s.search; known = s.known; lowered = all_lowered table (λ a m low. low) h.0; left_over = s.left_over }))
    of_case (inr h) =
        subst (λ (new : List (Option ℕ)). IsSpreading corridor net to at cost edges (done + 1) left new longer) (sym h.1) written
      where
        in_net : next < length net.points
        in_net = edge_in_range net kept at done next edges is below here

        in_table : next < length table
        in_table = subst (λ (n : ℕ). next < n) (sym s.search.each) in_net

        new : List (Option ℕ)
        new = set table next (Some t)

        bounded : IsBounded new t
        bounded = bounded_step table next cost c t in_table (s.search.bounded at cost s.known) cheap refl h.0 (λ j e. s.search.bounded next j e)

        path : (labels : List ℕ) × Path (StepAlong corridor net) at to labels cost
        path = s.search.attained at cost s.known

        sum : t ≡ c + cost
        sum = omega arith

        onward : Path (StepAlong corridor net) next to (at ∷ path.0) t
        onward = (at, c, cost, record { edge = HasEdge_symm net kept at next edge; leads_to = refl; cost = cost_is }, path.1, sum)

        apart : at ≢ next
        apart = (edge_of net kept at next edge).apart

        top : ℕ
        top = dearest * length table + 1

        same_top : dearest * length new + 1 ≡ top
        same_top = ap (λ n. dearest * n + 1) (length-set table next (Some t))

        falls : height_of top new + 1 ≤ height_of top table
        falls = height_of-lowered top table next t in_table (under (length-set table next (Some t)) bounded) h.0
          where
            under : length new ≡ length table → IsBounded new t → t < dearest * length table + 1
            under e b = omega arith

        fewer : left_of new longer ≤ left
        fewer =
            sums (height_of (dearest * length new + 1) new) (height_of top new) (height_of top table) (length longer) (length queue)
            (ap (λ n. height_of n new) same_top) falls (length_permutation (entry t next ∷ queue) longer h.2) s.left_over
          where
            sums : (a b c m n : ℕ) → a ≡ b → b + 1 ≤ c → m ≡ suc n → 2 * c + n ≤ left → 2 * a + m ≤ left
            sums a b c m n e f g k = omega arith

        written : IsSpreading corridor net to at cost edges (done + 1) left new longer
        written = record {
          search = search_written corridor net to table queue longer (is_point_at at cost) next t s.search in_table (at ∷ path.0) onward bounded h.0 h.2;
          known = known_at-other table next at (Some t) apart ∙ s.known;
          lowered = all_lowered new (λ a m low. AtMost-lowered table next t a m in_table h.0 low) (subst (λ (o : Option ℕ). AtMost o t) (sym (known_at-same table next (Some t) in_table)) (omega arith));
          left_over = fewer;
        }

-- all edges
pub spreading_ends : (corridor : CorridorParts) (net : NetParts) (to at cost : ℕ) (edges : List ℕ) (done left : ℕ) (table : List (Option ℕ)) (queue : List (Reverse (ℕ × ℕ))) → IsNet net →
    edges ≡ edges_of_point net at → length edges ≤ done → IsSpreading corridor net to at cost edges done left table queue → IsSearch corridor net to table queue nothing
spreading_ends corridor net to at cost edges done left table queue kept is all s =
    search_followed corridor net to table queue at cost kept s.search
    (subst
    (λ (es : List ℕ). (i : ℕ) → i < length es → AtMost (known_at table (get_or es i 0)) (cost_along corridor net.points (get_or es i 0) at + cost)) is
    (λ i below. s.lowered i (omega arith)))
