-- A search keeps its state: where a cost is lowered, where a state is taken or followed, and at its end.
use Rattle.std.proofs.Common.{◌≡◌, ◌≢◌, refl, sym, ◌∙◌, ap, subst, ℕ, suc, ◌+◌, ◌*◌, ◌<◌, ◌≤◌, ◌⊎◌, inl, inr, List, [], ◌∷◌, Option, Some, None, length, min, set, replicate, IsPermutation, arith, length-set}
use Rattle.std.proofs.lemmas.Bool.{cases_eq, cases_lt}
use Rattle.std.proofs.lemmas.List.{length-replicate}
use Rattle.std.proofs.lemmas.List.Sorted.{IsPermutation-sym, length_permutation}
use Rattle.std.specs.declared.cmp.Reverse.{Reverse}
use Rattle.least_path.specs.Orders.{AtMost}
use Rattle.state_search.specs.Goals.{Space, PathTo, IsSpace}
use Rattle.state_search.specs.Searching.{known_at, entry, Waits, IsBeyond, unknowns_of, height_of, left_of, IsFollowed, IsSearch, HasGoals, is_state_at, nothing, IsFound, IsSearched, IsKnownWithin, IsSearchedUpTo, lesser_limit}
use Rattle.state_search.proofs.Paths.{least_when_closed}
use Rattle.state_search.proofs.Tables.{known_at-same, known_at-other, AtMost-lowered, unknowns_of-first, unknowns_of-again, unknowns_of-le, below_known, height_of-lowered, Waits-pushed, Waits-new, Waits-cases, known_at-none}

-- a cost is in bounds where it and the number of states without one come to no more than all states together
abbrev pub IsBounded : ℕ → List (Option ℕ) → ℕ → Type 0
IsBounded dearest table k = k + dearest * unknowns_of table ≤ dearest * length table

-- nothing is in bounds
pub bounded_nothing : (dearest : ℕ) (table : List (Option ℕ)) → IsBounded dearest table 0
bounded_nothing dearest table = products (unknowns_of table) (length table) (unknowns_of-le table)
  where
    products : (u n : ℕ) → u ≤ n → 0 + dearest * u ≤ dearest * n
    products u n h = grind arith

-- the cost of one more step is in bounds too, once it is known
pub bounded_step : (dearest : ℕ) (table : List (Option ℕ)) (at k c t : ℕ) → at < length table → IsBounded dearest table k → c ≤ dearest → t ≡ k + c → (AtMost (known_at table at) t → ⊥) →
    ((j : ℕ) → known_at table at ≡ Some j → IsBounded dearest table j) → IsBounded dearest (set table at (Some t)) t
bounded_step dearest table at k c t below bounded cheap sum not_low others = of_known (known_at table at) refl
  where
    each : length (set table at (Some t)) ≡ length table
    each = length-set table at (Some t)

    first : (u v n m : ℕ) → u + 1 ≡ v → m ≡ n → k + dearest * v ≤ dearest * n → t + dearest * u ≤ dearest * m
    first u v n m e f h =
        let more : dearest * v ≡ dearest * u + dearest = ap (λ x. dearest * x) (sym e) ∙ (let all : dearest * (u + 1) ≡ dearest * u + dearest = omega arith in all) in
        let same : dearest * m ≡ dearest * n = ap (λ x. dearest * x) f in
        omega arith

    again : (u v n m j : ℕ) → u ≡ v → m ≡ n → t < j → j + dearest * v ≤ dearest * n → t + dearest * u ≤ dearest * m
    again u v n m j e f g h =
        let more : dearest * u ≡ dearest * v = ap (λ x. dearest * x) e in
        let same : dearest * m ≡ dearest * n = ap (λ x. dearest * x) f in
        omega arith

    of_known : (o : Option ℕ) → known_at table at ≡ o → IsBounded dearest (set table at (Some t)) t
    of_known None e = first (unknowns_of (set table at (Some t))) (unknowns_of table) (length table) (length (set table at (Some t))) (unknowns_of-first table at t below e) each bounded
    of_known (Some j) e =
        again (unknowns_of (set table at (Some t))) (unknowns_of table) (length table) (length (set table at (Some t))) j (unknowns_of-again table at t j below e) each
        (below_known (known_at table at) t j e not_low) (others j e)

-- what was in bounds stays so
pub bounded_kept : (dearest : ℕ) (table : List (Option ℕ)) (at t k : ℕ) → at < length table → IsBounded dearest table k → IsBounded dearest (set table at (Some t)) k
bounded_kept dearest table at t k below bounded = of_known (known_at table at) refl
  where
    sums : (u v n m : ℕ) → u ≤ v → m ≡ n → k + dearest * v ≤ dearest * n → k + dearest * u ≤ dearest * m
    sums u v n m e f h =
        let less : dearest * u ≤ dearest * v = grind arith in
        let same : dearest * m ≡ dearest * n = ap (λ x. dearest * x) f in
        omega arith

    of_known : (o : Option ℕ) → known_at table at ≡ o → IsBounded dearest (set table at (Some t)) k
    of_known None e =
        sums (unknowns_of (set table at (Some t))) (unknowns_of table) (length table) (length (set table at (Some t))) (omega (arith, unknowns_of-first table at t below e)) (length-set table at (Some t)) bounded
    of_known (Some j) e =
        sums (unknowns_of (set table at (Some t))) (unknowns_of table) (length table) (length (set table at (Some t))) (omega (arith, unknowns_of-again table at t j below e)) (length-set table at (Some t)) bounded

-- a known cost or the state of a state after a write
set_cases : (table : List (Option ℕ)) (at t s k : ℕ) → at < length table → known_at (set table at (Some t)) s ≡ Some k → ((s ≡ at) × (t ≡ k)) ⊎ ((s ≢ at) × (known_at table s ≡ Some k))
set_cases table at t s k below is = of_place (cases_eq s at)
  where
    of_place : (s ≡ at) ⊎ (s ≡ at → ⊥) → ((s ≡ at) × (t ≡ k)) ⊎ ((s ≢ at) × (known_at table s ≡ Some k))
    of_place (inl e) =
        let here : Some t ≡ Some k = sym (known_at-same table at (Some t) below) ∙ sym (ap (known_at (set table at (Some t))) e) ∙ is in inl (e, (let same : t ≡ k = cc in same))
    of_place (inr ne) = inr (ne, sym (known_at-other table at s (Some t) ne) ∙ is)

-- one cost is lowered: the state is kept
pub search_written : (w : Space) (table : List (Option ℕ)) (queue longer : List (Reverse (ℕ × ℕ))) (excepted : ℕ → ℕ → Type 0) (at t : ℕ) →
    IsSearch w table queue excepted → at < length table → (labels : List ℕ) → PathTo w at labels t → IsBounded w.dearest (set table at (Some t)) t →
    (AtMost (known_at table at) t → ⊥) → IsPermutation (entry (t + w.ahead at) at ∷ queue) longer → IsSearch w (set table at (Some t)) longer excepted
search_written w table queue longer excepted at t s below labels path bounded not_low moved = record {
  each = length-set table at (Some t) ∙ s.each;
  attained = λ p k is. attained p k (set_cases table at t p k below is);
  bounded = λ p k is. in_bounds p k (set_cases table at t p k below is);
  in_range = λ p k v. subst (λ (n : ℕ). p < n) (sym (length-set table at (Some t))) (range p k (Waits-cases queue longer (t + w.ahead at) at k p moved v));
  settled = λ p k is. settled p k (set_cases table at t p k below is);
}
  where
    attained : (p k : ℕ) → ((p ≡ at) × (t ≡ k)) ⊎ ((p ≢ at) × (known_at table p ≡ Some k)) → (ls : List ℕ) × PathTo w p ls k
    attained p k (inl h) = (labels, subst (λ (q : ℕ). PathTo w q labels k) (sym h.0) (subst (λ (n : ℕ). PathTo w at labels n) h.1 path))
    attained p k (inr h) = s.attained p k h.1

    in_bounds : (p k : ℕ) → ((p ≡ at) × (t ≡ k)) ⊎ ((p ≢ at) × (known_at table p ≡ Some k)) → IsBounded w.dearest (set table at (Some t)) k
    in_bounds p k (inl h) = subst (λ (n : ℕ). IsBounded w.dearest (set table at (Some t)) n) h.1 bounded
    in_bounds p k (inr h) = bounded_kept w.dearest table at t k below (s.bounded p k h.1)

    range : (p k : ℕ) → ((at ≡ p) × (t + w.ahead at ≡ k)) ⊎ Waits queue p k → p < length table
    range p k (inl h) = subst (λ (n : ℕ). n < length table) h.0 below
    range p k (inr v) = s.in_range p k v

    kept : (p k : ℕ) → Waits queue p (k + w.ahead p) ⊎ (IsFollowed w table p k ⊎ excepted p k) → Waits longer p (k + w.ahead p) ⊎ (IsFollowed w (set table at (Some t)) p k ⊎ excepted p k)
    kept p k (inl v) = inl (Waits-pushed queue longer (t + w.ahead at) at (k + w.ahead p) p moved v)
    kept p k (inr (inl f)) = inr (inl (λ a l c step. AtMost-lowered table at t a (c + k) below not_low (f a l c step)))
    kept p k (inr (inr x)) = inr (inr x)

    settled : (p k : ℕ) → ((p ≡ at) × (t ≡ k)) ⊎ ((p ≢ at) × (known_at table p ≡ Some k)) →
        Waits longer p (k + w.ahead p) ⊎ (IsFollowed w (set table at (Some t)) p k ⊎ excepted p k)
    settled p k (inl h) =
        inl (subst (λ (q : ℕ). Waits longer q (k + w.ahead q)) (sym h.0) (subst (λ (n : ℕ). Waits longer at (n + w.ahead at)) h.1 (Waits-new queue longer (t + w.ahead at) at moved)))
    settled p k (inr h) = kept p k (s.settled p k h.1)

-- and less is left to do
pub left_written : (dearest : ℕ) (table : List (Option ℕ)) (queue longer : List (Reverse (ℕ × ℕ))) (at t e : ℕ) → at < length table → IsBounded dearest (set table at (Some t)) t →
    (AtMost (known_at table at) t → ⊥) → IsPermutation (entry e at ∷ queue) longer → left_of dearest (set table at (Some t)) longer ≤ left_of dearest table queue
left_written dearest table queue longer at t e below bounded not_low moved =
    sums (height_of (dearest * length new + 1) new) (height_of top new) (height_of top table) (length longer) (length queue)
    (ap (λ n. height_of n new) same_top) (height_of-lowered top table at t below (under (length new) (unknowns_of new) each bounded) not_low) (length_permutation (entry e at ∷ queue) longer moved)
  where
    new : List (Option ℕ)
    new = set table at (Some t)

    top : ℕ
    top = dearest * length table + 1

    each : length new ≡ length table
    each = length-set table at (Some t)

    same_top : dearest * length new + 1 ≡ top
    same_top = ap (λ n. dearest * n + 1) each

    under : (n u : ℕ) → n ≡ length table → t + dearest * u ≤ dearest * n → t < dearest * length table + 1
    under n u e b = let same : dearest * n ≡ dearest * length table = ap (λ x. dearest * x) e in omega arith

    sums : (a b c m n : ℕ) → a ≡ b → b + 1 ≤ c → m ≡ suc n → 2 * a + m ≤ 2 * c + n
    sums a b c m n e f g = omega arith

-- an estimate is taken from the queue: it is that of the known cost, or it is not
pub search_taken : (w : Space) (table : List (Option ℕ)) (queue rest : List (Reverse (ℕ × ℕ))) (at k e : ℕ) → e ≡ k + w.ahead at →
    IsSearch w table queue nothing → IsPermutation queue (entry e at ∷ rest) → IsSearch w table rest (is_state_at at k)
search_taken w table queue rest at k e estimate s moved = record {
  each = s.each;
  attained = s.attained;
  bounded = s.bounded;
  in_range = λ p j v. s.in_range p j (back p j v);
  settled = λ p j is. settled p j (s.settled p j is);
}
  where
    turned : IsPermutation (entry e at ∷ rest) queue
    turned = IsPermutation-sym queue (entry e at ∷ rest) moved

    back : (p j : ℕ) → Waits rest p j → Waits queue p j
    back p j v = Waits-pushed rest queue e at j p turned v

    settled : (p j : ℕ) → Waits queue p (j + w.ahead p) ⊎ (IsFollowed w table p j ⊎ nothing p j) → Waits rest p (j + w.ahead p) ⊎ (IsFollowed w table p j ⊎ is_state_at at k p j)
    settled p j (inl v) = of_case (Waits-cases rest queue e at (j + w.ahead p) p turned v)
      where
        of_case : ((at ≡ p) × (e ≡ j + w.ahead p)) ⊎ Waits rest p (j + w.ahead p) → Waits rest p (j + w.ahead p) ⊎ (IsFollowed w table p j ⊎ is_state_at at k p j)
        of_case (inl h) =
            let same : w.ahead at ≡ w.ahead p = ap (λ n. w.ahead n) h.0 in
            let cost : j ≡ k = omega (arith, h.1, same, estimate) in
            inr (inr (sym h.0, cost))
        of_case (inr v) = inl v
    settled p j (inr (inl f)) = inr (inl f)
    settled p j (inr (inr x)) = absurd x

-- where the known cost makes another estimate, nothing is lost
pub search_stale : (w : Space) (table : List (Option ℕ)) (queue rest : List (Reverse (ℕ × ℕ))) (at e : ℕ) →
    IsSearch w table queue nothing → IsPermutation queue (entry e at ∷ rest) → ((k : ℕ) → known_at table at ≡ Some k → e ≡ k + w.ahead at → ⊥) → IsSearch w table rest nothing
search_stale w table queue rest at e s moved stale = record {
  each = s.each;
  attained = s.attained;
  bounded = s.bounded;
  in_range = λ p j v. s.in_range p j (Waits-pushed rest queue e at j p turned v);
  settled = λ p j is. settled p j is (s.settled p j is);
}
  where
    turned : IsPermutation (entry e at ∷ rest) queue
    turned = IsPermutation-sym queue (entry e at ∷ rest) moved

    settled : (p j : ℕ) → known_at table p ≡ Some j → Waits queue p (j + w.ahead p) ⊎ (IsFollowed w table p j ⊎ nothing p j) → Waits rest p (j + w.ahead p) ⊎ (IsFollowed w table p j ⊎ nothing p j)
    settled p j is (inl v) = of_case (Waits-cases rest queue e at (j + w.ahead p) p turned v)
      where
        of_case : ((at ≡ p) × (e ≡ j + w.ahead p)) ⊎ Waits rest p (j + w.ahead p) → Waits rest p (j + w.ahead p) ⊎ (IsFollowed w table p j ⊎ nothing p j)
        of_case (inl h) = absurd (stale j (ap (known_at table) h.0 ∙ is) (h.1 ∙ ap (λ n. j + w.ahead n) (sym h.0)))
        of_case (inr v) = inl v
    settled p j is (inr (inl f)) = inr (inl f)
    settled p j is (inr (inr x)) = absurd x

-- all steps to a state were followed
pub search_followed : (w : Space) (table : List (Option ℕ)) (queue : List (Reverse (ℕ × ℕ))) (at k : ℕ) →
    IsSearch w table queue (is_state_at at k) → IsFollowed w table at k → IsSearch w table queue nothing
search_followed w table queue at k s followed = record {
  each = s.each;
  attained = s.attained;
  bounded = s.bounded;
  in_range = s.in_range;
  settled = λ p j is. settled p j (s.settled p j is);
}
  where
    settled : (p j : ℕ) → Waits queue p (j + w.ahead p) ⊎ (IsFollowed w table p j ⊎ is_state_at at k p j) → Waits queue p (j + w.ahead p) ⊎ (IsFollowed w table p j ⊎ nothing p j)
    settled p j (inl v) = inl v
    settled p j (inr (inl f)) = inr (inl f)
    settled p j (inr (inr x)) =
        inr (inl (subst (λ (q : ℕ). IsFollowed w table q j) (sym x.0) (subst (λ (n : ℕ). IsFollowed w table at n) (sym x.1) followed)))

-- a search begins with nothing known and nothing that waits
pub search_begins : (w : Space) → IsSearch w (replicate w.count None) [] nothing
search_begins w = record {
  each = length-replicate w.count None;
  attained = λ s k is. absurd (not_known s k is);
  bounded = λ s k is. absurd (not_known s k is);
  in_range = λ s k v. let nowhere : v.0 < 0 = v.1 in absurd (omega arith);
  settled = λ s k is. absurd (not_known s k is);
}
  where
    not_known : (s k : ℕ) → known_at (replicate w.count None) s ≡ Some k → ⊥
    not_known s k e = let clash : None ≡ Some k = sym (known_at-none w.count s) ∙ e in cc

-- numbers and limits
lesser_low : (d most k : ℕ) → d ≤ most → min d most < k → d < k
lesser_low d most k low h = omega arith

lesser_high : (d most k : ℕ) → most < d → min d most < k → most < k
lesser_high d most k high h = omega arith

-- where all that waits is beyond a bound, no path within it costs less than what is known
pub least_within : (w : Space) → IsSpace w → (bound : ℕ) (table : List (Option ℕ)) (queue : List (Reverse (ℕ × ℕ))) → IsSearch w table queue nothing → HasGoals w table →
    ((s k : ℕ) → Waits queue s k → bound < k) → (a : ℕ) (labels : List ℕ) (k : ℕ) → k + w.ahead a ≤ bound → PathTo w a labels k → AtMost (known_at table a) k
least_within w space bound table queue s goals beyond a labels k within path =
    least_when_closed w space bound (known_at table) (λ b j inside end. goals b j end) (λ b p l c d step is inside. closed b p l c d step inside (s.settled p d is)) a labels k within path
  where
    closed : (a p l c d : ℕ) → w.step a l p c → d + w.ahead p ≤ bound → Waits queue p (d + w.ahead p) ⊎ (IsFollowed w table p d ⊎ nothing p d) → AtMost (known_at table a) (c + d)
    closed a p l c d step inside (inl v) = let above : bound < d + w.ahead p = beyond p (d + w.ahead p) v in absurd (omega arith)
    closed a p l c d step inside (inr (inl f)) = f a l c step
    closed a p l c d step inside (inr (inr x)) = absurd x

-- a search is over where all that waits is beyond the known cost of a state that nothing lies ahead of
pub search_ends : (w : Space) → IsSpace w → (from : ℕ) (table : List (Option ℕ)) (queue : List (Reverse (ℕ × ℕ))) → w.ahead from ≡ 0 →
    IsSearch w table queue nothing → HasGoals w table → ((s k : ℕ) → Waits queue s k → IsBeyond (known_at table from) k) → IsSearched w from table
search_ends w space from table queue at_start s goals beyond = (s.each, of_known (known_at table from) refl)
  where
    of_known : (o : Option ℕ) → known_at table from ≡ o → IsFound w from table o
    of_known None e = λ labels k path.
        subst (λ (o : Option ℕ). AtMost o k) e
        (least_within w space (k + w.ahead from) table queue s goals (λ p j v. absurd (subst (λ (o : Option ℕ). IsBeyond o j) e (beyond p j v))) from labels k (omega arith) path)
    of_known (Some bound) e = record { attained = s.attained; least = least_within w space bound table queue s goals (λ p j v. subst (λ (o : Option ℕ). IsBeyond o j) e (beyond p j v)) }

-- it is over up to a limit where all that waits is beyond this cost or beyond the limit
pub search_ends_at : (w : Space) → IsSpace w → (limit : Option ℕ) (from : ℕ) (table : List (Option ℕ)) (queue : List (Reverse (ℕ × ℕ))) → w.ahead from ≡ 0 →
    IsSearch w table queue nothing → HasGoals w table → ((s k : ℕ) → Waits queue s k → IsBeyond (lesser_limit (known_at table from) limit) k) → IsSearchedUpTo limit w from table
search_ends_at w space limit from table queue at_start s goals waits = of_both limit (known_at table from) refl waits
  where
    seen : (l o : Option ℕ) → known_at table from ≡ o → ((t k : ℕ) → Waits queue t k → IsBeyond (lesser_limit (known_at table from) l) k) → (t k : ℕ) → Waits queue t k → IsBeyond (lesser_limit o l) k
    seen l o e beyond t k v = subst (λ (x : Option ℕ). IsBeyond (lesser_limit x l) k) e (beyond t k v)

    whole : (o : Option ℕ) → known_at table from ≡ o → ((t k : ℕ) → Waits queue t k → IsBeyond o k) → IsSearched w from table
    whole o e beyond = search_ends w space from table queue at_start s goals (λ t k v. subst (λ (x : Option ℕ). IsBeyond x k) (sym e) (beyond t k v))

    least : (most : ℕ) → ((t k : ℕ) → Waits queue t k → most < k) → (labels : List ℕ) (k : ℕ) → PathTo w from labels k → k ≤ most → AtMost (known_at table from) k
    least most beyond labels k path low = least_within w space most table queue s goals beyond from labels k (omega (arith, at_start)) path

    of_low : (most d : ℕ) → known_at table from ≡ Some d → ((t k : ℕ) → Waits queue t k → min d most < k) → (most < d) ⊎ (d ≤ most) → IsSearchedUpTo (Some most) w from table
    of_low most d e beyond (inr low) = record {
      within = λ h. whole (Some d) e (λ t k v. lesser_low d most k low (beyond t k v));
      beyond = λ h labels k path. absurd (h (subst (λ (x : Option ℕ). IsKnownWithin x (Some most)) (sym e) low));
    }
    of_low most d e beyond (inl high) = record {
      within = λ h. let low : d ≤ most = subst (λ (x : Option ℕ). IsKnownWithin x (Some most)) e h in absurd (omega arith);
      beyond = λ h labels k path. by_order labels k path (cases_lt most k);
    }
      where
        by_order : (labels : List ℕ) (k : ℕ) → PathTo w from labels k → (most < k) ⊎ (k ≤ most) → most < k
        by_order labels k path (inl above) = above
        by_order labels k path (inr below) =
            let known : d ≤ k = subst (λ (x : Option ℕ). AtMost x k) e (least most (λ t j v. lesser_high d most j high (beyond t j v)) labels k path below) in omega arith

    of_both : (l o : Option ℕ) → known_at table from ≡ o → ((t k : ℕ) → Waits queue t k → IsBeyond (lesser_limit (known_at table from) l) k) → IsSearchedUpTo l w from table
    of_both None None e beyond =
        let all = whole None e (seen None None e beyond) in
        record { within = λ h. all; beyond = λ h labels k path. subst (IsFound w from table) e all.1 labels k path }
    of_both None (Some d) e beyond =
        let all = whole (Some d) e (seen None (Some d) e beyond) in
        record { within = λ h. all; beyond = λ h labels k path. absurd (h (subst (λ (x : Option ℕ). IsKnownWithin x None) (sym e) tt)) }
    of_both (Some most) None e beyond = record {
      within = λ h. absurd (subst (λ (x : Option ℕ). IsKnownWithin x (Some most)) e h);
      beyond = λ h labels k path. by_order labels k path (cases_lt most k);
    }
      where
        by_order : (labels : List ℕ) (k : ℕ) → PathTo w from labels k → (most < k) ⊎ (k ≤ most) → most < k
        by_order labels k path (inl above) = above
        by_order labels k path (inr below) = absurd (subst (λ (x : Option ℕ). AtMost x k) e (least most (seen (Some most) None e beyond) labels k path below))
    of_both (Some most) (Some d) e beyond = of_low most d e (seen (Some most) (Some d) e beyond) (cases_lt most d)

-- what is taken from the queue was a number of a state
pub taken_in_range : (w : Space) (table : List (Option ℕ)) (queue rest : List (Reverse (ℕ × ℕ))) (at e : ℕ) →
    IsSearch w table queue nothing → IsPermutation queue (entry e at ∷ rest) → at < length table
taken_in_range w table queue rest at e s moved =
    s.in_range at e (Waits-new rest queue e at (IsPermutation-sym queue (entry e at ∷ rest) moved))

-- and less is left to do
pub less_left : (dearest : ℕ) (table new : List (Option ℕ)) (queue rest longer : List (Reverse (ℕ × ℕ))) (at e : ℕ) → IsPermutation queue (entry e at ∷ rest) → left_of dearest new longer ≤ left_of dearest table rest →
    left_of dearest new longer < left_of dearest table queue
less_left dearest table new queue rest longer at e moved no_more =
    sums (left_of dearest new longer) (2 * height_of (dearest * length table + 1) table) (length queue) (length rest) (length_permutation queue (entry e at ∷ rest) moved) no_more
  where
    sums : (a h m n : ℕ) → suc n ≡ m → a ≤ h + n → a < h + m
    sums a h m n e f = omega arith
