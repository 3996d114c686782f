-- Places that are gone through from the last one down.
use Rattle.std.proofs.Common.{◌≡◌, ◌≢◌, sym, ◌∙◌, ap, subst, ℕ, ◌+◌, ◌*◌, ◌<◌, ◌≤◌, min, Bool, true, false, nat_le, List, length, get_or, set, Option, Some, None, ◌⊎◌, inl, inr, arith, get_or-set_other, get_or-set_same, length-set}
use Rattle.std.proofs.Math.Nat.{le_trans}
use Rattle.std.proofs.lemmas.Bool.{cases_lt}
use Rattle.std.specs.Option.{option_map_or}
use Rattle.map_base.specs.declared.point.Point.{Point}
use Rattle.shape_track.specs.Sweeps.{taken_at, cost_at, IsSweptDown}

-- the cost of a later place, if there is one
abbrev pub IsNext : Option ℕ → List ℕ → ℕ → ℕ → Type 0
IsNext next costs place n = ((place ≡ n) × (next ≡ None)) ⊎ ((place < n) × (next ≡ Some (get_or costs place 0)))

-- the places from one on are gone through
pub record IsSweptFrom (samples : List Point) (station : Point) (later : ℕ) (rest costs : List ℕ) (row : List Bool) (next : Option ℕ) (place : ℕ) : Type 0 where
  pub count : length costs ≡ length samples
  pub row_count : length row ≡ length samples
  pub left : (other : ℕ) → other < place → get_or costs other 0 ≡ get_or rest other 0
  pub untaken : (other : ℕ) → other < place → taken_at row other ≡ false
  pub swept : IsSweptDown samples station rest costs row place
  pub next_is : IsNext next costs place (length samples)
  pub bounded : (other : ℕ) → place ≤ other → other < length samples → get_or costs other 0 ≤ (later + 1) * 720000000000000000

-- one more place, before those that are gone through
pub one_more : (samples : List Point) (station : Point) (later : ℕ) (rest costs : List ℕ) (row : List Bool) (next : Option ℕ) (q p here least : ℕ) (taken : Bool) → q ≡ p + 1 → p < length samples →
    IsSweptFrom samples station later rest costs row next q → here ≡ cost_at samples station rest p → here ≤ (later + 1) * 720000000000000000 →
    least ≡ option_map_or (λ c. min here c) next here → taken ≡ option_map_or (λ c. nat_le here c) next true →
    IsSweptFrom samples station later rest (set costs p least) (set row p taken) (Some least) p
one_more samples station later rest costs row next q p here least taken q_is below s here_is bounded least_is taken_is = record {
  count = length-set costs p least ∙ s.count;
  row_count = length-set row p taken ∙ s.row_count;
  left = λ other under. let apart : other ≢ p = omega arith in get_or-set_other costs p other least 0 apart ∙ s.left other (omega arith);
  untaken = λ other under. let apart : other ≢ p = omega arith in get_or-set_other row p other taken false apart ∙ s.untaken other (omega arith);
  swept = record {
    last = λ place above at_end. last place (place_cases place above) at_end;
    last_taken = λ place above at_end. last_taken place (place_cases place above) at_end;
    lesser = λ place above more. lesser place (place_cases place above) more;
    taken = λ place above more. is_taken place (place_cases place above) more;
  };
  next_is = inr (below, ap Some (sym (get_or-set_same costs p least 0 within)));
  bounded = λ other above under. bound other (place_cases other above) under;
}
  where
    within : p < length costs
    within = omega (arith, s.count)

    row_within : p < length row
    row_within = omega (arith, s.row_count)

    place_cases : (place : ℕ) → p ≤ place → (place ≡ p) ⊎ (q ≤ place)
    place_cases place above = by_order (cases_lt p place)
      where
        by_order : (p < place) ⊎ (place ≤ p) → (place ≡ p) ⊎ (q ≤ place)
        by_order (inl h) = inr (omega arith)
        by_order (inr h) = inl (omega arith)

    same_cost : (place : ℕ) → q ≤ place → get_or (set costs p least) place 0 ≡ get_or costs place 0
    same_cost place above = let apart : place ≢ p = omega arith in get_or-set_other costs p place least 0 apart

    same_taken : (place : ℕ) → q ≤ place → taken_at (set row p taken) place ≡ taken_at row place
    same_taken place above = let apart : place ≢ p = omega arith in get_or-set_other row p place taken false apart

    here_cost : get_or (set costs p least) p 0 ≡ least
    here_cost = get_or-set_same costs p least 0 within

    here_taken : taken_at (set row p taken) p ≡ taken
    here_taken = get_or-set_same row p taken false row_within

    alone : IsNext next costs q (length samples) → p + 1 ≡ length samples → next ≡ None
    alone (inl h) at_end = h.1
    alone (inr h) at_end = absurd (omega arith)

    followed : IsNext next costs q (length samples) → p + 1 < length samples → next ≡ Some (get_or costs (p + 1) 0)
    followed (inl h) more = absurd (omega arith)
    followed (inr h) more = h.1 ∙ ap (λ n. Some (get_or costs n 0)) q_is

    last : (place : ℕ) → (place ≡ p) ⊎ (q ≤ place) → place + 1 ≡ length samples → get_or (set costs p least) place 0 ≡ cost_at samples station rest place
    last place (inl e) at_end =
        let no_next : next ≡ None = alone s.next_is (ap (λ n. n + 1) (sym e) ∙ at_end) in
        ap (λ n. get_or (set costs p least) n 0) e ∙ here_cost ∙ least_is ∙ ap (λ o. option_map_or (λ c. min here c) o here) no_next ∙ here_is
        ∙ ap (cost_at samples station rest) (sym e)
    last place (inr h) at_end = same_cost place h ∙ s.swept.last place h at_end

    last_taken : (place : ℕ) → (place ≡ p) ⊎ (q ≤ place) → place + 1 ≡ length samples → taken_at (set row p taken) place ≡ true
    last_taken place (inl e) at_end =
        let no_next : next ≡ None = alone s.next_is (ap (λ n. n + 1) (sym e) ∙ at_end) in
        ap (taken_at (set row p taken)) e ∙ here_taken ∙ taken_is ∙ ap (λ o. option_map_or (λ c. nat_le here c) o true) no_next
    last_taken place (inr h) at_end = same_taken place h ∙ s.swept.last_taken place h at_end

    lesser : (place : ℕ) → (place ≡ p) ⊎ (q ≤ place) → place + 1 < length samples → get_or (set costs p least) place 0 ≡ min (cost_at samples station rest place) (get_or (set costs p least) (place + 1) 0)
    lesser place (inl e) more =
        let then : next ≡ Some (get_or costs (p + 1) 0) = followed s.next_is (subst (λ (n : ℕ). n + 1 < length samples) e more) in
        ap (λ n. get_or (set costs p least) n 0) e ∙ here_cost ∙ least_is ∙ ap (λ o. option_map_or (λ c. min here c) o here) then
        ∙ ap (λ h. min h (get_or costs (p + 1) 0)) here_is ∙ ap (λ c. min (cost_at samples station rest p) c) (sym (same_cost (p + 1) (omega arith)))
        ∙ ap (λ n. min (cost_at samples station rest n) (get_or (set costs p least) (n + 1) 0)) (sym e)
    lesser place (inr h) more =
        same_cost place h ∙ s.swept.lesser place h more ∙ ap (λ c. min (cost_at samples station rest place) c) (sym (same_cost (place + 1) (omega arith)))

    is_taken : (place : ℕ) → (place ≡ p) ⊎ (q ≤ place) → place + 1 < length samples → taken_at (set row p taken) place ≡ nat_le (cost_at samples station rest place) (get_or (set costs p least) (place + 1) 0)
    is_taken place (inl e) more =
        let then : next ≡ Some (get_or costs (p + 1) 0) = followed s.next_is (subst (λ (n : ℕ). n + 1 < length samples) e more) in
        ap (taken_at (set row p taken)) e ∙ here_taken ∙ taken_is ∙ ap (λ o. option_map_or (λ c. nat_le here c) o true) then
        ∙ ap (λ h. nat_le h (get_or costs (p + 1) 0)) here_is ∙ ap (λ c. nat_le (cost_at samples station rest p) c) (sym (same_cost (p + 1) (omega arith)))
        ∙ ap (λ n. nat_le (cost_at samples station rest n) (get_or (set costs p least) (n + 1) 0)) (sym e)
    is_taken place (inr h) more =
        same_taken place h ∙ s.swept.taken place h more ∙ ap (λ c. nat_le (cost_at samples station rest place) c) (sym (same_cost (place + 1) (omega arith)))

    small : (o : Option ℕ) → least ≡ option_map_or (λ c. min here c) o here → least ≤ here
    small None e = omega arith
    small (Some c) e = omega arith

    bound : (other : ℕ) → (other ≡ p) ⊎ (q ≤ other) → other < length samples → get_or (set costs p least) other 0 ≤ (later + 1) * 720000000000000000
    bound other (inl e) under =
        subst (λ (n : ℕ). n ≤ (later + 1) * 720000000000000000) (sym (ap (λ n. get_or (set costs p least) n 0) e ∙ here_cost)) (le_trans (small next least_is) bounded)
    bound other (inr h) under = subst (λ (n : ℕ). n ≤ (later + 1) * 720000000000000000) (sym (same_cost other h)) (s.bounded other h under)
