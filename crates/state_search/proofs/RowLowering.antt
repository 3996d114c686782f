-- Costs that are lowered in the row of a place are lowered in the table.
use Rattle.std.proofs.Common.{◌≡◌, sym, ◌∙◌, ap, subst, ℕ, ◌+◌, ◌-◌, ◌*◌, ◌<◌, ◌≤◌, ◌⊎◌, inl, inr, List, ◌++◌, take, drop, Option, Some, None, length, get_or, set, arith, length-set, get_or-set_same, get_or-set_other, take-append-drop, drop-drop}
use Rattle.std.specs.declared.cmp.Reverse.{Reverse}
use Rattle.std.proofs.lemmas.Bool.{cases_eq, cases_lt}
use Rattle.std.proofs.lemmas.List.{same_lists}
use Rattle.least_path.specs.Orders.{AtMost}
use Rattle.state_search.specs.Searching.{IsLowered, known_at}
use Rattle.state_search.specs.Rows.{IsRowLowered, row_at, with_row}
use Rattle.state_search.proofs.RowTables.{after_row, before_row, in_row, length-with_row}

abbrev Table : Type 0
Table = List (Option ℕ)

abbrev Waiting : Type 0
Waiting = List (Reverse (ℕ × ℕ))

-- a table with the row that it has
pub with_row-same : (table : Table) (place : ℕ) → with_row table place (row_at table place) ≡ table
with_row-same table place =
    ap (λ rest. take (place * 9) table ++ (take 9 (drop (place * 9) table) ++ rest)) (sym (drop-drop 9 (place * 9) table))
    ∙ ap (λ rest. take (place * 9) table ++ rest) (take-append-drop 9 (drop (place * 9) table)) ∙ take-append-drop (place * 9) table

-- a cost that is known in a row is known in the table
pub with_row-set : (table row : Table) (place a : ℕ) (o : Option ℕ) → place * 9 + 9 ≤ length table → length row ≡ 9 → a < 9 →
    with_row table place (set row a o) ≡ set (with_row table place row) (place * 9 + a) o
with_row-set table row place a o fits nine small =
    same_lists (with_row table place (set row a o)) (set (with_row table place row) (place * 9 + a) o)
    (length-with_row table (set row a o) place fits nine_too ∙ sym (length-set (with_row table place row) (place * 9 + a) o ∙ length-with_row table row place fits nine)) each
  where
    nine_too : length (set row a o) ≡ 9
    nine_too = length-set row a o ∙ nine

    inside : place * 9 + a < length (with_row table place row)
    inside = omega (arith, length-with_row table row place fits nine)

    other : (k : ℕ) (d : Option ℕ) → (k ≡ place * 9 + a → ⊥) → get_or (set (with_row table place row) (place * 9 + a) o) k d ≡ get_or (with_row table place row) k d
    other k d apart = get_or-set_other (with_row table place row) (place * 9 + a) k o d apart

    of_place : (k : ℕ) (d : Option ℕ) → (k ≡ place * 9 + a) ⊎ (k ≡ place * 9 + a → ⊥) → (k < place * 9) ⊎ (place * 9 ≤ k) → (k < place * 9 + 9) ⊎ (place * 9 + 9 ≤ k) →
        get_or (with_row table place (set row a o)) k d ≡ get_or (set (with_row table place row) (place * 9 + a) o) k d
    of_place k d (inl e) left right =
        let within : a < length row = omega arith in
        ap (λ (m : ℕ). get_or (with_row table place (set row a o)) m d) e ∙ in_row table (set row a o) place a d fits nine_too small ∙ get_or-set_same row a o d within
        ∙ sym (ap (λ (m : ℕ). get_or (set (with_row table place row) (place * 9 + a) o) m d) e ∙ get_or-set_same (with_row table place row) (place * 9 + a) o d inside)
    of_place k d (inr apart) (inl low) right = before_row table (set row a o) place k d fits low ∙ sym (other k d apart ∙ before_row table row place k d fits low)
    of_place k d (inr apart) (inr high) (inl low) =
        let j : ℕ = k - place * 9 in
        let here : place * 9 + j ≡ k = omega arith in
        let less : j < 9 = omega arith in
        let not_a : j ≡ a → ⊥ = λ e. apart (let is : k ≡ place * 9 + a = omega arith in is) in
        ap (λ (m : ℕ). get_or (with_row table place (set row a o)) m d) (sym here) ∙ in_row table (set row a o) place j d fits nine_too less ∙ get_or-set_other row a j o d not_a
        ∙ sym (other k d apart ∙ ap (λ (m : ℕ). get_or (with_row table place row) m d) (sym here) ∙ in_row table row place j d fits nine less)
    of_place k d (inr apart) (inr high) (inr past) = after_row table (set row a o) place k d fits nine_too past ∙ sym (other k d apart ∙ after_row table row place k d fits nine past)

    each : (k : ℕ) (d : Option ℕ) → k < length (with_row table place (set row a o)) → get_or (with_row table place (set row a o)) k d ≡ get_or (set (with_row table place row) (place * 9 + a) o) k d
    each k d below = of_place k d (cases_eq k (place * 9 + a)) (cases_lt k (place * 9)) (cases_lt k (place * 9 + 9))

-- what was lowered in the row was lowered in the table
pub row_lowered : (table row new : Table) (queue longer : Waiting) (place ahead arrival cost : ℕ) → place * 9 + 9 ≤ length table → length row ≡ 9 → arrival < 9 →
    IsRowLowered place ahead row new queue longer arrival cost → IsLowered ahead (with_row table place row) (with_row table place new) queue longer (place * 9 + arrival) cost
row_lowered table row new queue longer place ahead arrival cost fits nine small h = of_case h
  where
    known : known_at (with_row table place row) (place * 9 + arrival) ≡ known_at row arrival
    known = in_row table row place arrival None fits nine small

    of_case : IsRowLowered place ahead row new queue longer arrival cost → IsLowered ahead (with_row table place row) (with_row table place new) queue longer (place * 9 + arrival) cost
    of_case (inl l) = inl (subst (λ (o : Option ℕ). AtMost o cost) (sym known) l.0, ap (with_row table place) l.1, l.2)
    of_case (inr l) = inr (
      λ low. l.0 (subst (λ (o : Option ℕ). AtMost o cost) known low),
      ap (with_row table place) l.1 ∙ with_row-set table row place arrival (Some cost) fits nine small,
      l.2,
    )
