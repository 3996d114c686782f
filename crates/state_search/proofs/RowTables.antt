-- Tables of costs in rows.
use Rattle.std.proofs.Common.{◌≡◌, sym, ◌∙◌, ap, ap₂, ℕ, ◌+◌, ◌-◌, ◌*◌, ◌/◌, ◌%◌, ◌<◌, ◌≤◌, ◌⊎◌, inl, inr, cond, nat_eq, List, ◌++◌, take, drop, Option, Some, None, length, get_or, set, replicate, arith, length-set, length-append, length-take, length-drop, get_or-set_same, get_or-set_other, get_or-take, get_or-drop}
use Rattle.std.specs.declared.hash.FoldHasher.{FoldHasher}
use Rattle.std.specs.declared.hash.BuildHasherDefault.{BuildHasherDefault}
use Rattle.std.specs.HashMap.{get, HashMap}
use Rattle.std.proofs.lemmas.Bool.{cases_eq, cases_lt, eq-eqb, ne_eqb}
use Rattle.std.proofs.lemmas.List.{same_lists, length-replicate, get_or_default as default_of, get_or_append_left, get_or-append_right, get_or-replicate}
use Rattle.std.proofs.lemmas.List.FromFn.{length-map-range_with_len, get_or-map-range_with_len}
use Rattle.state_search.specs.Searching.{known_at}
use Rattle.state_search.specs.declared.row.Row.{Row}
use Rattle.state_search.specs.Rows.{costs_in, costs_of, row_at, with_row}

abbrev pub Rows : Type 0
Rows = HashMap ℕ Row (BuildHasherDefault FoldHasher)

abbrev cost_at : Rows → ℕ → Option ℕ
cost_at rows s = known_at (costs_of (get nat_eq rows (s / 9))) (s % 9)

pub length-costs_in : (rows : Rows) (n : ℕ) → length (costs_in rows n) ≡ n
length-costs_in rows n = length-map-range_with_len (cost_at rows) 0 n

get_or-costs_in : (rows : Rows) (n s : ℕ) (d : Option ℕ) → s < n → get_or (costs_in rows n) s d ≡ cost_at rows s
get_or-costs_in rows n s d below = let same : 0 + s ≡ s = omega arith in get_or-map-range_with_len (cost_at rows) 0 n s s d below same

-- what is known of a spot
pub known_at-costs_in : (rows : Rows) (n s : ℕ) → s < n → known_at (costs_in rows n) s ≡ known_at (costs_of (get nat_eq rows (s / 9))) (s % 9)
known_at-costs_in rows n s below = get_or-costs_in rows n s None below

-- where a map has nothing, nothing is known
pub costs_in-none : (rows : Rows) (n : ℕ) → ((s : ℕ) → get nat_eq rows s ≡ None) → costs_in rows n ≡ replicate n None
costs_in-none rows n none = same_lists (costs_in rows n) (replicate n None) (length-costs_in rows n ∙ sym (length-replicate n None)) each
  where
    each : (k : ℕ) (d : Option ℕ) → k < length (costs_in rows n) → get_or (costs_in rows n) k d ≡ get_or (replicate n None) k d
    each k d below =
        let inside : k < n = omega (arith, length-costs_in rows n) in
        let small : k % 9 < 9 = omega arith in
        get_or-costs_in rows n k d inside ∙ ap (λ o. known_at (costs_of o) (k % 9)) (none (k / 9)) ∙ get_or-replicate 9 (k % 9) None None small ∙ sym (get_or-replicate n k None d inside)

-- where a map has another row at a place
put_here : (old new : Rows) (place k : ℕ) (row : Row) → ((q : ℕ) → get nat_eq new q ≡ cond (nat_eq place q) (Some row) (get nat_eq old q)) → k / 9 ≡ place → cost_at new k ≡ known_at row.costs (k % 9)
put_here old new place k row put e = ap (λ o. known_at (costs_of o) (k % 9)) (put (k / 9) ∙ ap (λ b. cond b (Some row) (get nat_eq old (k / 9))) (eq-eqb place (k / 9) (sym e)))

put_other : (old new : Rows) (place k : ℕ) (row : Row) → ((q : ℕ) → get nat_eq new q ≡ cond (nat_eq place q) (Some row) (get nat_eq old q)) → (k / 9 ≡ place → ⊥) → cost_at new k ≡ cost_at old k
put_other old new place k row put apart = ap (λ o. known_at (costs_of o) (k % 9)) (put (k / 9) ∙ ap (λ b. cond b (Some row) (get nat_eq old (k / 9))) (ne_eqb place (k / 9) (λ e. apart (sym e))))

-- one more cost is known
pub costs_in-more : (old new : Rows) (n at cost : ℕ) (row : Row) → at < n → row.costs ≡ set (costs_of (get nat_eq old (at / 9))) (at % 9) (Some cost) → length row.costs ≡ 9 →
    ((q : ℕ) → get nat_eq new q ≡ cond (nat_eq (at / 9) q) (Some row) (get nat_eq old q)) → costs_in new n ≡ set (costs_in old n) at (Some cost)
costs_in-more old new n at cost row below is whole put =
    same_lists (costs_in new n) (set (costs_in old n) at (Some cost)) (length-costs_in new n ∙ sym (length-set (costs_in old n) at (Some cost) ∙ length-costs_in old n)) each
  where
    cells : List (Option ℕ)
    cells = costs_of (get nat_eq old (at / 9))

    nine : length cells ≡ 9
    nine = sym (length-set cells (at % 9) (Some cost)) ∙ ap length (sym is) ∙ whole

    within : at < length (costs_in old n)
    within = omega (arith, length-costs_in old n)

    of_case : (k : ℕ) (d : Option ℕ) → k < n → (k ≡ at) ⊎ (k ≡ at → ⊥) → (k / 9 ≡ at / 9) ⊎ (k / 9 ≡ at / 9 → ⊥) → cost_at new k ≡ get_or (set (costs_in old n) at (Some cost)) k d
    of_case k d inside (inl e) (inl here) =
        let small : at % 9 < length cells = omega (arith, nine) in
        put_here old new (at / 9) k row put here ∙ ap (λ (m : ℕ). known_at row.costs (m % 9)) e ∙ ap (λ cs. known_at cs (at % 9)) is ∙ get_or-set_same cells (at % 9) (Some cost) None small
        ∙ sym (ap (λ (m : ℕ). get_or (set (costs_in old n) at (Some cost)) m d) e ∙ get_or-set_same (costs_in old n) at (Some cost) d within)
    of_case k d inside (inl e) (inr there) = absurd (there (ap (λ (m : ℕ). m / 9) e))
    of_case k d inside (inr apart) (inl here) =
        let other : k % 9 ≡ at % 9 → ⊥ = λ same. apart (let is : k ≡ at = omega arith in is) in
        put_here old new (at / 9) k row put here ∙ ap (λ cs. known_at cs (k % 9)) is ∙ get_or-set_other cells (at % 9) (k % 9) (Some cost) None other
        ∙ ap (λ (m : ℕ). known_at (costs_of (get nat_eq old m)) (k % 9)) (sym here) ∙ sym (get_or-set_other (costs_in old n) at k (Some cost) d apart ∙ get_or-costs_in old n k d inside)
    of_case k d inside (inr apart) (inr there) =
        put_other old new (at / 9) k row put there ∙ sym (get_or-set_other (costs_in old n) at k (Some cost) d apart ∙ get_or-costs_in old n k d inside)

    each : (k : ℕ) (d : Option ℕ) → k < length (costs_in new n) → get_or (costs_in new n) k d ≡ get_or (set (costs_in old n) at (Some cost)) k d
    each k d lower =
        let inside : k < n = omega (arith, length-costs_in new n) in
        get_or-costs_in new n k d inside ∙ of_case k d inside (cases_eq k at) (cases_eq (k / 9) (at / 9))

-- a table with another row at a place, point by point
pub length-with_row : (table row : List (Option ℕ)) (place : ℕ) → place * 9 + 9 ≤ length table → length row ≡ 9 → length (with_row table place row) ≡ length table
length-with_row table row place fits nine =
    omega (arith, length-append (take (place * 9) table) (row ++ drop (place * 9 + 9) table), length-append row (drop (place * 9 + 9) table), length-take (place * 9) table, length-drop (place * 9 + 9) table)

length-before : (table : List (Option ℕ)) (place : ℕ) → place * 9 + 9 ≤ length table → length (take (place * 9) table) ≡ place * 9
length-before table place fits = omega (arith, length-take (place * 9) table)

pub before_row : (table row : List (Option ℕ)) (place k : ℕ) (d : Option ℕ) → place * 9 + 9 ≤ length table → k < place * 9 → get_or (with_row table place row) k d ≡ get_or table k d
before_row table row place k d fits low =
    let inside : k < length (take (place * 9) table) = omega (arith, length-before table place fits) in
    get_or_append_left (take (place * 9) table) (row ++ drop (place * 9 + 9) table) d k inside ∙ get_or-take (place * 9) table k d low

pub in_row : (table row : List (Option ℕ)) (place a : ℕ) (d : Option ℕ) → place * 9 + 9 ≤ length table → length row ≡ 9 → a < 9 → get_or (with_row table place row) (place * 9 + a) d ≡ get_or row a d
in_row table row place a d fits nine low =
    let past : place * 9 ≤ place * 9 + a = omega arith in
    let here : place * 9 + a - place * 9 ≡ a = omega arith in
    let inside : a < length row = omega arith in
    get_or-append_right (take (place * 9) table) (row ++ drop (place * 9 + 9) table) (place * 9) (place * 9 + a) d (length-before table place fits) past
    ∙ ap (λ (m : ℕ). get_or (row ++ drop (place * 9 + 9) table) m d) here ∙ get_or_append_left row (drop (place * 9 + 9) table) d a inside

pub after_row : (table row : List (Option ℕ)) (place k : ℕ) (d : Option ℕ) → place * 9 + 9 ≤ length table → length row ≡ 9 → place * 9 + 9 ≤ k → get_or (with_row table place row) k d ≡ get_or table k d
after_row table row place k d fits nine high =
    let past : place * 9 ≤ k = omega arith in
    let beyond : 9 ≤ k - place * 9 = omega arith in
    let here : place * 9 + 9 + (k - place * 9 - 9) ≡ k = omega arith in
    get_or-append_right (take (place * 9) table) (row ++ drop (place * 9 + 9) table) (place * 9) k d (length-before table place fits) past
    ∙ get_or-append_right row (drop (place * 9 + 9) table) 9 (k - place * 9) d nine beyond
    ∙ get_or-drop (place * 9 + 9) table (k - place * 9 - 9) d ∙ ap (λ (m : ℕ). get_or table m d) here

-- the row of a place is another one
pub costs_in-row : (old new : Rows) (n place : ℕ) (row : Row) → place * 9 + 9 ≤ n → length row.costs ≡ 9 →
    ((q : ℕ) → get nat_eq new q ≡ cond (nat_eq place q) (Some row) (get nat_eq old q)) → costs_in new n ≡ with_row (costs_in old n) place row.costs
costs_in-row old new n place row fits nine put =
    same_lists (costs_in new n) (with_row (costs_in old n) place row.costs) (length-costs_in new n ∙ sym (length-with_row (costs_in old n) row.costs place room nine ∙ length-costs_in old n)) each
  where
    room : place * 9 + 9 ≤ length (costs_in old n)
    room = omega (arith, length-costs_in old n)

    of_case : (k : ℕ) (d : Option ℕ) → k < n → (k < place * 9) ⊎ (place * 9 ≤ k) → (k < place * 9 + 9) ⊎ (place * 9 + 9 ≤ k) → cost_at new k ≡ get_or (with_row (costs_in old n) place row.costs) k d
    of_case k d inside (inl low) any =
        put_other old new place k row put (λ e. let no : ⊥ = omega arith in no) ∙ sym (before_row (costs_in old n) row.costs place k d room low ∙ get_or-costs_in old n k d inside)
    of_case k d inside (inr high) (inl low) =
        let here : k / 9 ≡ place = omega arith in
        let same : place * 9 + k % 9 ≡ k = omega arith in
        let small : k % 9 < 9 = omega arith in
        let within : k % 9 < length row.costs = omega arith in
        put_here old new place k row put here ∙ default_of row.costs (k % 9) None d within
        ∙ sym (ap (λ (m : ℕ). get_or (with_row (costs_in old n) place row.costs) m d) (sym same) ∙ in_row (costs_in old n) row.costs place (k % 9) d room nine small)
    of_case k d inside (inr high) (inr past) =
        put_other old new place k row put (λ e. let no : ⊥ = omega arith in no) ∙ sym (after_row (costs_in old n) row.costs place k d room nine past ∙ get_or-costs_in old n k d inside)

    each : (k : ℕ) (d : Option ℕ) → k < length (costs_in new n) → get_or (costs_in new n) k d ≡ get_or (with_row (costs_in old n) place row.costs) k d
    each k d lower =
        let inside : k < n = omega (arith, length-costs_in new n) in
        get_or-costs_in new n k d inside ∙ of_case k d inside (cases_lt k (place * 9)) (cases_lt k (place * 9 + 9))

-- the row of a place
pub row_at-costs_in : (rows : Rows) (n place : ℕ) → place * 9 + 9 ≤ n → length (costs_of (get nat_eq rows place)) ≡ 9 → costs_of (get nat_eq rows place) ≡ row_at (costs_in rows n) place
row_at-costs_in rows n place fits nine =
    same_lists (costs_of (get nat_eq rows place)) (row_at (costs_in rows n) place) (nine ∙ sym long) each
  where
    long : length (row_at (costs_in rows n) place) ≡ 9
    long = omega (arith, length-take 9 (drop (place * 9) (costs_in rows n)), length-drop (place * 9) (costs_in rows n), length-costs_in rows n)

    each : (k : ℕ) (d : Option ℕ) → k < length (costs_of (get nat_eq rows place)) → get_or (costs_of (get nat_eq rows place)) k d ≡ get_or (row_at (costs_in rows n) place) k d
    each k d below =
        let small : k < 9 = omega (arith, nine) in
        let inside : place * 9 + k < n = omega arith in
        let here : (place * 9 + k) / 9 ≡ place = omega arith in
        let cell : (place * 9 + k) % 9 ≡ k = omega arith in
        default_of (costs_of (get nat_eq rows place)) k d None below
        ∙ sym (get_or-take 9 (drop (place * 9) (costs_in rows n)) k d small ∙ get_or-drop (place * 9) (costs_in rows n) k d ∙ get_or-costs_in rows n (place * 9 + k) d inside
        ∙ ap₂ (λ (p a : ℕ). known_at (costs_of (get nat_eq rows p)) a) here cell)
