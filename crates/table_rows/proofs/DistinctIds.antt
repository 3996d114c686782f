-- Ids that stand once.
use Rattle.std.proofs.Common.{◌≡◌, ◌<◌, ◌≤◌, ℕ, zero, suc, ◌+◌, Bool, true, false, ◌||◌, List, [], ◌∷◌, ◌++◌, length, get_or, filter, drop, Option, Some, None, cond, ltb, bytes_eq, refl, sym, ◌∙◌, subst, arith, true≢false, length-append, if◌then◌else◌}
use Rattle.std.specs.List.{IsDistinct, position_or_len, AllByRecursion}
use Rattle.std.specs.Cmp.Lexicographic.{nat_list_eq_equiv}
use Rattle.std.proofs.lemmas.Bool.{ltb-true}
use Rattle.std.proofs.lemmas.List.Elements.{All-from_recursion}
use Rattle.table_rows.specs.Ids.{is_among, place_among}
use Rattle.table_rows.specs.Cells.{Row, row_at, rows_before, field_in, ids_in}
use Rattle.table_rows.specs.NewIds.{AreNew}
use Rattle.table_rows.proofs.CellLemmas.{position-at}
use Rattle.table_rows.proofs.RowLemmas.{is_among-unfiltered, ids_filtered_before, rows_before-all}

or_false : (a b : Bool) → (a || b) ≡ false → (a ≡ false) × (b ≡ false)
or_false true b none = absurd (true≢false none)
or_false false b none = (refl, none)

-- an id more that is new keeps ids distinct
distinct_snoc : (ids : List (List ℕ)) (id : List ℕ) → IsDistinct bytes_eq ids → is_among id ids ≡ false → IsDistinct bytes_eq (ids ++ id ∷ [])
unfolding IsDistinct
distinct_snoc [] id distinct new = (tt, tt)
distinct_snoc (x ∷ ids) id distinct new =
    let apart = or_false (bytes_eq id x) (is_among id ids) new in
    (all ids distinct.0 (nat_list_eq_equiv.symm x id ∙ apart.0), distinct_snoc ids id distinct.1 apart.1)
  where
    all : (ys : List (List ℕ)) → AllByRecursion (λ y. bytes_eq x y ≡ false) ys → bytes_eq x id ≡ false → AllByRecursion (λ y. bytes_eq x y ≡ false) (ys ++ id ∷ [])
    all [] before last = (last, tt)
    all (y ∷ ys) before last = (before.0, all ys before.1 last)

-- the ids of rows that each give one of their own, those of some rows alone
distinct_before : (column : Option ℕ) (test : Row → Bool) (rows : List Row) → AreNew column rows → (place : ℕ) → suc place ≤ length rows
    → IsDistinct bytes_eq (ids_in column (filter test (rows_before (suc place) rows)))
unfolding IsDistinct
distinct_before column test [] new place within = absurd (omega (arith, within))
distinct_before column test (header ∷ rows) new zero within = tt
distinct_before column test (header ∷ rows) new (suc n) within =
    let l : suc n < length (header ∷ rows) = omega (arith, within) in
    let from : 1 ≤ suc n = omega arith in
    let e : suc n + 1 ≡ suc (suc n) = omega arith in
    let before = ids_in column (filter test (rows_before (suc n) (header ∷ rows))) in
    let id = field_in (row_at (header ∷ rows) (suc n)) column in
    subst (λ m. IsDistinct bytes_eq (ids_in column (filter test (rows_before m (header ∷ rows))))) e
    (subst (IsDistinct bytes_eq) (sym (ids_filtered_before column test (suc n) (header ∷ rows) from l))
    (by (test (row_at (header ∷ rows) (suc n))) before id (distinct_before column test (header ∷ rows) new n (omega (arith, within)))
    (is_among-unfiltered column test id (rows_before (suc n) (header ∷ rows)) (new.new (suc n) from l))))
  where
    by : (b : Bool) (ids : List (List ℕ)) (id : List ℕ) → IsDistinct bytes_eq ids → is_among id ids ≡ false → IsDistinct bytes_eq (if b then ids ++ id ∷ [] else ids)
    by true ids id distinct new = distinct_snoc ids id distinct new
    by false ids id distinct new = distinct

pub distinct_ids : (column : Option ℕ) (test : Row → Bool) (rows : List Row) → AreNew column rows → IsDistinct bytes_eq (ids_in column (filter test (drop 1 rows)))
unfolding IsDistinct
distinct_ids column test [] new = tt
distinct_ids column test (header ∷ rows) new =
    subst (λ behind. IsDistinct bytes_eq (ids_in column (filter test behind))) (rows_before-all (suc (length rows)) (header ∷ rows) (omega arith))
    (distinct_before column test (header ∷ rows) new (length rows) (omega arith))

-- two places of distinct ids hold two ids
distinct_at : (ids : List (List ℕ)) (i j : ℕ) → IsDistinct bytes_eq ids → i < j → j < length ids → bytes_eq (get_or ids j []) (get_or ids i []) ≡ false
unfolding IsDistinct
distinct_at [] i j distinct l within = absurd (omega (arith, within))
distinct_at (x ∷ ids) i zero distinct l within = absurd (omega (arith, l))
distinct_at (x ∷ ids) zero (suc j) distinct l within =
    nat_list_eq_equiv.symm (get_or ids j []) x ∙ All-from_recursion (λ y. bytes_eq x y ≡ false) ids distinct.0 j [] (omega (arith, within))
distinct_at (x ∷ ids) (suc i) (suc j) distinct l within = distinct_at ids i j distinct.1 (omega (arith, l)) (omega (arith, within))

-- the place of an id among distinct ids is where it stands
pub place_of_distinct : (ids : List (List ℕ)) (place : ℕ) → IsDistinct bytes_eq ids → place < length ids → place_among ids (get_or ids place []) ≡ Some place
place_of_distinct ids place distinct within =
    position-at (bytes_eq (get_or ids place [])) ids [] place within
    (λ k l. distinct_at ids k place distinct l within)
    (nat_list_eq_equiv.refl (get_or ids place []))

-- a place that is found is below the length
pub place_among-below : (ids : List (List ℕ)) (id : List ℕ) (place : ℕ) → place_among ids id ≡ Some place → place < length ids
place_among-below ids id place found = by (position_or_len (bytes_eq id) ids) (ltb (position_or_len (bytes_eq id) ids) (length ids)) refl found
  where
    by : (n : ℕ) (b : Bool) → ltb n (length ids) ≡ b → cond b (Some n) None ≡ Some place → place < length ids
    by n true e is =
        let same : n ≡ place = cc in
        let l = ltb-true n (length ids) e in
        omega (arith, same, l)
    by n false e is = cc
