-- The rows behind the header, one more at a time, and the ids that they give.
use Rattle.std.proofs.Common.{◌≡◌, ◌<◌, ◌≤◌, ℕ, zero, suc, ◌+◌, Bool, true, false, ◌||◌, ◌&&◌, List, [], ◌∷◌, ◌++◌, Option, Some, None, option_to_list, filter, map, true≢false, take, drop, length, refl, ap, sym, ◌∙◌, arith, bytes_eq, if◌then◌else◌}
use Rattle.std.specs.List.{list_any, filter_map, cons_option}
use Rattle.std.proofs.Math.Bool.{or-false}
use Rattle.std.proofs.lemmas.List.{take_more, take_all, map-append, append-nil}
use Rattle.std.proofs.lemmas.List.Elements.{filter-append, filter_map-append}
use Rattle.std.proofs.lemmas.List.Folds.{list_any-append, list_any_at}
use Rattle.table_rows.specs.Ids.{is_among, AreSame}
use Rattle.table_rows.specs.Cells.{Row, row_at, rows_before, field_in, ids_in}

pub rows_before-more : (place : ℕ) (rows : List Row) → 1 ≤ place → place < length rows → rows_before (place + 1) rows ≡ rows_before place rows ++ row_at rows place ∷ []
rows_before-more place [] from l = absurd (omega (arith, l))
rows_before-more zero (header ∷ rows) from l = absurd (omega (arith, from))
rows_before-more (suc n) (header ∷ rows) from l =
    let e : suc n + 1 ≡ suc (n + 1) = omega arith in
    ap (λ m. drop 1 (take m (header ∷ rows))) e ∙ take_more rows n [] (omega (arith, l))

pub rows_before-all : (place : ℕ) (rows : List Row) → length rows ≤ place → rows_before place rows ≡ drop 1 rows
rows_before-all place rows l = ap (drop 1) (take_all place rows l)

pub list_any-before : (test : Row → Bool) (place : ℕ) (rows : List Row) → 1 ≤ place → place < length rows
    → list_any test (rows_before (place + 1) rows) ≡ (list_any test (rows_before place rows) || test (row_at rows place))
list_any-before test place rows from l =
    ap (list_any test) (rows_before-more place rows from l)
    ∙ list_any-append test (rows_before place rows) (row_at rows place ∷ [])
    ∙ ap (λ b. list_any test (rows_before place rows) || b) (or-false (test (row_at rows place)))

pub list_any-behind : (test : Row → Bool) (place : ℕ) (rows : List Row) → 1 ≤ place → place < length rows
    → test (row_at rows place) ≡ true → list_any test (drop 1 rows) ≡ true
list_any-behind test place [] from l here = absurd (omega (arith, l))
list_any-behind test zero (header ∷ rows) from l here = absurd (omega (arith, from))
list_any-behind test (suc n) (header ∷ rows) from l here = list_any_at test rows n [] (omega (arith, l)) here

-- the ids of rows that pass a test, once another row was looked at
module _ (column : Option ℕ) (test : Row → Bool) where
  pub is_among-filtered : (other : List ℕ) (rows : List Row) (row : Row)
      → is_among other (ids_in column (filter test (rows ++ row ∷ []))) ≡ (is_among other (ids_in column (filter test rows)) || (test row && bytes_eq other (field_in row column)))
  is_among-filtered other rows row =
      ap (λ l. is_among other (ids_in column l)) (filter-append test rows (row ∷ []))
      ∙ ap (is_among other) (map-append (λ r. field_in r column) (filter test rows) (filter test (row ∷ [])))
      ∙ list_any-append (bytes_eq other) (ids_in column (filter test rows)) (ids_in column (filter test (row ∷ [])))
      ∙ ap (λ b. is_among other (ids_in column (filter test rows)) || b) (last (test row))
    where
      last : (b : Bool) → is_among other (ids_in column (if b then row ∷ [] else [])) ≡ (b && bytes_eq other (field_in row column))
      last true = or-false (bytes_eq other (field_in row column))
      last false = refl

  pub AreSame-filtered : (place : ℕ) (rows : List Row) (ids more : List (List ℕ)) → 1 ≤ place → place < length rows
      → AreSame ids (ids_in column (filter test (rows_before place rows)))
      → ((other : List ℕ) → is_among other more ≡ (is_among other ids || (test (row_at rows place) && bytes_eq other (field_in (row_at rows place) column))))
      → AreSame more (ids_in column (filter test (rows_before (place + 1) rows)))
  AreSame-filtered place rows ids more from l same noted = record {
    among = λ other.
        noted other
        ∙ ap (λ b. b || (test (row_at rows place) && bytes_eq other (field_in (row_at rows place) column))) (same.among other)
        ∙ sym (is_among-filtered other (rows_before place rows) (row_at rows place))
        ∙ sym (ap (λ r. is_among other (ids_in column (filter test r))) (rows_before-more place rows from l));
  }

module _ (column : Option ℕ) where
  pub AreSame-more : (place : ℕ) (rows : List Row) (ids more : List (List ℕ)) → 1 ≤ place → place < length rows
      → AreSame ids (ids_in column (rows_before place rows))
      → ((other : List ℕ) → is_among other more ≡ (is_among other ids || bytes_eq other (field_in (row_at rows place) column)))
      → AreSame more (ids_in column (rows_before (place + 1) rows))
  AreSame-more place rows ids more from l same noted = record {
    among = λ other.
        noted other
        ∙ ap (λ b. b || bytes_eq other (field_in (row_at rows place) column)) (same.among other)
        ∙ ap (λ b. is_among other (ids_in column (rows_before place rows)) || b) (sym (or-false (bytes_eq other (field_in (row_at rows place) column))))
        ∙ sym (list_any-append (bytes_eq other) (ids_in column (rows_before place rows)) (ids_in column (row_at rows place ∷ [])))
        ∙ sym (ap (is_among other) (map-append (λ r. field_in r column) (rows_before place rows) (row_at rows place ∷ [])))
        ∙ sym (ap (λ r. is_among other (ids_in column r)) (rows_before-more place rows from l));
  }

-- what the rows before a place give, once one more row is looked at
pub filter_map_before : {A : Type 0} (h : Row → Option A) (place : ℕ) (rows : List Row) → 1 ≤ place → place < length rows
    → filter_map h (rows_before (place + 1) rows) ≡ filter_map h (rows_before place rows) ++ option_to_list (h (row_at rows place))
filter_map_before h place rows from l =
    ap (filter_map h) (rows_before-more place rows from l)
    ∙ filter_map-append h (rows_before place rows) (row_at rows place ∷ [])
    ∙ ap (λ last. filter_map h (rows_before place rows) ++ last) (one (h (row_at rows place)))
  where
    one : {A : Type 0} (found : Option A) → cons_option found [] ≡ option_to_list found
    one None = refl
    one (Some x) = refl

-- the ids that the rows before a place give, once one more row is looked at
pub ids_in_before : (column : Option ℕ) (place : ℕ) (rows : List Row) → 1 ≤ place → place < length rows
    → ids_in column (rows_before (place + 1) rows) ≡ ids_in column (rows_before place rows) ++ field_in (row_at rows place) column ∷ []
ids_in_before column place rows from l =
    ap (ids_in column) (rows_before-more place rows from l)
    ∙ map-append (λ row. field_in row column) (rows_before place rows) (row_at rows place ∷ [])

-- what each row before a place gives, once one more row is looked at
pub map_before : {A : Type 0} (h : Row → A) (place : ℕ) (rows : List Row) → 1 ≤ place → place < length rows
    → map h (rows_before (place + 1) rows) ≡ map h (rows_before place rows) ++ h (row_at rows place) ∷ []
map_before h place rows from l =
    ap (map h) (rows_before-more place rows from l)
    ∙ map-append h (rows_before place rows) (row_at rows place ∷ [])

-- the rows before a place that pass a test, once one more row is looked at
pub filter_before : (test : Row → Bool) (place : ℕ) (rows : List Row) → 1 ≤ place → place < length rows
    → filter test (rows_before (place + 1) rows) ≡ filter test (rows_before place rows) ++ filter test (row_at rows place ∷ [])
filter_before test place rows from l =
    ap (filter test) (rows_before-more place rows from l)
    ∙ filter-append test (rows_before place rows) (row_at rows place ∷ [])

-- an id that no row gives, no row that passes a test gives
pub is_among-unfiltered : (column : Option ℕ) (test : Row → Bool) (id : List ℕ) (rows : List Row)
    → is_among id (ids_in column rows) ≡ false → is_among id (ids_in column (filter test rows)) ≡ false
is_among-unfiltered column test id [] none = refl
is_among-unfiltered column test id (row ∷ rows) none = by (bytes_eq id (field_in row column)) refl (test row) (is_among-unfiltered column test id rows)
  where
    by : (b : Bool) → bytes_eq id (field_in row column) ≡ b → (t : Bool) → (is_among id (ids_in column rows) ≡ false → is_among id (ids_in column (filter test rows)) ≡ false)
        → is_among id (ids_in column (if t then row ∷ filter test rows else filter test rows)) ≡ false
    by true e t rest = absurd (true≢false (sym (ap (λ x. x || is_among id (ids_in column rows)) e) ∙ none))
    by false e true rest =
        ap (λ x. x || is_among id (ids_in column (filter test rows))) e
        ∙ rest (sym (ap (λ x. x || is_among id (ids_in column rows)) e) ∙ none)
    by false e false rest = rest (sym (ap (λ x. x || is_among id (ids_in column rows)) e) ∙ none)

-- the ids of the rows before a place that pass a test, once one more row is looked at
pub ids_filtered_before : (column : Option ℕ) (test : Row → Bool) (place : ℕ) (rows : List Row) → 1 ≤ place → place < length rows
    → ids_in column (filter test (rows_before (place + 1) rows))
    ≡ (if test (row_at rows place) then ids_in column (filter test (rows_before place rows)) ++ field_in (row_at rows place) column ∷ [] else ids_in column (filter test (rows_before place rows)))
ids_filtered_before column test place rows from l =
    ap (ids_in column) (filter_before test place rows from l)
    ∙ map-append (λ row. field_in row column) (filter test (rows_before place rows)) (filter test (row_at rows place ∷ []))
    ∙ last (test (row_at rows place))
  where
    last : (b : Bool)
        → ids_in column (filter test (rows_before place rows)) ++ ids_in column (if b then row_at rows place ∷ [] else [])
        ≡ (if b then ids_in column (filter test (rows_before place rows)) ++ field_in (row_at rows place) column ∷ [] else ids_in column (filter test (rows_before place rows)))
    last true = refl
    last false = append-nil (ids_in column (filter test (rows_before place rows)))
