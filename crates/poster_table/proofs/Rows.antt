-- Cells, column by column and row by row.
use Rattle.std.proofs.Common.{◌≡◌, ℕ, zero, suc, ◌+◌, ◌-◌, ◌≤◌, Bool, true, List, [], ◌∷◌, ◌++◌, map, ap, ◌∙◌, append-nil, arith}
use Rattle.std.specs.List.{flat_map, list_any, range_with_len}
use Rattle.std.proofs.lemmas.Grind.{flat_map-append}
use Rattle.std.proofs.lemmas.List.{map-append}
use Rattle.poster_table.specs.declared.cells.Cells.{Cells}
use Rattle.poster_table.specs.Cells.{bucket_of, buckets_along, buckets_of, row_buckets}
use Rattle.poster_table.proofs.Members.{any_from, any_some, in_flat, in_map, in_range}

pub range_more : (a n j : ℕ) → a + n ≡ j → range_with_len a (n + 1) ≡ range_with_len a n ++ j ∷ []
range_more a zero j e = let is : a ≡ j = omega (arith, e) in ap (λ (k : ℕ). k ∷ []) is
range_more a (suc n) j e =
    let more : suc n + 1 ≡ suc (n + 1) = omega arith in
    ap (range_with_len a) more ∙ ap (λ (ks : List ℕ). a ∷ ks) (range_more (a + 1) n j (omega (arith, e)))

pub no_columns : (n row from : ℕ) → buckets_along n row from (from - from) ≡ []
no_columns n row from = let none : from - from ≡ 0 = omega arith in ap (buckets_along n row from) none

pub one_column_more : (n row from column : ℕ) → from ≤ column → buckets_along n row from (column + 1 - from) ≡ buckets_along n row from (column - from) ++ bucket_of column row n ∷ []
one_column_more n row from column h =
    let more : column + 1 - from ≡ (column - from) + 1 = omega arith in
    ap (buckets_along n row from) more
    ∙ ap (map (λ (k : ℕ). bucket_of k row n)) (range_more from (column - from) column (omega arith))
    ∙ map-append (λ (k : ℕ). bucket_of k row n) (range_with_len from (column - from)) (column ∷ [])

pub no_rows : {A : Type 0} (f : ℕ → List A) (from : ℕ) → flat_map f (range_with_len from (from - from)) ≡ []
no_rows f from = let none : from - from ≡ 0 = omega arith in ap (λ (n : ℕ). flat_map f (range_with_len from n)) none

pub one_row_more : {A : Type 0} (f : ℕ → List A) (from row : ℕ) → from ≤ row → flat_map f (range_with_len from (row + 1 - from)) ≡ flat_map f (range_with_len from (row - from)) ++ f row
one_row_more f from row h =
    let more : row + 1 - from ≡ (row - from) + 1 = omega arith in
    ap (λ (n : ℕ). flat_map f (range_with_len from n)) more
    ∙ ap (flat_map f) (range_more from (row - from) row (omega arith))
    ∙ flat_map-append f (range_with_len from (row - from)) (row ∷ [])
    ∙ ap (λ xs. flat_map f (range_with_len from (row - from)) ++ xs) (append-nil (f row))

-- a bucket of a row that passes
pub in_row : (n : ℕ) (c : Cells) (row column : ℕ) (test : ℕ → Bool) → c.left ≤ column → column ≤ c.right → test (bucket_of column row n) ≡ true → list_any test (row_buckets n c row) ≡ true
in_row n c row column test low high e =
    any_from test (row_buckets n c row) (bucket_of column row n)
    (in_map (λ (k : ℕ). bucket_of k row n) (range_with_len c.left (c.right + 1 - c.left)) column (in_range c.left (c.right + 1 - c.left) column low (omega arith))) e

pub in_rows : (n : ℕ) (c : Cells) (row : ℕ) (test : ℕ → Bool) → c.top ≤ row → row ≤ c.bottom → list_any test (row_buckets n c row) ≡ true → list_any test (buckets_of n c) ≡ true
in_rows n c row test low high e =
    let found = any_some test (row_buckets n c row) e in
    any_from test (buckets_of n c) found.one
    (in_flat (row_buckets n c) (range_with_len c.top (c.bottom + 1 - c.top)) row found.one (in_range c.top (c.bottom + 1 - c.top) row low (omega arith)) found.known) found.passes
