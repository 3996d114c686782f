-- The rows of a table that is read row by row.
use Rattle.std.proofs.Common.{◌≡◌, ℕ, zero, suc, ◌+◌, ◌<◌, ◌≤◌, List, [], ◌∷◌, drop, length, ap, ◌∙◌, arith}
use Rattle.std.proofs.lemmas.List.{length-drop}
use Rattle.table_rows.specs.Cells.{Row, row_at}

-- the row that comes next stands at the place up to which the rows were read
pub next_row : (rows : List Row) (place : ℕ) (row : Row) (rest : List Row) → drop place rows ≡ row ∷ rest
    → (place < length rows) × (row_at rows place ≡ row) × (drop (place + 1) rows ≡ rest)
next_row [] zero row rest e = cc
next_row [] (suc n) row rest e = cc
next_row (first ∷ rows) zero row rest e = (omega arith, cc, cc)
next_row (first ∷ rows) (suc n) row rest e =
    let (within, here, behind) = next_row rows n row rest e in
    let next : suc n + 1 ≡ suc (n + 1) = omega arith in
    (omega (arith, within), here, ap (λ m. drop m (first ∷ rows)) next ∙ behind)

-- where none comes next, all were read
pub no_row : (rows : List Row) (place : ℕ) → place ≤ length rows → drop place rows ≡ [] → place ≡ length rows
no_row rows place within e = omega (arith, within, ap length e, length-drop place rows)
