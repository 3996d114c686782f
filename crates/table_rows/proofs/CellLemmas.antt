-- The first place of a list that passes a test, and texts.
use Rattle.std.proofs.Common.{◌≡◌, ◌<◌, ◌≤◌, ℕ, Bool, true, false, cond, ltb, List, length, get_or, Option, Some, None, ap, ◌∙◌, refl, sym, arith, position, IsUtf8, [], subst, ◌⊎◌, inl, inr, true≢false}
use Rattle.std.proofs.lemmas.List.Sums.{position_or_len_is}
use Rattle.std.proofs.lemmas.Bool.{lt-ltb, le-ltb, cases_lt}
use Rattle.std.proofs.lemmas.List.{get_or_past}
use Rattle.std.proofs.lemmas.List.Folds.{list_all_at}
use Rattle.table_rows.specs.Cells.{Row, field_in, is_text}
use Rattle.std.specs.List.{position_or_len}
use Rattle.std.specs.Str.{is_utf8}
use Rattle.std.proofs.lemmas.Str.{IsUtf8-from_is_utf8}

module _ {X : Type 0} (p : X → Bool) (xs : List X) (d : X) where
  pub position-at : (i : ℕ) → i < length xs → ((k : ℕ) → k < i → p (get_or xs k d) ≡ false) → p (get_or xs i d) ≡ true → position p xs ≡ Some i
  position-at i l before here =
      let at : position_or_len p xs ≡ i = position_or_len_is p xs i d (omega arith) before (λ _. here) in
      ap (λ n. cond (ltb n (length xs)) (Some n) None) at ∙ ap (λ b. cond b (Some i) None) (lt-ltb i (length xs) l)

  pub position-none : ((k : ℕ) → k < length xs → p (get_or xs k d) ≡ false) → position p xs ≡ None
  position-none before =
      let at : position_or_len p xs ≡ length xs = position_or_len_is p xs (length xs) d (omega arith) before (λ l. absurd (omega (arith, l))) in
      ap (λ n. cond (ltb n (length xs)) (Some n) None) at ∙ ap (λ b. cond b (Some (length xs)) None) (le-ltb (length xs) (length xs) (omega arith))

-- each field of a row that is text is UTF-8, and so is the empty one
pub IsUtf8-field : (row : Row) (column : Option ℕ) → is_text row ≡ true → IsUtf8 (field_in row column)
IsUtf8-field row None text = ([], (refl, refl))
IsUtf8-field row (Some column) text = by (cases_lt column (length row))
  where
    here : (b : Bool) → is_utf8 (get_or row column []) ≡ b → column < length row → IsUtf8 (get_or row column [])
    here true e l = IsUtf8-from_is_utf8 (get_or row column []) e
    here false e l = absurd (true≢false (sym text ∙ list_all_at is_utf8 row column [] l e))

    by : (column < length row) ⊎ (length row ≤ column) → IsUtf8 (get_or row column [])
    by (inl l) = here (is_utf8 (get_or row column [])) refl l
    by (inr l) = subst IsUtf8 (sym (get_or_past row column [] l)) ([], (refl, refl))
