-- The place of an id among ids, and rows before a place that pass a test.
use Rattle.std.proofs.Common.{◌≡◌, ℕ, suc, ◌+◌, ◌-◌, ◌<◌, ◌≤◌, ◌||◌, ◌⊎◌, inl, inr, not, Bool, true, false, cond, List, [], ◌∷◌, length, get_or, take, position, bytes_eq, Option, Some, None, IfSome, refl, sym, ◌∙◌, ap, arith}
use Rattle.std.specs.List.{list_any, position_or_len}
use Rattle.std.proofs.lemmas.Bool.{lt-ltb, le-ltb, cases_lt}
use Rattle.std.proofs.lemmas.List.{get_or-take, get_or-drop, get_or_default, length-drop, length-take-le}
use Rattle.std.proofs.lemmas.List.Folds.{Any-from_list_any, list_any_at}
use Rattle.std.proofs.lemmas.Slice.Eq.{bytes_eq-Decides}
use Rattle.table_rows.specs.Ids.{is_among, place_among}
use Rattle.table_rows.specs.Cells.{Row, row_at, rows_before}

-- bytes that are found to be one are one
pub same_bytes : (a b : List ℕ) → bytes_eq a b ≡ true → a ≡ b
same_bytes a b h = (bytes_eq-Decides a b).0 h

pub bytes_same : (a b : List ℕ) → a ≡ b → bytes_eq a b ≡ true
bytes_same a b h = (bytes_eq-Decides a b).1 h

module _ {X : Type 0} (p : X → Bool) where
  met_first : (xs : List X) (d : X) → position_or_len p xs < length xs → p (get_or xs (position_or_len p xs) d) ≡ true
  met_first [] d l = absurd (omega (arith, l))
  met_first (x ∷ xs) d l = by (p x) refl l (met_first xs d)
    where
      by : (b : Bool) → p x ≡ b → cond (not b) (1 + position_or_len p xs) 0 < length (x ∷ xs)
          → (position_or_len p xs < length xs → p (get_or xs (position_or_len p xs) d) ≡ true) → p (get_or (x ∷ xs) (cond (not (p x)) (1 + position_or_len p xs) 0) d) ≡ true
      by true e l later = ap (λ (b : Bool). p (get_or (x ∷ xs) (cond (not b) (1 + position_or_len p xs) 0) d)) e ∙ e
      by false e l later =
          let next : 1 + position_or_len p xs ≡ suc (position_or_len p xs) = omega arith in
          ap (λ (b : Bool). p (get_or (x ∷ xs) (cond (not b) (1 + position_or_len p xs) 0) d)) e
          ∙ ap (λ (n : ℕ). p (get_or (x ∷ xs) n d)) next
          ∙ later (omega (arith, l))

  none_met : (xs : List X) → length xs ≤ position_or_len p xs → list_any p xs ≡ false
  none_met [] l = refl
  none_met (x ∷ xs) l = by (p x) refl l (none_met xs)
    where
      by : (b : Bool) → p x ≡ b → length (x ∷ xs) ≤ cond (not b) (1 + position_or_len p xs) 0 → (length xs ≤ position_or_len p xs → list_any p xs ≡ false) → (p x || list_any p xs) ≡ false
      by true e l later = absurd (omega (arith, l))
      by false e l later = ap (λ (b : Bool). b || list_any p xs) e ∙ later (omega (arith, l))

  pub position_some : (xs : List X) (i : ℕ) (d : X) → position p xs ≡ Some i → (i < length xs) × (p (get_or xs i d) ≡ true)
  position_some xs i d e = by (cases_lt (position_or_len p xs) (length xs))
    where
      some_is : (x y : ℕ) → Some x ≡ Some y → x ≡ y
      some_is x y e = cc

      by : (position_or_len p xs < length xs) ⊎ (length xs ≤ position_or_len p xs) → (i < length xs) × (p (get_or xs i d) ≡ true)
      by (inl l) =
          let is : position_or_len p xs ≡ i = some_is (position_or_len p xs) i (sym (ap (λ (b : Bool). cond b (Some (position_or_len p xs)) None) (lt-ltb (position_or_len p xs) (length xs) l)) ∙ e) in
          (omega (arith, l, is), ap (λ (n : ℕ). p (get_or xs n d)) (sym is) ∙ met_first xs d l)
      by (inr l) = absurd (none_some i (sym (ap (λ (b : Bool). cond b (Some (position_or_len p xs)) None) (le-ltb (position_or_len p xs) (length xs) l)) ∙ e))
        where
          none_some : (y : ℕ) → None ≡ Some y → ⊥
          none_some y e = absurd cc

  pub position_none : (xs : List X) → position p xs ≡ None → list_any p xs ≡ false
  position_none xs e = by (cases_lt (position_or_len p xs) (length xs))
    where
      by : (position_or_len p xs < length xs) ⊎ (length xs ≤ position_or_len p xs) → list_any p xs ≡ false
      by (inl l) = absurd (none_some (position_or_len p xs) (sym e ∙ ap (λ (b : Bool). cond b (Some (position_or_len p xs)) None) (lt-ltb (position_or_len p xs) (length xs) l)))
        where
          none_some : (y : ℕ) → None ≡ Some y → ⊥
          none_some y e = absurd cc
      by (inr l) = none_met xs l

-- an id that has a place is among the ids, and stands there
pub placed_among : (ids : List (List ℕ)) (id : List ℕ) (place : ℕ) → place_among ids id ≡ Some place → (place < length ids) × (id ≡ get_or ids place []) × (is_among id ids ≡ true)
placed_among ids id place e =
    let found = position_some (bytes_eq id) ids place [] e in
    (found.0, same_bytes id (get_or ids place []) found.1, list_any_at (bytes_eq id) ids place [] found.0 found.1)

pub unplaced_among : (ids : List (List ℕ)) (id : List ℕ) → place_among ids id ≡ None → is_among id ids ≡ false
unplaced_among ids id e = position_none (bytes_eq id) ids e

pub place_within : (ids : List (List ℕ)) (id : List ℕ) (place : Option ℕ) (most : ℕ) → place ≡ place_among ids id → length ids ≤ most → IfSome place (λ n. n < most)
place_within ids id None most e l = tt
place_within ids id (Some place) most e l = let found = placed_among ids id place (sym e) in omega (arith, found.0, l)

-- a row before a place, and one of those that stand before it
row_before : (rows : List Row) (place k : ℕ) (d : Row) → place ≤ length rows → k < length (rows_before place rows) → (k + 1 < place) × (get_or (rows_before place rows) k d ≡ row_at rows (k + 1))
row_before rows place k d l within =
    let size : length (rows_before place rows) ≡ place - 1 = length-drop 1 (take place rows) ∙ ap (λ (n : ℕ). n - 1) (length-take-le place rows l) in
    let low : k + 1 < place = omega (arith, within, size) in (
      low,
      get_or-drop 1 (take place rows) k d
          ∙ ap (λ (n : ℕ). get_or (take place rows) n d) (omega arith)
          ∙ get_or-take place rows (k + 1) d low
          ∙ get_or_default rows (k + 1) d [] (omega (arith, low, l)),
    )

pub some_before : (test : Row → Bool) (rows : List Row) (place : ℕ) → place ≤ length rows → list_any test (rows_before place rows) ≡ true
    → (q : ℕ) × (1 ≤ q) × (q < place) × (test (row_at rows q) ≡ true)
some_before test rows place l h =
    let any = Any-from_list_any test (rows_before place rows) h in
    let at = row_before rows place any.0 any.1 l any.2 in
    (any.0 + 1, omega arith, at.0, ap test (sym at.1 ∙ any.3) ∙ any.4)

pub before_some : (test : Row → Bool) (rows : List Row) (place q : ℕ) → place ≤ length rows → 1 ≤ q → q < place → test (row_at rows q) ≡ true
    → list_any test (rows_before place rows) ≡ true
before_some test rows place q l from h here =
    let size : length (rows_before place rows) ≡ place - 1 = length-drop 1 (take place rows) ∙ ap (λ (n : ℕ). n - 1) (length-take-le place rows l) in
    let at = row_before rows place (q - 1) [] l (omega (arith, from, h, size)) in
    list_any_at test (rows_before place rows) (q - 1) [] (omega (arith, from, h, size)) (ap test (at.1 ∙ ap (row_at rows) (omega (arith, from))) ∙ here)
