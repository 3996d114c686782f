-- Lists that are made of numbers, and read again.
use Rattle.std.proofs.Common.{◌≡◌, refl, sym, ap, ap₂, ◌∙◌, ℕ, zero, suc, ◌+◌, ◌<◌, ◌≤◌, List, [], ◌∷◌, ◌++◌, length, map, arith, append_assoc, length-append}
use Rattle.std.specs.Prelude.{Option, Some, None, unwrap_or, slice_get, Ok}
use Rattle.std.specs.List.{AllByRecursion as ByRecursion, range_with_len}
use Rattle.graph_json.specs.Forms.{in_front, of_each}
use Rattle.graph_json.specs.Outcome.{in_order, each_or_first}

-- ---- what is read of each

module _ {A B C : Type 0} (f : A → Option B) (h : C → A) (k : C → B) where
  -- f gives k where h was written
  pub of_each_mapped : (xs : List C) → ByRecursion (λ x. f (h x) ≡ Some (k x)) xs → of_each f (map h xs) ≡ Some (map k xs)
  of_each_mapped [] e = refl
  of_each_mapped (x ∷ xs) e = ap₂ in_front e.0 (of_each_mapped xs e.1)

module _ {A B : Type 0} (f : A → Option B) where
  pub of_each_append : (xs ys : List A) (cs ds : List B) → of_each f xs ≡ Some cs → of_each f ys ≡ Some ds → of_each f (xs ++ ys) ≡ Some (cs ++ ds)
  of_each_append [] ys cs ds e d = let none : [] ≡ cs = cc in d ∙ ap (λ l. Some (l ++ ds)) none
  of_each_append (x ∷ xs) ys cs ds e d = by (f x) refl (of_each f xs) (λ zs rests. of_each_append xs ys zs ds rests d) e
    where
      by : (o : Option B) → f x ≡ o → (rest : Option (List B)) → ((zs : List B) → rest ≡ Some zs → of_each f (xs ++ ys) ≡ Some (zs ++ ds)) → in_front o rest ≡ Some cs
          → in_front (f x) (of_each f (xs ++ ys)) ≡ Some (cs ++ ds)
      by None is rest later e = absurd (cc)
      by (Some y) is None later e = absurd (cc)
      by (Some y) is (Some zs) later e =
          let same : y ∷ zs ≡ cs = cc in
          ap₂ in_front is (later zs refl) ∙ ap (λ l. Some (l ++ ds)) same

  -- where something comes of each, no entry is the first of which nothing does
  pub all_entries : (i : ℕ) (xs : List A) (ys : List B) → of_each f xs ≡ Some ys → each_or_first f i xs ≡ Ok ys
  all_entries i [] ys e = let none : [] ≡ ys = cc in ap Ok none
  all_entries i (x ∷ xs) ys e = by (f x) refl (of_each f xs) (λ zs rests. all_entries (i + 1) xs zs rests) e
    where
      by : (o : Option B) → f x ≡ o → (rest : Option (List B)) → ((zs : List B) → rest ≡ Some zs → each_or_first f (i + 1) xs ≡ Ok zs) → in_front o rest ≡ Some ys
          → in_order (f x) i (each_or_first f (i + 1) xs) ≡ Ok ys
      by None is rest later e = absurd (cc)
      by (Some y) is None later e = absurd (cc)
      by (Some y) is (Some zs) later e =
          let same : y ∷ zs ≡ ys = cc in
          ap₂ (λ o r. in_order o i r) is (later zs refl) ∙ ap Ok same

-- ---- numbers

range_from : (a n : ℕ) {P : ℕ → Type 0} → ((k : ℕ) → a ≤ k → k < a + n → P k) → ByRecursion P (range_with_len a n)
range_from a zero h = tt
range_from a (suc n) h = (h a (omega arith) (omega arith), range_from (a + 1) n (λ k l m. h k (omega arith) (omega arith)))

-- what holds of each number below n
pub below_range : (n : ℕ) (P : ℕ → Type 0) → ((k : ℕ) → k < n → P k) → ByRecursion P (range_with_len 0 n)
below_range n P h = range_from 0 n (λ k l m. h k (omega arith))

module _ {X Y : Type 0} (d : X) (h : X → Y) where
  beyond : (xs ys : List X) (k : ℕ) → unwrap_or (slice_get (xs ++ ys) (length xs + k)) d ≡ unwrap_or (slice_get ys k) d
  beyond [] ys k = let e : 0 + k ≡ k = omega arith in ap (λ (n : ℕ). unwrap_or (slice_get ys n) d) e
  beyond (x ∷ xs) ys k = let e : suc (length xs) + k ≡ suc (length xs + k) = omega arith in ap (λ (n : ℕ). unwrap_or (slice_get (x ∷ (xs ++ ys)) n) d) e ∙ beyond xs ys k

  from_number : (xs ys : List X) (a : ℕ) → length xs ≡ a → map (λ n. h (unwrap_or (slice_get (xs ++ ys) n) d)) (range_with_len a (length ys)) ≡ map h ys
  from_number xs [] a e = refl
  from_number xs (y ∷ ys) a e =
      let here : length xs + 0 ≡ a = omega (arith, e) in
      let one : length (xs ++ y ∷ []) ≡ a + 1 = length-append xs (y ∷ []) ∙ omega (arith, e) in
      let first : unwrap_or (slice_get (xs ++ y ∷ ys) a) d ≡ y = ap (λ (n : ℕ). unwrap_or (slice_get (xs ++ y ∷ ys) n) d) (sym here) ∙ beyond xs (y ∷ ys) 0 in
      let rest = from_number (xs ++ y ∷ []) ys (a + 1) one in
      let moved : (xs ++ y ∷ []) ++ ys ≡ xs ++ y ∷ ys = append_assoc xs (y ∷ []) ys in
      ap₂ (λ (z : Y) zs. z ∷ zs) (ap h first) (ap (λ (l : List X). map (λ n. h (unwrap_or (slice_get l n) d)) (range_with_len (a + 1) (length ys))) (sym moved) ∙ rest)

  -- by number, the elements are those of the list
  pub by_number : (xs : List X) (n : ℕ) → length xs ≡ n → map (λ k. h (unwrap_or (slice_get xs k) d)) (range_with_len 0 n) ≡ map h xs
  by_number xs n e = ap (λ (m : ℕ). map (λ k. h (unwrap_or (slice_get xs k) d)) (range_with_len 0 m)) (sym e) ∙ from_number [] xs 0 refl

pub map_same : {X : Type 0} (xs : List X) → map (λ (x : X). x) xs ≡ xs
map_same [] = refl
map_same (x ∷ xs) = ap (λ l. x ∷ l) (map_same xs)

pub map_map : {X Y Z : Type 0} (f : X → Y) (g : Y → Z) (xs : List X) → map g (map f xs) ≡ map (λ x. g (f x)) xs
map_map f g [] = refl
map_map f g (x ∷ xs) = ap (λ l. g (f x) ∷ l) (map_map f g xs)
