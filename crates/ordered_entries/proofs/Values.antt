-- What the entries of a key stand for, in their order.
use Rattle.std.proofs.Common.{◌≡◌, ℕ, suc, ◌==◌, Bool, true, false, cond, ltb, eqb, List, [], ◌∷◌, ◌++◌, length, get_or, map, filter, refl, sym, ◌∙◌, ap, arith, append_assoc}
use Rattle.std.proofs.lemmas.List.{length-append}
use Rattle.ordered_entries.specs.declared.entry.Entry.{Entry}
use Rattle.ordered_entries.specs.declared.placed.Placed.{Placed}
use Rattle.ordered_entries.specs.Rising.{with_one, by_rising}
use Rattle.ordered_entries.specs.Entries.{is_of, placed_from, places_of}

map_map : {A B C : Type 0} (f : B → C) (g : A → B) (xs : List A) → map f (map g xs) ≡ map (λ x. f (g x)) xs
map_map f g [] = refl
map_map f g (x ∷ xs) = ap (λ rest. f (g x) ∷ rest) (map_map f g xs)

-- Two lists of one length, whose items are alike one by one.
module _ {X Y : Type 0} (same : X → Y → Type 0) where
  abbrev Alike : List X → List Y → Type 0
  Alike [] [] = Unit {0}
  Alike [] (y ∷ ys) = ⊥
  Alike (x ∷ xs) [] = ⊥
  Alike (x ∷ xs) (y ∷ ys) = same x y × Alike xs ys

  alike_filter : (p : X → Bool) (q : Y → Bool) → ((x : X) (y : Y) → same x y → p x ≡ q y) → (xs : List X) (ys : List Y) → Alike xs ys → Alike (filter p xs) (filter q ys)
  alike_filter p q one [] [] h = tt
  alike_filter p q one [] (y ∷ ys) h = absurd h
  alike_filter p q one (x ∷ xs) [] h = absurd h
  alike_filter p q one (x ∷ xs) (y ∷ ys) h = by (p x) (q y) (one x y h.0) (alike_filter p q one xs ys h.1)
    where
      by : (a b : Bool) → a ≡ b → Alike (filter p xs) (filter q ys) → Alike (cond a (x ∷ filter p xs) (filter p xs)) (cond b (y ∷ filter q ys) (filter q ys))
      by true true e rest = (h.0, rest)
      by true false e rest = absurd cc
      by false true e rest = absurd cc
      by false false e rest = rest

  module _ (m : X → ℕ) (n : Y → ℕ) (one : (x : X) (y : Y) → same x y → m x ≡ n y) where
    alike_with_one : (x : X) (y : Y) → same x y → (xs : List X) (ys : List Y) → Alike xs ys → Alike (with_one m x xs) (with_one n y ys)
    alike_with_one x y s [] [] h = (s, tt)
    alike_with_one x y s [] (b ∷ bs) h = absurd h
    alike_with_one x y s (a ∷ cs) [] h = absurd h
    alike_with_one x y s (a ∷ cs) (b ∷ bs) h = by (ltb (m a) (m x)) (ltb (n b) (n y)) (ap (λ (k : ℕ). ltb k (m x)) (one a b h.0) ∙ ap (ltb (n b)) (one x y s)) (alike_with_one x y s cs bs h.1)
      where
        by : (c d : Bool) → c ≡ d → Alike (with_one m x cs) (with_one n y bs) → Alike (cond c (a ∷ with_one m x cs) (x ∷ a ∷ cs)) (cond d (b ∷ with_one n y bs) (y ∷ b ∷ bs))
        by true true e rest = (h.0, rest)
        by true false e rest = absurd cc
        by false true e rest = absurd cc
        by false false e rest = (s, h)

    alike_by_rising : (xs : List X) (ys : List Y) → Alike xs ys → Alike (by_rising m xs) (by_rising n ys)
    alike_by_rising [] [] h = tt
    alike_by_rising [] (y ∷ ys) h = absurd h
    alike_by_rising (x ∷ xs) [] h = absurd h
    alike_by_rising (x ∷ xs) (y ∷ ys) h = alike_with_one x y h.0 (by_rising m xs) (by_rising n ys) (alike_by_rising xs ys h.1)

  alike_map : {V : Type 0} (f : X → V) (g : Y → V) → ((x : X) (y : Y) → same x y → f x ≡ g y) → (xs : List X) (ys : List Y) → Alike xs ys → map f xs ≡ map g ys
  alike_map f g one [] [] h = refl
  alike_map f g one [] (y ∷ ys) h = absurd h
  alike_map f g one (x ∷ xs) [] h = absurd h
  alike_map f g one (x ∷ xs) (y ∷ ys) h = ap (λ rest. f x ∷ rest) (alike_map f g one xs ys h.1) ∙ ap (λ a. a ∷ map g ys) (one x y h.0)

module _ {X V : Type 0} (entry : X → Entry) (value : X → V) (d : V) where
  -- an entry with its place stands for an item
  record Stands (values : List V) (placed : Placed) (x : X) : Type 0 where
    key : placed.key ≡ (entry x).key
    sequence : placed.sequence ≡ (entry x).sequence
    value_is : get_or values placed.place d ≡ value x

  value_at : (front : List V) (v : V) (rest : List V) → get_or (front ++ v ∷ rest) (length front) d ≡ v
  value_at [] v rest = refl
  value_at (a ∷ front) v rest = value_at front v rest

  all_stand : (front values : List V) (xs : List X) → values ≡ front ++ map value xs → Alike (Stands values) (placed_from (length front) (map entry xs)) xs
  all_stand front values [] e = tt
  all_stand front values (x ∷ xs) e =
      let count : length (front ++ value x ∷ []) ≡ suc (length front) = omega (arith, length-append front (value x ∷ [])) in (
        record { key = refl; sequence = refl; value_is = ap (λ vs. get_or vs (length front) d) e ∙ value_at front (value x) (map value xs) },
        rw (← count) (all_stand (front ++ value x ∷ []) values xs (e ∙ sym (append_assoc front (value x ∷ []) (map value xs)))),
      )

  -- The values at the places of a key's entries are those of the items of this key, by rising sequence numbers.
  pub values_in_order : (xs : List X) (key : ℕ)
      → map (λ place. get_or (map value xs) place d) (places_of (map entry xs) key) ≡ map value (by_rising (λ x. (entry x).sequence) (filter (λ x. (entry x).key == key) xs))
  values_in_order xs key =
      let placed = placed_from 0 (map entry xs) in
      map_map (λ place. get_or (map value xs) place d) (λ (e : Placed). e.place) (by_rising (λ (e : Placed). e.sequence) (filter (is_of key) placed))
      ∙ alike_map (Stands (map value xs)) (λ (e : Placed). get_or (map value xs) e.place d) value (λ e x s. s.value_is)
      (by_rising (λ (e : Placed). e.sequence) (filter (is_of key) placed)) (by_rising (λ x. (entry x).sequence) (filter (λ x. (entry x).key == key) xs))
      (alike_by_rising (Stands (map value xs)) (λ (e : Placed). e.sequence) (λ x. (entry x).sequence) (λ e x s. s.sequence)
      (filter (is_of key) placed) (filter (λ x. (entry x).key == key) xs)
      (alike_filter (Stands (map value xs)) (is_of key) (λ x. (entry x).key == key) (λ e x s. ap (λ (k : ℕ). eqb k key) s.key) placed xs
      (all_stand [] (map value xs) xs refl)))
