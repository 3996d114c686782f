-- Moving a group of lines before the others makes at most twice as many new neighbours as it takes inversions away.
use Rattle.std.proofs.Common.{◌≡◌, ℕ, ◌+◌, ◌≤◌, ◌==◌, Bool, true, false, not, cond, ◌||◌, ◌&&◌, List, [], ◌∷◌, refl, sym, ap, ◌∙◌, arith, inl, inr, true≢false, eq-eqb}
use Rattle.std.specs.Prelude.{filter}
use Rattle.std.specs.List.{sum_by, list_any}
use Rattle.std.proofs.lemmas.Bool.{or_parts, or_from, ne_eqb}
use Rattle.std.proofs.lemmas.Bool.Decides.{nat_tests}
use Rattle.std.proofs.lemmas.List.Sums.{sum_by-cons}
use Rattle.map_base.specs.declared.ids.LineId.{LineId}
use Rattle.order_model.specs.Costs.{comes_before, are_these, are_neighbours, same_answer}
use Rattle.order_model.specs.Places.{has_line}
use Rattle.order_model.proofs.Lines.{same_line}
use Rattle.order_model.proofs.PlaceLemmas.{times, AreOnce, times_here, times_not_here, once_head, once_tail, same_or_not}
use Rattle.order_rules.proofs.MergeCosts.{same_self}
use Rattle.order_rules.proofs.PairSums.{sum_none, sum_pairs}
use Rattle.order_rules.proofs.GroupOrders.{these_in}
use Rattle.order_rules.proofs.Grouped.{leads, neighbours_cons}

-- Sums over a list, told by its members.

pub row_same : (f g : LineId → ℕ) (xs : List LineId) → ((b : LineId) → has_line xs b ≡ true → f b ≡ g b) → sum_by f xs ≡ sum_by g xs
row_same f g [] h = refl
row_same f g (x ∷ xs) h =
    let here : (x.0 == x.0) ≡ true = eq-eqb x.0 x.0 refl in
    let rest = row_same f g xs (λ b k. h b (or_last (x.0 == b.0) (has_line xs b) k)) in
    omega (arith, rest, h x (ap (λ (m : Bool). m || has_line xs x) here), sum_by-cons f x xs, sum_by-cons g x xs)
  where
    or_last : (s t : Bool) → t ≡ true → (s || t) ≡ true
    or_last true t k = refl
    or_last false t k = k

pub row_less : (f g : LineId → ℕ) (xs : List LineId) → ((b : LineId) → has_line xs b ≡ true → f b ≤ g b) → sum_by f xs ≤ sum_by g xs
row_less f g [] h = omega arith
row_less f g (x ∷ xs) h =
    let here : (x.0 == x.0) ≡ true = eq-eqb x.0 x.0 refl in
    let rest = row_less f g xs (λ b k. h b (or_last (x.0 == b.0) (has_line xs b) k)) in
    omega (arith, rest, h x (ap (λ (m : Bool). m || has_line xs x) here), sum_by-cons f x xs, sum_by-cons g x xs)
  where
    or_last : (s t : Bool) → t ≡ true → (s || t) ≡ true
    or_last true t k = refl
    or_last false t k = k

later_has : (x b : LineId) (xs : List LineId) → has_line xs b ≡ true → has_line (x ∷ xs) b ≡ true
later_has x b xs h = or_last (x.0 == b.0)
  where
    or_last : (s : Bool) → (s || has_line xs b) ≡ true
    or_last true = refl
    or_last false = h

first_has : (x : LineId) (xs : List LineId) → has_line (x ∷ xs) x ≡ true
first_has x xs = let here : (x.0 == x.0) ≡ true = eq-eqb x.0 x.0 refl in rw here refl

pub pairs_less_in : (f g : LineId → LineId → ℕ) (xs : List LineId) → ((a b : LineId) → has_line xs a ≡ true → has_line xs b ≡ true → f a b ≤ g a b) → sum_pairs f xs ≤ sum_pairs g xs
pairs_less_in f g [] h = omega arith
pairs_less_in f g (x ∷ xs) h =
    let row = row_less (f x) (g x) xs (λ b k. h x b (first_has x xs) (later_has x b xs k)) in
    let rest = pairs_less_in f g xs (λ a b k m. h a b (later_has x a xs k) (later_has x b xs m)) in
    omega (arith, row, rest)

pub pairs_same_in : (f g : LineId → LineId → ℕ) (xs : List LineId) → ((a b : LineId) → has_line xs a ≡ true → has_line xs b ≡ true → f a b ≡ g a b) → sum_pairs f xs ≡ sum_pairs g xs
pairs_same_in f g [] h = refl
pairs_same_in f g (x ∷ xs) h =
    let row = row_same (f x) (g x) xs (λ b k. h x b (first_has x xs) (later_has x b xs k)) in
    let rest = pairs_same_in f g xs (λ a b k m. h a b (later_has x a xs k) (later_has x b xs m)) in
    omega (arith, row, rest)

-- A line that stands in none of the rest.

none_has : (x : LineId) (xs : List LineId) → times x xs ≡ 0 → has_line xs x ≡ false
none_has x [] h = refl
none_has x (y ∷ xs) h = elim (same_or_not y.0 x.0) [
  | inl e ↦ absurd (omega (arith, times_here x y xs e, h))
  | inr n ↦ or_from (y.0 == x.0) (has_line xs x) (ne_eqb y.0 x.0 n) (none_has x xs (omega (arith, times_not_here x y xs n, h)))
]

differs : (x b : LineId) (xs : List LineId) → has_line xs x ≡ false → has_line xs b ≡ true → (x.0 == b.0) ≡ false
differs x b xs h k = by_test (x.0 == b.0) refl
  where
    by_test : (c : Bool) → (x.0 == b.0) ≡ c → (x.0 == b.0) ≡ false
    by_test true e = absurd (true≢false (sym k ∙ (ap (has_line xs) (sym (same_line x b e)) ∙ h)))
    by_test false e = e

these_first_out : (x y a b : LineId) → (x.0 == a.0) ≡ false → (y.0 == a.0) ≡ false → are_these x y a b ≡ false
these_first_out x y a b h k = grind (arith, nat_tests)

neighbours_first_out : (xs : List LineId) (a b : LineId) → has_line xs a ≡ false → are_neighbours xs a b ≡ false
neighbours_first_out [] a b h = refl
neighbours_first_out (x ∷ []) a b h = refl
neighbours_first_out (x ∷ y ∷ xs) a b h =
    let hx = or_parts (x.0 == a.0) (has_line (y ∷ xs) a) h in
    let hy = or_parts (y.0 == a.0) (has_line xs a) hx.1 in
    rw (these_first_out x y a b hx.0 hy.0) (neighbours_first_out (y ∷ xs) a b hx.1)

has_less : (p : LineId → Bool) (xs : List LineId) (a : LineId) → has_line xs a ≡ false → has_line (filter p xs) a ≡ false
has_less p [] a h = refl
has_less p (x ∷ xs) a h = by_test (p x) (or_parts (x.0 == a.0) (has_line xs a) h).0 (has_less p xs a (or_parts (x.0 == a.0) (has_line xs a) h).1)
  where
    by_test : (c : Bool) → (x.0 == a.0) ≡ false → has_line (filter p xs) a ≡ false → has_line (cond c (x ∷ filter p xs) (filter p xs)) a ≡ false
    by_test true e k = or_from (x.0 == a.0) (has_line (filter p xs) a) e k
    by_test false e k = k

module _ (g : LineId → Bool) (T : ℕ) where
  -- the lines of the group, or those of the rest
  abbrev pub own : Bool → LineId → Bool
  own c a = same_answer c (g a)

  -- two lines of one side that become neighbours
  abbrev pub is_new : List LineId → LineId → LineId → Bool
  is_new xs a b = same_answer (g a) (g b) && (are_neighbours (filter (own (g a)) xs) a b && not (are_neighbours xs a b))

  -- of two lines the earlier one is of the rest and the later one of the group
  abbrev pub is_inverted : List LineId → LineId → LineId → Bool
  is_inverted xs a b = comes_before xs a b && (not (g a) && g b)

  leads_out : (x : LineId) (ys : List LineId) (a b : LineId) → (x.0 == a.0) ≡ false → (x.0 == b.0) ≡ false → leads x ys a b ≡ false
  leads_out x [] a b h k = refl
  leads_out x (y ∷ ys) a b h k = these_in x y a b h k

  neighbours_later : (x : LineId) (ys : List LineId) (a b : LineId) → (x.0 == a.0) ≡ false → (x.0 == b.0) ≡ false → are_neighbours (x ∷ ys) a b ≡ are_neighbours ys a b
  neighbours_later x ys a b h k = neighbours_cons x ys a b ∙ ap (λ (m : Bool). m || are_neighbours ys a b) (leads_out x ys a b h k)

  filtered_later : (c : Bool) (x : LineId) (ys : List LineId) (a b : LineId) → (x.0 == a.0) ≡ false → (x.0 == b.0) ≡ false
      → are_neighbours (filter (own c) (x ∷ ys)) a b ≡ are_neighbours (filter (own c) ys) a b
  filtered_later c x ys a b h k = by_test (own c x)
    where
      by_test : (d : Bool) → are_neighbours (cond d (x ∷ filter (own c) ys) (filter (own c) ys)) a b ≡ are_neighbours (filter (own c) ys) a b
      by_test true = neighbours_later x (filter (own c) ys) a b h k
      by_test false = refl

  new_later : (x : LineId) (ys : List LineId) (a b : LineId) → (x.0 == a.0) ≡ false → (x.0 == b.0) ≡ false → is_new (x ∷ ys) a b ≡ is_new ys a b
  new_later x ys a b h k =
      ap (λ (m : Bool). same_answer (g a) (g b) && (m && not (are_neighbours (x ∷ ys) a b))) (filtered_later (g a) x ys a b h k)
      ∙ ap (λ (m : Bool). same_answer (g a) (g b) && (are_neighbours (filter (own (g a)) ys) a b && not m)) (neighbours_later x ys a b h k)

  inverted_later : (x : LineId) (ys : List LineId) (a b : LineId) → (x.0 == a.0) ≡ false → (x.0 == b.0) ≡ false → is_inverted (x ∷ ys) a b ≡ is_inverted ys a b
  inverted_later x ys a b h k = rw (h, k) refl

  -- The first line with each later one.

  abbrev apart_first : LineId → List LineId → Bool
  apart_first x [] = false
  apart_first x (c ∷ ys) = not (same_answer (g x) (g c))

  one_at_most : (f : LineId) (xs : List LineId) → AreOnce xs → sum_by (λ b. cond (f.0 == b.0) T 0) xs ≤ T
  one_at_most f [] once = omega arith
  one_at_most f (x ∷ xs) once = elim (same_or_not x.0 f.0) [
    | inl e ↦ (let none : times f xs ≡ 0 = omega (arith, once f, times_here f x xs e) in
        let out : has_line xs f ≡ false = none_has f xs none in
        omega (
          arith,
          sum_by-cons (λ b. cond (f.0 == b.0) T 0) x xs,
          at_most (f.0 == x.0),
          row_same (λ b. cond (f.0 == b.0) T 0) (λ b. 0) xs (λ b k. ap (λ (m : Bool). cond m T 0) (differs f b xs out k)),
          sum_none {A = LineId} (λ b. 0) xs (λ b. refl),
        ))
    | inr n ↦ (let off : (f.0 == x.0) ≡ false = ne_eqb f.0 x.0 (λ e. n (sym e)) in
        omega (arith, sum_by-cons (λ b. cond (f.0 == b.0) T 0) x xs, ap (λ (m : Bool). cond m T 0) off, one_at_most f xs (once_tail x xs once)))
  ]
    where
      at_most : (c : Bool) → cond c T 0 ≤ T
      at_most true = omega arith
      at_most false = omega arith

  filter_none : (p : LineId → Bool) (xs : List LineId) (f : LineId) (F : List LineId) → filter p xs ≡ f ∷ F → list_any p xs ≡ true
  filter_none p [] f F h = absurd (nothing h)
    where
      nothing : [] ≡ f ∷ F → ⊥
      nothing e = cc
  filter_none p (x ∷ xs) f F h = by_test (p x) (λ k. filter_none p xs f F k) h
    where
      by_test : (c : Bool) → (filter p xs ≡ f ∷ F → list_any p xs ≡ true) → cond c (x ∷ filter p xs) (filter p xs) ≡ f ∷ F → (c || list_any p xs) ≡ true
      by_test true rest k = refl
      by_test false rest k = rest k

  nb_head : (x b : LineId) (rest : List LineId) → has_line rest x ≡ false
      → are_neighbours (filter (own (g x)) (x ∷ rest)) x b ≡ leads x (filter (own (g x)) rest) x b
  nb_head x b rest out =
      let kept : same_answer (g x) (g x) ≡ true = same_self (g x) in
      rw kept (neighbours_cons x (filter (own (g x)) rest) x b
      ∙ (ap (λ (m : Bool). leads x (filter (own (g x)) rest) x b || m) (neighbours_first_out (filter (own (g x)) rest) x b (has_less (own (g x)) rest x out))
      ∙ or_false (leads x (filter (own (g x)) rest) x b)))
    where
      or_false : (c : Bool) → (c || false) ≡ c
      or_false true = refl
      or_false false = refl

  new_head : (x b : LineId) (rest : List LineId) → has_line rest x ≡ false
      → is_new (x ∷ rest) x b ≡ (same_answer (g x) (g b) && (leads x (filter (own (g x)) rest) x b && not (are_neighbours (x ∷ rest) x b)))
  new_head x b rest out = ap (λ (m : Bool). same_answer (g x) (g b) && (m && not (are_neighbours (x ∷ rest) x b))) (nb_head x b rest out)

  and_not : (s m n : Bool) → (s && (m && not (m || n))) ≡ false
  and_not true true n = refl
  and_not true false n = refl
  and_not false m n = refl

  at_most_this : (s m n : Bool) → cond (s && (m && n)) T 0 ≤ cond m T 0
  at_most_this true true true = omega arith
  at_most_this true true false = omega arith
  at_most_this true false n = omega arith
  at_most_this false true n = omega arith
  at_most_this false false n = omega arith

  these_head : (x f b : LineId) → (x.0 == b.0) ≡ false → are_these x f x b ≡ (f.0 == b.0)
  these_head x f b h = let i : (x.0 == x.0) ≡ true = eq-eqb x.0 x.0 refl in rw (h, i) (or_false (f.0 == b.0))
    where
      or_false : (c : Bool) → (c || false) ≡ c
      or_false true = refl
      or_false false = refl

  -- no new neighbour of the first line, where none is found on its side
  row_none : (x : LineId) (rest : List LineId) → has_line rest x ≡ false → filter (own (g x)) rest ≡ [] → sum_by (λ b. cond (is_new (x ∷ rest) x b) T 0) rest ≡ 0
  row_none x rest out none =
      row_same (λ b. cond (is_new (x ∷ rest) x b) T 0) (λ b. 0) rest
      (λ b k. ap (λ (m : Bool). cond m T 0) (new_head x b rest out ∙ (ap (λ (F : List LineId). same_answer (g x) (g b) && (leads x F x b && not (are_neighbours (x ∷ rest) x b))) none ∙ and_none (same_answer (g x) (g b)))))
      ∙ sum_none {A = LineId} (λ b. 0) rest (λ b. refl)
    where
      and_none : (s : Bool) → (s && false) ≡ false
      and_none true = refl
      and_none false = refl

  row_one : (x f : LineId) (F rest : List LineId) → AreOnce rest → has_line rest x ≡ false → filter (own (g x)) rest ≡ f ∷ F → sum_by (λ b. cond (is_new (x ∷ rest) x b) T 0) rest ≤ T
  row_one x f F rest once out is =
      let less = row_less (λ b. cond (is_new (x ∷ rest) x b) T 0) (λ b. cond (f.0 == b.0) T 0) rest
      (λ b k. let e : is_new (x ∷ rest) x b ≡ (same_answer (g x) (g b) && ((f.0 == b.0) && not (are_neighbours (x ∷ rest) x b))) =
      new_head x b rest out
      ∙ (ap (λ (G : List LineId). same_answer (g x) (g b) && (leads x G x b && not (are_neighbours (x ∷ rest) x b))) is
      ∙ ap (λ (m : Bool). same_answer (g x) (g b) && (m && not (are_neighbours (x ∷ rest) x b))) (these_head x f b (differs x b rest out k))) in
      rw e (at_most_this (same_answer (g x) (g b)) (f.0 == b.0) (not (are_neighbours (x ∷ rest) x b)))) in
      omega (arith, less, one_at_most f rest once)

  -- nor where the next line is of its side
  row_next : (x c : LineId) (ys : List LineId) → has_line (c ∷ ys) x ≡ false → same_answer (g x) (g c) ≡ true → sum_by (λ b. cond (is_new (x ∷ c ∷ ys) x b) T 0) (c ∷ ys) ≡ 0
  row_next x c ys out same =
      row_same (λ b. cond (is_new (x ∷ c ∷ ys) x b) T 0) (λ b. 0) (c ∷ ys)
      (λ b k. ap (λ (m : Bool). cond m T 0) (new_head x b (c ∷ ys) out
      ∙ (ap (λ (m : Bool). same_answer (g x) (g b) && (leads x (cond m (c ∷ filter (own (g x)) ys) (filter (own (g x)) ys)) x b && not (are_neighbours (x ∷ c ∷ ys) x b))) same
      ∙ and_not (same_answer (g x) (g b)) (are_these x c x b) (are_neighbours (c ∷ ys) x b))))
      ∙ sum_none {A = LineId} (λ b. 0) (c ∷ ys) (λ b. refl)

  row_bound : (x : LineId) (rest : List LineId) → AreOnce rest → has_line rest x ≡ false
      → sum_by (λ b. cond (is_new (x ∷ rest) x b) T 0) rest ≤ cond (apart_first x rest && list_any (own (g x)) rest) T 0
  row_bound x [] once out = omega arith
  row_bound x (c ∷ ys) once out = by_next (same_answer (g x) (g c)) refl
    where
      by_filter : (F : List LineId) → filter (own (g x)) (c ∷ ys) ≡ F → sum_by (λ b. cond (is_new (x ∷ c ∷ ys) x b) T 0) (c ∷ ys) ≤ cond (list_any (own (g x)) (c ∷ ys)) T 0
      by_filter [] is = omega (arith, row_none x (c ∷ ys) out is)
      by_filter (f ∷ F) is = let some = filter_none (own (g x)) (c ∷ ys) f F is in omega (arith, row_one x f F (c ∷ ys) once out is, ap (λ (m : Bool). cond m T 0) some)

      by_next : (s : Bool) → same_answer (g x) (g c) ≡ s → sum_by (λ b. cond (is_new (x ∷ c ∷ ys) x b) T 0) (c ∷ ys) ≤ cond (not s && list_any (own (g x)) (c ∷ ys)) T 0
      by_next true h = omega (arith, row_next x c ys out h)
      by_next false h = by_filter (filter (own (g x)) (c ∷ ys)) refl

  -- The whole list.

  abbrev pub news : List LineId → ℕ
  news xs = sum_pairs (λ a b. cond (is_new xs a b) T 0) xs

  abbrev pub inversions : List LineId → ℕ
  inversions xs = sum_pairs (λ a b. cond (is_inverted xs a b) (T + T) 0) xs

  abbrev starts_out : List LineId → Bool
  starts_out [] = false
  starts_out (c ∷ ys) = not (g c)

  -- what the line before these may still charge
  abbrev room : List LineId → ℕ
  room xs = cond (starts_out xs && list_any g xs) T 0

  some_in : (xs : List LineId) → list_any g xs ≡ true → T + T ≤ sum_by (λ b. cond (g b) (T + T) 0) xs
  some_in [] h = absurd (true≢false (sym h))
  some_in (x ∷ xs) h = by_test (g x) refl h (λ k. some_in xs k)
    where
      by_test : (c : Bool) → g x ≡ c → (c || list_any g xs) ≡ true → (list_any g xs ≡ true → T + T ≤ sum_by (λ b. cond (g b) (T + T) 0) xs) → T + T ≤ sum_by (λ b. cond (g b) (T + T) 0) (x ∷ xs)
      by_test true e k rest = omega (arith, sum_by-cons (λ b. cond (g b) (T + T) 0) x xs, ap (λ (m : Bool). cond m (T + T) 0) e)
      by_test false e k rest = omega (arith, sum_by-cons (λ b. cond (g b) (T + T) 0) x xs, rest k)

  none_first : (xs : List LineId) → list_any g xs ≡ false → (x : LineId) → g x ≡ false → apart_first x xs ≡ false
  none_first [] h x e = refl
  none_first (c ∷ ys) h x e =
      let out : g c ≡ false = (or_parts (g c) (list_any g ys) h).0 in
      rw (e, out) refl

  room_is : (x : LineId) (rest : List LineId) → g x ≡ true → cond (apart_first x rest && list_any (own (g x)) rest) T 0 ≡ room rest
  room_is x [] e = refl
  room_is x (c ∷ ys) e = ap (λ (m : Bool). cond (not (same_answer m (g c)) && list_any (own m) (c ∷ ys)) T 0) e

  pub news_at_most : (xs : List LineId) → AreOnce xs → news xs + room xs ≤ inversions xs
  news_at_most [] once = omega arith
  news_at_most (x ∷ rest) once =
      let out : has_line rest x ≡ false = none_has x rest (once_head x rest once) in
      let bound = row_bound x rest (once_tail x rest once) out in
      let n_later = pairs_same_in (λ a b. cond (is_new (x ∷ rest) a b) T 0) (λ a b. cond (is_new rest a b) T 0) rest
      (λ a b h k. ap (λ (m : Bool). cond m T 0) (new_later x rest a b (differs x a rest out h) (differs x b rest out k))) in
      let i_later = pairs_same_in (λ a b. cond (is_inverted (x ∷ rest) a b) (T + T) 0) (λ a b. cond (is_inverted rest a b) (T + T) 0) rest
      (λ a b h k. ap (λ (m : Bool). cond m (T + T) 0) (inverted_later x rest a b (differs x a rest out h) (differs x b rest out k))) in
      let ih = news_at_most rest (once_tail x rest once) in
      by_side (g x) refl bound n_later i_later ih
    where
      in_first : (b : LineId) → is_inverted (x ∷ rest) x b ≡ (not (g x) && g b)
      in_first b = let i : (x.0 == x.0) ≡ true = eq-eqb x.0 x.0 refl in rw i refl

      at_most : (c : Bool) → cond c T 0 ≤ T
      at_most true = omega arith
      at_most false = omega arith

      by_side : (c : Bool) → g x ≡ c
          → sum_by (λ b. cond (is_new (x ∷ rest) x b) T 0) rest ≤ cond (apart_first x rest && list_any (own (g x)) rest) T 0
          → sum_pairs (λ a b. cond (is_new (x ∷ rest) a b) T 0) rest ≡ news rest
          → sum_pairs (λ a b. cond (is_inverted (x ∷ rest) a b) (T + T) 0) rest ≡ inversions rest
          → news rest + room rest ≤ inversions rest
          → news (x ∷ rest) + cond (not c && (c || list_any g rest)) T 0 ≤ inversions (x ∷ rest)
      by_side true e bound n i ih = omega (arith, bound, n, i, ih, room_is x rest e)
      by_side false e bound n i ih = by_rest (list_any g rest) refl
        where
          row_i : (k : list_any g rest ≡ true) → T + T ≤ sum_by (λ b. cond (is_inverted (x ∷ rest) x b) (T + T) 0) rest
          row_i k =
              let same = row_same (λ b. cond (is_inverted (x ∷ rest) x b) (T + T) 0) (λ b. cond (g b) (T + T) 0) rest
              (λ b h. ap (λ (m : Bool). cond m (T + T) 0) (in_first b ∙ ap (λ (m : Bool). not m && g b) e)) in
              omega (arith, same, some_in rest k)

          by_rest : (d : Bool) → list_any g rest ≡ d → news (x ∷ rest) + cond d T 0 ≤ inversions (x ∷ rest)
          by_rest true k = omega (arith, bound, n, i, ih, row_i k, at_most (apart_first x rest && list_any (own (g x)) rest))
          by_rest false k =
              let none : cond (apart_first x rest && list_any (own (g x)) rest) T 0 ≡ 0 = ap (λ (m : Bool). cond (m && list_any (own (g x)) rest) T 0) (none_first rest k x e) in
              omega (arith, bound, n, i, ih, none)
