-- Places among the used stations.
use Rattle.std.proofs.Common.{◌≡◌, refl, sym, ◌∙◌, ap, subst, ℕ, suc, ◌+◌, ◌-◌, ◌<◌, ◌≤◌, ◌⊎◌, inl, inr, Bool, true, false, cond, eqb, ltb, not, ◌||◌, List, [], ◌∷◌, Some, None, length, get_or, replicate, set, drop, drop-cons, arith}
use Rattle.std.specs.List.{list_any, position_or_len}
use Rattle.std.specs.Option.{unwrap_or}
use Rattle.std.proofs.lemmas.Bool.{cases_lt, cases_eq, lt-ltb, le-ltb, eq-eqb, eqb-true, ne_eqb, false≢true}
use Rattle.std.proofs.lemmas.List.{get_or-replicate, get_or_past, get_or-set_same, get_or-set_other, drop_all, length-replicate}
use Rattle.feed_courses.specs.Outcome.{place_of, station_numbered}

-- the place of a number in a list, counted from one on, or 0 where it is not there
abbrev pub place_after : List ℕ → ℕ → ℕ → ℕ
place_after [] from n = 0
place_after (m ∷ ms) from n = cond (eqb m n) from (place_after ms (from + 1) n)

-- ---- the table

repeated : (count n z : ℕ) → get_or (replicate count z) n z ≡ z
repeated count n z = by_order (cases_lt n count)
  where
    by_order : (n < count) ⊎ (count ≤ n) → get_or (replicate count z) n z ≡ z
    by_order (inl h) = get_or-replicate count n z z h
    by_order (inr h) = get_or_past (replicate count z) n z (omega (arith, length-replicate count z))

pub table_begins : (table numbers : List ℕ) (count n : ℕ) → table ≡ replicate count 0 → get_or table n 0 ≡ place_after (drop (length numbers) numbers) (length numbers) n
table_begins table numbers count n is =
    ap (λ t. get_or t n 0) is ∙ repeated count n 0 ∙ sym (ap (λ ms. place_after ms (length numbers) n) (drop_all (length numbers) numbers (omega arith)))

pub table_step : (table new numbers : List ℕ) (p q m : ℕ) → p + 1 ≡ q → p < length numbers → m ≡ get_or numbers p 0 → m < length table →
    ((n : ℕ) → get_or table n 0 ≡ place_after (drop q numbers) q n) → new ≡ set table m p → (n : ℕ) → get_or new n 0 ≡ place_after (drop p numbers) p n
table_step table new numbers p q m next below is within before written n =
    ap (λ t. get_or t n 0) written ∙ by_test (cases_eq m n) ∙ sym (ap (λ ms. place_after ms p n) (drop-cons numbers p 0 below))
  where
    back : suc p ≡ q
    back = omega arith

    by_test : (m ≡ n) ⊎ (m ≡ n → ⊥) → get_or (set table m p) n 0 ≡ place_after (get_or numbers p 0 ∷ drop (suc p) numbers) p n
    by_test (inl e) =
        ap (λ k. get_or (set table m p) k 0) (sym e) ∙ get_or-set_same table m p 0 within
        ∙ sym (ap (λ b. cond b p (place_after (drop (suc p) numbers) (p + 1) n)) (eq-eqb (get_or numbers p 0) n (sym is ∙ e)))
    by_test (inr ne) =
        get_or-set_other table m n p 0 (λ e. ne (sym e)) ∙ before n ∙ ap (λ k. place_after (drop k numbers) q n) (sym back)
        ∙ ap (λ k. place_after (drop (suc p) numbers) k n) (sym next)
        ∙ sym (ap (λ b. cond b p (place_after (drop (suc p) numbers) (p + 1) n)) (ne_eqb (get_or numbers p 0) n (λ e. ne (is ∙ e))))

-- ---- the place in a list

lt-suc : (a b : ℕ) → ltb (1 + a) (suc b) ≡ ltb a b
lt-suc a b = by_order (cases_lt a b)
  where
    by_order : (a < b) ⊎ (b ≤ a) → ltb (1 + a) (suc b) ≡ ltb a b
    by_order (inl h) = lt-ltb (1 + a) (suc b) (omega arith) ∙ sym (lt-ltb a b h)
    by_order (inr h) = le-ltb (1 + a) (suc b) (omega arith) ∙ sym (le-ltb a b h)

after_is : (ms : List ℕ) (from n : ℕ) → place_after ms from n ≡ cond (ltb (position_or_len (λ m. eqb m n) ms) (length ms)) (from + position_or_len (λ m. eqb m n) ms) 0
after_is [] from n = refl
after_is (m ∷ ms) from n = by_test (after_is ms (from + 1) n) (eqb m n) refl
  where
    by_test : place_after ms (from + 1) n ≡ cond (ltb (position_or_len (λ k. eqb k n) ms) (length ms)) (from + 1 + position_or_len (λ k. eqb k n) ms) 0 →
        (b : Bool) → eqb m n ≡ b → cond b from (place_after ms (from + 1) n) ≡ cond (ltb (position_or_len (λ k. eqb k n) (m ∷ ms)) (length (m ∷ ms))) (from + position_or_len (λ k. eqb k n) (m ∷ ms)) 0
    by_test next true e =
        let here : from ≡ from + 0 = omega arith in
        sym (ap (λ b. cond (ltb (cond (not b) (1 + position_or_len (λ k. eqb k n) ms) 0) (suc (length ms))) (from + cond (not b) (1 + position_or_len (λ k. eqb k n) ms) 0) 0) e
        ∙ ap (λ b. cond b (from + 0) 0) (lt-ltb 0 (suc (length ms)) (omega arith)) ∙ sym here)
    by_test next false e =
        let further : from + (1 + position_or_len (λ k. eqb k n) ms) ≡ from + 1 + position_or_len (λ k. eqb k n) ms = omega arith in
        next
        ∙ sym (ap (λ b. cond (ltb (cond (not b) (1 + position_or_len (λ k. eqb k n) ms) 0) (suc (length ms))) (from + cond (not b) (1 + position_or_len (λ k. eqb k n) ms) 0) 0) e
        ∙ ap (λ b. cond b (from + (1 + position_or_len (λ k. eqb k n) ms)) 0) (lt-suc (position_or_len (λ k. eqb k n) ms) (length ms))
        ∙ ap (λ k. cond (ltb (position_or_len (λ k. eqb k n) ms) (length ms)) k 0) further)

pub place-is : (ms : List ℕ) (n : ℕ) → place_after ms 0 n ≡ place_of ms (station_numbered n)
place-is ms n = after_is ms 0 n ∙ unwrapped (ltb (position_or_len (λ m. eqb m n) ms) (length ms)) (position_or_len (λ m. eqb m n) ms)
  where
    unwrapped : (b : Bool) (x : ℕ) → cond b (0 + x) 0 ≡ unwrap_or (cond b (Some x) None) 0
    unwrapped true x = omega arith
    unwrapped false x = refl

pub table_ends : (table numbers : List ℕ) (p n : ℕ) → p ≡ 0 → get_or table n 0 ≡ place_after (drop p numbers) p n → get_or table n 0 ≡ place_of numbers (station_numbered n)
table_ends table numbers p n none before = before ∙ ap (λ k. place_after (drop k numbers) k n) none ∙ place-is numbers n

-- ---- a number that is there has a place

pub record HasPlace (ms : List ℕ) (from n place : ℕ) : Type 0 where
  pub low : from ≤ place
  pub high : place < from + length ms
  pub there : get_or ms (place - from) 0 ≡ n

has_place-after : (ms : List ℕ) (from n : ℕ) → list_any (λ m. eqb m n) ms ≡ true → HasPlace ms from n (place_after ms from n)
has_place-after [] from n e = absurd (false≢true e)
has_place-after (m ∷ ms) from n e = by_test (has_place-after ms (from + 1) n) (eqb m n) refl
  where
    by_test : (list_any (λ k. eqb k n) ms ≡ true → HasPlace ms (from + 1) n (place_after ms (from + 1) n)) → (b : Bool) → eqb m n ≡ b → HasPlace (m ∷ ms) from n (cond b from (place_after ms (from + 1) n))
    by_test later true t =
        let none : from - from ≡ 0 = omega arith in
        record { low = omega arith; high = omega arith; there = ap (λ k. get_or (m ∷ ms) k 0) none ∙ eqb-true m n t }
    by_test later false t =
        let rest : HasPlace ms (from + 1) n (place_after ms (from + 1) n) = later (sym (ap (λ b. b || list_any (λ k. eqb k n) ms) t) ∙ e) in
        let low : from + 1 ≤ place_after ms (from + 1) n = rest.low in
        let high : place_after ms (from + 1) n < from + 1 + length ms = rest.high in
        let next : place_after ms (from + 1) n - from ≡ suc (place_after ms (from + 1) n - (from + 1)) = omega arith in
        record { low = omega arith; high = omega arith; there = ap (λ k. get_or (m ∷ ms) k 0) next ∙ rest.there }

pub has_place : (ms : List ℕ) (n : ℕ) → list_any (λ m. eqb m n) ms ≡ true → (place_of ms (station_numbered n) < length ms) × (get_or ms (place_of ms (station_numbered n)) 0 ≡ n)
has_place ms n e =
    let h : HasPlace ms 0 n (place_of ms (station_numbered n)) = subst (λ (p : ℕ). HasPlace ms 0 n p) (place-is ms n) (has_place-after ms 0 n e) in
    let none : place_of ms (station_numbered n) - 0 ≡ place_of ms (station_numbered n) = omega arith in
    (omega (arith, h.high), sym (ap (λ k. get_or ms k 0) none) ∙ h.there)
