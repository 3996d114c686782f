-- Records that were read one after the other to the end of a text are all its records.
use Rattle.std.proofs.Common.{◌≡◌, ℕ, zero, suc, ◌+◌, ◌-◌, ◌*◌, ◌<◌, ◌≤◌, Bool, true, false, cond, List, [], ◌∷◌, ◌++◌, length, Option, Some, None, refl, sym, ap, arith}
use Rattle.csv.specs.declared.parser.Config.{Config}
use Rattle.csv.specs.declared.parser.State.{State}
use Rattle.csv.specs.declared.parser.State.TheVariants as st
use Rattle.csv.specs.Machine.{Read, next_record, step, is_end, ends_at_end, fields_after, field_after}
use Rattle.csv.specs.Reading.{Reached, records_from}

abbrev some : {A : Type 0} → A → Option A
some x = Some x

some_is : {A : Type 0} (x y : A) → some x ≡ some y → x ≡ y
some_is x y e = cc

-- a read takes at least one byte, where there is one
next-le : (cfg : Config) (s : State) (fields : List (List ℕ)) (field xs : List ℕ) (q : Read) → next_record cfg s fields field xs ≡ Some q → length q.2 ≤ length xs - 1
unfolding next_record
next-le cfg s fields field [] q e = by (ends_at_end s) e
  where
    by : (b : Bool) → cond b (Some (fields ++ (field ∷ []), st.StartRecord, [])) None ≡ Some q → length q.2 ≤ 0 - 1
    by true e =
        let is = some_is (fields ++ (field ∷ []), st.StartRecord, []) q e in
        let none : 0 ≡ length q.2 = ap (λ (r : Read). length r.2) is in
        omega arith
    by false e = absurd cc
next-le cfg s fields field (c ∷ rest) q e = by (is_end (step cfg s c).1) e (next-le cfg (step cfg s c).0 (fields_after (step cfg s c).1 fields field) (field_after (step cfg s c).1 c field) rest q)
  where
    by : (b : Bool) → cond b (Some (fields_after (step cfg s c).1 fields field, (step cfg s c).0, rest)) (next_record cfg (step cfg s c).0 (fields_after (step cfg s c).1 fields field) (field_after (step cfg s c).1 c field) rest) ≡ Some q
        → (next_record cfg (step cfg s c).0 (fields_after (step cfg s c).1 fields field) (field_after (step cfg s c).1 c field) rest ≡ Some q → length q.2 ≤ length rest - 1)
        → length q.2 ≤ length (c ∷ rest) - 1
    by true e later =
        let is = some_is (fields_after (step cfg s c).1 fields field, (step cfg s c).0, rest) q e in
        let all : length rest ≡ length q.2 = ap (λ (r : Read). length r.2) is in
        omega arith
    by false e later = let shorter = later e in omega arith

-- a read at the end of a text
next-last : (cfg : Config) (s : State) (q : Read) → next_record cfg s [] [] [] ≡ Some q → (ends_at_end s ≡ true) × (q.1 ≡ st.StartRecord) × (q.2 ≡ [])
unfolding next_record
next-last cfg s q e = by (ends_at_end s) e
  where
    by : (b : Bool) → cond b (Some ([] ++ ([] ∷ []), st.StartRecord, [])) None ≡ Some q → (b ≡ true) × (q.1 ≡ st.StartRecord) × (q.2 ≡ [])
    by true e =
        let is = some_is ([] ++ ([] ∷ []), st.StartRecord, []) q e in
        (refl, sym (ap (λ (r : Read). r.1) is), sym (ap (λ (r : Read). r.2) is))
    by false e = absurd cc

next-none : (cfg : Config) (s : State) (xs : List ℕ) (q : Read) → s ≡ st.StartRecord → xs ≡ [] → next_record cfg s [] [] xs ≡ Some q → ⊥
unfolding next_record
next-none cfg s xs q at_start empty e = absurd (cc (rw (at_start, empty) at e))

-- a text has at most one record more than bytes
pub count-le : (cfg : Config) (s s2 : State) (xs ys : List ℕ) (rows : List (List (List ℕ))) → Reached cfg s xs rows s2 ys → length rows ≤ length xs + 1
unfolding Reached
count-le cfg s s2 xs ys [] h = omega arith
count-le cfg s s2 [] ys (r ∷ []) h = omega arith
count-le cfg s s2 [] ys (r ∷ r2 ∷ rows) h =
    let last = next-last cfg s h.0 h.1 in
    absurd (next-none cfg h.0.1 h.0.2 h.3.0 last.1 last.2 h.3.1)
count-le cfg s s2 (c ∷ xs) ys (r ∷ rows) h =
    let shorter = next-le cfg s [] [] (c ∷ xs) h.0 h.1 in
    let others = count-le cfg h.0.1 s2 h.0.2 ys rows h.3 in
    omega arith

pub records_from_is : (cfg : Config) (n : ℕ) (s s2 : State) (xs ys : List ℕ) (rows : List (List (List ℕ))) → Reached cfg s xs rows s2 ys → next_record cfg s2 [] [] ys ≡ None → length rows ≤ n
    → records_from cfg n s xs ≡ rows
unfolding Reached records_from
records_from_is cfg zero s s2 xs ys [] h end fits = refl
records_from_is cfg zero s s2 xs ys (r ∷ rows) h end fits = absurd (omega arith)
records_from_is cfg (suc n) s s2 xs ys [] h end fits = rw (h.0, h.1, end) refl
records_from_is cfg (suc n) s s2 xs ys (r ∷ rows) h end fits =
    rw (h.1, h.2, records_from_is cfg n h.0.1 s2 h.0.2 ys rows h.3 end (omega arith)) refl

-- how much is left to read, which each record makes less
abbrev pub left_of : State → List ℕ → ℕ
left_of s xs = 2 * length xs + cond (ends_at_end s) 1 0

flag-le : (b : Bool) → cond b 1 0 ≤ 1
flag-le true = omega arith
flag-le false = omega arith

pub left-lt : (cfg : Config) (s s2 : State) (xs ys : List ℕ) (r : List (List ℕ)) → Reached cfg s xs (r ∷ []) s2 ys → left_of s2 ys < left_of s xs
unfolding Reached
left-lt cfg s s2 [] ys r h =
    let last = next-last cfg s h.0 h.1 in
    rw (← h.3.0, ← h.3.1, last.1, last.2, last.0) (omega arith)
left-lt cfg s s2 (c ∷ xs) ys r h =
    let shorter : length h.0.2 ≤ length (c ∷ xs) - 1 = next-le cfg s [] [] (c ∷ xs) h.0 h.1 in
    let same : length h.0.2 ≡ length ys = ap length h.3.1 in
    omega (arith, flag-le (ends_at_end s2))
