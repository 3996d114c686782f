-- Sums over slots: two lists of slots give one sum where each slot that only one of them has gives nothing.
use Rattle.std.proofs.Common.{◌≡◌, ◌==◌, ◌&&◌, ◌||◌, not, Bool, true, false, cond, List, [], ◌∷◌, ◌++◌, filter, refl, sym, ◌∙◌, ap, arith, true≢false, eqb-true, eq-eqb}
use Rattle.std.specs.Prelude.{ℤ, pos, ◌+ℤ◌}
use Rattle.std.proofs.lemmas.Bool.{and_parts, or_parts}
use Rattle.std.proofs.lemmas.Int.{ints}
use Rattle.whole_sums.specs.Sums.{int_sum}
use Rattle.order_check.specs.declared.slot.Slot.{Slot}
use Rattle.order_check.specs.Slots.{is_slot, has_slot, noted, AreApartSlots}

-- Slots that are the same.

pub same_slot : (k l : Slot) → is_slot k l ≡ true → k ≡ l
same_slot k l h =
    let first = and_parts (k.lesser.0 == l.lesser.0) ((k.greater.0 == l.greater.0) && (k.seg.0 == l.seg.0)) h in
    let second = and_parts (k.greater.0 == l.greater.0) (k.seg.0 == l.seg.0) first.1 in
    ap (λ n. let s : Slot = record { lesser = record { 0 = n }; greater = k.greater; seg = k.seg } in s) (eqb-true k.lesser.0 l.lesser.0 first.0)
    ∙ ap (λ n. let s : Slot = record { lesser = l.lesser; greater = record { 0 = n }; seg = k.seg } in s) (eqb-true k.greater.0 l.greater.0 second.0)
    ∙ ap (λ n. let s : Slot = record { lesser = l.lesser; greater = l.greater; seg = record { 0 = n } } in s) (eqb-true k.seg.0 l.seg.0 second.1)

pub slot_itself : (k : Slot) → is_slot k k ≡ true
slot_itself k = rw (eq-eqb k.lesser.0 k.lesser.0 refl, eq-eqb k.greater.0 k.greater.0 refl, eq-eqb k.seg.0 k.seg.0 refl) refl

pub slot_turned : (k l : Slot) → is_slot k l ≡ false → is_slot l k ≡ false
slot_turned k l h = by_test (is_slot l k) refl
  where
    by_test : (b : Bool) → is_slot l k ≡ b → b ≡ false
    by_test false e = refl
    by_test true e = absurd (true≢false (sym (slot_itself k) ∙ ap (is_slot k) (sym (same_slot l k e)) ∙ h))

-- One slot is taken out.

abbrev without : Slot → List Slot → List Slot
without x slots = filter (λ k. not (is_slot x k)) slots

has_without : (x y : Slot) (slots : List Slot) → is_slot y x ≡ false → has_slot (without x slots) y ≡ has_slot slots y
has_without x y [] n = refl
has_without x y (k ∷ slots) n = by_test (is_slot x k) refl (has_without x y slots n)
  where
    by_test : (b : Bool) → is_slot x k ≡ b → has_slot (without x slots) y ≡ has_slot slots y
        → has_slot (cond (not b) (k ∷ without x slots) (without x slots)) y ≡ (is_slot y k || has_slot slots y)
    by_test true e rest = rest ∙ ap (λ c. c || has_slot slots y) (sym (ap (is_slot y) (sym (same_slot x k e)) ∙ n))
    by_test false e rest = ap (λ c. is_slot y k || c) rest

has_none : (x : Slot) (slots : List Slot) → has_slot (without x slots) x ≡ false
has_none x [] = refl
has_none x (k ∷ slots) = by_test (is_slot x k) refl (has_none x slots)
  where
    by_test : (b : Bool) → is_slot x k ≡ b → has_slot (without x slots) x ≡ false → has_slot (cond (not b) (k ∷ without x slots) (without x slots)) x ≡ false
    by_test true e rest = rest
    by_test false e rest = rw (e, rest) refl

apart_without : (x : Slot) (slots : List Slot) → AreApartSlots slots → AreApartSlots (without x slots)
apart_without x [] h = tt
apart_without x (k ∷ slots) h = by_test (is_slot x k) refl (apart_without x slots h.1)
  where
    by_test : (b : Bool) → is_slot x k ≡ b → AreApartSlots (without x slots) → AreApartSlots (cond (not b) (k ∷ without x slots) (without x slots))
    by_test true e rest = rest
    by_test false e rest = (has_without x k slots (slot_turned x k e) ∙ h.0, rest)

without_none : (x : Slot) (slots : List Slot) → has_slot slots x ≡ false → without x slots ≡ slots
without_none x [] h = refl
without_none x (k ∷ slots) h =
    let parts = or_parts (is_slot x k) (has_slot slots x) h in rw parts.0 (ap (λ l. k ∷ l) (without_none x slots parts.1))

sum_without : (h : Slot → ℤ) (x : Slot) (slots : List Slot) → AreApartSlots slots → has_slot slots x ≡ true → int_sum h slots ≡ h x +ℤ int_sum h (without x slots)
sum_without h x [] apart has = absurd (true≢false (sym has))
sum_without h x (k ∷ slots) apart has = by_test (is_slot x k) refl has (sum_without h x slots apart.1)
  where
    by_test : (b : Bool) → is_slot x k ≡ b → (b || has_slot slots x) ≡ true → (has_slot slots x ≡ true → int_sum h slots ≡ h x +ℤ int_sum h (without x slots))
        → h k +ℤ int_sum h slots ≡ h x +ℤ int_sum h (cond (not b) (k ∷ without x slots) (without x slots))
    by_test true e has rest =
        let same : x ≡ k = same_slot x k e in
        let none : has_slot slots x ≡ false = ap (has_slot slots) same ∙ apart.0 in
        ap (λ z. h z +ℤ int_sum h slots) (sym same) ∙ ap (λ l. h x +ℤ int_sum h l) (sym (without_none x slots none))
    by_test false e has rest = let later = rest has in moved (h k) (h x) (int_sum h slots) (int_sum h (without x slots)) later
      where
        moved : (a b s r : ℤ) → s ≡ b +ℤ r → a +ℤ s ≡ b +ℤ (a +ℤ r)
        moved a b s r e = omega (arith, ints)

-- Slots that give nothing sum to nothing.

sum_nothing : (h : Slot → ℤ) (slots : List Slot) → ((k : Slot) → has_slot slots k ≡ true → h k ≡ pos 0) → int_sum h slots ≡ pos 0
sum_nothing h [] none = refl
sum_nothing h (k ∷ slots) none =
    let here : h k ≡ pos 0 = none k (rw (slot_itself k) refl) in
    let rest : int_sum h slots ≡ pos 0 = sum_nothing h slots (λ l has. none l (or_later (is_slot l k) (has_slot slots l) has)) in
    both (h k) (int_sum h slots) here rest
  where
    or_later : (a b : Bool) → b ≡ true → (a || b) ≡ true
    or_later true b h = refl
    or_later false b h = h

    both : (a b : ℤ) → a ≡ pos 0 → b ≡ pos 0 → a +ℤ b ≡ pos 0
    both a b p q = omega (arith, ints)

pub sums_same : (h : Slot → ℤ) (some others : List Slot) → AreApartSlots some → AreApartSlots others
    → ((k : Slot) → has_slot some k ≡ true → has_slot others k ≡ false → h k ≡ pos 0) → ((k : Slot) → has_slot others k ≡ true → has_slot some k ≡ false → h k ≡ pos 0)
    → int_sum h some ≡ int_sum h others
sums_same h [] others apart apart_too only only_too = sym (sum_nothing h others (λ k has. only_too k has refl))
sums_same h (x ∷ some) others apart apart_too only only_too =
    by_test (λ slots free here there. sums_same h some slots apart.1 free here there) (has_slot others x) refl
  where
    later : (k : Slot) → has_slot some k ≡ true → has_slot (x ∷ some) k ≡ true
    later k has = rw has (or_true (is_slot k x))
      where
        or_true : (b : Bool) → (b || true) ≡ true
        or_true true = refl
        or_true false = refl

    differs : (k : Slot) → has_slot some k ≡ true → is_slot k x ≡ false
    differs k has = by_same (is_slot k x) refl
      where
        by_same : (b : Bool) → is_slot k x ≡ b → b ≡ false
        by_same false e = refl
        by_same true e = absurd (true≢false (sym has ∙ ap (has_slot some) (same_slot k x e) ∙ apart.0))

    by_test : ((slots : List Slot) → AreApartSlots slots
        → ((k : Slot) → has_slot some k ≡ true → has_slot slots k ≡ false → h k ≡ pos 0) → ((k : Slot) → has_slot slots k ≡ true → has_slot some k ≡ false → h k ≡ pos 0)
        → int_sum h some ≡ int_sum h slots)
        → (b : Bool) → has_slot others x ≡ b → h x +ℤ int_sum h some ≡ int_sum h others
    by_test again true e =
        let rest : int_sum h some ≡ int_sum h (without x others) = again (without x others) (apart_without x others apart_too)
        (λ k has none. only k (later k has) (sym (has_without x k others (differs k has)) ∙ none))
        (λ k has none. only_left k has none (is_slot k x) refl) in
        ap (λ s. h x +ℤ s) rest ∙ sym (sum_without h x others apart_too e)
      where
        only_left : (k : Slot) → has_slot (without x others) k ≡ true → has_slot some k ≡ false → (b : Bool) → is_slot k x ≡ b → h k ≡ pos 0
        only_left k has none true same = absurd (true≢false (sym has ∙ ap (has_slot (without x others)) (same_slot k x same) ∙ has_none x others))
        only_left k has none false other = only_too k (sym (has_without x k others other) ∙ has) (rw (other, none) refl)
    by_test again false e =
        let nothing : h x ≡ pos 0 = only x (rw (slot_itself x) refl) e in
        let rest : int_sum h some ≡ int_sum h others = again others apart_too
        (λ k has none. only k (later k has) none)
        (λ k has none. only_too k has (rw (not_x k has, none) refl)) in
        zero_first (h x) (int_sum h some) (int_sum h others) nothing rest
      where
        not_x : (k : Slot) → has_slot others k ≡ true → is_slot k x ≡ false
        not_x k has = by_same (is_slot k x) refl
          where
            by_same : (b : Bool) → is_slot k x ≡ b → b ≡ false
            by_same false f = refl
            by_same true f = absurd (true≢false (sym has ∙ ap (has_slot others) (same_slot k x f) ∙ e))

        zero_first : (a s t : ℤ) → a ≡ pos 0 → s ≡ t → a +ℤ s ≡ t
        zero_first a s t p q = omega (arith, ints)

-- Slots that are noted.

pub has_noted : (slots : List Slot) (k l : Slot) → has_slot (noted slots k) l ≡ (has_slot slots l || is_slot l k)
has_noted slots k l = by_test (has_slot slots k) refl
  where
    pushed : (slots : List Slot) → has_slot (slots ++ k ∷ []) l ≡ (has_slot slots l || is_slot l k)
    pushed [] = or_none (is_slot l k)
      where
        or_none : (b : Bool) → (b || false) ≡ b
        or_none true = refl
        or_none false = refl
    pushed (x ∷ slots) = ap (λ c. is_slot l x || c) (pushed slots) ∙ moved (is_slot l x) (has_slot slots l) (is_slot l k)
      where
        moved : (a b c : Bool) → (a || (b || c)) ≡ ((a || b) || c)
        moved true b c = refl
        moved false b c = refl

    by_test : (b : Bool) → has_slot slots k ≡ b → has_slot (cond b slots (slots ++ k ∷ [])) l ≡ (has_slot slots l || is_slot l k)
    by_test false e = pushed slots
    by_test true e = by_same (is_slot l k) refl
      where
        by_same : (c : Bool) → is_slot l k ≡ c → has_slot slots l ≡ (has_slot slots l || c)
        by_same true f = rw (ap (has_slot slots) (same_slot l k f) ∙ e) refl
        by_same false f = or_none (has_slot slots l)
          where
            or_none : (b : Bool) → b ≡ (b || false)
            or_none true = refl
            or_none false = refl

pub apart_noted : (slots : List Slot) (k : Slot) → AreApartSlots slots → AreApartSlots (noted slots k)
apart_noted slots k h = by_test (has_slot slots k) refl
  where
    pushed : (slots : List Slot) → AreApartSlots slots → has_slot slots k ≡ false → AreApartSlots (slots ++ k ∷ [])
    pushed [] h none = (refl, tt)
    pushed (x ∷ slots) h none =
        let parts = or_parts (is_slot k x) (has_slot slots k) none in
        (in_pushed slots h.0 (slot_turned k x parts.0), pushed slots h.1 parts.1)
      where
        in_pushed : (slots : List Slot) → has_slot slots x ≡ false → is_slot x k ≡ false → has_slot (slots ++ k ∷ []) x ≡ false
        in_pushed [] p q = rw q refl
        in_pushed (y ∷ slots) p q = (let parts = or_parts (is_slot x y) (has_slot slots x) p in rw (parts.0, in_pushed slots parts.1 q) refl)

    by_test : (b : Bool) → has_slot slots k ≡ b → AreApartSlots (cond b slots (slots ++ k ∷ []))
    by_test true e = h
    by_test false e = pushed slots h e
