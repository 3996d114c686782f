-- The value of prices is a sum over the slots of the terms.
use Rattle.std.proofs.Common.{◌≡◌, ℕ, ◌+◌, ◌==◌, ◌&&◌, ◌||◌, not, Bool, true, false, cond, List, [], ◌∷◌, ◌++◌, map, filter, refl, sym, ◌∙◌, ap, subst, arith, true≢false, eqb-true, eq-eqb, inl, inr, ◌⊎◌}
use Rattle.std.specs.Prelude.{ℤ, pos, ◌+ℤ◌, nat_lt}
use Rattle.std.specs.List.{list_any, flat_map, sum_by, Contains}
use Rattle.std.proofs.lemmas.Bool.{and_parts, and_from, or_cases, or_parts, or_left, or_right}
use Rattle.std.proofs.lemmas.Int.{ints}
use Rattle.std.proofs.lemmas.List.Sums.{sum_by-cons}
use Rattle.map_base.specs.declared.ids.SegId.{SegId}
use Rattle.map_base.specs.declared.ids.LineId.{LineId}
use Rattle.order_model.specs.declared.term.Term.{Term}
use Rattle.order_model.specs.declared.term.Term.TheVariants.{Side, Link, Apart}
use Rattle.order_model.specs.Problems.{lines_on, IsTerm}
use Rattle.order_model.specs.Places.{has_line}
use Rattle.order_model.specs.PartTerms.{is_in, is_of}
use Rattle.order_model.specs.Looks.{is_decided}
use Rattle.order_bound.specs.declared.pairs.Pair.{Pair}
use Rattle.order_bound.specs.declared.pairs.OpenLink.{OpenLink}
use Rattle.order_bound.specs.Pairs.{pair_of, pair_in, is_pair, has_pair, pairs_of, pairs_after, is_open_on, open_segments, open_link, open_links}
use Rattle.order_bound.specs.Bounds.{open_cost, slot_cost}
use Rattle.order_bound.specs.Values.{share, least_answer, priced_cost, pair_value}
use Rattle.order_values.specs.PriceLists.{price_at}
use Rattle.whole_sums.specs.Sums.{int_sum}
use Rattle.whole_sums.proofs.Sums.{int_sum-append, int_sum_equal}
use Rattle.order_bound.proofs.Lists.{Among}
use Rattle.order_bound.proofs.Worth.{AreApartSegments}
use Rattle.order_bound.proofs.Completing.{IsPart, AreApartPairs, same_pair, pair_itself, pairs_apart, apart_filter, on_placed}
use Rattle.order_check.specs.declared.slot.Slot.{Slot}
use Rattle.order_check.specs.Slots.{slot_on, slot_of, pair_at, is_slot, has_slot, noted, with_slots, slots_after, slots_of, AreApartSlots, slot_share, slot_total, slots_value}
use Rattle.order_check.proofs.SlotSums.{same_slot, slot_itself, has_noted, apart_noted, sums_same}

-- What a term adds on a slot that is not at one of its open ends.

-- where an end of a term is on the slot, its lines are decided there
abbrev EndsDecided : List (List LineId) → Slot → Term → Type 0
EndsDecided placed k (Side seg first second w) = (is_pair (pair_at k) (pair_of first second) && seg.0 == k.seg.0) ≡ true → is_decided placed seg first second ≡ true
EndsDecided placed k (Link seg other flip a b w) =
    ((is_pair (pair_at k) (pair_of a b) && seg.0 == k.seg.0) ≡ true → is_decided placed seg a b ≡ true)
    × ((is_pair (pair_at k) (pair_of a b) && other.0 == k.seg.0) ≡ true → is_decided placed other a b ≡ true)
EndsDecided placed k (Apart seg other a b w) = Unit {0}

no_side : (b d : Bool) (v : ℕ) → (b ≡ true → d ≡ true) → cond (b && not d) v 0 ≡ 0
no_side true d v h = rw (h refl) refl
no_side false d v h = refl

no_half : (a b d e : Bool) (v u : ℕ) → (a ≡ true → d ≡ true) → (b ≡ true → e ≡ true) → cond ((a && not d) && e) v (cond ((b && d) && not e) u 0) ≡ 0
no_half true true d e v u p q = rw (p refl, q refl) refl
no_half true false d e v u p q = rw (p refl) refl
no_half false true true e v u p q = rw (q refl) refl
no_half false true false e v u p q = refl
no_half false false d e v u p q = refl

no_share : (a b c d e : Bool) (f : OpenLink → ℤ) (l : OpenLink) (s t : ℤ) → ((a && b) ≡ true → d ≡ true) → ((a && c) ≡ true → e ≡ true)
    → f l ≡ (cond b s (pos 0) +ℤ cond c t (pos 0)) → int_sum f (cond (a && not (d || e)) (l ∷ []) []) ≡ pos 0
no_share false b c d e f l s t p q is = refl
no_share true b c true e f l s t p q is = refl
no_share true b c false true f l s t p q is = refl
no_share true true c false false f l s t p q is = absurd (true≢false (sym (p refl)))
no_share true false true false false f l s t p q is = absurd (true≢false (sym (q refl)))
no_share true false false false false f l s t p q is = nothing (f l) is
  where
    nothing : (v : ℤ) → v ≡ (pos 0 +ℤ pos 0) → v +ℤ pos 0 ≡ pos 0
    nothing v h = omega (arith, ints)

two_nothing : (m : ℕ) (v : ℤ) → m ≡ 0 → v ≡ pos 0 → pos m +ℤ v ≡ pos 0
two_nothing m v h g = omega (arith, ints)

nothing_added : (placed : List (List LineId)) (prices : List (ℕ × ℤ)) (k : Slot) (x : Bool) (n : ℕ) (t : Term) → EndsDecided placed k t → slot_share placed prices k x (n, t) ≡ pos 0
nothing_added placed prices k x n (Side seg first second w) h =
    two_nothing (open_cost placed (pair_at k) k.seg x (Side seg first second w)) (pos 0)
    (no_side (is_pair (pair_at k) (pair_of first second) && seg.0 == k.seg.0) (is_decided placed seg first second) _ h) refl
nothing_added placed prices k x n (Link seg other flip a b w) h =
    two_nothing (open_cost placed (pair_at k) k.seg x (Link seg other flip a b w))
    (int_sum (λ l. share (price_at prices l.number) l k.seg x) (open_link placed (pair_at k) n (Link seg other flip a b w)))
    (no_half (is_pair (pair_at k) (pair_of a b) && seg.0 == k.seg.0) (is_pair (pair_at k) (pair_of a b) && other.0 == k.seg.0) (is_decided placed seg a b) (is_decided placed other a b) _ _ h.0 h.1)
    (no_share (is_pair (pair_at k) (pair_of a b)) (seg.0 == k.seg.0) (other.0 == k.seg.0) (is_decided placed seg a b) (is_decided placed other a b)
    (λ l. share (price_at prices l.number) l k.seg x) (record { number = n; seg = seg; other = other; flip = flip; weight = w }) _ _ h.0 h.1 refl)
nothing_added placed prices k x n (Apart seg other a b w) h = refl

nothing_total : (placed : List (List LineId)) (prices : List (ℕ × ℤ)) (k : Slot) (x : Bool) (terms : List (ℕ × Term)) → ((t : ℕ × Term) → Among t terms → EndsDecided placed k t.1)
    → slot_total placed prices terms k x ≡ pos 0
nothing_total placed prices k x [] h = refl
nothing_total placed prices k x (t ∷ terms) h =
    both (slot_share placed prices k x t) (slot_total placed prices terms k x) (nothing_added placed prices k x t.0 t.1 (h t (inl refl))) (nothing_total placed prices k x terms (λ u g. h u (inr g)))
  where
    both : (a b : ℤ) → a ≡ pos 0 → b ≡ pos 0 → a +ℤ b ≡ pos 0
    both a b p q = omega (arith, ints)

least_nothing : (placed : List (List LineId)) (prices : List (ℕ × ℤ)) (k : Slot) (terms : List (ℕ × Term)) → ((t : ℕ × Term) → Among t terms → EndsDecided placed k t.1)
    → least_answer (slot_total placed prices terms k) ≡ pos 0
least_nothing placed prices k terms h = rw (nothing_total placed prices k true terms h, nothing_total placed prices k false terms h) refl

-- A slot at an end.

eq_turned : (i j : ℕ) → (i == j) ≡ (j == i)
eq_turned i j = by_test (i == j) refl
  where
    by_test : (b : Bool) → (i == j) ≡ b → b ≡ (j == i)
    by_test true e = sym (eq-eqb j i (sym (eqb-true i j e)))
    by_test false e = by_other (j == i) refl
      where
        by_other : (c : Bool) → (j == i) ≡ c → false ≡ c
        by_other false f = refl
        by_other true f = absurd (true≢false (sym (eq-eqb i j (sym (eqb-true j i f))) ∙ e))

pub slot_tests : (k : Slot) (s : SegId) (a b : LineId) → is_slot k (slot_of s a b) ≡ (is_pair (pair_at k) (pair_of a b) && s.0 == k.seg.0)
slot_tests k s a b = ap (λ c. (k.lesser.0 == (pair_of a b).lesser.0) && ((k.greater.0 == (pair_of a b).greater.0) && c)) (eq_turned k.seg.0 s.0)
    ∙ moved (k.lesser.0 == (pair_of a b).lesser.0) (k.greater.0 == (pair_of a b).greater.0) (s.0 == k.seg.0)
  where
    moved : (a b c : Bool) → (a && (b && c)) ≡ ((a && b) && c)
    moved true b c = refl
    moved false b c = refl

-- the slot is at an end of the term
abbrev is_end : Slot → Term → Bool
is_end k (Side seg first second w) = is_slot k (slot_of seg first second)
is_end k (Link seg other flip a b w) = is_slot k (slot_of seg a b) || is_slot k (slot_of other a b)
is_end k (Apart seg other a b w) = false

no_end_decided : (placed : List (List LineId)) (k : Slot) (t : Term) → is_end k t ≡ false → EndsDecided placed k t
no_end_decided placed k (Side seg first second w) h = λ e. absurd (true≢false (sym e ∙ sym (slot_tests k seg first second) ∙ h))
no_end_decided placed k (Link seg other flip a b w) h =
    let parts = or_parts (is_slot k (slot_of seg a b)) (is_slot k (slot_of other a b)) h in (
      (λ e. absurd (true≢false (sym e ∙ sym (slot_tests k seg a b) ∙ parts.0))),
      (λ e. absurd (true≢false (sym e ∙ sym (slot_tests k other a b) ∙ parts.1))),
    )
no_end_decided placed k (Apart seg other a b w) h = tt

abbrev two_lines : LineId → LineId → Pair
two_lines c d = record { lesser = c; greater = d }

-- a pair is decided where its lines are
pair_decided : (placed : List (List LineId)) (s : SegId) (a b : LineId) → is_decided placed s (pair_of a b).lesser (pair_of a b).greater ≡ is_decided placed s a b
pair_decided placed s a b = by_test (nat_lt a.0 b.0)
  where
    swapped : (p q : Bool) → (p || q) ≡ (q || p)
    swapped true true = refl
    swapped true false = refl
    swapped false true = refl
    swapped false false = refl

    by_test : (t : Bool) → is_decided placed s (cond t (two_lines a b) (two_lines b a)).lesser (cond t (two_lines a b) (two_lines b a)).greater ≡ is_decided placed s a b
    by_test true = refl
    by_test false = swapped (list_any (λ (c : LineId). c.0 == b.0) (lines_on placed s)) (list_any (λ (c : LineId). c.0 == a.0) (lines_on placed s))

end_decided : (placed : List (List LineId)) (k : Slot) (s : SegId) (a b : LineId) → is_decided placed k.seg k.lesser k.greater ≡ true
    → (is_pair (pair_at k) (pair_of a b) && s.0 == k.seg.0) ≡ true → is_decided placed s a b ≡ true
end_decided placed k s a b h e =
    let same : k ≡ slot_of s a b = same_slot k (slot_of s a b) (slot_tests k s a b ∙ e) in
    sym (pair_decided placed s a b) ∙ ap (λ (l : Slot). is_decided placed l.seg l.lesser l.greater) (sym same) ∙ h

all_decided : (placed : List (List LineId)) (k : Slot) (t : Term) → is_decided placed k.seg k.lesser k.greater ≡ true → EndsDecided placed k t
all_decided placed k (Side seg first second w) h = end_decided placed k seg first second h
all_decided placed k (Link seg other flip a b w) h = (end_decided placed k seg a b h, end_decided placed k other a b h)
all_decided placed k (Apart seg other a b w) h = tt

-- The slots of terms.

pub slots_apart : (slots : List Slot) (terms : List (ℕ × Term)) → AreApartSlots slots → AreApartSlots (slots_after slots terms)
slots_apart slots [] h = h
slots_apart slots (t ∷ terms) h = slots_apart (with_slots slots t.1) terms (with_apart t.1)
  where
    with_apart : (u : Term) → AreApartSlots (with_slots slots u)
    with_apart (Side seg first second w) = apart_noted slots (slot_of seg first second) h
    with_apart (Link seg other flip a b w) = apart_noted (noted slots (slot_of seg a b)) (slot_of other a b) (apart_noted slots (slot_of seg a b) h)
    with_apart (Apart seg other a b w) = h

-- what a slot list has once a term is seen
with_has : (slots : List Slot) (t : Term) (k : Slot) → has_slot (with_slots slots t) k ≡ (has_slot slots k || is_end k t)
with_has slots (Side seg first second w) k = has_noted slots (slot_of seg first second) k
with_has slots (Link seg other flip a b w) k =
    has_noted (noted slots (slot_of seg a b)) (slot_of other a b) k ∙ ap (λ c. c || is_slot k (slot_of other a b)) (has_noted slots (slot_of seg a b) k)
    ∙ moved (has_slot slots k) (is_slot k (slot_of seg a b)) (is_slot k (slot_of other a b))
  where
    moved : (a b c : Bool) → ((a || b) || c) ≡ (a || (b || c))
    moved true b c = refl
    moved false b c = refl
with_has slots (Apart seg other a b w) k = or_none (has_slot slots k)
  where
    or_none : (b : Bool) → b ≡ (b || false)
    or_none true = refl
    or_none false = refl

-- a slot that terms lack is at no end of them
lacks_ends : (slots : List Slot) (terms : List (ℕ × Term)) (k : Slot) → has_slot (slots_after slots terms) k ≡ false
    → (has_slot slots k ≡ false) × ((t : ℕ × Term) → Among t terms → is_end k t.1 ≡ false)
lacks_ends slots [] k h = (h, λ t g. absurd g)
lacks_ends slots (u ∷ terms) k h =
    let rest = lacks_ends (with_slots slots u.1) terms k h in
    let parts = or_parts (has_slot slots k) (is_end k u.1) (sym (with_has slots u.1 k) ∙ rest.0) in
    (parts.0, λ t g. elim g [ inl e ↦ ap (λ (v : ℕ × Term). is_end k v.1) e ∙ parts.1 | inr later ↦ rest.1 t later ])

-- a slot that they have is at an end of one
has_end : (slots : List Slot) (terms : List (ℕ × Term)) (k : Slot) → has_slot (slots_after slots terms) k ≡ true
    → (has_slot slots k ≡ true) ⊎ ((t : ℕ × Term) × Among t terms × (is_end k t.1 ≡ true))
has_end slots [] k h = inl h
has_end slots (u ∷ terms) k h = elim (has_end (with_slots slots u.1) terms k h) [
  | inl here ↦ elim (or_cases (has_slot slots k) (is_end k u.1) (sym (with_has slots u.1 k) ∙ here)) [ inl old ↦ inl old | inr new ↦ inr (u, inl refl, new) ]
  | inr later ↦ inr (later.0, inr later.1, later.2)
]

-- The pairs of terms.

pair_known : (known : List Pair) (terms : List (ℕ × Term)) (t : ℕ × Term) → Among t terms → (has_pair known (pair_in t.1) || has_pair (pairs_after known terms) (pair_in t.1)) ≡ true
pair_known known [] t h = absurd h
pair_known known (u ∷ terms) t h = by_test (has_pair known (pair_in u.1)) refl h (λ g. pair_known known terms t g) (λ g. pair_known (pair_in u.1 ∷ known) terms t g)
  where
    by_test : (b : Bool) → has_pair known (pair_in u.1) ≡ b → (t ≡ u) ⊎ Among t terms
        → (Among t terms → (has_pair known (pair_in t.1) || has_pair (pairs_after known terms) (pair_in t.1)) ≡ true)
        → (Among t terms → (has_pair (pair_in u.1 ∷ known) (pair_in t.1) || has_pair (pairs_after (pair_in u.1 ∷ known) terms) (pair_in t.1)) ≡ true)
        → (has_pair known (pair_in t.1) || has_pair (cond b (pairs_after known terms) (pair_in u.1 ∷ pairs_after (pair_in u.1 ∷ known) terms)) (pair_in t.1)) ≡ true
    by_test true e (inl same) old new = or_left (has_pair known (pair_in t.1)) _ (ap (λ (v : ℕ × Term). has_pair known (pair_in v.1)) same ∙ e)
    by_test true e (inr later) old new = old later
    by_test false e (inl same) old new = or_right (has_pair known (pair_in t.1)) _
        (or_left (is_pair (pair_in t.1) (pair_in u.1)) _ (ap (λ (v : ℕ × Term). is_pair (pair_in v.1) (pair_in u.1)) same ∙ pair_itself (pair_in u.1)))
    by_test false e (inr later) old new =
        moved (has_pair known (pair_in t.1)) (is_pair (pair_in t.1) (pair_in u.1)) (has_pair (pairs_after (pair_in u.1 ∷ known) terms) (pair_in t.1)) (new later)
      where
        moved : (a b c : Bool) → ((b || a) || c) ≡ true → (a || (b || c)) ≡ true
        moved true b c h = refl
        moved false true c h = refl
        moved false false c h = h

pub pair_found : (terms : List (ℕ × Term)) (t : ℕ × Term) → Among t terms → has_pair (pairs_of terms) (pair_in t.1) ≡ true
pair_found terms t h = pair_known [] terms t h

-- The slots where pairs are open.

abbrev open_slots : List (List LineId) → List (List LineId) → List SegId → List Pair → List Slot
open_slots segs placed part pairs = flat_map (λ p. map (λ s. slot_on s p) (open_segments segs placed part p)) pairs

has_append_slots : (xs ys : List Slot) (k : Slot) → has_slot (xs ++ ys) k ≡ (has_slot xs k || has_slot ys k)
has_append_slots [] ys k = refl
has_append_slots (x ∷ xs) ys k = ap (λ c. is_slot k x || c) (has_append_slots xs ys k) ∙ moved (is_slot k x) (has_slot xs k) (has_slot ys k)
  where
    moved : (a b c : Bool) → (a || (b || c)) ≡ ((a || b) || c)
    moved true b c = refl
    moved false b c = refl

on_slots : (p : Pair) (segs : List SegId) (k : Slot) → is_pair (pair_at k) p ≡ true → is_in segs k.seg ≡ true → has_slot (map (λ s. slot_on s p) segs) k ≡ true
on_slots p [] k same h = absurd (true≢false (sym h))
on_slots p (s ∷ segs) k same h = elim (or_cases (s.0 == k.seg.0) (is_in segs k.seg) h) [
  | inl here ↦ or_left (is_slot k (slot_on s p)) _ (slot_is p s k same here)
  | inr later ↦ or_right (is_slot k (slot_on s p)) _ (on_slots p segs k same later)
]
  where
    slot_is : (p : Pair) (s : SegId) (k : Slot) → is_pair (pair_at k) p ≡ true → (s.0 == k.seg.0) ≡ true → is_slot k (slot_on s p) ≡ true
    slot_is p s k h g =
        let parts = and_parts (k.lesser.0 == p.lesser.0) (k.greater.0 == p.greater.0) h in rw (parts.0, parts.1, eq_turned k.seg.0 s.0 ∙ g) refl

slot_pair : (p : Pair) (segs : List SegId) (k : Slot) → has_slot (map (λ s. slot_on s p) segs) k ≡ true → is_pair (pair_at k) p ≡ true
slot_pair p [] k h = absurd (true≢false (sym h))
slot_pair p (s ∷ segs) k h = elim (or_cases (is_slot k (slot_on s p)) (has_slot (map (λ s. slot_on s p) segs) k) h) [
  | inl here ↦ (let first = and_parts (k.lesser.0 == p.lesser.0) ((k.greater.0 == p.greater.0) && (k.seg.0 == s.0)) here in
      and_from (k.lesser.0 == p.lesser.0) (k.greater.0 == p.greater.0) first.0 (and_parts (k.greater.0 == p.greater.0) (k.seg.0 == s.0) first.1).0)
  | inr later ↦ slot_pair p segs k later
]

slot_seg : (p : Pair) (segs : List SegId) (k : Slot) → has_slot (map (λ s. slot_on s p) segs) k ≡ true → is_in segs k.seg ≡ true
slot_seg p [] k h = absurd (true≢false (sym h))
slot_seg p (s ∷ segs) k h = elim (or_cases (is_slot k (slot_on s p)) (has_slot (map (λ s. slot_on s p) segs) k) h) [
  | inl here ↦ (let first = and_parts (k.lesser.0 == p.lesser.0) ((k.greater.0 == p.greater.0) && (k.seg.0 == s.0)) here in
      or_left (s.0 == k.seg.0) _ (eq_turned s.0 k.seg.0 ∙ (and_parts (k.greater.0 == p.greater.0) (k.seg.0 == s.0) first.1).1))
  | inr later ↦ or_right (s.0 == k.seg.0) _ (slot_seg p segs k later)
]

is_not : (b : Bool) → (b ≡ true → ⊥) → b ≡ false
is_not true h = absurd (h refl)
is_not false h = refl

block_apart : (p : Pair) (segs : List SegId) → AreApartSegments segs → AreApartSlots (map (λ s. slot_on s p) segs)
block_apart p [] h = tt
block_apart p (s ∷ segs) h = (is_not (has_slot (map (λ s. slot_on s p) segs) (slot_on s p)) (λ e. true≢false (sym (slot_seg p segs (slot_on s p) e) ∙ h.0)), block_apart p segs h.1)

apart_both : (xs ys : List Slot) → AreApartSlots xs → AreApartSlots ys → ((k : Slot) → has_slot xs k ≡ true → has_slot ys k ≡ false) → AreApartSlots (xs ++ ys)
apart_both [] ys h g none = g
apart_both (x ∷ xs) ys h g none = (
  has_append_slots xs ys x ∙ rw (h.0, none x (or_left (is_slot x x) _ (slot_itself x))) refl,
  apart_both xs ys h.1 g (λ k has. none k (or_right (is_slot k x) _ has)),
)

module _ (segs placed : List (List LineId)) (part : List SegId) where
  abbrev block : Pair → List Slot
  block p = map (λ s. slot_on s p) (open_segments segs placed part p)

  open_pair : (pairs : List Pair) (k : Slot) → has_slot (flat_map block pairs) k ≡ true → has_pair pairs (pair_at k) ≡ true
  open_pair [] k h = absurd (true≢false (sym h))
  open_pair (p ∷ pairs) k h = elim (or_cases (has_slot (block p) k) (has_slot (flat_map block pairs) k) (sym (has_append_slots (block p) (flat_map block pairs) k) ∙ h)) [
    | inl here ↦ or_left (is_pair (pair_at k) p) _ (slot_pair p (open_segments segs placed part p) k here)
    | inr later ↦ or_right (is_pair (pair_at k) p) _ (open_pair pairs k later)
  ]

  open_there : (pairs : List Pair) (k : Slot) → has_pair pairs (pair_at k) ≡ true → is_in (open_segments segs placed part (pair_at k)) k.seg ≡ true → has_slot (flat_map block pairs) k ≡ true
  open_there [] k h g = absurd (true≢false (sym h))
  open_there (p ∷ pairs) k h g = has_append_slots (block p) (flat_map block pairs) k ∙ elim (or_cases (is_pair (pair_at k) p) (has_pair pairs (pair_at k)) h) [
    | inl same ↦ or_left (has_slot (block p) k) _ (on_slots p (open_segments segs placed part p) k same
        (subst (λ q. is_in (open_segments segs placed part q) k.seg ≡ true) (same_pair (pair_at k) p same) g))
    | inr later ↦ or_right (has_slot (block p) k) _ (open_there pairs k later g)
  ]

  open_apart : (pairs : List Pair) → AreApartSegments part → AreApartPairs pairs → AreApartSlots (flat_map block pairs)
  open_apart [] h g = tt
  open_apart (p ∷ pairs) h g =
      apart_both (block p) (flat_map block pairs) (block_apart p (open_segments segs placed part p) (apart_filter (is_open_on segs placed p) part h)) (open_apart pairs h g.1)
      (λ k has. is_not (has_slot (flat_map block pairs) k) (λ e. true≢false (sym (open_pair pairs k e)
      ∙ ap (has_pair pairs) (same_pair (pair_at k) p (slot_pair p (open_segments segs placed part p) k has)) ∙ g.0)))

-- The sum.

sum_blocks : {A : Type 0} (h : Slot → ℤ) (f : A → List Slot) (xs : List A) → int_sum h (flat_map f xs) ≡ int_sum (λ x. int_sum h (f x)) xs
sum_blocks h f [] = refl
sum_blocks h f (x ∷ xs) = int_sum-append h (f x) (flat_map f xs) ∙ ap (λ v. int_sum h (f x) +ℤ v) (sum_blocks h f xs)

sum_on : (h : Slot → ℤ) (p : Pair) (segs : List SegId) → int_sum h (map (λ s. slot_on s p) segs) ≡ int_sum (λ s. h (slot_on s p)) segs
sum_on h p [] = refl
sum_on h p (s ∷ segs) = ap (λ v. h (slot_on s p) +ℤ v) (sum_on h p segs)

priced_total : (placed : List (List LineId)) (prices : List (ℕ × ℤ)) (p : Pair) (s : SegId) (x : Bool) (terms : List (ℕ × Term))
    → priced_cost (slot_cost placed terms p) (open_links placed p terms) (λ l. price_at prices l.number) s x ≡ slot_total placed prices terms (slot_on s p) x
priced_total placed prices p s x [] = refl
priced_total placed prices p s x (t ∷ terms) =
    both (open_cost placed p s x t.1) (sum_by (λ (u : ℕ × Term). open_cost placed p s x u.1) terms) (sum_by (λ (u : ℕ × Term). open_cost placed p s x u.1) (t ∷ terms))
    (int_sum (λ l. share (price_at prices l.number) l s x) (open_link placed p t.0 t.1)) (int_sum (λ l. share (price_at prices l.number) l s x) (open_links placed p terms))
    (int_sum (λ l. share (price_at prices l.number) l s x) (open_links placed p (t ∷ terms))) (slot_total placed prices terms (slot_on s p) x)
    (sum_by-cons (λ (u : ℕ × Term). open_cost placed p s x u.1) t terms)
    (int_sum-append (λ l. share (price_at prices l.number) l s x) (open_link placed p t.0 t.1) (open_links placed p terms)) (priced_total placed prices p s x terms)
  where
    both : (a b c : ℕ) (u v w total : ℤ) → c ≡ a + b → w ≡ (u +ℤ v) → (pos b +ℤ v) ≡ total → (pos c +ℤ w) ≡ ((pos a +ℤ u) +ℤ total)
    both a b c u v w total e f g = omega (arith, ints)

pair_sum : (segs placed : List (List LineId)) (part : List SegId) (terms : List (ℕ × Term)) (prices : List (ℕ × ℤ)) (p : Pair)
    → pair_value segs placed part terms prices p ≡ int_sum (λ s. least_answer (slot_total placed prices terms (slot_on s p))) (open_segments segs placed part p)
pair_sum segs placed part terms prices p =
    int_sum_equal (λ s. least_answer (priced_cost (slot_cost placed terms p) (open_links placed p terms) (λ l. price_at prices l.number) s))
    (λ s. least_answer (slot_total placed prices terms (slot_on s p))) (open_segments segs placed part p)
    (λ s. rw (priced_total placed prices p s true terms, priced_total placed prices p s false terms) refl)

in_filter : (p : SegId → Bool) (part : List SegId) (s : SegId) → is_in part s ≡ true → p s ≡ true → is_in (filter p part) s ≡ true
in_filter p [] s h g = absurd (true≢false (sym h))
in_filter p (t ∷ part) s h g = by_test (p t) refl h (in_filter p part s)
  where
    same_seg : (t s : SegId) → (t.0 == s.0) ≡ true → t ≡ s
    same_seg t s e = let P : ℕ → SegId = λ n. record { 0 = n } in ap P (eqb-true t.0 s.0 e)

    by_test : (b : Bool) → p t ≡ b → (t.0 == s.0 || is_in part s) ≡ true → (is_in part s ≡ true → p s ≡ true → is_in (filter p part) s ≡ true)
        → is_in (cond b (t ∷ filter p part) (filter p part)) s ≡ true
    by_test true e has rest = elim (or_cases (t.0 == s.0) (is_in part s) has) [ inl here ↦ or_left (t.0 == s.0) _ here | inr later ↦ or_right (t.0 == s.0) _ (rest later g) ]
    by_test false e has rest = elim (or_cases (t.0 == s.0) (is_in part s) has) [ inl here ↦ absurd (true≢false (sym g ∙ ap p (sym (same_seg t s here)) ∙ e)) | inr later ↦ rest later g ]

-- an end of a term of the part: its pair is one of the terms', its segment is of the part, and both lines stand there
record IsKnownEnd (segs : List (List LineId)) (part : List SegId) (terms : List (ℕ × Term)) (k : Slot) : Type 0 where
  pair : has_pair (pairs_of terms) (pair_at k) ≡ true
  inside : is_in part k.seg ≡ true
  lesser : has_line (lines_on segs k.seg) k.lesser ≡ true
  greater : has_line (lines_on segs k.seg) k.greater ≡ true

end_of : (segs : List (List LineId)) (part : List SegId) (terms : List (ℕ × Term)) (s : SegId) (a b : LineId) → has_pair (pairs_of terms) (pair_of a b) ≡ true → is_in part s ≡ true
    → Contains (lines_on segs s) a → Contains (lines_on segs s) b → IsKnownEnd segs part terms (slot_of s a b)
end_of segs part terms s a b found inside on_a on_b = record {
  pair = found;
  inside = inside;
  lesser = by_test (nat_lt a.0 b.0);
  greater = by_test_too (nat_lt a.0 b.0);
}
  where
    by_test : (t : Bool) → has_line (lines_on segs s) (cond t (two_lines a b) (two_lines b a)).lesser ≡ true
    by_test true = on_placed (lines_on segs s) a on_a
    by_test false = on_placed (lines_on segs s) b on_b

    by_test_too : (t : Bool) → has_line (lines_on segs s) (cond t (two_lines a b) (two_lines b a)).greater ≡ true
    by_test_too true = on_placed (lines_on segs s) b on_b
    by_test_too false = on_placed (lines_on segs s) a on_a

known_end : (segs : List (List LineId)) (part : List SegId) (terms : List (ℕ × Term)) (k : Slot) (t : Term) → has_pair (pairs_of terms) (pair_in t) ≡ true → is_of part t ≡ true
    → IsTerm segs t → is_end k t ≡ true → IsKnownEnd segs part terms k
known_end segs part terms k (Side seg first second w) found inside fits e =
    subst (IsKnownEnd segs part terms) (sym (same_slot k (slot_of seg first second) e))
    (end_of segs part terms seg first second found (and_parts (is_in part seg) (is_in part seg) inside).0 fits.first_on fits.second_on)
known_end segs part terms k (Link seg other flip a b w) found inside fits e =
    let both = and_parts (is_in part seg) (is_in part other) inside in
    elim (or_cases (is_slot k (slot_of seg a b)) (is_slot k (slot_of other a b)) e) [
      | inl here ↦ subst (IsKnownEnd segs part terms) (sym (same_slot k (slot_of seg a b) here)) (end_of segs part terms seg a b found both.0 fits.a_on fits.b_on)
      | inr there ↦ subst (IsKnownEnd segs part terms) (sym (same_slot k (slot_of other a b) there)) (end_of segs part terms other a b found both.1 fits.a_on_other fits.b_on_other)
    ]
known_end segs part terms k (Apart seg other a b w) found inside fits e = absurd (true≢false (sym e))

-- the slots of the terms of a part give the value
pub value_by_slots : (segs placed : List (List LineId)) (part : List SegId) (terms : List (ℕ × Term)) (prices : List (ℕ × ℤ)) → IsPart segs part terms
    → slots_value placed prices terms (slots_of terms) ≡ int_sum (pair_value segs placed part terms prices) (pairs_of terms)
value_by_slots segs placed part terms prices ok =
    let h : Slot → ℤ = λ k. least_answer (slot_total placed prices terms k) in
    let opened : List Slot = flat_map (block segs placed part) (pairs_of terms) in
    let same : int_sum h (slots_of terms) ≡ int_sum h opened = sums_same h (slots_of terms) opened (slots_apart [] terms tt)
    (open_apart segs placed part (pairs_of terms) ok.apart (pairs_apart terms))
    (λ k has none. decided k (has_end [] terms k has) none)
    (λ k has none. least_nothing placed prices k terms (λ t g. no_end_decided placed k t.1 ((lacks_ends [] terms k none).1 t g))) in
    same ∙ sum_blocks h (block segs placed part) (pairs_of terms)
    ∙ int_sum_equal (λ p. int_sum h (block segs placed part p)) (pair_value segs placed part terms prices) (pairs_of terms)
    (λ p. sum_on h p (open_segments segs placed part p) ∙ sym (pair_sum segs placed part terms prices p))
  where
    decided : (k : Slot) → (has_slot [] k ≡ true) ⊎ ((t : ℕ × Term) × Among t terms × (is_end k t.1 ≡ true)) → has_slot (flat_map (block segs placed part) (pairs_of terms)) k ≡ false
        → least_answer (slot_total placed prices terms k) ≡ pos 0
    decided k (inl none) out = absurd (true≢false (sym none))
    decided k (inr t) out =
        let end : IsKnownEnd segs part terms k = known_end segs part terms k t.0.1 (pair_found terms t.0 t.1) (ok.inside t.0 t.1) (ok.known t.0 t.1) t.2 in
        least_nothing placed prices k terms (λ u g. all_decided placed k u.1 (told end (is_decided placed k.seg k.lesser k.greater) refl))
      where
        told : IsKnownEnd segs part terms k → (b : Bool) → is_decided placed k.seg k.lesser k.greater ≡ b → b ≡ true
        told end true e = refl
        told end false e = absurd (true≢false (sym (open_there segs placed part (pairs_of terms) k end.pair
            (in_filter (is_open_on segs placed (pair_at k)) part k.seg end.inside (rw (end.lesser, end.greater, e) refl))) ∙ out))
