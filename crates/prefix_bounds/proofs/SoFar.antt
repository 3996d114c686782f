-- Sums over a part's terms, term by term.
use Rattle.std.proofs.Common.{◌≡◌, ℕ, zero, suc, ◌+◌, ◌-◌, ◌<◌, ◌≤◌, ◌==◌, ◌&&◌, ◌||◌, Bool, true, false, cond, List, [], ◌∷◌, ◌++◌, length, take, get_or, refl, sym, ◌∙◌, ap, subst, arith}
use Rattle.std.specs.Prelude.{ℤ, pos, ◌+ℤ◌}
use Rattle.std.specs.List.{filter}
use Rattle.std.proofs.lemmas.Bool.{ne_eqb}
use Rattle.std.proofs.lemmas.Int.{ints}
use Rattle.std.proofs.lemmas.List.{take_more, length-take-le}
use Rattle.std.proofs.lemmas.List.Sums.{sum_by-append, sum_by-cons}
use Rattle.map_base.specs.declared.ids.SegId.{SegId}
use Rattle.map_base.specs.declared.ids.LineId.{LineId}
use Rattle.order_model.specs.declared.term.Term.{Term}
use Rattle.order_model.specs.declared.term.Term.TheVariants.{Side, Link, Apart}
use Rattle.order_model.specs.PartTerms.{is_of, no_term, numbered_from, part_terms}
use Rattle.order_bound.specs.Pairs.{pair_of, is_pair}
use Rattle.order_bound.specs.Decided.{decided_cost, decided_sum}
use Rattle.order_bound.specs.Values.{least_answer}
use Rattle.whole_sums.specs.Sums.{int_sum}
use Rattle.whole_sums.proofs.Sums.{int_sum-append}
use Rattle.order_bound.specs.declared.pairs.Pair.{Pair}
use Rattle.order_check.specs.Slots.{slot_on, slot_of, pair_at, is_slot, has_slot, noted, with_slots, slots_after, slots_of, slot_share, slot_total, slots_value}
use Rattle.order_check.proofs.SlotSums.{has_noted}
use Rattle.order_check.proofs.SlotValues.{slot_tests}
use Rattle.prefix_bounds.specs.SlotsSoFar.{is_at, has_end, terms_before}

-- A slot, as the checker has it: two lines on a segment.

abbrev kind_of : {A : Type 0} → A → Type 0
kind_of {A} a = A

abbrev pub Slot : Type 0
Slot = kind_of (slot_on (record { 0 = 0 }) (record { lesser = record { 0 = 0 }; greater = record { 0 = 0 } }))

-- the slots of the part's terms among the first so many
abbrev pub slots_before : List Term → List SegId → ℕ → List Slot
slots_before terms part n = slots_of (terms_before terms part n)

-- the term has an end at the slot
abbrev has_end_at : Slot → Term → Bool
has_end_at k t = has_end k.seg (pair_at k) t

-- The terms of the part among the first so many.

numbered_last : (k : ℕ) (terms : List Term) (t : Term) → numbered_from k (terms ++ t ∷ []) ≡ numbered_from k terms ++ (k + length terms, t) ∷ []
numbered_last k [] t = let e : k ≡ k + 0 = omega arith in ap (λ (n : ℕ). let q : ℕ × Term = (n, t) in q ∷ []) e
numbered_last k (x ∷ terms) t =
    let e : (k + 1) + length terms ≡ k + suc (length terms) = omega arith in
    let cons : List (ℕ × Term) → List (ℕ × Term) = λ l. (k, x) ∷ l in
    ap cons (numbered_last (k + 1) terms t ∙ ap (λ (n : ℕ). let q : ℕ × Term = (n, t) in numbered_from (k + 1) terms ++ q ∷ []) e)

kept_last : (p : ℕ × Term → Bool) (qs : List (ℕ × Term)) (q : ℕ × Term) → filter p (qs ++ q ∷ []) ≡ filter p qs ++ cond (p q) (q ∷ []) []
kept_last p [] q = refl
kept_last p (x ∷ qs) q = by_test (p x) (kept_last p qs q)
  where
    by_test : (b : Bool) → filter p (qs ++ q ∷ []) ≡ filter p qs ++ cond (p q) (q ∷ []) []
        → cond b (x ∷ filter p (qs ++ q ∷ [])) (filter p (qs ++ q ∷ [])) ≡ cond b (x ∷ filter p qs) (filter p qs) ++ cond (p q) (q ∷ []) []
    by_test true h = ap (λ l. x ∷ l) h
    by_test false h = h

pub part_more : (terms : List Term) (part : List SegId) (i : ℕ) → i < length terms
    → part_terms (take (i + 1) terms) part ≡ part_terms (take i terms) part ++ cond (is_of part (get_or terms i no_term)) ((i, get_or terms i no_term) ∷ []) []
part_more terms part i below =
    let p : ℕ × Term → Bool = λ q. is_of part q.1 in
    let t : Term = get_or terms i no_term in
    let count : 0 + length (take i terms) ≡ i = omega (arith, length-take-le i terms (omega (arith, below))) in
    ap (λ ts. part_terms ts part) (take_more terms i no_term below)
    ∙ ap (filter p) (numbered_last 0 (take i terms) t)
    ∙ kept_last p (numbered_from 0 (take i terms)) (0 + length (take i terms), t)
    ∙ ap (λ (n : ℕ). let q : ℕ × Term = (n, t) in part_terms (take i terms) part ++ cond (is_of part t) (q ∷ []) []) count

-- What is decided.

pub decided_more : (segs placed : List (List LineId)) (terms : List Term) (part : List SegId) (i : ℕ) → i < length terms
    → decided_sum segs placed (part_terms (take (i + 1) terms) part)
    ≡ decided_sum segs placed (part_terms (take i terms) part) + cond (is_of part (get_or terms i no_term)) (decided_cost segs placed (get_or terms i no_term)) 0
decided_more segs placed terms part i below = ap (decided_sum segs placed) (part_more terms part i below) ∙ by_test (is_of part (get_or terms i no_term))
  where
    by_test : (b : Bool) → decided_sum segs placed (part_terms (take i terms) part ++ cond b ((i, get_or terms i no_term) ∷ []) [])
        ≡ decided_sum segs placed (part_terms (take i terms) part) + cond b (decided_cost segs placed (get_or terms i no_term)) 0
    by_test true = sum_by-append (λ (q : ℕ × Term). decided_cost segs placed q.1) (part_terms (take i terms) part) ((i, get_or terms i no_term) ∷ [])
        ∙ ap (λ n. decided_sum segs placed (part_terms (take i terms) part) + n)
        (sum_by-cons (λ (q : ℕ × Term). decided_cost segs placed q.1) (i, get_or terms i no_term) [] ∙ none (decided_cost segs placed (get_or terms i no_term)))
      where
        none : (n : ℕ) → n + 0 ≡ n
        none n = omega arith
    by_test false = sum_by-append (λ (q : ℕ × Term). decided_cost segs placed q.1) (part_terms (take i terms) part) []

-- What is added at a slot.

last_one : (a b : ℤ) → a +ℤ (b +ℤ pos 0) ≡ a +ℤ b
last_one a b = omega (arith, ints)

pub total_more : (placed : List (List LineId)) (prices : List (ℕ × ℤ)) (terms : List Term) (part : List SegId) (k : Slot) (x : Bool) (i : ℕ) → i < length terms
    → slot_total placed prices (part_terms (take (i + 1) terms) part) k x
    ≡ slot_total placed prices (part_terms (take i terms) part) k x +ℤ cond (is_of part (get_or terms i no_term)) (slot_share placed prices k x (i, get_or terms i no_term)) (pos 0)
total_more placed prices terms part k x i below = ap (λ ts. slot_total placed prices ts k x) (part_more terms part i below) ∙ by_test (is_of part (get_or terms i no_term))
  where
    by_test : (b : Bool) → slot_total placed prices (part_terms (take i terms) part ++ cond b ((i, get_or terms i no_term) ∷ []) []) k x
        ≡ slot_total placed prices (part_terms (take i terms) part) k x +ℤ cond b (slot_share placed prices k x (i, get_or terms i no_term)) (pos 0)
    by_test true = int_sum-append (slot_share placed prices k x) (part_terms (take i terms) part) ((i, get_or terms i no_term) ∷ [])
        ∙ last_one (slot_total placed prices (part_terms (take i terms) part) k x) (slot_share placed prices k x (i, get_or terms i no_term))
    by_test false = int_sum-append (slot_share placed prices k x) (part_terms (take i terms) part) []

-- The slots.

after_both : (slots : List Slot) (some more : List (ℕ × Term)) → slots_after slots (some ++ more) ≡ slots_after (slots_after slots some) more
after_both slots [] more = refl
after_both slots (t ∷ some) more = after_both (with_slots slots t.1) some more

pub slots_more : (terms : List Term) (part : List SegId) (i : ℕ) → i < length terms
    → slots_before terms part (i + 1) ≡ cond (is_of part (get_or terms i no_term)) (with_slots (slots_before terms part i) (get_or terms i no_term)) (slots_before terms part i)
slots_more terms part i below =
    ap (slots_after []) (part_more terms part i below) ∙ after_both [] (part_terms (take i terms) part) (cond (is_of part (get_or terms i no_term)) ((i, get_or terms i no_term) ∷ []) [])
    ∙ by_test (is_of part (get_or terms i no_term))
  where
    by_test : (b : Bool) → slots_after (slots_before terms part i) (cond b ((i, get_or terms i no_term) ∷ []) [])
        ≡ cond b (with_slots (slots_before terms part i) (get_or terms i no_term)) (slots_before terms part i)
    by_test true = refl
    by_test false = refl

or_none : (b : Bool) → b ≡ (b || false)
or_none true = refl
or_none false = refl

with_has : (slots : List Slot) (t : Term) (k : Slot) → has_slot (with_slots slots t) k ≡ (has_slot slots k || has_end_at k t)
with_has slots (Side seg first second w) k = has_noted slots (slot_of seg first second) k ∙ ap (λ c. has_slot slots k || c) (slot_tests k seg first second)
with_has slots (Link seg other flip a b w) k =
    has_noted (noted slots (slot_of seg a b)) (slot_of other a b) k ∙ ap (λ c. c || is_slot k (slot_of other a b)) (has_noted slots (slot_of seg a b) k)
    ∙ moved (has_slot slots k) (is_slot k (slot_of seg a b)) (is_slot k (slot_of other a b))
    ∙ ap (λ c. has_slot slots k || (c || is_slot k (slot_of other a b))) (slot_tests k seg a b)
    ∙ ap (λ c. has_slot slots k || (is_at k.seg (pair_at k) seg a b || c)) (slot_tests k other a b)
  where
    moved : (a b c : Bool) → ((a || b) || c) ≡ (a || (b || c))
    moved true b c = refl
    moved false b c = refl
with_has slots (Apart seg other a b w) k = or_none (has_slot slots k)

pub met_more : (terms : List Term) (part : List SegId) (k : Slot) (i : ℕ) → i < length terms
    → has_slot (slots_before terms part (i + 1)) k ≡ (has_slot (slots_before terms part i) k || cond (is_of part (get_or terms i no_term)) (has_end_at k (get_or terms i no_term)) false)
met_more terms part k i below = ap (λ ss. has_slot ss k) (slots_more terms part i below) ∙ by_test (is_of part (get_or terms i no_term))
  where
    by_test : (b : Bool) → has_slot (cond b (with_slots (slots_before terms part i) (get_or terms i no_term)) (slots_before terms part i)) k
        ≡ (has_slot (slots_before terms part i) k || cond b (has_end_at k (get_or terms i no_term)) false)
    by_test true = with_has (slots_before terms part i) (get_or terms i no_term) k
    by_test false = or_none (has_slot (slots_before terms part i) k)

-- none of the first so many has the slot, and neither has the next
pub met_later : (terms : List Term) (part : List SegId) (k : Slot) (i : ℕ) → i < length terms → has_slot (slots_before terms part i) k ≡ false
    → cond (is_of part (get_or terms i no_term)) (has_end_at k (get_or terms i no_term)) false ≡ false → has_slot (slots_before terms part (i + 1)) k ≡ false
met_later terms part k i below none not_this = met_more terms part k i below ∙ rw (none, not_this) refl

-- one of the first so many has it, and so it is met however many more there are
pub met_on : (terms : List Term) (part : List SegId) (k : Slot) (i more : ℕ) → i + more ≤ length terms → has_slot (slots_before terms part i) k ≡ true
    → has_slot (slots_before terms part (i + more)) k ≡ true
met_on terms part k i zero within here = subst (λ n. has_slot (slots_before terms part n) k ≡ true) (omega arith) here
met_on terms part k i (suc more) within here =
    let rest : has_slot (slots_before terms part (i + more)) k ≡ true = met_on terms part k i more (omega (arith, within)) here in
    let e : (i + more) + 1 ≡ i + suc more = omega arith in
    subst (λ n. has_slot (slots_before terms part n) k ≡ true) e
    (met_more terms part k (i + more) (omega (arith, within))
    ∙ ap (λ b. b || cond (is_of part (get_or terms (i + more) no_term)) (has_end_at k (get_or terms (i + more) no_term)) false) rest)

pub met_here : (terms : List Term) (part : List SegId) (k : Slot) (i n : ℕ) → i < n → n ≤ length terms → cond (is_of part (get_or terms i no_term)) (has_end_at k (get_or terms i no_term)) false ≡ true
    → has_slot (slots_before terms part n) k ≡ true
met_here terms part k i n below within here =
    let first : has_slot (slots_before terms part (i + 1)) k ≡ true = met_more terms part k i (omega (arith, below, within)) ∙ right (has_slot (slots_before terms part i) k) _ here in
    let e : (i + 1) + (n - (i + 1)) ≡ n = omega (arith, below) in
    subst (λ m. has_slot (slots_before terms part m) k ≡ true) e (met_on terms part k (i + 1) (n - (i + 1)) (omega (arith, below, within)) first)
  where
    right : (a b : Bool) → b ≡ true → (a || b) ≡ true
    right true b h = refl
    right false b h = h

-- What the slots add.

value_noted : (g : Slot → ℤ) (slots : List Slot) (k : Slot) → int_sum g (noted slots k) ≡ int_sum g slots +ℤ cond (has_slot slots k) (pos 0) (g k)
value_noted g slots k = by_test (has_slot slots k)
  where
    none : (a : ℤ) → a ≡ a +ℤ pos 0
    none a = omega (arith, ints)

    by_test : (b : Bool) → int_sum g (cond b slots (slots ++ k ∷ [])) ≡ int_sum g slots +ℤ cond b (pos 0) (g k)
    by_test true = none (int_sum g slots)
    by_test false = int_sum-append g slots (k ∷ []) ∙ last_one (int_sum g slots) (g k)

-- what the slots of the first so many terms and of the next add
abbrev pub SlotsAdd : List (List LineId) → List (ℕ × ℤ) → List Term → List SegId → ℕ → ℤ → Type 0
SlotsAdd placed prices terms part i more =
    slots_value placed prices (part_terms terms part) (slots_before terms part (i + 1)) ≡ slots_value placed prices (part_terms terms part) (slots_before terms part i) +ℤ more

abbrev pub least_new : List (List LineId) → List (ℕ × ℤ) → List Term → List SegId → ℕ → Slot → ℤ
least_new placed prices terms part i k = cond (has_slot (slots_before terms part i) k) (pos 0) (least_answer (slot_total placed prices (part_terms terms part) k))

pub none_added : (placed : List (List LineId)) (prices : List (ℕ × ℤ)) (terms : List Term) (part : List SegId) (i : ℕ) → i < length terms
    → is_of part (get_or terms i no_term) ≡ false → SlotsAdd placed prices terms part i (pos 0)
none_added placed prices terms part i below out =
    ap (slots_value placed prices (part_terms terms part)) (slots_more terms part i below ∙ ap (λ b. cond b (with_slots (slots_before terms part i) (get_or terms i no_term)) (slots_before terms part i)) out)
    ∙ none (slots_value placed prices (part_terms terms part) (slots_before terms part i))
  where
    none : (a : ℤ) → a ≡ a +ℤ pos 0
    none a = omega (arith, ints)

-- the slots of a term that is of the part
slots_in : (terms : List Term) (part : List SegId) (i : ℕ) (t : Term) → i < length terms → get_or terms i no_term ≡ t → is_of part t ≡ true
    → slots_before terms part (i + 1) ≡ with_slots (slots_before terms part i) t
slots_in terms part i t below is inside =
    slots_more terms part i below ∙ ap (λ u. cond (is_of part u) (with_slots (slots_before terms part i) u) (slots_before terms part i)) is
    ∙ ap (λ b. cond b (with_slots (slots_before terms part i) t) (slots_before terms part i)) inside

pub apart_adds : (placed : List (List LineId)) (prices : List (ℕ × ℤ)) (terms : List Term) (part : List SegId) (i : ℕ) (seg other : SegId) (a b : LineId) (w : ℕ) → i < length terms
    → get_or terms i no_term ≡ Apart seg other a b w → is_of part (Apart seg other a b w) ≡ true → SlotsAdd placed prices terms part i (pos 0)
apart_adds placed prices terms part i seg other a b w below is inside =
    ap (slots_value placed prices (part_terms terms part)) (slots_in terms part i (Apart seg other a b w) below is inside)
    ∙ none (slots_value placed prices (part_terms terms part) (slots_before terms part i))
  where
    none : (a : ℤ) → a ≡ a +ℤ pos 0
    none a = omega (arith, ints)

pub side_adds : (placed : List (List LineId)) (prices : List (ℕ × ℤ)) (terms : List Term) (part : List SegId) (i : ℕ) (seg : SegId) (first second : LineId) (w : ℕ) → i < length terms
    → get_or terms i no_term ≡ Side seg first second w → is_of part (Side seg first second w) ≡ true
    → SlotsAdd placed prices terms part i (least_new placed prices terms part i (slot_of seg first second))
side_adds placed prices terms part i seg first second w below is inside =
    ap (slots_value placed prices (part_terms terms part)) (slots_in terms part i (Side seg first second w) below is inside)
    ∙ value_noted (λ k. least_answer (slot_total placed prices (part_terms terms part) k)) (slots_before terms part i) (slot_of seg first second)

pub link_adds : (placed : List (List LineId)) (prices : List (ℕ × ℤ)) (terms : List Term) (part : List SegId) (i : ℕ) (seg other : SegId) (flip : Bool) (a b : LineId) (w : ℕ) → i < length terms
    → get_or terms i no_term ≡ Link seg other flip a b w → is_of part (Link seg other flip a b w) ≡ true → seg.0 < other.0
    → SlotsAdd placed prices terms part i (least_new placed prices terms part i (slot_of seg a b) +ℤ least_new placed prices terms part i (slot_of other a b))
link_adds placed prices terms part i seg other flip a b w below is inside rising =
    ap (slots_value placed prices (part_terms terms part)) (slots_in terms part i (Link seg other flip a b w) below is inside)
    ∙ value_noted g (noted (slots_before terms part i) (slot_of seg a b)) (slot_of other a b)
    ∙ ap (λ v. v +ℤ cond (has_slot (noted (slots_before terms part i) (slot_of seg a b)) (slot_of other a b)) (pos 0) (g (slot_of other a b)))
    (value_noted g (slots_before terms part i) (slot_of seg a b))
    ∙ ap (λ c. (int_sum g (slots_before terms part i) +ℤ cond (has_slot (slots_before terms part i) (slot_of seg a b)) (pos 0) (g (slot_of seg a b))) +ℤ cond c (pos 0) (g (slot_of other a b)))
    (has_noted (slots_before terms part i) (slot_of seg a b) (slot_of other a b) ∙ ap (λ c. has_slot (slots_before terms part i) (slot_of other a b) || c) differ
    ∙ sym (or_none (has_slot (slots_before terms part i) (slot_of other a b))))
    ∙ together (int_sum g (slots_before terms part i)) _ _
  where
    g : Slot → ℤ
    g k = least_answer (slot_total placed prices (part_terms terms part) k)

    together : (a b c : ℤ) → (a +ℤ b) +ℤ c ≡ a +ℤ (b +ℤ c)
    together a b c = omega (arith, ints)

    last_false : (c d : Bool) → d ≡ false → (c && d) ≡ false
    last_false true d h = h
    last_false false d h = refl

    differ : is_slot (slot_of other a b) (slot_of seg a b) ≡ false
    differ = slot_tests (slot_of other a b) seg a b
        ∙ last_false (is_pair (pair_at (slot_of other a b)) (pair_of a b)) (seg.0 == other.0) (ne_eqb seg.0 other.0 (λ e. omega (arith, e, rising)))

-- the same by what is equal
pub adds_by : (placed : List (List LineId)) (prices : List (ℕ × ℤ)) (terms : List Term) (part : List SegId) (i : ℕ) (v u : ℤ) → SlotsAdd placed prices terms part i v → u ≡ v → SlotsAdd placed prices terms part i u
adds_by placed prices terms part i v u adds e = subst (SlotsAdd placed prices terms part i) (sym e) adds

pub least_at : (placed : List (List LineId)) (prices : List (ℕ × ℤ)) (terms : List Term) (part : List SegId) (i : ℕ) (s seg : SegId) (p : Pair) (a b : LineId) (r : ℤ)
    → r ≡ least_new placed prices terms part i (slot_on s p) → s ≡ seg → p ≡ pair_of a b → r ≡ least_new placed prices terms part i (slot_of seg a b)
least_at placed prices terms part i s seg p a b r is e f =
    is ∙ ap (λ t. least_new placed prices terms part i (slot_on t p)) e ∙ ap (λ q. least_new placed prices terms part i (slot_on seg q)) f
