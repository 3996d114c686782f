-- Sums over a part's terms: of those that count, and of the others.
use mathlib.Core.Bool.{beq}
use Rattle.std.proofs.Common.{◌≡◌, ℕ, zero, suc, ◌+◌, ◌*◌, ◌<◌, ◌≤◌, ◌==◌, ◌&&◌, ◌||◌, ◌++◌, not, Bool, true, false, cond, List, [], ◌∷◌, length, map, take, get_or, refl, sym, ◌∙◌, ap, subst, arith, length-append, append_assoc, append-nil, true≢false}
use Rattle.std.specs.Prelude.{ℤ, pos, ◌+ℤ◌, ◌-ℤ◌, unsigned_abs}
use Rattle.std.specs.List.{sum_by, filter}
use Rattle.std.proofs.Math.Bool.{and-false}
use Rattle.std.proofs.lemmas.Int.{ints}
use Rattle.std.proofs.lemmas.List.{take_all, take_more}
use Rattle.std.proofs.lemmas.List.Elements.{All-append, All-filter}
use Rattle.std.proofs.lemmas.List.Filters.{length-filter_both}
use Rattle.std.proofs.lemmas.List.Sums.{sum_by-cons}
use Rattle.map_base.specs.declared.ids.LineId.{LineId}
use Rattle.order_model.specs.declared.term.Term.{Term}
use Rattle.order_model.specs.Problems.{lines_on, IsTerm}
use Rattle.order_model.specs.Costs.{same_answer}
use Rattle.order_model.specs.Prefixes.{is_left}
use Rattle.order_model.proofs.PlaceLemmas.{line_is}
use Rattle.order_bound.specs.Decided.{decided_cost, decided_sum}
use Rattle.whole_sums.specs.Sums.{int_sum}
use Rattle.whole_sums.proofs.Sums.{int_sum-append, int_sum_equal, int_sum_both, int_sum_pos}
use Rattle.order_check.specs.declared.slot.PartTerm.{PartTerm}
use Rattle.order_check.specs.declared.slot.Charge.{Charge}
use Rattle.order_check.specs.declared.spot.SpotTerm.{SpotTerm}
use Rattle.order_check.specs.declared.placing.Placing.{Placing}
use Rattle.order_check.specs.declared.picking.Pick.{Pick}
use Rattle.order_check.specs.declared.asked.Asked.{Asked}
use Rattle.order_check.specs.Slots.{plain_term, charge_on}
use Rattle.order_check.specs.Charging.{no_part_term, AreTerms}
use Rattle.order_check.specs.Spots.{is_on, is_of_line, is_at, is_apart, beside_line, spot_term, terms_at}
use Rattle.order_check.specs.Placings.{is_of_any, is_picked, is_picked_at, is_picked_of, picked_of, term_of, own_pick, last_pick, left_pick, changes, picked_terms, changed_terms}
use Rattle.order_check.specs.Counting.{added_by, decided_of, shifted, turned, AreThose}
use Rattle.order_check.proofs.SignedSums.{abs_sum, sum_more}
use Rattle.order_check.proofs.Charging.{small_charges, decided_is}

-- What a term adds, or costs where it is decided, if it is one of those that count; and if it is not.

abbrev pub counted_by : (Term → Bool) → List (List LineId) → List (List LineId) → ℕ → Bool → PartTerm → ℤ
counted_by counts segs placed k x t = cond (counts t.term) (added_by segs placed k x t) (pos 0)

abbrev pub beside_by : (Term → Bool) → List (List LineId) → List (List LineId) → ℕ → Bool → PartTerm → ℤ
beside_by counts segs placed k x t = cond (counts t.term) (pos 0) (added_by segs placed k x t)

abbrev pub decided_by : (Term → Bool) → List (List LineId) → List (List LineId) → PartTerm → ℕ
decided_by counts segs placed t = cond (counts t.term) (decided_cost segs placed t.term) 0

abbrev pub decided_beside : (Term → Bool) → List (List LineId) → List (List LineId) → PartTerm → ℕ
decided_beside counts segs placed t = cond (counts t.term) 0 (decided_cost segs placed t.term)

-- Added, or taken off.

pub shifted_more : (off : Bool) (a u v b : ℤ) → b ≡ shifted off (shifted off a u) v → b ≡ shifted off a (u +ℤ v)
shifted_more false a u v b h = omega (arith, ints, h)
shifted_more true a u v b h = omega (arith, ints, h)

pub shifted_small : (off : Bool) (a u : ℤ) (m n : ℕ) → unsigned_abs a ≤ m → unsigned_abs u ≤ n → unsigned_abs (shifted off a u) ≤ m + n
shifted_small false a u m n p q = omega (arith, ints, p, q)
shifted_small true a u m n p q = omega (arith, ints, p, q)

pub shifted_none : (off : Bool) (a : ℤ) → a ≡ shifted off a (pos 0)
shifted_none false a = omega (arith, ints)
shifted_none true a = omega (arith, ints)

-- a charge or its contrary is added
pub turned_on : (off : Bool) (c : Charge) (k : ℕ) (x : Bool) (a b : ℤ) → b ≡ a +ℤ charge_on (turned off c) k x → b ≡ shifted off a (charge_on c k x)
turned_on false c k x a b h = h
turned_on true c k x a b h = h ∙ by_test ((c.slot == k) && same_answer c.lesser_first x)
  where
    by_test : (t : Bool) → (a +ℤ cond t (pos 0 -ℤ c.amount) (pos 0)) ≡ (a -ℤ cond t c.amount (pos 0))
    by_test true = omega (arith, ints)
    by_test false = omega (arith, ints)

pub turned_small : (off : Bool) (c : Charge) → unsigned_abs c.amount ≤ 256000 → unsigned_abs (turned off c).amount ≤ 256000
turned_small false c h = h
turned_small true c h = omega (arith, ints, h)

-- What a term adds is small.

pub added_small : (segs placed : List (List LineId)) (k : ℕ) (x : Bool) (t : PartTerm) → IsTerm segs t.term → unsigned_abs (added_by segs placed k x t) ≤ 256000
added_small segs placed k x t fits = (small_charges segs placed t.term t.here t.there (pos 0) fits (omega (arith, ints))).both k x

-- the first terms add no more than so much each
pub small_sum : {A : Type 0} (f : A → ℤ) (xs : List A) (d : A) (i : ℕ) → ((j : ℕ) → j < length xs → unsigned_abs (f (get_or xs j d)) ≤ 256000) → i ≤ length xs
    → unsigned_abs (int_sum f (take i xs)) ≤ 256000 * i
small_sum f xs d zero small h = omega (arith, ints)
small_sum f xs d (suc i) small h =
    let rest = small_sum f xs d i small (omega (arith, h)) in
    let e : suc i ≡ i + 1 = omega arith in
    let more : int_sum f (take (suc i) xs) ≡ int_sum f (take i xs) +ℤ f (get_or xs i d) = ap (λ n. int_sum f (take n xs)) e ∙ sum_more f xs i d (omega (arith, h)) in
    let sum = abs_sum (int_sum f (take i xs)) (f (get_or xs i d)) (256000 * i) 256000 rest (small i (omega (arith, h))) in
    rw more (omega (arith, sum))

pub whole_small : {A : Type 0} (f : A → ℤ) (xs : List A) (d : A) → ((j : ℕ) → j < length xs → unsigned_abs (f (get_or xs j d)) ≤ 256000) → unsigned_abs (int_sum f xs) ≤ 256000 * length xs
whole_small f xs d small =
    let all : take (length xs) xs ≡ xs = take_all (length xs) xs (omega arith) in
    let most = small_sum f xs d (length xs) small (omega arith) in
    subst (λ l. unsigned_abs (int_sum f l) ≤ 256000 * length xs) all most

-- what terms add to a slot
pub terms_small : (segs placed : List (List LineId)) (table : List PartTerm) (k : ℕ) (x : Bool) → AreTerms segs table → unsigned_abs (int_sum (added_by segs placed k x) table) ≤ 256000 * length table
terms_small segs placed table k x fits = whole_small (added_by segs placed k x) table no_part_term (λ j h. added_small segs placed k x (get_or table j no_part_term) (fits j no_part_term h))

-- All terms are those that count and the others.

parted : (counts : Term → Bool) (segs placed : List (List LineId)) (k : ℕ) (x : Bool) (t : PartTerm)
    → added_by segs placed k x t ≡ beside_by counts segs placed k x t +ℤ counted_by counts segs placed k x t
parted counts segs placed k x t = by_test (counts t.term)
  where
    by_test : (b : Bool) → added_by segs placed k x t ≡ cond b (pos 0) (added_by segs placed k x t) +ℤ cond b (added_by segs placed k x t) (pos 0)
    by_test true = omega (arith, ints)
    by_test false = omega (arith, ints)

pub sums_parted : (counts : Term → Bool) (segs placed : List (List LineId)) (table : List PartTerm) (k : ℕ) (x : Bool)
    → int_sum (added_by segs placed k x) table ≡ int_sum (beside_by counts segs placed k x) table +ℤ int_sum (counted_by counts segs placed k x) table
sums_parted counts segs placed table k x =
    int_sum_equal (added_by segs placed k x) (λ t. beside_by counts segs placed k x t +ℤ counted_by counts segs placed k x t) table (parted counts segs placed k x)
    ∙ int_sum_both (beside_by counts segs placed k x) (counted_by counts segs placed k x) table

decided_parted : (counts : Term → Bool) (segs placed : List (List LineId)) (t : PartTerm)
    → pos (decided_cost segs placed t.term) ≡ pos (decided_beside counts segs placed t) +ℤ pos (decided_by counts segs placed t)
decided_parted counts segs placed t = by_test (counts t.term)
  where
    by_test : (b : Bool) → pos (decided_cost segs placed t.term) ≡ pos (cond b 0 (decided_cost segs placed t.term)) +ℤ pos (cond b (decided_cost segs placed t.term) 0)
    by_test true = omega (arith, ints)
    by_test false = omega (arith, ints)

pub decided_table : (segs placed : List (List LineId)) (table : List PartTerm) → decided_sum segs placed (map plain_term table) ≡ sum_by (λ (t : PartTerm). decided_cost segs placed t.term) table
decided_table segs placed [] = refl
decided_table segs placed (t ∷ table) =
    sum_by-cons (λ (u : ℕ × Term). decided_cost segs placed u.1) (plain_term t) (map plain_term table)
    ∙ ap (λ n. decided_cost segs placed t.term + n) (decided_table segs placed table)
    ∙ sym (sum_by-cons (λ (u : PartTerm). decided_cost segs placed u.term) t table)

pub decided_parts : (counts : Term → Bool) (segs placed : List (List LineId)) (table : List PartTerm)
    → decided_sum segs placed (map plain_term table) ≡ sum_by (decided_beside counts segs placed) table + sum_by (decided_by counts segs placed) table
decided_parts counts segs placed table =
    let f : PartTerm → ℕ = λ t. decided_cost segs placed t.term in
    let whole : int_sum (λ t. pos (f t)) table ≡ int_sum (λ t. pos (decided_beside counts segs placed t)) table +ℤ int_sum (λ t. pos (decided_by counts segs placed t)) table =
    int_sum_equal (λ t. pos (f t)) (λ t. pos (decided_beside counts segs placed t) +ℤ pos (decided_by counts segs placed t)) table (decided_parted counts segs placed)
    ∙ int_sum_both (λ t. pos (decided_beside counts segs placed t)) (λ t. pos (decided_by counts segs placed t)) table in
    decided_table segs placed table
    ∙ omega (arith, ints, whole, int_sum_pos f table, int_sum_pos (decided_beside counts segs placed) table, int_sum_pos (decided_by counts segs placed) table)

-- the sum of the decided terms is small
small_part : (segs placed : List (List LineId)) (t : PartTerm) → IsTerm segs t.term → unsigned_abs (pos (decided_of segs placed t)) ≤ 256000
small_part segs placed t fits =
    subst (λ n. unsigned_abs (pos n) ≤ 256000) (decided_is segs placed t.term t.here t.there (pos 0))
    (omega (arith, ints, (small_charges segs placed t.term t.here t.there (pos 0) fits (omega (arith, ints))).decided))

pub small_decided : (segs placed : List (List LineId)) (table : List PartTerm) → AreTerms segs table → sum_by (decided_of segs placed) table ≤ 256000 * length table
small_decided segs placed table fits =
    let most = whole_small (λ t. pos (decided_of segs placed t)) table no_part_term (λ j h. small_part segs placed (get_or table j no_part_term) (fits j no_part_term h)) in
    omega (arith, ints, most, int_sum_pos (decided_of segs placed) table)

-- What is summed over the terms that a placing may change, pick after pick.

-- no term is of two picks
none_twice : (e a b c x p q r : Bool)
    → (((e && (beq x false && a)) && p) && (((e && (beq x true && b)) && q) || ((e && (beq x true && c)) && (r && not b)))) ≡ false
none_twice false a b c x p q r = refl
none_twice true a b c true p q r = refl
none_twice true a b c false p q r = and-false (a && p)

last_or_left : (e b c x q r : Bool) → (((e && (beq x true && b)) && q) && ((e && (beq x true && c)) && (r && not b))) ≡ false
last_or_left false b c x q r = refl
last_or_left true b c false q r = refl
last_or_left true false c true q r = refl
last_or_left true true c true q r = ap (λ t. q && (c && t)) (and-false r) ∙ ap (λ t. q && t) (and-false c) ∙ and-false q

of_either : (g : Bool → ℤ) → g false ≡ pos 0 → (b c : Bool) → (b && c) ≡ false → g (b || c) ≡ g b +ℤ g c
of_either g none true true h = absurd (true≢false h)
of_either g none true false h = omega (arith, ints, none)
of_either g none false c h = omega (arith, ints, none)

in_picks : (g : Bool → ℤ) → g false ≡ pos 0 → (p : Placing) (lines placed : List LineId) (t : Term)
    → (g (is_picked_at (own_pick p) lines placed t) +ℤ g (is_picked_at (last_pick p) lines placed t)) +ℤ g (is_picked_at (left_pick p) lines placed t) ≡ g (changes p lines placed t)
in_picks g none p lines placed t =
    let own : Bool = is_picked_at (own_pick p) lines placed t in
    let last : Bool = is_picked_at (last_pick p) lines placed t in
    let left : Bool = is_picked_at (left_pick p) lines placed t in
    let e : Bool = is_on p.seg.0 t in
    let first : g (changes p lines placed t) ≡ g (is_picked_at (own_pick p) lines placed t) +ℤ g (is_picked_at (last_pick p) lines placed t || is_picked_at (left_pick p) lines placed t) =
    of_either g none own (last || left) (none_twice e (is_of_line p.line t) (is_of_line p.last t) (is_of_line p.left t) (is_apart t)
    (is_left lines placed (beside_line p.line t) && true) (is_left lines placed (beside_line p.last t) && true) (is_left lines placed (beside_line p.left t))) in
    let second : g (is_picked_at (last_pick p) lines placed t || is_picked_at (left_pick p) lines placed t) ≡ g (is_picked_at (last_pick p) lines placed t) +ℤ g (is_picked_at (left_pick p) lines placed t) =
    of_either g none last left (last_or_left e (is_of_line p.last t) (is_of_line p.left t) (is_apart t)
    (is_left lines placed (beside_line p.last t) && true) (is_left lines placed (beside_line p.left t))) in
    omega (arith, ints, first, second)

filtered_sum : {A : Type 0} (f : A → ℤ) (p : A → Bool) (xs : List A) → int_sum f (filter p xs) ≡ int_sum (λ x. cond (p x) (f x) (pos 0)) xs
filtered_sum f p [] = refl
filtered_sum f p (x ∷ xs) = by_test (p x) (int_sum f (filter p xs)) (int_sum (λ y. cond (p y) (f y) (pos 0)) xs) (filtered_sum f p xs) refl
  where
    by_test : (b : Bool) (u v : ℤ) → u ≡ v → int_sum f (filter p xs) ≡ u → int_sum f (cond b (x ∷ filter p xs) (filter p xs)) ≡ cond b (f x) (pos 0) +ℤ v
    by_test true u v rest is = ap (λ w. f x +ℤ w) (is ∙ rest)
    by_test false u v rest is = omega (arith, ints, rest, is)

pub changed_sum : (f : PartTerm → ℤ) (p : Placing) (lines placed : List LineId) (table : List PartTerm)
    → int_sum f (changed_terms p lines placed table) ≡ int_sum (λ (t : PartTerm). cond (changes p lines placed t.term) (f t) (pos 0)) table
changed_sum f p lines placed table =
    let part : Pick → PartTerm → ℤ = λ c t. cond (is_picked_at c lines placed t.term) (f t) (pos 0) in
    int_sum-append f (picked_terms (own_pick p) lines placed table ++ picked_terms (last_pick p) lines placed table) (picked_terms (left_pick p) lines placed table)
    ∙ ap (λ v. v +ℤ int_sum f (picked_terms (left_pick p) lines placed table)) (int_sum-append f (picked_terms (own_pick p) lines placed table) (picked_terms (last_pick p) lines placed table))
    ∙ ap (λ v. (v +ℤ int_sum f (picked_terms (last_pick p) lines placed table)) +ℤ int_sum f (picked_terms (left_pick p) lines placed table))
    (filtered_sum f (λ (t : PartTerm). is_picked_at (own_pick p) lines placed t.term) table)
    ∙ ap (λ v. (int_sum (part (own_pick p)) table +ℤ v) +ℤ int_sum f (picked_terms (left_pick p) lines placed table))
    (filtered_sum f (λ (t : PartTerm). is_picked_at (last_pick p) lines placed t.term) table)
    ∙ ap (λ v. (int_sum (part (own_pick p)) table +ℤ int_sum (part (last_pick p)) table) +ℤ v)
    (filtered_sum f (λ (t : PartTerm). is_picked_at (left_pick p) lines placed t.term) table)
    ∙ sym (int_sum_both (λ t. part (own_pick p) t +ℤ part (last_pick p) t) (part (left_pick p)) table ∙ ap (λ v. v +ℤ int_sum (part (left_pick p)) table) (int_sum_both (part (own_pick p)) (part (last_pick p)) table))
    ∙ int_sum_equal (λ t. (part (own_pick p) t +ℤ part (last_pick p) t) +ℤ part (left_pick p) t) (λ (t : PartTerm). cond (changes p lines placed t.term) (f t) (pos 0)) table
    (λ t. in_picks (λ b. cond b (f t) (pos 0)) refl p lines placed t.term)

filter_shorter : {A : Type 0} (p : A → Bool) (xs : List A) → length (filter p xs) ≤ length xs
filter_shorter p xs = omega (arith, length-filter_both p (λ x. not (p x)) (λ x. refl) xs)

-- the terms that a placing may change are those that its test picks
pub changed_are : (p : Placing) (lines placed : List LineId) (asked : Asked) (some : List PartTerm) → AreTerms asked.problem.now.segs asked.table.now.terms.items
    → length asked.table.now.terms.items ≤ 4000000 → some ≡ changed_terms p lines placed asked.table.now.terms.items → AreThose (changes p lines placed) asked some
changed_are p lines placed asked some fits few is = record {
  fits = subst (AreTerms asked.problem.now.segs) (sym is)
      (All-append (λ (t : PartTerm). IsTerm asked.problem.now.segs t.term) (picked_terms (own_pick p) lines placed table ++ picked_terms (last_pick p) lines placed table) (picked_terms (left_pick p) lines placed table)
      (All-append (λ (t : PartTerm). IsTerm asked.problem.now.segs t.term) (picked_terms (own_pick p) lines placed table) (picked_terms (last_pick p) lines placed table) (of_pick (own_pick p)) (of_pick (last_pick p)))
      (of_pick (left_pick p)));
  few = omega (
    arith,
    ap length is,
    few,
    length-append (picked_terms (own_pick p) lines placed table ++ picked_terms (last_pick p) lines placed table) (picked_terms (left_pick p) lines placed table),
    length-append (picked_terms (own_pick p) lines placed table) (picked_terms (last_pick p) lines placed table),
    filter_shorter (λ (t : PartTerm). is_picked_at (own_pick p) lines placed t.term) table,
    filter_shorter (λ (t : PartTerm). is_picked_at (last_pick p) lines placed t.term) table,
    filter_shorter (λ (t : PartTerm). is_picked_at (left_pick p) lines placed t.term) table,
  );
  sums = λ f. ap (int_sum f) is ∙ changed_sum f p lines placed table;
}
  where
    table : List PartTerm
    table = asked.table.now.terms.items

    of_pick : (c : Pick) → AreTerms asked.problem.now.segs (picked_terms c lines placed table)
    of_pick c = All-filter (λ (t : PartTerm). is_picked_at c lines placed t.term) (λ (t : PartTerm). IsTerm asked.problem.now.segs t.term) table fits

-- The terms that a pick picks of those at its spot.

at_front : (front terms : List PartTerm) (t : PartTerm) → get_or (front ++ t ∷ terms) (length front) no_part_term ≡ t
at_front [] terms t = refl
at_front (s ∷ front) terms t = at_front front terms t

of_rest : (c : Pick) (lines placed : List LineId) (front terms whole : List PartTerm) (n : ℕ) → whole ≡ front ++ terms → n ≡ length front
    → picked_of c lines placed whole (terms_at c.spot n terms) ≡ picked_terms c lines placed terms
of_rest c lines placed front [] whole n is count = refl
of_rest c lines placed front (t ∷ terms) whole n is count =
    by_test (is_at c.spot t.term)
    (of_rest c lines placed (front ++ t ∷ []) terms whole (suc n) (is ∙ sym (append_assoc front (t ∷ []) terms)) (omega (arith, count, length-append front (t ∷ []))))
  where
    rest : List SpotTerm
    rest = terms_at c.spot (suc n) terms

    here : get_or whole n no_part_term ≡ t
    here = ap (λ l. get_or l n no_part_term) is ∙ ap (λ k. get_or (front ++ t ∷ terms) k no_part_term) count ∙ at_front front terms t

    by_pick : (b : Bool) (others : List PartTerm) → cond b (t ∷ []) [] ++ others ≡ cond b (t ∷ others) others
    by_pick true others = refl
    by_pick false others = refl

    by_test : (b : Bool) → picked_of c lines placed whole rest ≡ picked_terms c lines placed terms
        → picked_of c lines placed whole (cond b (spot_term n c.spot t.term ∷ rest) rest) ≡ cond (b && is_picked c lines placed t.term) (t ∷ picked_terms c lines placed terms) (picked_terms c lines placed terms)
    by_test true others =
        ap (λ (own : PartTerm). cond (is_left lines placed (beside_line c.spot.line t.term) && not (is_of_any c.but own.term)) (own ∷ []) [] ++ picked_of c lines placed whole rest) here
        ∙ ap (λ l. cond (is_picked c lines placed t.term) (t ∷ []) [] ++ l) others
        ∙ by_pick (is_picked c lines placed t.term) (picked_terms c lines placed terms)
    by_test false others = others

pub picked_of_spot : (c : Pick) (lines placed : List LineId) (table : List PartTerm) → picked_of c lines placed table (terms_at c.spot 0 table) ≡ picked_terms c lines placed table
picked_of_spot c lines placed table = of_rest c lines placed [] table table 0 refl refl

-- where the other line that is left is the one that is placed last, its pick picks none
pub left_none : (p : Placing) (lines placed : List LineId) (table : List PartTerm) → p.left.0 ≡ p.last.0 → picked_terms (left_pick p) lines placed table ≡ []
left_none p lines placed [] same = refl
left_none p lines placed (t ∷ table) same =
    ap (λ b. cond b (t ∷ picked_terms (left_pick p) lines placed table) (picked_terms (left_pick p) lines placed table)) none ∙ left_none p lines placed table same
  where
    by_test : (e b x r : Bool) → ((e && (beq x true && b)) && (r && not b)) ≡ false
    by_test false b x r = refl
    by_test true b false r = refl
    by_test true false true r = refl
    by_test true true true r = and-false r

    none : is_picked_at (left_pick p) lines placed t.term ≡ false
    none =
        ap (λ (l : LineId). (is_on p.seg.0 t.term && (beq (is_apart t.term) true && is_of_line l t.term)) && (is_left lines placed (beside_line p.left t.term) && not (is_of_line p.last t.term)))
        (line_is p.left p.last same)
        ∙ by_test (is_on p.seg.0 t.term) (is_of_line p.last t.term) (is_apart t.term) (is_left lines placed (beside_line p.left t.term))

-- The picks of a placing, one after the other.

picked_append : (c : Pick) (lines placed : List LineId) (terms : List PartTerm) (xs ys : List SpotTerm)
    → picked_of c lines placed terms (xs ++ ys) ≡ picked_of c lines placed terms xs ++ picked_of c lines placed terms ys
picked_append c lines placed terms [] ys = refl
picked_append c lines placed terms (x ∷ xs) ys =
    let own : List PartTerm = cond (is_picked_of c lines placed terms x) (term_of terms x ∷ []) [] in
    ap (λ l. own ++ l) (picked_append c lines placed terms xs ys) ∙ sym (append_assoc own (picked_of c lines placed terms xs) (picked_of c lines placed terms ys))

pub picked_more : (c : Pick) (lines placed : List LineId) (terms : List PartTerm) (some : List SpotTerm) (t : SpotTerm) (old list more : List PartTerm) (i : ℕ) → i < length some
    → t ≡ get_or some i t → list ≡ old ++ picked_of c lines placed terms (take i some) → more ≡ list ++ cond (is_picked_of c lines placed terms t) (term_of terms t ∷ []) []
    → more ≡ old ++ picked_of c lines placed terms (take (i + 1) some)
picked_more c lines placed terms some t old list more i below is before pushed =
    let first : List PartTerm = picked_of c lines placed terms (take i some) in
    let next : List PartTerm = cond (is_picked_of c lines placed terms t) (term_of terms t ∷ []) [] in
    pushed ∙ ap (λ l. l ++ next) before ∙ append_assoc old first next
    ∙ ap (λ l. old ++ l)
    (sym (ap (picked_of c lines placed terms) (take_more some i t below ∙ ap (λ (x : SpotTerm). take i some ++ x ∷ []) (sym is)) ∙ picked_append c lines placed terms (take i some) (t ∷ []) ∙ ap (λ l. first ++ l) (append-nil next)))

abbrev pub of_pick : List (List LineId) → List (List LineId) → List PartTerm → Pick → List PartTerm
of_pick segs placed table c = picked_terms c (lines_on segs c.spot.seg) (lines_on placed c.spot.seg) table

pub two_picked : (p : Placing) (segs placed : List (List LineId)) (table none one two : List PartTerm) (a b : Pick) → a ≡ own_pick p → b ≡ last_pick p → none ≡ []
    → one ≡ none ++ of_pick segs placed table a → two ≡ one ++ of_pick segs placed table b → two ≡ of_pick segs placed table (own_pick p) ++ of_pick segs placed table (last_pick p)
two_picked p segs placed table none one two a b own last empty first second =
    second ∙ ap (λ q. one ++ of_pick segs placed table q) last
    ∙ ap (λ l. l ++ of_pick segs placed table (last_pick p)) (first ∙ ap (λ q. none ++ of_pick segs placed table q) own ∙ ap (λ l. l ++ of_pick segs placed table (own_pick p)) empty)

pub all_picked : (p : Placing) (segs placed : List (List LineId)) (table two three : List PartTerm) (c : Pick) → c ≡ left_pick p
    → two ≡ of_pick segs placed table (own_pick p) ++ of_pick segs placed table (last_pick p) → three ≡ two ++ of_pick segs placed table c
    → three ≡ changed_terms p (lines_on segs p.seg) (lines_on placed p.seg) table
all_picked p segs placed table two three c left both third =
    third ∙ ap (λ q. two ++ of_pick segs placed table q) left ∙ ap (λ l. l ++ of_pick segs placed table (left_pick p)) both

pub none_left : (p : Placing) (segs placed : List (List LineId)) (table two : List PartTerm) → p.left.0 ≡ p.last.0
    → two ≡ of_pick segs placed table (own_pick p) ++ of_pick segs placed table (last_pick p) → two ≡ changed_terms p (lines_on segs p.seg) (lines_on placed p.seg) table
none_left p segs placed table two same both =
    let pair : List PartTerm = of_pick segs placed table (own_pick p) ++ of_pick segs placed table (last_pick p) in
    both ∙ sym (ap (λ l. pair ++ l) (left_none p (lines_on segs p.seg) (lines_on placed p.seg) table same) ∙ append-nil pair)
