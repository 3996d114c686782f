-- The prefixes of a part, listed.
use Rattle.std.proofs.Common.{◌≡◌, ◌≢◌, refl, sym, ◌∙◌, ap, ap₂, subst, ℕ, zero, suc, ◌+◌, ◌-◌, ◌*◌, ◌≤◌, inl, inr, Bool, true, false, cond, not, ◌==◌, ◌&&◌, ◌||◌, List, [], ◌∷◌, length, map, filter, get_or, count_by, flat_map, All, arith}
use Rattle.std.proofs.lemmas.Bool.{and_from, and_parts, eq-eqb, eqb-true, eqb-false, false_from_ne_true, not-true, not_from_false, or_cases, or_from, or_left, or_parts, or_right, true≢false}
use Rattle.std.proofs.lemmas.List.{length-map}
use Rattle.std.proofs.lemmas.List.Elements.{recursion_from_All}
use Rattle.std.proofs.lemmas.List.Sums.{sum_by-append}
use Rattle.std.proofs.Math.Nat.{add-mul}
use Rattle.std.specs.List.{AllByRecursion}
use Rattle.map_base.specs.declared.ids.LineId.{LineId}
use Rattle.map_base.specs.declared.ids.SegId.{SegId}
use Rattle.graph_core.specs.Consistent.{AreRising}
use Rattle.order_model.specs.Places.{has_line}
use Rattle.order_model.specs.Problems.{lines_on}
use Rattle.order_model.proofs.Lines.{same_line}
use Rattle.order_search.specs.Finding.{incomplete_in, orders_of, prefixes_of, product}
use Rattle.order_laws.specs.Counts.{are_complete, are_lines_of, AreCounted, AreOnce, ArePrefixes, IsIn, IsIncomplete, IsPrefix}
use Rattle.order_laws.proofs.Once.{count_cons, count_flat, count_map, count_same, from_flat, from_kept, from_map, in_flat, in_kept, in_map, length_flat, length_rest, once_flat, once_kept, once_map}

-- ---- lines without repeats

abbrev AreDistinct : List LineId → Type 0
AreDistinct [] = Unit {0}
AreDistinct (a ∷ lines) = (has_line lines a ≡ false) × AreDistinct lines

rising_distinct : (lines : List LineId) → AreRising lines → AreDistinct lines
rising_distinct [] rising = tt
rising_distinct (a ∷ []) rising = (refl, tt)
rising_distinct (a ∷ b ∷ lines) rising = (none a (b ∷ lines) (rising.0, rising.1), rising_distinct (b ∷ lines) rising.1)
  where
    none : (a : LineId) (lines : List LineId) → AreRising (a ∷ lines) → has_line lines a ≡ false
    none a [] rising = refl
    none a (b ∷ []) rising = or_from (b.0 == a.0) false (false_from_ne_true (b.0 == a.0) (λ e. omega (arith, eqb-true b.0 a.0 e, rising))) refl
    none a (b ∷ c ∷ lines) rising =
        let first = rising.0 in
        let second = rising.1.0 in
        or_from (b.0 == a.0) (has_line (c ∷ lines) a) (false_from_ne_true (b.0 == a.0) (λ e. omega (arith, eqb-true b.0 a.0 e, first)))
        (none a (c ∷ lines) (omega (arith, first, second), rising.1.1))

abbrev without : LineId → List LineId → List LineId
without a lines = filter (λ (b : LineId). not (b.0 == a.0)) lines

without_none : (a : LineId) (lines : List LineId) → has_line lines a ≡ false → without a lines ≡ lines
without_none a [] e = refl
without_none a (b ∷ lines) e =
    let parts = or_parts (b.0 == a.0) (has_line lines a) e in
    ap (λ (t : Bool). cond (not t) (b ∷ without a lines) (without a lines)) parts.0 ∙ ap (λ (ls : List LineId). b ∷ ls) (without_none a lines parts.1)

one_more : (m n : ℕ) → m + 1 ≡ n → suc m + 1 ≡ suc n
one_more m n e = omega arith

-- without a line there is one fewer, and all others stay
without_length : (a : LineId) (lines : List LineId) → AreDistinct lines → has_line lines a ≡ true → length (without a lines) + 1 ≡ length lines
without_length a [] distinct on = absurd (true≢false (sym on))
without_length a (b ∷ lines) distinct on = by (b.0 == a.0) refl (λ later. without_length a lines distinct.1 later)
  where
    by : (t : Bool) → (b.0 == a.0) ≡ t → (has_line lines a ≡ true → length (without a lines) + 1 ≡ length lines)
        → length (cond (not (b.0 == a.0)) (b ∷ without a lines) (without a lines)) + 1 ≡ suc (length lines)
    by true e rest =
        let gone : without a lines ≡ lines = without_none a lines (ap (has_line lines) (sym (same_line b a e)) ∙ distinct.0) in
        ap (λ (t : Bool). length (cond (not t) (b ∷ without a lines) (without a lines)) + 1) e ∙ ap (λ (ls : List LineId). length ls + 1) gone ∙ omega arith
    by false e rest =
        let later : has_line lines a ≡ true = elim (or_cases (b.0 == a.0) (has_line lines a) on) [
          | inl same ↦ absurd (true≢false (sym same ∙ e))
          | inr rest ↦ rest
        ] in
        ap (λ (t : Bool). length (cond (not t) (b ∷ without a lines) (without a lines)) + 1) e ∙ one_more (length (without a lines)) (length lines) (rest later)

without_has : (a b : LineId) (lines : List LineId) → has_line (without a lines) b ≡ has_line lines b && not (b.0 == a.0)
without_has a b [] = refl
without_has a b (c ∷ lines) = by (c.0 == a.0) refl (c.0 == b.0) refl (without_has a b lines)
  where
    kept_out : (x : Bool) → (x && false) ≡ false
    kept_out true = refl
    kept_out false = refl

    by : (t : Bool) → (c.0 == a.0) ≡ t → (u : Bool) → (c.0 == b.0) ≡ u → (has_line (without a lines) b ≡ (has_line lines b && not (b.0 == a.0)))
        → has_line (cond (not (c.0 == a.0)) (c ∷ without a lines) (without a lines)) b ≡ (c.0 == b.0 || has_line lines b) && not (b.0 == a.0)
    by true e true f rest =
        let same : (b.0 == a.0) ≡ true = ap (λ (n : ℕ). n == a.0) (sym (eqb-true c.0 b.0 f)) ∙ e in
        ap (λ (t : Bool). has_line (cond (not t) (c ∷ without a lines) (without a lines)) b) e ∙ rest ∙ ap (λ (t : Bool). has_line lines b && not t) same ∙ kept_out (has_line lines b)
        ∙ sym (ap (λ (t : Bool). (c.0 == b.0 || has_line lines b) && not t) same ∙ kept_out (c.0 == b.0 || has_line lines b))
    by true e false f rest =
        ap (λ (t : Bool). has_line (cond (not t) (c ∷ without a lines) (without a lines)) b) e ∙ rest ∙ sym (ap (λ (t : Bool). (t || has_line lines b) && not (b.0 == a.0)) f)
    by false e true f rest =
        let other : (b.0 == a.0) ≡ false = ap (λ (n : ℕ). n == a.0) (sym (eqb-true c.0 b.0 f)) ∙ e in
        ap (λ (t : Bool). has_line (cond (not t) (c ∷ without a lines) (without a lines)) b) e ∙ ap (λ (t : Bool). t || has_line (without a lines) b) f
        ∙ sym (ap (λ (t : Bool). (t || has_line lines b) && not (b.0 == a.0)) f ∙ ap not other)
    by false e false f rest =
        ap (λ (t : Bool). has_line (cond (not t) (c ∷ without a lines) (without a lines)) b) e ∙ ap (λ (t : Bool). t || has_line (without a lines) b) f ∙ rest
        ∙ sym (ap (λ (t : Bool). (t || has_line lines b) && not (b.0 == a.0)) f)

without_distinct : (a : LineId) (lines : List LineId) → AreDistinct lines → AreDistinct (without a lines)
without_distinct a [] distinct = tt
without_distinct a (b ∷ lines) distinct = by (not (b.0 == a.0)) (without_distinct a lines distinct.1)
  where
    by : (t : Bool) → AreDistinct (without a lines) → AreDistinct (cond t (b ∷ without a lines) (without a lines))
    by true rest = (without_has a b lines ∙ ap (λ (t : Bool). t && not (b.0 == a.0)) distinct.0, rest)
    by false rest = rest

-- ---- the prefixes of one segment

-- the prefixes of n lines
abbrev pub prefixes : ℕ → List LineId → List (List LineId)
prefixes zero lines = [] ∷ []
prefixes (suc zero) lines = lines ∷ []
prefixes (suc (suc n)) lines = [] ∷ flat_map (λ a. map (λ (p : List LineId). a ∷ p) (prefixes (suc n) (without a lines))) lines

abbrev begun_with : ℕ → List LineId → LineId → List (List LineId)
begun_with n lines a = map (λ (p : List LineId). a ∷ p) (prefixes (suc n) (without a lines))

in_has : (a : LineId) (lines : List LineId) → IsIn a lines → has_line lines a ≡ true
in_has a [] m = absurd m
in_has a (b ∷ lines) (inl e) = or_left (b.0 == a.0) (has_line lines a) (eq-eqb b.0 a.0 (ap (λ (l : LineId). l.0) (sym e)))
in_has a (b ∷ lines) (inr m) = or_right (b.0 == a.0) (has_line lines a) (in_has a lines m)

has_in : (a : LineId) (lines : List LineId) → has_line lines a ≡ true → IsIn a lines
has_in a [] h = absurd (true≢false (sym h))
has_in a (b ∷ lines) h = elim (or_cases (b.0 == a.0) (has_line lines a) h) [
  | inl here ↦ inl (sym (same_line b a here))
  | inr later ↦ inr (has_in a lines later)
]

without_few : (n : ℕ) (a : LineId) (lines : List LineId) → AreDistinct lines → length lines ≡ suc (suc n) → IsIn a lines → length (without a lines) ≡ suc n
without_few n a lines distinct long on = omega (arith, without_length a lines distinct (in_has a lines on), long)

prefixes_long : (n : ℕ) (lines : List LineId) → AreDistinct lines → length lines ≡ n → length (prefixes n lines) ≡ prefixes_of n
prefixes_long zero lines distinct long = refl
prefixes_long (suc zero) lines distinct long = refl
prefixes_long (suc (suc n)) lines distinct long =
    let flat : length (flat_map (begun_with n lines) lines) ≡ suc (suc n) * prefixes_of (suc n) =
    length_flat (begun_with n lines) (prefixes_of (suc n)) lines
    (λ a on. length-map (prefixes (suc n) (without a lines)) (λ (p : List LineId). a ∷ p)
    ∙ prefixes_long (suc n) (without a lines) (without_distinct a lines distinct) (without_few n a lines distinct long on))
    ∙ ap (λ (k : ℕ). k * prefixes_of (suc n)) long in
    omega (arith, flat)

same_tail : {a b : LineId} {p q : List LineId} → (a ∷ p) ≡ (b ∷ q) → p ≡ q
same_tail e = cc

same_head : {a b : LineId} {p q : List LineId} → (a ∷ p) ≡ (b ∷ q) → a ≡ b
same_head e = cc

distinct_once : (lines : List LineId) → AreDistinct lines → AreOnce lines
distinct_once [] distinct = tt
distinct_once (a ∷ lines) distinct = ((λ m. true≢false (sym (in_has a lines m) ∙ distinct.0)), distinct_once lines distinct.1)

prefixes_once : (n : ℕ) (lines : List LineId) → AreDistinct lines → length lines ≡ n → AreOnce (prefixes n lines)
prefixes_once zero lines distinct long = ((λ m. m), tt)
prefixes_once (suc zero) lines distinct long = ((λ m. m), tt)
prefixes_once (suc (suc n)) lines distinct long = (
  never_empty,
  once_flat (begun_with n lines) lines (distinct_once lines distinct)
      (λ a on. once_map (λ (p : List LineId). a ∷ p) (prefixes (suc n) (without a lines)) (λ p q e. same_tail e)
      (prefixes_once (suc n) (without a lines) (without_distinct a lines distinct) (without_few n a lines distinct long on)))
      first_tells,
)
  where
    never_empty : IsIn [] (flat_map (begun_with n lines) lines) → ⊥
    never_empty m =
        let from = from_flat (begun_with n lines) lines [] m in
        let whole = from_map (λ (p : List LineId). from.0 ∷ p) (prefixes (suc n) (without from.0 lines)) [] from.2 in
        cons_is_not_empty whole.2
      where
        cons_is_not_empty : {a : LineId} {p : List LineId} → [] ≡ (a ∷ p) → ⊥
        cons_is_not_empty e = cc

    first_tells : (a b : LineId) (p : List LineId) → IsIn p (begun_with n lines a) → IsIn p (begun_with n lines b) → a ≡ b
    first_tells a b p one other =
        let here = from_map (λ (q : List LineId). a ∷ q) (prefixes (suc n) (without a lines)) p one in
        let there = from_map (λ (q : List LineId). b ∷ q) (prefixes (suc n) (without b lines)) p other in
        same_head (sym here.2 ∙ there.2)

-- lines of a list without a line are lines of the list, and the line is not among them; and the other way round
lines_without : (a : LineId) (lines placed : List LineId) → are_lines_of (without a lines) placed ≡ true → (are_lines_of lines placed ≡ true) × (has_line placed a ≡ false)
lines_without a lines [] h = (refl, refl)
lines_without a lines (b ∷ placed) h =
    let both = and_parts (has_line (without a lines) b && not (has_line placed b)) (are_lines_of (without a lines) placed) h in
    let one = and_parts (has_line (without a lines) b) (not (has_line placed b)) both.0 in
    let on = and_parts (has_line lines b) (not (b.0 == a.0)) (sym (without_has a b lines) ∙ one.0) in
    let rest = lines_without a lines placed both.1 in (
      and_from (has_line lines b && not (has_line placed b)) (are_lines_of lines placed) (and_from (has_line lines b) (not (has_line placed b)) on.0 one.1) rest.0,
      or_from (b.0 == a.0) (has_line placed a) (not-true (b.0 == a.0) on.1) rest.1,
    )

lines_within : (a : LineId) (lines placed : List LineId) → are_lines_of lines placed ≡ true → has_line placed a ≡ false → are_lines_of (without a lines) placed ≡ true
lines_within a lines [] h off = refl
lines_within a lines (b ∷ placed) h off =
    let both = and_parts (has_line lines b && not (has_line placed b)) (are_lines_of lines placed) h in
    let one = and_parts (has_line lines b) (not (has_line placed b)) both.0 in
    let parts = or_parts (b.0 == a.0) (has_line placed a) off in
    and_from (has_line (without a lines) b && not (has_line placed b)) (are_lines_of (without a lines) placed)
    (and_from (has_line (without a lines) b) (not (has_line placed b))
    (without_has a b lines ∙ and_from (has_line lines b) (not (b.0 == a.0)) one.0 (not_from_false (b.0 == a.0) parts.0)) one.1)
    (lines_within a lines placed both.1 parts.1)

-- different lines of a list are at most as many
lines_few : (lines placed : List LineId) → AreDistinct lines → are_lines_of lines placed ≡ true → length placed ≤ length lines
lines_few lines [] distinct h = omega arith
lines_few lines (a ∷ placed) distinct h =
    let both = and_parts (has_line lines a && not (has_line placed a)) (are_lines_of lines placed) h in
    let one = and_parts (has_line lines a) (not (has_line placed a)) both.0 in
    let fewer = without_length a lines distinct one.0 in
    let rest = lines_few (without a lines) placed (without_distinct a lines distinct) (lines_within a lines placed both.1 (not-true (has_line placed a) one.1)) in
    omega (arith, fewer, rest)

one_line : (lines placed : List LineId) → AreDistinct lines → length lines ≡ 1 → IsPrefix lines placed → placed ≡ lines
one_line [] placed distinct long is = absurd (omega (arith, long))
one_line (a ∷ b ∷ lines) placed distinct long is = absurd (omega (arith, long))
one_line (a ∷ []) [] distinct long is = absurd (is.not_last refl)
one_line (a ∷ []) (b ∷ []) distinct long is =
    let both = and_parts (has_line (a ∷ []) b && true) true is.lines_of in
    let on = and_parts (has_line (a ∷ []) b) true both.0 in
    elim (or_cases (a.0 == b.0) false on.0) [
      | inl same ↦ ap (λ (l : LineId). l ∷ []) (sym (same_line a b same))
      | inr none ↦ absurd (true≢false (sym none))
    ]
one_line (a ∷ []) (b ∷ c ∷ placed) distinct long is = absurd (omega (arith, lines_few (a ∷ []) (b ∷ c ∷ placed) distinct is.lines_of))

pub prefix_listed : (n : ℕ) (lines placed : List LineId) → AreDistinct lines → length lines ≡ n → IsPrefix lines placed → IsIn placed (prefixes n lines)
prefix_listed zero lines [] distinct long is = inl refl
prefix_listed zero lines (a ∷ placed) distinct long is = absurd (omega (arith, lines_few lines (a ∷ placed) distinct is.lines_of, long))
prefix_listed (suc zero) lines placed distinct long is = inl (one_line lines placed distinct long is)
prefix_listed (suc (suc n)) lines [] distinct long is = inl refl
prefix_listed (suc (suc n)) lines (a ∷ placed) distinct long is =
    let both = and_parts (has_line lines a && not (has_line placed a)) (are_lines_of lines placed) is.lines_of in
    let one = and_parts (has_line lines a) (not (has_line placed a)) both.0 in
    let on = has_in a lines one.0 in
    let few = without_few n a lines distinct long on in
    inr (in_flat (begun_with n lines) lines a (a ∷ placed) on
    (in_map (λ (p : List LineId). a ∷ p) (prefixes (suc n) (without a lines)) placed
    (prefix_listed (suc n) (without a lines) placed (without_distinct a lines distinct) few (record {
      lines_of = lines_within a lines placed both.1 (not-true (has_line placed a) one.1);
      not_last = λ last. is.not_last (omega (arith, last, few, long));
    }))))

pub listed_prefix : (n : ℕ) (lines placed : List LineId) → AreDistinct lines → length lines ≡ n → IsIn placed (prefixes n lines) → IsPrefix lines placed
listed_prefix zero lines placed distinct long (inl e) = subst (IsPrefix lines) (sym e) (record { lines_of = refl; not_last = λ last. omega (arith, last, long) })
listed_prefix zero lines placed distinct long (inr m) = absurd m
listed_prefix (suc zero) lines placed distinct long (inl e) =
    subst (IsPrefix lines) (sym e) (record { lines_of = own lines distinct; not_last = λ last. omega (arith, last) })
  where
    widened : (b : LineId) (lines placed : List LineId) → are_lines_of lines placed ≡ true → are_lines_of (b ∷ lines) placed ≡ true
    widened b lines [] h = refl
    widened b lines (a ∷ placed) h =
        let both = and_parts (has_line lines a && not (has_line placed a)) (are_lines_of lines placed) h in
        let one = and_parts (has_line lines a) (not (has_line placed a)) both.0 in
        and_from (has_line (b ∷ lines) a && not (has_line placed a)) (are_lines_of (b ∷ lines) placed)
        (and_from (has_line (b ∷ lines) a) (not (has_line placed a)) (or_right (b.0 == a.0) (has_line lines a) one.0) one.1) (widened b lines placed both.1)

    own : (lines : List LineId) → AreDistinct lines → are_lines_of lines lines ≡ true
    own [] distinct = refl
    own (a ∷ lines) distinct =
        and_from (has_line (a ∷ lines) a && not (has_line lines a)) (are_lines_of (a ∷ lines) lines)
        (and_from (has_line (a ∷ lines) a) (not (has_line lines a)) (or_left (a.0 == a.0) (has_line lines a) (eq-eqb a.0 a.0 refl)) (not_from_false (has_line lines a) distinct.0))
        (widened a lines lines (own lines distinct.1))
listed_prefix (suc zero) lines placed distinct long (inr m) = absurd m
listed_prefix (suc (suc n)) lines placed distinct long (inl e) = subst (IsPrefix lines) (sym e) (record { lines_of = refl; not_last = λ last. omega (arith, last, long) })
listed_prefix (suc (suc n)) lines placed distinct long (inr m) =
    let from = from_flat (begun_with n lines) lines placed m in
    let whole = from_map (λ (p : List LineId). from.0 ∷ p) (prefixes (suc n) (without from.0 lines)) placed from.2 in
    let few = without_few n from.0 lines distinct long from.1 in
    let rest = listed_prefix (suc n) (without from.0 lines) whole.0 (without_distinct from.0 lines distinct) few whole.1 in
    let lines_are = lines_without from.0 lines whole.0 rest.lines_of in
    subst (IsPrefix lines) (sym whole.2) (record {
      lines_of = and_from (has_line lines from.0 && not (has_line whole.0 from.0)) (are_lines_of lines whole.0)
          (and_from (has_line lines from.0) (not (has_line whole.0 from.0)) (in_has from.0 lines from.1) (not_from_false (has_line whole.0 from.0) lines_are.1)) lines_are.0;
      not_last = λ last. rest.not_last (omega (arith, last, few, long));
    })

-- numbers are the same where the next ones are
same_suc : (a b : ℕ) → (suc a == suc b) ≡ (a == b)
same_suc a b = by (a == b) refl
  where
    by : (t : Bool) → (a == b) ≡ t → (suc a == suc b) ≡ t
    by true e = eq-eqb (suc a) (suc b) (ap suc (eqb-true a b e))
    by false e = false_from_ne_true (suc a == suc b) (λ h. omega (arith, eqb-false a b e, eqb-true (suc a) (suc b) h))

-- how many of them place all lines
complete_count : (n : ℕ) (lines : List LineId) → AreDistinct lines → length lines ≡ n → count_by (λ (p : List LineId). length p == n) (prefixes n lines) ≡ orders_of n
complete_count zero lines distinct long = refl
complete_count (suc zero) lines distinct long =
    let one : ◌≡◌ {A = ℕ} (cond (length lines == 1) 1 0) 1 = ap (λ (b : Bool). cond {A = ℕ} b 1 0) (eq-eqb (length lines) 1 long) in
    omega (arith, count_cons (λ (p : List LineId). length p == 1) lines [], one)
complete_count (suc (suc n)) lines distinct long =
    let none = count_cons (λ (p : List LineId). length p == suc (suc n)) [] (flat_map (begun_with n lines) lines) in
    let flat : count_by (λ (p : List LineId). length p == suc (suc n)) (flat_map (begun_with n lines) lines) ≡ suc (suc n) * orders_of (suc n) =
    count_flat (λ (p : List LineId). length p == suc (suc n)) (begun_with n lines) (orders_of (suc n)) lines
    (λ a on. count_map (λ (p : List LineId). length p == suc (suc n)) (λ (p : List LineId). a ∷ p) (prefixes (suc n) (without a lines))
    ∙ count_same (λ (p : List LineId). length (a ∷ p) == suc (suc n)) (λ (p : List LineId). length p == suc n) (prefixes (suc n) (without a lines)) (λ p. same_suc (length p) (suc n))
    ∙ complete_count (suc n) (without a lines) (without_distinct a lines distinct) (without_few n a lines distinct long on))
    ∙ ap (λ (k : ℕ). k * orders_of (suc n)) long in
    let not_all : ◌≡◌ {A = ℕ} (cond (length {A = LineId} [] == suc (suc n)) 1 0) 0 =
    ap (λ (b : Bool). cond {A = ℕ} b 1 0) (false_from_ne_true (length {A = LineId} [] == suc (suc n)) (λ h. omega (arith, eqb-true (length {A = LineId} []) (suc (suc n)) h))) in
    omega (arith, none, flat, not_all)

-- ---- the prefixes of a part

module _ (segs : List (List LineId)) (distinct : (s : SegId) → AreDistinct (lines_on segs s)) where
  abbrev own_prefixes : SegId → List (List LineId)
  own_prefixes s = prefixes (length (lines_on segs s)) (lines_on segs s)

  abbrev tuples : List SegId → List (List (List LineId))
  tuples [] = [] ∷ []
  tuples (s ∷ part) = flat_map (λ p. map (λ (rest : List (List LineId)). p ∷ rest) (tuples part)) (own_prefixes s)

  abbrev followed_by : List SegId → List LineId → List (List (List LineId))
  followed_by part p = map (λ (rest : List (List LineId)). p ∷ rest) (tuples part)

  tuples_long : (part : List SegId) → length (tuples part) ≡ product (λ s. prefixes_of (length (lines_on segs s))) part
  tuples_long [] = refl
  tuples_long (s ∷ part) =
      length_flat (followed_by part) (length (tuples part)) (own_prefixes s) (λ p on. length-map (tuples part) (λ (rest : List (List LineId)). p ∷ rest))
      ∙ ap (λ (k : ℕ). k * length (tuples part)) (prefixes_long (length (lines_on segs s)) (lines_on segs s) (distinct s) refl)
      ∙ ap (λ (k : ℕ). prefixes_of (length (lines_on segs s)) * k) (tuples_long part)

  tuples_once : (part : List SegId) → AreOnce (tuples part)
  tuples_once [] = ((λ m. m), tt)
  tuples_once (s ∷ part) =
      once_flat (followed_by part) (own_prefixes s) (prefixes_once (length (lines_on segs s)) (lines_on segs s) (distinct s) refl)
      (λ p on. once_map (λ (rest : List (List LineId)). p ∷ rest) (tuples part) (λ a b e. tails e) (tuples_once part))
      (λ p q lists one other. let here = from_map (λ (rest : List (List LineId)). p ∷ rest) (tuples part) lists one in
      let there = from_map (λ (rest : List (List LineId)). q ∷ rest) (tuples part) lists other in heads (sym here.2 ∙ there.2))
    where
      tails : {p q : List LineId} {a b : List (List LineId)} → (p ∷ a) ≡ (q ∷ b) → a ≡ b
      tails e = cc

      heads : {p q : List LineId} {a b : List (List LineId)} → (p ∷ a) ≡ (q ∷ b) → p ≡ q
      heads e = cc

  tuple_listed : (part : List SegId) (lists : List (List LineId)) → ArePrefixes segs part lists → IsIn lists (tuples part)
  tuple_listed [] [] are = inl refl
  tuple_listed [] (p ∷ lists) are = absurd are
  tuple_listed (s ∷ part) [] are = absurd are
  tuple_listed (s ∷ part) (p ∷ lists) are =
      in_flat (followed_by part) (own_prefixes s) p (p ∷ lists) (prefix_listed (length (lines_on segs s)) (lines_on segs s) p (distinct s) refl are.0)
      (in_map (λ (rest : List (List LineId)). p ∷ rest) (tuples part) lists (tuple_listed part lists are.1))

  listed_tuple : (part : List SegId) (lists : List (List LineId)) → IsIn lists (tuples part) → ArePrefixes segs part lists
  listed_tuple [] lists (inl e) = subst (ArePrefixes segs []) (sym e) tt
  listed_tuple [] lists (inr m) = absurd m
  listed_tuple (s ∷ part) lists m =
      let from = from_flat (followed_by part) (own_prefixes s) lists m in
      let whole = from_map (λ (rest : List (List LineId)). from.0 ∷ rest) (tuples part) lists from.2 in
      subst (ArePrefixes segs (s ∷ part)) (sym whole.2)
      (listed_prefix (length (lines_on segs s)) (lines_on segs s) from.0 (distinct s) refl from.1, listed_tuple part whole.0 whole.1)

  -- how many are complete: those of the first segment with those of the others
  complete_tuples : (part : List SegId) → count_by (are_complete segs part) (tuples part) ≡ product (λ s. orders_of (length (lines_on segs s))) part
  complete_tuples [] = refl
  complete_tuples (s ∷ part) =
      each (own_prefixes s)
      ∙ ap (λ (k : ℕ). k * count_by (are_complete segs part) (tuples part)) (complete_count (length (lines_on segs s)) (lines_on segs s) (distinct s) refl)
      ∙ ap (λ (k : ℕ). orders_of (length (lines_on segs s)) * k) (complete_tuples part)
    where
      none : (xs : List (List (List LineId))) → count_by (λ (rest : List (List LineId)). false) xs ≡ 0
      none [] = refl
      none (x ∷ xs) = omega (arith, count_cons (λ (rest : List (List LineId)). false) x xs, none xs)

      one : (p : List LineId)
          → count_by (are_complete segs (s ∷ part)) (followed_by part p) ≡ cond (length p == length (lines_on segs s)) 1 0 * count_by (are_complete segs part) (tuples part)
      one p =
          count_map (are_complete segs (s ∷ part)) (λ (rest : List (List LineId)). p ∷ rest) (tuples part) ∙ by (length p == length (lines_on segs s))
        where
          by : (b : Bool) → count_by (λ (rest : List (List LineId)). b && are_complete segs part rest) (tuples part) ≡ cond b 1 0 * count_by (are_complete segs part) (tuples part)
          by true = omega arith
          by false = omega (arith, none (tuples part))

      each : (ps : List (List LineId))
          → count_by (are_complete segs (s ∷ part)) (flat_map (followed_by part) ps)
          ≡ count_by (λ (p : List LineId). length p == length (lines_on segs s)) ps * count_by (are_complete segs part) (tuples part)
      each [] = omega arith
      each (p ∷ ps) =
          sum_by-append (λ (lists : List (List LineId)). cond {A = ℕ} (are_complete segs (s ∷ part) lists) 1 0) (followed_by part p) (flat_map (followed_by part) ps)
          ∙ ap₂ (λ (i j : ℕ). i + j) (one p) (each ps)
          ∙ sym (add-mul (cond {A = ℕ} (length p == length (lines_on segs s)) 1 0) (count_by (λ (q : List LineId). length q == length (lines_on segs s)) ps)
          (count_by (are_complete segs part) (tuples part)))
          ∙ ap (λ (k : ℕ). k * count_by (are_complete segs part) (tuples part)) (sym (count_cons (λ (q : List LineId). length q == length (lines_on segs s)) p ps))

  pub counted : (part : List SegId) → AreCounted (IsIncomplete segs part) (incomplete_in segs part)
  counted part = record {
    all = filter (λ lists. not (are_complete segs part lists)) (tuples part);
    once = once_kept (λ lists. not (are_complete segs part lists)) (tuples part) (tuples_once part);
    each = λ lists is.
        in_kept (λ lists. not (are_complete segs part lists)) (tuples part) lists (tuple_listed part lists is.prefixes) (not_from_false (are_complete segs part lists) is.some_left);
    only = λ lists m. let kept = from_kept (λ lists. not (are_complete segs part lists)) (tuples part) lists m in
        record { prefixes = listed_tuple part lists kept.0; some_left = not-true (are_complete segs part lists) kept.1 };
    counted = omega (arith, length_rest (are_complete segs part) (tuples part), tuples_long part, complete_tuples part);
  }

-- rising segments
on_rising : (segs : List (List LineId)) → AllByRecursion AreRising segs → (k : ℕ) → AreDistinct (get_or segs k [])
on_rising [] all k = tt
on_rising (lines ∷ segs) all zero = rising_distinct lines all.0
on_rising (lines ∷ segs) all (suc k) = on_rising segs all.1 k

pub incomplete_counted : (segs : List (List LineId)) (part : List SegId) → All AreRising segs → AreCounted (IsIncomplete segs part) (incomplete_in segs part)
incomplete_counted segs part rising = counted segs (λ s. on_rising segs (recursion_from_All AreRising segs rising) s.0) part
