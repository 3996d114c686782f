-- Groups of lines by the table of a segment, and where a segment has no terms.
use Rattle.std.proofs.Common.{◌≡◌, ℕ, zero, suc, ◌+◌, ◌*◌, ◌<◌, ◌≤◌, ◌^◌, ◌==◌, nat_le, Bool, true, false, not, cond, ◌||◌, ◌&&◌, Option, Some, None, List, [], ◌∷◌, ◌++◌, length, map, get_or, take, drop, max, refl, sym, ap, subst, ◌∙◌, arith, inl, inr, true≢false, eq-eqb, eqb-true}
use Rattle.std.specs.Prelude.{if◌then◌else◌, filter, Vec}
use Rattle.std.specs.Global.{Global}
use Rattle.std.specs.List.{list_all, list_any}
use Rattle.std.proofs.lemmas.List.{get_or-map, map-append, map_more, nil_from_length, at_drop_more, at_drop_all}
use Rattle.map_base.specs.declared.ids.SegId.{SegId}
use Rattle.map_base.specs.declared.ids.LineId.{LineId}
use Rattle.graph_core.specs.Consistent.{AreRising}
use Rattle.order_model.specs.declared.term.Term.{Term}
use Rattle.order_model.specs.Costs.{weight_of}
use Rattle.order_model.specs.Places.{has_line}
use Rattle.order_model.proofs.Lines.{both_true, either_true}
use Rattle.order_rules.specs.PairWeights.{is_side, is_apart, is_on, is_of_lines, weight_where, most_by}
use Rattle.order_rules.specs.Dividing.{are_none, is_rising, is_group, others, is_against, can_part, grown}
use Rattle.order_rules.proofs.PairSums.{sum_same}
use Rattle.order_rules.proofs.Unchanged.{all_alike}
use Rattle.order_sums.specs.declared.pair_sums.PairSums.{PairSums}
use Rattle.order_sums.specs.PairSums.{pair_sums, sums_part, each_parts, is_light}
use Rattle.order_sums.specs.PairTables.{lists_of, IsPlace, IsTable}
use Rattle.order_sums.proofs.TableReads.{row_is}
use Rattle.order_untangle.specs.Segments.{is_held_by, held_rows, most_by_lines, rows_of, group_if, group_by, first_group, first_alone, divides_by}
use Rattle.order_sums.proofs.SumLemmas.{all_weights_small, lines_turned}

-- Lines that can stand before others.

pub parts_are : (most : ℕ) (terms : List Term) (e : SegId) (a b : LineId) → sums_part most (pair_sums e e terms a b).against (pair_sums e e terms a b).sides ≡ can_part most terms e a b
parts_are most terms e a b = ap (λ (c : Bool). c && nat_le (2 * most) (weight_where (λ t. is_side t && is_on e t && is_of_lines a b t) terms)) (none_against terms)
  where
    none_against : (ts : List Term) → not (list_any (is_against e a b) ts) ≡ list_all (λ t. not (is_against e a b t)) ts
    none_against [] = refl
    none_against (t ∷ ts) = by_test (is_against e a b t) (none_against ts)
      where
        by_test : (c : Bool) → not (list_any (is_against e a b) ts) ≡ list_all (λ t. not (is_against e a b t)) ts
            → not (c || list_any (is_against e a b) ts) ≡ (not c && list_all (λ t. not (is_against e a b t)) ts)
        by_test true rest = refl
        by_test false rest = rest

sides_turned : (terms : List Term) (e : SegId) (a b : LineId) → weight_where (λ t. is_side t && is_on e t && is_of_lines b a t) terms ≡ weight_where (λ t. is_side t && is_on e t && is_of_lines a b t) terms
sides_turned terms e a b = weights_alike (λ t. is_side t && is_on e t && is_of_lines b a t) (λ t. is_side t && is_on e t && is_of_lines a b t) terms
    (λ t. ap (λ (c : Bool). is_side t && is_on e t && c) (lines_turned a b t))
  where
    weights_alike : (p q : Term → Bool) (ts : List Term) → ((t : Term) → p t ≡ q t) → weight_where p ts ≡ weight_where q ts
    weights_alike p q ts h =
        sum_same (λ t. if p t then weight_of t else 0) (λ t. if q t then weight_of t else 0) ts (λ t. ap (λ (c : Bool). if c then weight_of t else 0) (h t))

held_is : (most : ℕ) (terms : List Term) (e : SegId) (b a : LineId)
    → (a.0 == b.0 || not (sums_part most (pair_sums e e terms b a).against_turned (pair_sums e e terms b a).sides)) ≡ is_held_by most terms e b a
held_is most terms e b a =
    ap (λ (n : ℕ). a.0 == b.0 || not (not (list_any (is_against e a b) terms) && nat_le (2 * most) n)) (sides_turned terms e a b)
    ∙ ap (λ (c : Bool). a.0 == b.0 || not c) (parts_are most terms e a b)

maps_alike : {A B : Type 0} (f g : A → B) (xs : List A) → ((x : A) → f x ≡ g x) → map f xs ≡ map g xs
maps_alike f g [] h = refl
maps_alike {A} {B} f g (x ∷ xs) h = ap (λ (y : B). y ∷ map f xs) (h x) ∙ ap (λ (ys : List B). g x ∷ ys) (maps_alike f g xs h)

pub held_table : (most : ℕ) (terms : List Term) (e : SegId) (lines : List LineId) (rows : List (List Bool))
    → rows ≡ map (λ b. map (λ a. a.0 == b.0 || not (sums_part most (pair_sums e e terms b a).against_turned (pair_sums e e terms b a).sides)) lines) lines
    → rows ≡ held_rows most terms e lines
held_table most terms e lines rows are =
    are ∙ maps_alike (λ b. map (λ a. a.0 == b.0 || not (sums_part most (pair_sums e e terms b a).against_turned (pair_sums e e terms b a).sides)) lines)
    (λ b. map (is_held_by most terms e b) lines) lines
    (λ b. maps_alike (λ a. a.0 == b.0 || not (sums_part most (pair_sums e e terms b a).against_turned (pair_sums e e terms b a).sides)) (is_held_by most terms e b) lines (held_is most terms e b))

-- one row more
pub rows_more : (rows after : List (Vec Bool Global)) (held : Vec Bool Global) (f : LineId → List Bool) (lines : List LineId) (i : ℕ) (d : LineId) → i < length lines
    → rows_of rows ≡ map f (take i lines) → held.items ≡ f (get_or lines i d) → after ≡ rows ++ held ∷ [] → rows_of after ≡ map f (take (i + 1) lines)
rows_more rows after held f lines i d below old is pushed =
    ap rows_of pushed
    ∙ (map-append (λ (v : Vec Bool Global). v.items) rows (held ∷ [])
    ∙ (ap (λ (bs : List (List Bool)). bs ++ held.items ∷ []) old
    ∙ (ap (λ (b : List Bool). map f (take i lines) ++ b ∷ []) is ∙ sym (map_more f lines i d below))))

-- one line of a row more
pub held_more : (f : LineId → PairSums) (g : PairSums → LineId → Bool) (row : List PairSums) (lines : List LineId) (held after : List Bool) (b : Bool) (i : ℕ) (r : PairSums) (d : LineId) → i < length lines
    → row ≡ map f lines → held ≡ map (λ a. g (f a) a) (take i lines) → b ≡ g (get_or row i r) (get_or lines i d) → after ≡ held ++ b ∷ [] → after ≡ map (λ a. g (f a) a) (take (i + 1) lines)
held_more f g row lines held after b i r d below are old is pushed =
    pushed ∙ (ap (λ (bs : List Bool). bs ++ b ∷ []) old
    ∙ (ap (λ (c : Bool). map (λ a. g (f a) a) (take i lines) ++ c ∷ [])
    (is ∙ ap (λ (s : PairSums). g s (get_or lines i d)) (ap (λ (rs : List PairSums). get_or rs i r) are ∙ get_or-map f lines i d r below))
    ∙ sym (map_more (λ a. g (f a) a) lines i d below)))

-- A group.

parts_rest : (most : ℕ) (f : LineId → PairSums) (group lines : List LineId)
    → each_parts most (map (has_line group) lines) (map f lines) ≡ list_all (λ b. sums_part most (f b).against (f b).sides) (others lines group)
parts_rest most f group [] = refl
parts_rest most f group (b ∷ lines) = by_test (has_line group b) (parts_rest most f group lines)
  where
    by_test : (c : Bool) → each_parts most (map (has_line group) lines) (map f lines) ≡ list_all (λ x. sums_part most (f x).against (f x).sides) (others lines group)
        → ((c || sums_part most (f b).against (f b).sides) && each_parts most (map (has_line group) lines) (map f lines))
        ≡ list_all (λ x. sums_part most (f x).against (f x).sides) (cond (not c) (b ∷ others lines group) (others lines group))
    by_test true rest = rest
    by_test false rest = ap (λ (z : Bool). sums_part most (f b).against (f b).sides && z) rest

pub group_is : (most : ℕ) (terms : List Term) (e : SegId) (lines group : List LineId)
    → list_all (λ a. each_parts most (map (has_line group) lines) (map (pair_sums e e terms a) lines)) group ≡ list_all (λ a. list_all (can_part most terms e a) (others lines group)) group
group_is most terms e lines group =
    all_alike (λ a. each_parts most (map (has_line group) lines) (map (pair_sums e e terms a) lines)) (λ a. list_all (can_part most terms e a) (others lines group)) group
    (λ a. parts_rest most (pair_sums e e terms a) group lines
    ∙ all_alike (λ b. sums_part most (pair_sums e e terms a b).against (pair_sums e e terms a b).sides) (can_part most terms e a) (others lines group) (parts_are most terms e a))

pub all_at : (p : LineId → Bool) (xs : List LineId) (i : ℕ) (d : LineId) → i < length xs → list_all p xs ≡ true → p (get_or xs i d) ≡ true
all_at p [] i d below h = absurd (omega (arith, below))
all_at p (x ∷ xs) zero d below h = (both_true (p x) (list_all p xs) h).0
all_at p (x ∷ xs) (suc i) d below h = all_at p xs i d (omega (arith, below)) (both_true (p x) (list_all p xs) h).1

pub parts_passed : (most : ℕ) (w : LineId → LineId → PairSums) (lines group : List LineId) (i : ℕ) (d : LineId) (marks : List Bool) (passes c : Bool) → i < length group
    → marks ≡ map (has_line group) lines → passes ≡ each_parts most marks (map (w (get_or group i d)) lines) → passes ≡ c
    → list_all (λ a. each_parts most (map (has_line group) lines) (map (w a) lines)) (drop i group) ≡ (c && list_all (λ a. each_parts most (map (has_line group) lines) (map (w a) lines)) (drop (i + 1) group))
parts_passed most w lines group i d marks passes c below are is h =
    at_drop_more (list_all (λ a. each_parts most (map (has_line group) lines) (map (w a) lines))) group i d below
    ∙ ap (λ (b : Bool). b && list_all (λ a. each_parts most (map (has_line group) lines) (map (w a) lines)) (drop (i + 1) group))
    (ap (λ (ms : List Bool). each_parts most ms (map (w (get_or group i d)) lines)) (sym are) ∙ (sym is ∙ h))

pub all_parted : (most : ℕ) (w : LineId → LineId → PairSums) (lines group : List LineId) (i : ℕ) → length group ≤ i
    → list_all (λ a. each_parts most (map (has_line group) lines) (map (w a) lines)) (drop i group) ≡ true
all_parted most w lines group i done = at_drop_all (list_all (λ a. each_parts most (map (has_line group) lines) (map (w a) lines))) group i done

-- a line of these has a place
pub has_no_place : (lines : List LineId) (a : LineId) → has_line lines a ≡ true → IsPlace lines a None → ⊥
has_no_place [] a h off = true≢false (sym h)
has_no_place (x ∷ lines) a h off = elim (either_true (x.0 == a.0) (has_line lines a) h) [
  | inl here ↦ off 0 (omega arith) (eqb-true x.0 a.0 here)
  | inr later ↦ has_no_place lines a later (λ i below. off (suc i) (omega (arith, below)))
]

pub line_parted : (most : ℕ) (w : LineId → LineId → PairSums) (lines : List LineId) (table : List (List PairSums)) (row : List PairSums) (marks : List Bool) (a : LineId) (p : ℕ) (r : Bool) → IsTable w lines table
    → IsPlace lines a (Some p) → row ≡ get_or table p [] → r ≡ each_parts most marks row → r ≡ each_parts most marks (map (w a) lines)
line_parted most w lines table row marks a p r is at row_is_at result =
    result ∙ ap (each_parts most marks) (row_is_at ∙ (row_is w lines table p is at.0 ∙ ap (λ (z : LineId). map (w z) lines) at.1))

-- Tables that are lent.

pub lent : (w : LineId → LineId → PairSums) (lines : List LineId) (items cells : List (Vec PairSums Global)) → cells ≡ items → IsTable w lines (lists_of items) → IsTable w lines (lists_of cells)
lent w lines items cells same is = subst (λ (ts : List (Vec PairSums Global)). IsTable w lines (lists_of ts)) (sym same) is

pub most_small : (terms : List Term) (e : SegId) (lines : List LineId) (most : ℕ) → list_all is_light terms ≡ true → length terms ≤ 4000000 → most ≡ most_by_lines terms e lines → most < 2 ^ 63
most_small terms e lines most light few is = subst (λ (n : ℕ). n < 2 ^ 63) (sym is) (pairs lines)
  where
    row : (a : LineId) (xs : List LineId) → most_by (λ b. weight_where (λ t. is_apart t && is_on e t && is_of_lines a b t) terms) xs < 2 ^ 63
    row a [] = omega arith
    row a (b ∷ xs) = omega (arith, all_weights_small (λ t. is_apart t && is_on e t && is_of_lines a b t) terms light few, row a xs)

    pairs : (xs : List LineId) → most_by_lines terms e xs < 2 ^ 63
    pairs [] = omega arith
    pairs (a ∷ xs) = omega (arith, row a xs, pairs xs)

pub group_among : (lines group : List LineId) → is_group lines group ≡ true → list_all (has_line lines) group ≡ true
group_among lines group h =
    (both_true (is_rising group) (list_all (has_line lines) group)
    (both_true (is_rising group && list_all (has_line lines) group) (not (are_none group))
    (both_true (is_rising group && list_all (has_line lines) group && not (are_none group)) (not (are_none (others lines group))) h).0).0).1

pub group_parted : (terms : List Term) (e : SegId) (lines group : List LineId) (most : ℕ) (all : Bool) → most ≡ most_by_lines terms e lines
    → all ≡ list_all (λ a. each_parts most (map (has_line group) lines) (map (pair_sums e e terms a) lines)) group
    → all ≡ list_all (λ a. list_all (can_part (most_by_lines terms e lines) terms e a) (others lines group)) group
group_parted terms e lines group most all is parts =
    parts ∙ (group_is most terms e lines group ∙ ap (λ (m : ℕ). list_all (λ a. list_all (can_part m terms e a) (others lines group)) group) is)

-- No terms.

most_none : (e : SegId) (lines : List LineId) → most_by_lines [] e lines ≡ 0
most_none e [] = refl
most_none e (a ∷ lines) = ap (λ (n : ℕ). max n (most_by_lines [] e lines)) (row lines) ∙ (ap (max 0) (most_none e lines))
  where
    row : (xs : List LineId) → most_by (λ b. 0) xs ≡ 0
    row [] = refl
    row (x ∷ xs) = ap (max 0) (row xs)

all_true : (xs : List LineId) → list_all (λ a. true) xs ≡ true
all_true [] = refl
all_true (x ∷ xs) = all_true xs

pub none_part : (e : SegId) (lines group : List LineId) → list_all (λ a. list_all (can_part (most_by_lines [] e lines) [] e a) (others lines group)) group ≡ true
none_part e lines group =
    ap (λ (m : ℕ). list_all (λ a. list_all (can_part m [] e a) (others lines group)) group) (most_none e lines)
    ∙ (all_alike (λ a. list_all (λ (b : LineId). true) (others lines group)) (λ a. true) group (λ a. all_true (others lines group)) ∙ all_true group)

-- a line before rising lines stands in none of them
not_later : (a x : LineId) (xs : List LineId) → AreRising (a ∷ x ∷ xs) → AreRising (a ∷ xs)
not_later a x [] rising = tt
not_later a x (y ∷ ys) rising = (omega (arith, rising.0, rising.1.0), rising.1.1)

differ_test : (m n : ℕ) → m < n → (m == n) ≡ false
differ_test m n less = by_test (m == n) refl
  where
    by_test : (c : Bool) → (m == n) ≡ c → c ≡ false
    by_test true h = let same : m ≡ n = eqb-true m n h in absurd (omega (arith, same, less))
    by_test false h = refl

-- the test of one line, as the closure of a line without terms makes it
abbrev is_alone : LineId → LineId → Bool
is_alone a b = (a.0 == b.0 || false) || false

alone_later : (a : LineId) (xs : List LineId) → AreRising (a ∷ xs) → filter (is_alone a) xs ≡ []
alone_later a [] rising = refl
alone_later a (x ∷ xs) rising =
    ap (λ (c : Bool). cond ((c || false) || false) (x ∷ filter (is_alone a) xs) (filter (is_alone a) xs)) (differ_test a.0 x.0 rising.0) ∙ alone_later a xs (not_later a x xs rising)

alone_kept : (a : LineId) (xs : List LineId) → AreRising (a ∷ xs) → filter (is_alone a) (a ∷ xs) ≡ a ∷ []
alone_kept a xs rising =
    ap (λ (c : Bool). cond ((c || false) || false) (a ∷ filter (is_alone a) xs) (filter (is_alone a) xs)) (eq-eqb a.0 a.0 refl) ∙ ap (λ (ys : List LineId). a ∷ ys) (alone_later a xs rising)

alone_grown : (e : SegId) (a : LineId) (xs : List LineId) → AreRising (a ∷ xs) → (n : ℕ) → grown 0 [] e (a ∷ xs) n (a ∷ []) ≡ a ∷ []
alone_grown e a xs rising zero = refl
alone_grown e a xs rising (suc n) = ap (grown 0 [] e (a ∷ xs) n) (alone_kept a xs rising) ∙ alone_grown e a xs rising n

first_closure : (e : SegId) (a : LineId) (xs : List LineId) → AreRising (a ∷ xs) → group_by [] e (a ∷ xs) a ≡ group_if (a ∷ xs) (a ∷ [])
first_closure e a xs rising =
    ap (λ (m : ℕ). group_if (a ∷ xs) (grown m [] e (a ∷ xs) (length (a ∷ xs)) (a ∷ []))) (most_none e (a ∷ xs)) ∙ ap (group_if (a ∷ xs)) (alone_grown e a xs rising (length (a ∷ xs)))

pub none_group : (e : SegId) (lines : List LineId) → AreRising lines → first_group (group_by [] e lines) lines ≡ first_alone lines
none_group e [] rising = refl
none_group e (a ∷ []) rising =
    ap (λ (o : Option (List LineId)). let r : Option (List LineId) = elim o as (λ _. Option (List LineId)) [ None ↦ None | Some group ↦ Some group ] in r)
    (first_closure e a [] rising ∙ ap (λ (c : Bool). group_by_test c) (eq-eqb a.0 a.0 refl))
  where
    group_by_test : Bool → Option (List LineId)
    group_by_test c = if are_none (cond (not (c || false)) (a ∷ []) []) then None else Some (a ∷ [])
none_group e (a ∷ b ∷ xs) rising =
    ap (λ (o : Option (List LineId)). let r : Option (List LineId) = elim o as (λ _. Option (List LineId)) [ None ↦ first_group (group_by [] e (a ∷ b ∷ xs)) (b ∷ xs) | Some group ↦ Some group ] in r)
    (first_closure e a (b ∷ xs) rising ∙ (ap (λ (c : Bool). tested c (a.0 == b.0)) (eq-eqb a.0 a.0 refl) ∙ ap (λ (c : Bool). tested true c) (differ_test a.0 b.0 rising.0)))
  where
    later : List LineId
    later = others xs (a ∷ [])

    tested : Bool → Bool → Option (List LineId)
    tested c d = if are_none (cond (not (c || false)) (a ∷ cond (not (d || false)) (b ∷ later) later) (cond (not (d || false)) (b ∷ later) later)) then None else Some (a ∷ [])

pub no_terms_divide : (terms : List Term) (e : SegId) (lines group : List LineId) → length terms ≡ 0 → is_group lines group ≡ true → divides_by terms e lines group ≡ true
no_terms_divide terms e lines group none in_group =
    ap (λ (ts : List Term). divides_by ts e lines group) (nil_from_length terms none)
    ∙ (ap (λ (c : Bool). c && list_all (λ a. list_all (can_part (most_by_lines [] e lines) [] e a) (others lines group)) group) in_group ∙ none_part e lines group)

pub no_terms_group : (terms : List Term) (e : SegId) (lines : List LineId) (group : Option (List LineId)) → length terms ≡ 0 → AreRising lines → group ≡ first_alone lines
    → group ≡ first_group (group_by terms e lines) lines
no_terms_group terms e lines group none rising is =
    is ∙ (sym (none_group e lines rising) ∙ sym (ap (λ (ts : List Term). first_group (group_by ts e lines) lines) (nil_from_length terms none)))
