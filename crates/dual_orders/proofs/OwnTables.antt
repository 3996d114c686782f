-- The lines and the terms of each segment of a part by itself, as they lie in memory.
use Rattle.std.proofs.Common.{◌≡◌, ◌≢◌, max, ℕ, ◌+◌, ◌*◌, ◌^◌, ◌<◌, ◌≤◌, Bool, true, false, List, [], ◌∷◌, ◌++◌, length, map, take, get_or, refl, sym, ◌∙◌, ap, subst, arith, ◌⊎◌, inl, inr, mul-le-mul}
use Rattle.std.proofs.Math.Nat.{pow-le-pow_right}
use Rattle.std.specs.Prelude.{Vec, nat_le, sum, sum_by}
use Rattle.std.specs.Global.{Global}
use Rattle.std.specs.List.{All, list_all}
use Rattle.std.proofs.lemmas.Bool.{and_parts, cases_lt, cases_eq}
use Rattle.std.proofs.lemmas.Bool.Decides.{nat_tests}
use Rattle.std.proofs.lemmas.List.{take_more, take_all, length-map, map-id, get_or-map, get_or_past, get_or_default, ext_get_or}
use Rattle.std.proofs.lemmas.List.Elements.{All-filter}
use Rattle.std.proofs.lemmas.List.Folds.{list_all-map, list_all_at}
use Rattle.std.proofs.lemmas.List.Sums.{sum-map, AllPass-from_list_all, length-filter, count_by-le-length}
use Rattle.map_base.specs.declared.ids.SegId.{SegId}
use Rattle.map_base.specs.declared.ids.LineId.{LineId}
use Rattle.order_model.specs.declared.term.Term.{Term}
use Rattle.order_model.specs.declared.problem.ProblemParts.{ProblemParts}
use Rattle.order_model.specs.Problems.{lines_on, IsTerm}
use Rattle.order_model.specs.Places.{tables_of}
use Rattle.order_model.specs.PartTerms.{numbered_from, no_term, terms_by_number}
use Rattle.order_model.proofs.KeptTerms.{part_numbers_known, part_terms_by_number}
use Rattle.dual_bound.specs.Accepting.{is_narrow, steps_on, load_of, most_load}
use Rattle.dual_shares.specs.Groups.{is_on}
use Rattle.dual_ascent.specs.OwnNumbers.{segments_from, all_segments, all_terms}
use Rattle.dual_ascent.specs.DualResults.{is_in_reach}
use Rattle.dual_ascent.proofs.OwnParts.{seg_number, part_terms_all, all_made_at}
use Rattle.dual_rounds.proofs.TermLists.{length_made, term_made_at}
use Rattle.dual_rounds.proofs.SegmentLists.{length_segments}
use Rattle.dual_orders.specs.OwnTerms.{all_numbers, own_numbers}

-- Segments.

pub segment_at : (segs : List (List LineId)) (i : ℕ) (d : SegId) → i < length segs → get_or (segments_from 0 segs) i d ≡ seg_number i
segment_at segs i d h = ap (λ l. get_or l i d) (sym (map-id (segments_from 0 segs))) ∙ all_made_at segs (λ (s : SegId). s) i d h

-- the lines of a segment that a loop is at
pub lines_here : (segs xs : List (List LineId)) (i : ℕ) (x lines : List LineId) → xs ≡ segs → i < length xs
    → x ≡ get_or xs i x → lines ≡ x → lines ≡ get_or segs i []
lines_here segs xs i x lines same below is here = here
    ∙ (is ∙ (get_or_default xs i x [] below ∙ ap (λ l. get_or l i []) same))

-- what is made of the lines of each segment
pub made_of_lines : {A : Type 0} (f : List LineId → A) (segs : List (List LineId)) → map (λ (s : SegId). f (lines_on segs s)) (segments_from 0 segs) ≡ map f segs
made_of_lines f segs =
    ext_get_or (f []) (map (λ (s : SegId). f (lines_on segs s)) (segments_from 0 segs)) (map f segs)
    (length-map (segments_from 0 segs) (λ (s : SegId). f (lines_on segs s)) ∙ (length_segments 0 segs ∙ sym (length-map segs f)))
    (λ i below. (let within : i < length segs = (let one = length-map (segments_from 0 segs) (λ (s : SegId). f (lines_on segs s)) in let two = length_segments 0 segs in omega (arith, below, one, two)) in
    all_made_at segs (λ (s : SegId). f (lines_on segs s)) i (f []) within ∙ sym (get_or-map f segs i [] (f []) within)))

pub narrow_by_lines : (segs : List (List LineId)) → is_narrow segs (segments_from 0 segs) ≡ list_all (λ (l : List LineId). nat_le (length l) 16) segs
narrow_by_lines segs =
    sym (list_all-map (λ (n : ℕ). nat_le n 16) (λ (s : SegId). length (lines_on segs s)) (segments_from 0 segs))
    ∙ (ap (list_all (λ (n : ℕ). nat_le n 16)) (made_of_lines (λ (l : List LineId). length l) segs)
    ∙ list_all-map (λ (n : ℕ). nat_le n 16) (λ (l : List LineId). length l) segs)

-- a segment that has more lines, and where none has
pub wide_at : (segs : List (List LineId)) (i : ℕ) → i < length segs → 16 < length (get_or segs i []) → false ≡ is_narrow segs (segments_from 0 segs)
wide_at segs i below wide = sym (narrow_by_lines segs ∙ list_all_at (λ (l : List LineId). nat_le (length l) 16) segs i [] below (over (length (get_or segs i [])) wide))
  where
    over : (n : ℕ) → 16 < n → nat_le n 16 ≡ false
    over n h = grind (arith, nat_tests)

pub narrow_all : (segs : List (List LineId)) (i : ℕ) → length segs ≤ i → list_all (λ (l : List LineId). nat_le (length l) 16) (take i segs) ≡ true → true ≡ is_narrow segs (segments_from 0 segs)
narrow_all segs i over h = sym (narrow_by_lines segs ∙ (ap (list_all (λ (l : List LineId). nat_le (length l) 16)) (sym (take_all i segs over)) ∙ h))

abbrev pub steps_of : List LineId → ℕ
steps_of l = length l * length l * 2 ^ length l

pub steps_by_lines : (segs : List (List LineId)) → sum_by (steps_on segs) (segments_from 0 segs) ≡ sum_by steps_of segs
steps_by_lines segs =
    sym (sum-map (steps_on segs) (segments_from 0 segs)) ∙ (ap sum (made_of_lines steps_of segs) ∙ sum-map steps_of segs)

-- the steps of at most 16 lines
pub steps_few : (n s : ℕ) → n ≤ 16 → s ≤ 2 ^ n → n * n * s ≤ 16777216
steps_few n s few most =
    let power : 2 ^ n ≤ 2 ^ 16 = pow-le-pow_right (omega arith) few in
    let square : n * n ≤ 256 = mul-le-mul few few in
    let small : s ≤ 65536 = omega (arith, most, power) in
    mul-le-mul square small

le_from : (m n : ℕ) → nat_le m n ≡ true → m ≤ n
le_from m n h = grind (arith, nat_tests)

pub reach_narrow : (p : ProblemParts) → is_in_reach p ≡ true → is_narrow p.segs (all_segments p) ≡ true
reach_narrow p h = (and_parts (is_narrow p.segs (all_segments p)) (nat_le (load_of p.segs (all_segments p)) most_load) h).0

-- no segment has more than 16 lines
pub few_lines : (segs : List (List LineId)) (k : ℕ) → is_narrow segs (segments_from 0 segs) ≡ true → length (get_or segs k []) ≤ 16
few_lines segs k h = by_place (cases_lt k (length segs))
  where
    by_place : (k < length segs) ⊎ (length segs ≤ k) → length (get_or segs k []) ≤ 16
    by_place (inl below) = le_from (length (get_or segs k [])) 16 (AllPass-from_list_all (λ (l : List LineId). nat_le (length l) 16) segs (sym (narrow_by_lines segs) ∙ h) k [] below)
    by_place (inr over) = let none : get_or segs k [] ≡ [] = get_or_past segs k [] over in subst (λ (l : List LineId). length l ≤ 16) (sym none) (omega arith)

-- the widest of so many segments
abbrev pub IsWidest : List (List LineId) → ℕ → ℕ → Type 0
IsWidest segs i most =
    ((k : ℕ) → k < i → length (get_or segs k []) ≤ most)
    × ((m : ℕ) → ((k : ℕ) → length (get_or segs k []) ≤ m) → most ≤ m)

pub width_more : (segs : List (List LineId)) (i most next : ℕ) (lines : List LineId) → lines ≡ get_or segs i []
    → next ≡ max (length lines) most → IsWidest segs i most → IsWidest segs (i + 1) next
width_more segs i most next lines is larger widest = (
  λ k below. by_place k below (cases_eq k i),
  λ m each. (let one = widest.1 m each in let two = each i in let same = ap length is in
      omega (arith, one, two, same, larger)),
)
  where
    by_place : (k : ℕ) → k < i + 1 → (k ≡ i) ⊎ (k ≢ i) → length (get_or segs k []) ≤ next
    by_place k below (inl here) =
        let same = ap length (is ∙ ap (λ j. get_or segs j []) (sym here)) in omega (arith, same, larger)
    by_place k below (inr apart) = let one = widest.0 k (omega (arith, below, apart)) in omega (arith, one, larger)

-- Terms.

pub number_at : (terms : List Term) (i d : ℕ) → i < length terms → get_or (map (λ (q : ℕ × Term). q.0) (numbered_from 0 terms)) i d ≡ i
number_at terms i d h = term_made_at (λ (q : ℕ × Term). q.0) terms i d no_term h

pub length_numbers : (p : ProblemParts) → length (all_numbers p) ≡ length p.terms
length_numbers p = length_made (λ (q : ℕ × Term). q.0) 0 p.terms

-- all numbers tell all terms
pub all_by_number : (p : ProblemParts) → All (IsTerm p.segs) p.terms → terms_by_number p.terms (all_numbers p) ≡ all_terms p
all_by_number p fit =
    ap (λ (qs : List (ℕ × Term)). terms_by_number p.terms (map (λ (q : ℕ × Term). q.0) qs)) (sym (part_terms_all p.segs p.terms fit))
    ∙ (part_terms_by_number (all_segments p) p.terms ∙ part_terms_all p.segs p.terms fit)

pub numbers_known : (p : ProblemParts) → All (IsTerm p.segs) p.terms → All (λ n. n < length p.terms) (all_numbers p)
numbers_known p fit =
    subst (λ (qs : List (ℕ × Term)). All (λ n. n < length p.terms) (map (λ (q : ℕ × Term). q.0) qs)) (part_terms_all p.segs p.terms fit) (part_numbers_known (all_segments p) p.terms)

pub own_known : (p : ProblemParts) (s : SegId) → All (IsTerm p.segs) p.terms → All (λ n. n < length p.terms) (own_numbers p s)
own_known p s fit = All-filter (λ n. is_on s (get_or p.terms n no_term)) (λ n. n < length p.terms) (all_numbers p) (numbers_known p fit)

pub own_few : (p : ProblemParts) (s : SegId) → length (own_numbers p s) ≤ length p.terms
own_few p s =
    let test : ℕ → Bool = λ n. is_on s (get_or p.terms n no_term) in
    let one = length-filter test (all_numbers p) in
    let two = count_by-le-length test (all_numbers p) in
    let three = length_numbers p in
    omega (arith, one, two, three)

pub tables_within : (p : ProblemParts) (on : List (Vec ℕ Global)) → tables_of on ≡ map (own_numbers p) (all_segments p) → length on ≡ length p.segs
tables_within p on tables =
    sym (length-map on (λ (w : Vec ℕ Global). w.items)) ∙ (ap length tables ∙ (length-map (all_segments p) (own_numbers p) ∙ length_segments 0 p.segs))

pub table_known : (p : ProblemParts) (on : List (Vec ℕ Global)) (s len : ℕ)
    → tables_of on ≡ map (own_numbers p) (all_segments p) → s < length p.segs → len ≡ length on → s < len
table_known p on s len tables below is = let each = tables_within p on tables in omega (arith, each, below, is)

-- a number of the table of a segment is that of a term
pub number_known : (p : ProblemParts) (s : SegId) (terms : List Term) (numbers : List ℕ) (i : ℕ)
    → All (IsTerm p.segs) p.terms → terms ≡ p.terms → numbers ≡ own_numbers p s → i < length numbers
    → get_or numbers i 0 < length terms
number_known p s terms numbers i fit same is below =
    subst (λ (l : List Term). get_or numbers i 0 < length l) (sym same)
    (subst (λ (l : List ℕ). get_or l i 0 < length p.terms) (sym is)
    (own_known p s fit i 0 (subst (λ (l : List ℕ). i < length l) is below)))

pub number_fits : (p : ProblemParts) (s : SegId) (terms : List Term) (numbers : List ℕ) (i : ℕ) (d : Term)
    → All (IsTerm p.segs) p.terms → terms ≡ p.terms → numbers ≡ own_numbers p s → i < length numbers
    → IsTerm p.segs (get_or terms (get_or numbers i 0) d)
number_fits p s terms numbers i d fit same is below =
    subst (λ (l : List Term). IsTerm p.segs (get_or l (get_or numbers i 0) d)) (sym same)
    (fit (get_or numbers i 0) d (number_known p s p.terms numbers i fit refl is below))

-- there are few of them
pub numbers_few : (p : ProblemParts) (s : SegId) (numbers : List ℕ) (i : ℕ) → length p.terms ≤ 4000000
    → numbers ≡ own_numbers p s → i < length numbers → i < 4000000
numbers_few p s numbers i few is below =
    let each = own_few p s in let same = ap length is in omega (arith, few, below, each, same)

-- the table of a segment
pub table_is : (p : ProblemParts) (on : List (Vec ℕ Global)) (s : ℕ) (v : Vec ℕ Global) → tables_of on ≡ map (own_numbers p) (all_segments p) → s < length p.segs → v ≡ get_or on s v → v.items ≡ own_numbers p (seg_number s)
table_is p on s v tables known is =
    ap (λ (w : Vec ℕ Global). w.items) is
    ∙ (sym (get_or-map (λ (w : Vec ℕ Global). w.items) on s v [] (let each = tables_within p on tables in omega (arith, each, known)))
    ∙ (ap (λ l. get_or l s []) tables ∙ all_made_at p.segs (own_numbers p) s [] known))

-- What is pushed segment by segment, or term by term.

pub pushed_segment : (segs : List (List LineId)) (i : ℕ) (items : List SegId) → items ≡ take i (segments_from 0 segs) → i < length segs → items ++ seg_number i ∷ [] ≡ take (i + 1) (segments_from 0 segs)
pushed_segment segs i items h below =
    let within : i < length (segments_from 0 segs) = (let each = length_segments 0 segs in omega (arith, below, each)) in
    ap (λ l. l ++ seg_number i ∷ []) h
    ∙ sym (take_more (segments_from 0 segs) i (seg_number i) within ∙ ap (λ s. take i (segments_from 0 segs) ++ s ∷ []) (segment_at segs i (seg_number i) below))

pub all_segments_pushed : (segs : List (List LineId)) (i : ℕ) (items : List SegId) → items ≡ take i (segments_from 0 segs) → length segs ≤ i → items ≡ segments_from 0 segs
all_segments_pushed segs i items h over = h ∙ take_all i (segments_from 0 segs) (let each = length_segments 0 segs in omega (arith, over, each))

pub pushed_number : (p : ProblemParts) (i : ℕ) (items : List ℕ) → items ≡ take i (all_numbers p) → i < length p.terms → items ++ i ∷ [] ≡ take (i + 1) (all_numbers p)
pushed_number p i items h below =
    let within : i < length (all_numbers p) = (let each = length_numbers p in omega (arith, below, each)) in
    ap (λ l. l ++ i ∷ []) h
    ∙ sym (take_more (all_numbers p) i 0 within ∙ ap (λ n. take i (all_numbers p) ++ n ∷ []) (number_at p.terms i 0 below))

pub all_numbers_pushed : (p : ProblemParts) (i : ℕ) (items : List ℕ) → items ≡ take i (all_numbers p) → length p.terms ≤ i → items ≡ all_numbers p
all_numbers_pushed p i items h over = h ∙ take_all i (all_numbers p) (let each = length_numbers p in omega (arith, over, each))
