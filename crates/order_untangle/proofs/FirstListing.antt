-- The numbers of each segment as they are found at first, term by term.
use Rattle.std.proofs.Common.{◌≡◌, ℕ, zero, suc, ◌+◌, ◌<◌, ◌≤◌, ◌==◌, Bool, true, false, ◌||◌, Option, Some, None, List, [], ◌∷◌, ◌++◌, length, map, get_or, take, refl, sym, ap, subst, ◌∙◌, arith, eqb-true}
use Rattle.std.specs.Prelude.{if◌then◌else◌, Vec}
use Rattle.std.specs.Global.{Global}
use Rattle.std.specs.List.{AllByRecursion, sum_by}
use Rattle.std.proofs.lemmas.Bool.{eqb-false}
use Rattle.std.proofs.lemmas.List.{get_or-set_same, get_or-set_other, get_or-map, length-set, length-map, take_all}
use Rattle.std.proofs.lemmas.List.Sums.{sum_by_push}
use Rattle.map_base.specs.declared.ids.SegId.{SegId}
use Rattle.order_model.specs.declared.term.Term.{Term}
use Rattle.order_model.specs.Costs.{seg_of, other_of}
use Rattle.order_model.specs.Places.{tables_of}
use Rattle.order_model.specs.PartTerms.{no_numbers, with_number}
use Rattle.order_rules.specs.PairWeights.{is_on}
use Rattle.order_untangle.specs.LeftTerms.{holds_on, cell_at, cells_sum, IsFit, IsFitCell, AreListed, with_ends}
use Rattle.order_untangle.proofs.CellLemmas.{cells_more}

-- each segment has the numbers of its terms among the first so many
pub record IsListedTo (cells : List (Option Term)) (i : ℕ) (s : SegId) (numbers : List ℕ) : Type 0 where
  pub sums : (h : ℕ → Option Term → ℕ) → ((n : ℕ) → h n None ≡ 0)
      → sum_by (λ n. h n (cell_at cells n)) numbers ≡ cells_sum (λ n c. if holds_on s c then h n c else 0) 0 (take i cells)

abbrev pub AreListedTo : List (Option Term) → ℕ → List (List ℕ) → Type 0
AreListedTo cells i on = (s : SegId) → IsListedTo cells i s (get_or on s.0 [])

none_at : (n s : ℕ) → get_or (no_numbers n) s [] ≡ []
none_at zero s = refl
none_at (suc n) zero = refl
none_at (suc n) (suc s) = none_at n s

pub listed_none : (cells : List (Option Term)) (n : ℕ) (on : List (List ℕ)) → on ≡ no_numbers n → AreListedTo cells 0 on
listed_none cells n on is s = record {
  sums = λ h zero_h. ap (sum_by (λ k. h k (cell_at cells k))) (ap (λ (lists : List (List ℕ)). get_or lists s.0 []) is ∙ none_at n s.0);
}

with_get : (k n : ℕ) (on : List (List ℕ)) (s : ℕ) → k < length on → get_or (with_number k n on) s [] ≡ (if k == s then get_or on s [] ++ n ∷ [] else get_or on s [])
with_get k n on s below = by_test (k == s) refl
  where
    by_test : (c : Bool) → (k == s) ≡ c → get_or (with_number k n on) s [] ≡ (if c then get_or on s [] ++ n ∷ [] else get_or on s [])
    by_test true h =
        subst (λ (m : ℕ). get_or (with_number k n on) m [] ≡ get_or on m [] ++ n ∷ []) (eqb-true k s h) (get_or-set_same on k (get_or on k [] ++ n ∷ []) [] below)
    by_test false h = get_or-set_other on k s (get_or on k [] ++ n ∷ []) [] (λ e. eqb-false k s h (sym e))

or_itself : (b : Bool) → (b || b) ≡ b
or_itself true = refl
or_itself false = refl

either_grows : (a b : Bool) (xs : List ℕ) (n : ℕ) → (a ≡ true → b ≡ true → ⊥)
    → (if b then (if a then xs ++ n ∷ [] else xs) ++ n ∷ [] else (if a then xs ++ n ∷ [] else xs)) ≡ (if a || b then xs ++ n ∷ [] else xs)
either_grows true true xs n differ = absurd (differ refl refl)
either_grows true false xs n differ = refl
either_grows false true xs n differ = refl
either_grows false false xs n differ = refl

ends_get : (t : Term) (n : ℕ) (on : List (List ℕ)) (s : SegId) → (seg_of t).0 < length on → (other_of t).0 < length on
    → get_or (with_ends t n on) s.0 [] ≡ (if is_on s t then get_or on s.0 [] ++ n ∷ [] else get_or on s.0 [])
ends_get t n on s known other_known = by_test ((other_of t).0 == (seg_of t).0) refl
  where
    here : ℕ
    here = (seg_of t).0

    there : ℕ
    there = (other_of t).0

    by_test : (c : Bool) → ((other_of t).0 == (seg_of t).0) ≡ c
        → get_or (if c then with_number (seg_of t).0 n on else with_number (other_of t).0 n (with_number (seg_of t).0 n on)) s.0 []
        ≡ (if is_on s t then get_or on s.0 [] ++ n ∷ [] else get_or on s.0 [])
    by_test true h =
        with_get (seg_of t).0 n on s.0 known
        ∙ ap (λ (b : Bool). if b then get_or on s.0 [] ++ n ∷ [] else get_or on s.0 [])
        (sym (ap (λ (m : ℕ). (seg_of t).0 == s.0 || m == s.0) (eqb-true (other_of t).0 (seg_of t).0 h) ∙ or_itself ((seg_of t).0 == s.0)))
    by_test false h =
        with_get (other_of t).0 n (with_number (seg_of t).0 n on) s.0
        (omega (arith, other_known, length-set on (seg_of t).0 (get_or on (seg_of t).0 [] ++ n ∷ [])))
        ∙ (ap (λ (ns : List ℕ). if (other_of t).0 == s.0 then ns ++ n ∷ [] else ns) (with_get (seg_of t).0 n on s.0 known)
        ∙ either_grows ((seg_of t).0 == s.0) ((other_of t).0 == s.0) (get_or on s.0 []) n
        (λ a b. eqb-false (other_of t).0 (seg_of t).0 h (eqb-true (other_of t).0 s.0 b ∙ sym (eqb-true (seg_of t).0 s.0 a))))

pub listed_more : (terms : List Term) (i : ℕ) (d t : Term) (on after : List (List ℕ)) → i < length terms → t ≡ get_or terms i d → IsFit (length on) t
    → AreListedTo (map Some terms) i on → after ≡ with_ends t i on → AreListedTo (map Some terms) (i + 1) after
listed_more terms i d t on after below is fit old now s = record { sums = sums }
  where
    cells : List (Option Term)
    cells = map Some terms

    here : cell_at (map Some terms) i ≡ Some t
    here = get_or-map (λ (u : Term). Some u) terms i d None below ∙ ap (λ (u : Term). Some u) (sym is)

    grown : (c : Bool) (g : ℕ → ℕ) → sum_by g (if c then get_or on s.0 [] ++ i ∷ [] else get_or on s.0 []) ≡ sum_by g (get_or on s.0 []) + (if c then g i else 0)
    grown true g = sum_by_push g (get_or on s.0 []) i
    grown false g = omega arith

    sums : (h : ℕ → Option Term → ℕ) → ((n : ℕ) → h n None ≡ 0)
        → sum_by (λ n. h n (cell_at (map Some terms) n)) (get_or after s.0 []) ≡ cells_sum (λ n c. if holds_on s c then h n c else 0) 0 (take (i + 1) (map Some terms))
    sums h zero_h =
        let numbers : get_or after s.0 [] ≡ (if is_on s t then get_or on s.0 [] ++ i ∷ [] else get_or on s.0 []) =
        ap (λ (lists : List (List ℕ)). get_or lists s.0 []) now ∙ ends_get t i on s fit.seg_known fit.other_known in
        let more : sum_by (λ n. h n (cell_at (map Some terms) n)) (get_or after s.0 [])
        ≡ sum_by (λ n. h n (cell_at (map Some terms) n)) (get_or on s.0 []) + (if is_on s t then h i (cell_at (map Some terms) i) else 0) =
        ap (sum_by (λ n. h n (cell_at (map Some terms) n))) numbers ∙ grown (is_on s t) (λ n. h n (cell_at (map Some terms) n)) in
        let same : 0 + i ≡ i = omega arith in
        let last : (if is_on s t then h i (cell_at (map Some terms) i) else 0) ≡ (if holds_on s (cell_at (map Some terms) i) then h (0 + i) (cell_at (map Some terms) i) else 0) =
        sym (ap (λ (c : Option Term). if holds_on s c then h i (cell_at (map Some terms) i) else 0) here)
        ∙ ap (λ (m : ℕ). if holds_on s (cell_at (map Some terms) i) then h m (cell_at (map Some terms) i) else 0) (sym same) in
        let inside : i < length (map Some terms) = omega (arith, below, length-map terms (λ (u : Term). Some u)) in
        omega (arith, more, last, (old s).sums h zero_h, cells_more (λ n c. if holds_on s c then h n c else 0) 0 (map Some terms) i inside)

fit_cells : (n : ℕ) (terms : List Term) → AllByRecursion (IsFit n) terms → AllByRecursion (IsFitCell n) (map Some terms)
fit_cells n [] all = tt
fit_cells n (t ∷ terms) all = (all.0, fit_cells n terms all.1)

pub fit_here : (n : ℕ) (terms : List Term) (i : ℕ) (d : Term) → AllByRecursion (IsFit n) terms → i < length terms → IsFit n (get_or terms i d)
fit_here n [] i d all below = absurd (omega (arith, below))
fit_here n (t ∷ terms) zero d all below = all.0
fit_here n (t ∷ terms) (suc i) d all below = fit_here n terms i d all.1 (omega (arith, below))

pub listed_all : (terms : List Term) (i : ℕ) (on : List (List ℕ)) → length terms ≤ i → length terms ≤ 4000000 → AllByRecursion (IsFit (length on)) terms
    → AreListedTo (map Some terms) i on → AreListed (map Some terms) on
listed_all terms i on done few fit old = record {
  few = omega (arith, few, length-map terms (λ (u : Term). Some u));
  fit = fit_cells (length on) terms fit;
  each = λ s. record {
    sums = λ h zero_h.
        (old s).sums h zero_h
        ∙ ap (cells_sum (λ n c. if holds_on s c then h n c else 0) 0) (take_all i (map Some terms) (omega (arith, done, length-map terms (λ (u : Term). Some u))));
  };
}

count_none : (n : ℕ) → length (no_numbers n) ≡ n
count_none zero = refl
count_none (suc n) = ap suc (count_none n)

pub numbers_count : (on : List (Vec ℕ Global)) (n : ℕ) → tables_of on ≡ no_numbers n → length on ≡ n
numbers_count on n is = sym (length-map on (λ (v : Vec ℕ Global). v.items)) ∙ (ap length is ∙ count_none n)

table_count : (on : List (Vec ℕ Global)) (n : ℕ) → length on ≡ n → length (tables_of on) ≡ n
table_count on n h = length-map on (λ (v : Vec ℕ Global). v.items) ∙ h

pub next_listed : (terms : List Term) (i : ℕ) (d : Term) (n : ℕ) (on after : List (Vec ℕ Global)) → i < length terms → AllByRecursion (IsFit n) terms → length on ≡ n
    → AreListedTo (map Some terms) i (tables_of on) → tables_of after ≡ with_ends (get_or terms i d) i (tables_of on) → AreListedTo (map Some terms) (i + 1) (tables_of after)
next_listed terms i d n on after below fit many old now =
    listed_more terms i d (get_or terms i d) (tables_of on) (tables_of after) below refl
    (subst (λ (k : ℕ). IsFit k (get_or terms i d)) (sym (table_count on n many)) (fit_here n terms i d fit below)) old now

pub last_listed : (terms : List Term) (i n : ℕ) (on : List (Vec ℕ Global)) → length terms ≤ i → length terms ≤ 4000000 → AllByRecursion (IsFit n) terms → length on ≡ n
    → AreListedTo (map Some terms) i (tables_of on) → AreListed (map Some terms) (tables_of on)
last_listed terms i n on done few fit many old =
    listed_all terms i (tables_of on) done few (subst (λ (k : ℕ). AllByRecursion (IsFit k) terms) (sym (table_count on n many)) fit) old
