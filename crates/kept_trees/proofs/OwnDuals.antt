-- A dual tree that is accepted for a part by itself is accepted for the part in its problem, with the numbers of the problem.
use Rattle.std.proofs.Common.{◌≡◌, ℕ, suc, ◌+◌, ◌<◌, ◌≤◌, ◌==◌, eqb-true, inl, inr, true, List, [], ◌∷◌, length, map, get_or, refl, sym, ◌∙◌, ap, subst, true≢false, arith, None}
use Rattle.std.specs.Prelude.{ℤ}
use Rattle.std.specs.List.{AllByRecursion}
use Rattle.std.proofs.lemmas.Bool.{and_from, and_parts, eqb-false, cases_Bool, or_left, or_right}
use Rattle.std.proofs.lemmas.List.{get_or-map, length-map}
use Rattle.map_base.specs.declared.ids.SegId.{SegId}
use Rattle.map_base.specs.declared.ids.LineId.{LineId}
use Rattle.order_values.specs.PriceLists.{AreRisingPrices}
use Rattle.order_values.specs.DualTrees.{PlainDual, fork_depth}
use Rattle.order_model.specs.declared.term.Term.{Term}
use Rattle.order_model.specs.declared.term.Term.TheVariants.{Side, Link, Apart}
use Rattle.order_model.specs.declared.problem.ProblemParts.{ProblemParts}
use Rattle.order_model.specs.Problems.{lines_on}
use Rattle.order_model.specs.Parts.{IsRisingPart}
use Rattle.order_model.specs.PartTerms.{is_in, is_of, numbered_from, part_terms, part_numbers, plain_terms}
use Rattle.order_model.specs.Questions.{question}
use Rattle.order_model.proofs.Lines.{either_true}
use Rattle.order_proof.specs.Trees.{IsDualTree}
use Rattle.order_bound.proofs.Lists.{filter_passes}
use Rattle.order_search.specs.ByItself.{by_itself, term_in, seg_in, seg_from, number_from, seg_numbers, prices_by}
use Rattle.order_search.proofs.OwnParts.{at_number}
use Rattle.order_search.proofs.RisingNumbers.{RisesFrom, same_place, segs_rise, terms_rise, same_tests}
use Rattle.dual_bound.specs.Accepting.{failing}
use Rattle.dual_ascent.specs.OwnNumbers.{segments_from, all_segments}
use Rattle.dual_ascent.specs.Shown.{IsListed}
use Rattle.dual_ascent.proofs.OwnParts.{has_segment}
use Rattle.kept_trees.specs.Renumbered.{renumbered_dual}
use Rattle.kept_trees.proofs.OwnPlaces.{greater_later, place_within, place_at}
use Rattle.kept_trees.proofs.OwnNumbers.{within_from}
use Rattle.kept_trees.proofs.RenamedDuals.{moved_term, moved_terms, has_number, AreRenamed, accepted_moved, listed_moved, moved_depth}

abbrev Named : Type 0
Named = ℕ × Term

abbrev number : Named → ℕ
number q = q.0

abbrev no_seg : SegId
no_seg = record { 0 = 0 }

-- ---- segments of a part by itself

all_from : (segs : List (List LineId)) (k : ℕ) (rest : List (List LineId)) → k + length rest ≤ length segs
    → AllByRecursion (λ (s : SegId). is_in (segments_from 0 segs) s ≡ true) (segments_from k rest)
all_from segs k [] within = tt
all_from segs k (lines ∷ rest) within = (has_segment 0 segs (record { 0 = k }) (omega arith) (omega (arith, within)), all_from segs (k + 1) rest (omega (arith, within)))

back_from : (h : SegId → List LineId) (all : List SegId) (k : ℕ) (rest : List SegId)
    → ((i j : ℕ) → j ≡ k + i → i < length rest → get_or all j no_seg ≡ get_or rest i no_seg)
    → map (seg_from all) (segments_from k (map h rest)) ≡ rest
back_from h all k [] same = refl
back_from h all k (s ∷ rest) same =
    ap (λ (t : SegId). t ∷ map (seg_from all) (segments_from (k + 1) (map h rest))) (same 0 k (omega arith) (omega arith))
    ∙ ap (λ (ts : List SegId). s ∷ ts) (back_from h all (k + 1) rest (λ i j e below. same (suc i) j (omega (arith, e)) (omega (arith, below))))

-- ---- terms

seg_back : (part : List SegId) (s : SegId) → is_in part s ≡ true → seg_from part (seg_in part s) ≡ s
seg_back part s among = let made : ℕ → SegId = λ n. record { 0 = n } in ap made (place_at part s no_seg among)

term_back : (part : List SegId) (t : Term) → is_of part t ≡ true → moved_term (seg_from part) (term_in part t) ≡ t
term_back part (Side seg first second w) of =
    ap (λ (s : SegId). Side s first second w) (seg_back part seg (and_parts (is_in part seg) (is_in part seg) of).0)
term_back part (Link seg other flip a b w) of =
    let both = and_parts (is_in part seg) (is_in part other) of in
    λ i. Link (seg_back part seg both.0 i) (seg_back part other both.1 i) flip a b w
term_back part (Apart seg other a b w) of =
    let both = and_parts (is_in part seg) (is_in part other) of in
    λ i. Apart (seg_back part seg both.0 i) (seg_back part other both.1 i) a b w

abbrev own_from : List SegId → ℕ → List Named → List Named
own_from part k rest = numbered_from k (map (term_in part) (plain_terms rest))

terms_back : (part : List SegId) (numbers : List ℕ) (k : ℕ) (rest : List Named)
    → AllByRecursion (λ (q : Named). is_of part q.1 ≡ true) rest
    → ((i j : ℕ) → j ≡ k + i → i < length rest → get_or numbers j 0 ≡ get_or (map number rest) i 0)
    → moved_terms (seg_from part) (number_from numbers) (own_from part k rest) ≡ rest
terms_back part numbers k [] of same = refl
terms_back part numbers k (q ∷ rest) of same =
    let later : List Named = moved_terms (seg_from part) (number_from numbers) (own_from part (k + 1) rest) in
    ap (λ (n : ℕ). (n, moved_term (seg_from part) (term_in part q.1)) ∷ later) (same 0 k (omega arith) (omega arith))
    ∙ ap (λ (t : Term). (q.0, t) ∷ later) (term_back part q.1 of.0)
    ∙ ap (λ (qs : List Named). q ∷ qs) (terms_back part numbers (k + 1) rest of.1 (λ i j e below. same (suc i) j (omega (arith, e)) (omega (arith, below))))

own_in : (part : List SegId) (segs : List (List LineId)) (s : SegId) → length segs ≡ length part → is_in part s ≡ true
    → is_in (segments_from 0 segs) (seg_in part s) ≡ true
own_in part segs s each on = has_segment 0 segs (seg_in part s) (omega arith) (omega (arith, each, place_within part s on))

own_of : (part : List SegId) (segs : List (List LineId)) (t : Term) → length segs ≡ length part → is_of part t ≡ true
    → is_of (segments_from 0 segs) (term_in part t) ≡ true
own_of part segs (Side seg first second w) each of =
    let both = and_parts (is_in part seg) (is_in part seg) of in
    and_from _ _ (own_in part segs seg each both.0) (own_in part segs seg each both.1)
own_of part segs (Link seg other flip a b w) each of =
    let both = and_parts (is_in part seg) (is_in part other) of in
    and_from _ _ (own_in part segs seg each both.0) (own_in part segs other each both.1)
own_of part segs (Apart seg other a b w) each of =
    let both = and_parts (is_in part seg) (is_in part other) of in
    and_from _ _ (own_in part segs seg each both.0) (own_in part segs other each both.1)

all_of : (part : List SegId) (segs : List (List LineId)) (k : ℕ) (rest : List Named) → length segs ≡ length part
    → AllByRecursion (λ (q : Named). is_of part q.1 ≡ true) rest
    → AllByRecursion (λ (q : Named). is_of (segments_from 0 segs) q.1 ≡ true) (own_from part k rest)
all_of part segs k [] each of = tt
all_of part segs k (q ∷ rest) each of = (own_of part segs q.1 each of.0, all_of part segs (k + 1) rest each of.1)

number_in : (k : ℕ) (ts : List Term) (i : ℕ) → k ≤ i → i < k + length ts → has_number (numbered_from k ts) i ≡ true
number_in k [] i low high = absurd (omega (arith, low, high))
number_in k (t ∷ ts) i low high = elim (cases_Bool (k == i)) [
  | inl here ↦ or_left (k == i) (has_number (numbered_from (k + 1) ts) i) here
  | inr off ↦
      or_right (k == i) (has_number (numbered_from (k + 1) ts) i)
      (number_in (k + 1) ts i (omega (arith, low, eqb-false k i off)) (omega (arith, high)))
]

number_below : (k : ℕ) (ts : List Term) (i : ℕ) → has_number (numbered_from k ts) i ≡ true → i < k + length ts
number_below k [] i h = absurd (true≢false (sym h))
number_below k (t ∷ ts) i h = elim (either_true (k == i) (has_number (numbered_from (k + 1) ts) i) h) [
  | inl here ↦ omega (arith, eqb-true k i here)
  | inr later ↦ omega (arith, number_below (k + 1) ts i later)
]

numbers_in : (all : List Term) (k : ℕ) (rest : List Term) → k + length rest ≤ length all
    → AllByRecursion (λ (q : Named). has_number (numbered_from 0 all) q.0 ≡ true) (numbered_from k rest)
numbers_in all k [] within = tt
numbers_in all k (t ∷ rest) within = (number_in 0 all k (omega arith) (omega (arith, within)), numbers_in all (k + 1) rest (omega (arith, within)))

two_facts : (P Q : Named → Type 0) (qs : List Named) → AllByRecursion P qs → AllByRecursion Q qs
    → AllByRecursion (λ (q : Named). P q × Q q) qs
two_facts P Q [] a b = tt
two_facts P Q (q ∷ qs) a b = ((a.0, b.0), two_facts P Q qs a.1 b.1)

-- numbers that rise keep prices rising
rising_moved : (numbers : List ℕ) → RisesFrom 0 numbers → (prices : List (ℕ × ℤ))
    → AllByRecursion (λ (q : ℕ × ℤ). q.0 < length numbers) prices
    → AreRisingPrices prices → AreRisingPrices (prices_by (number_from numbers) prices)
rising_moved numbers rise [] below h = tt
rising_moved numbers rise (q ∷ []) below h = tt
rising_moved numbers rise (q ∷ r ∷ prices) below h =
    (greater_later 0 numbers q.0 r.0 rise h.0 below.1.0, rising_moved numbers rise (r ∷ prices) below.1 h.1)

pub renumbered_depth : (part : List SegId) (numbers : List ℕ) (tree : PlainDual)
    → fork_depth (renumbered_dual part numbers tree) ≡ fork_depth tree
renumbered_depth part numbers tree = moved_depth (seg_from part) (number_from numbers) tree

-- a part by itself with its own numbers, and the part in its problem
module _ (p : ProblemParts) (part : List SegId) where
  abbrev own : ProblemParts
  own = by_itself p part

  abbrev all : List SegId
  all = all_segments own

  abbrev terms : List Named
  terms = part_terms p.terms part

  abbrev numbers : List ℕ
  numbers = part_numbers p.terms part

  abbrev f : SegId → SegId
  f = seg_from part

  abbrev g : ℕ → ℕ
  g = number_from numbers

  of : AllByRecursion (λ (q : Named). is_of part q.1 ≡ true) terms
  of = filter_passes (λ (q : Named). is_of part q.1) (numbered_from 0 p.terms)

  each : length own.segs ≡ length part
  each = length-map part (lines_on p.segs)

  count : length own.terms ≡ length numbers
  count = length-map (plain_terms terms) (term_in part) ∙ length-map terms (λ (q : Named). q.1) ∙ sym (length-map terms number)

  within : AllByRecursion (λ (q : Named). is_of all q.1 ≡ true) (numbered_from 0 own.terms)
  within = all_of part own.segs 0 terms each of

  all_in : AllByRecursion (λ (s : SegId). is_in all s ≡ true) all
  all_in = all_from own.segs 0 own.segs (omega arith)

  known : AllByRecursion (λ (q : Named). (is_of all q.1 ≡ true) × (has_number (numbered_from 0 own.terms) q.0 ≡ true)) (numbered_from 0 own.terms)
  known = two_facts (λ (q : Named). is_of all q.1 ≡ true) (λ (q : Named). has_number (numbered_from 0 own.terms) q.0 ≡ true) (numbered_from 0 own.terms)
      within (numbers_in own.terms 0 own.terms (omega arith))

  -- the segment at a place of the part
  placed : (s : SegId) → is_in all s ≡ true
      → (s.0 < length (seg_numbers part)) × (get_or (seg_numbers part) s.0 0 ≡ (f s).0)
  placed s on =
      let below : s.0 < length part = omega (arith, each, within_from 0 own.segs s on) in
      (omega (arith, below, length-map part (λ (u : SegId). u.0)), at_number part s.0 no_seg below)

  numbered : (i : ℕ) → has_number (numbered_from 0 own.terms) i ≡ true → i < length numbers
  numbered i on = omega (arith, count, number_below 0 own.terms i on)

  rise : RisesFrom 0 numbers
  rise = terms_rise (λ (q : Named). is_of part q.1) 0 p.terms

  renamed : IsRisingPart part → AreRenamed f g own.segs p.segs all (numbered_from 0 own.terms)
  renamed rising = record {
    lines = λ s on. sym (get_or-map (lines_on p.segs) part s.0 no_seg [] (omega (arith, each, within_from 0 own.segs s on)));
    apart = λ s t on also.
        let here = placed s on in
        let there = placed t also in
        same_tests (f s).0 (f t).0 s.0 t.0
        (λ same. same_place 0 (seg_numbers part) s.0 t.0 (segs_rise part rising) here.0 there.0 (here.1 ∙ same ∙ sym there.1))
        (λ same. ap (λ (n : ℕ). (get_or part n no_seg).0) same);
    numbers = λ i j on also.
        same_tests (g i) (g j) i j (λ same. same_place 0 numbers i j rise (numbered i on) (numbered j also) same) (λ same. ap g same);
    within = within;
  }

  same_part : map f all ≡ part
  same_part = back_from (lines_on p.segs) part 0 part (λ i j e below. let at : j ≡ i = omega (arith, e) in ap (λ (n : ℕ). get_or part n no_seg) at)

  same_terms : moved_terms f g (numbered_from 0 own.terms) ≡ terms
  same_terms = terms_back part numbers 0 terms of (λ i j e below. let at : j ≡ i = omega (arith, e) in ap (λ (n : ℕ). get_or numbers n 0) at)

  known_below : (prices : List (ℕ × ℤ))
      → AllByRecursion (λ (q : ℕ × ℤ). has_number (numbered_from 0 own.terms) q.0 ≡ true) prices
      → AllByRecursion (λ (q : ℕ × ℤ). q.0 < length numbers) prices
  known_below [] h = tt
  known_below (q ∷ prices) h = (numbered q.0 h.0, known_below prices h.1)

  module _ (target : ℕ) (tree : PlainDual) (rising : IsRisingPart part) (none : failing (question own.segs all (numbered_from 0 own.terms) target) tree ≡ None) where
    pub own_accepted : failing (question p.segs part terms target) (renumbered_dual part numbers tree) ≡ None
    own_accepted =
        subst (λ (ts : List Named). failing (question p.segs part ts target) (renumbered_dual part numbers tree) ≡ None) same_terms
        (subst (λ (ss : List SegId). failing (question p.segs ss (moved_terms f g (numbered_from 0 own.terms)) target) (renumbered_dual part numbers tree) ≡ None) same_part
        (accepted_moved f g own.segs p.segs all (numbered_from 0 own.terms) (renamed rising) target all_in known tree none))

    -- terms rise at each stop
    pub own_listed : IsListed tree → IsDualTree (renumbered_dual part numbers tree)
    own_listed =
        listed_moved f g own.segs p.segs all (numbered_from 0 own.terms) (renamed rising) target all_in known
        (λ prices known_prices. rising_moved numbers rise prices (known_below prices known_prices)) tree none
