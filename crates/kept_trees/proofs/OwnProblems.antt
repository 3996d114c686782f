-- A part by itself is a problem.
use Rattle.std.proofs.Common.{◌≡◌, ℕ, zero, suc, ◌+◌, ◌<◌, ◌≤◌, true, List, [], ◌∷◌, length, map, drop, sum_by, get_or, refl, sym, ◌∙◌, ap, subst, arith, Contains}
use Rattle.std.specs.List.{All, AllByRecursion}
use Rattle.std.proofs.lemmas.Bool.{and_parts}
use Rattle.std.proofs.lemmas.List.{length-map}
use Rattle.std.proofs.lemmas.List.Elements.{All-map, All-from_recursion, recursion_from_All}
use Rattle.std.proofs.lemmas.List.Sums.{sum_by-cons, sum_by-drop_more}
use Rattle.map_base.specs.declared.ids.SegId.{SegId}
use Rattle.map_base.specs.declared.ids.LineId.{LineId}
use Rattle.graph_core.specs.Consistent.{AreRising}
use Rattle.order_model.specs.declared.term.Term.{Term}
use Rattle.order_model.specs.declared.term.Term.TheVariants.{Side, Link, Apart}
use Rattle.order_model.specs.declared.problem.ProblemParts.{ProblemParts}
use Rattle.order_model.specs.Problems.{lines_on, choices, IsOn, IsPair, IsTerm, IsProblem}
use Rattle.order_model.specs.Parts.{IsRisingPart}
use Rattle.order_model.specs.PartTerms.{is_in, is_of, part_terms, part_numbers, plain_terms, terms_by_number, no_term}
use Rattle.order_model.proofs.KeptTerms.{part_terms_few, part_terms_fit, part_terms_by_number}
use Rattle.order_bound.proofs.Lists.{filter_passes}
use Rattle.order_search.specs.ByItself.{place_in, seg_numbers, seg_in, term_in, by_itself}
use Rattle.order_search.proofs.OwnParts.{lines_there}
use Rattle.order_search.proofs.RisingNumbers.{RisesFrom, placed_at, segs_rise}
use Rattle.kept_trees.proofs.OwnPlaces.{among_numbers, place_within, place_less}

-- a sum over what is left from a later place is no more
drop_less : {A : Type 0} (f : A → ℕ) (xs : List A) (k j : ℕ) → k ≤ j → sum_by f (drop j xs) ≤ sum_by f (drop k xs)
drop_less f [] zero zero less = omega arith
drop_less f [] zero (suc j) less = omega arith
drop_less f [] (suc k) zero less = omega arith
drop_less f [] (suc k) (suc j) less = omega arith
drop_less f (x ∷ xs) zero zero less = omega arith
drop_less f (x ∷ xs) zero (suc j) less = omega (arith, sum_by-cons f x xs, drop_less f xs zero j (omega arith))
drop_less f (x ∷ xs) (suc k) zero less = absurd (omega (arith, less))
drop_less f (x ∷ xs) (suc k) (suc j) less = drop_less f xs k j (omega (arith, less))

-- what some segments make in sum is no more than what all make
some_of : (f : List LineId → ℕ) (segs : List (List LineId)) (k : ℕ) (part : List SegId) → RisesFrom k (seg_numbers part)
    → AllByRecursion (λ (s : SegId). s.0 < length segs) part
    → sum_by f (map (lines_on segs) part) ≤ sum_by f (drop k segs)
some_of f segs k [] rises known = omega arith
some_of f segs k (s ∷ part) rises known =
    omega (
      arith,
      sum_by-cons f (lines_on segs s) (map (lines_on segs) part),
      sum_by-drop_more f segs s.0 [] known.0,
      some_of f segs (s.0 + 1) part rises.1 known.1,
      drop_less f segs k s.0 rises.0,
    )

-- no more segments than numbers from k on
few_from : (most k : ℕ) (part : List SegId) → RisesFrom k (seg_numbers part)
    → AllByRecursion (λ (s : SegId). s.0 < most) part → k ≤ most → k + length part ≤ most
few_from most k [] rises known within = omega (arith, within)
few_from most k (s ∷ part) rises known within = omega (arith, rises.0, few_from most (s.0 + 1) part rises.1 known.1 (omega (arith, known.0)))

pub few_segments : (most : ℕ) (part : List SegId) → All (λ (s : SegId). s.0 < most) part → IsRisingPart part
    → length part ≤ most
few_segments most part known rising = omega (arith, few_from most 0 part (segs_rise part rising) (recursion_from_All (λ (s : SegId). s.0 < most) part known) (omega arith))

-- the lines of a segment by itself
pub lines_in : (segs : List (List LineId)) (part : List SegId) (s : SegId) → is_in part s ≡ true
    → lines_on (map (lines_on segs) part) (seg_in part s) ≡ lines_on segs s
lines_in segs part s among =
    sym (lines_there segs part (place_in part s) (place_within part s among)) ∙ ap (λ n. get_or segs n []) (placed_at (seg_numbers part) s.0 (among_numbers part s among))

on_own : (segs : List (List LineId)) (part : List SegId) (s : SegId) (a : LineId) → is_in part s ≡ true → IsOn segs s a
    → IsOn (map (lines_on segs) part) (seg_in part s) a
on_own segs part s a among on = subst (λ (lines : List LineId). Contains lines a) (sym (lines_in segs part s among)) on

module _ (segs : List (List LineId)) (part : List SegId) (rising : IsRisingPart part) where
  abbrev own : List (List LineId)
  own = map (lines_on segs) part

  own_count : length own ≡ length part
  own_count = length-map part (lines_on segs)

  pair_by_itself : (seg other : SegId) (a b : LineId) (w : ℕ) → is_in part seg ≡ true → is_in part other ≡ true
      → IsPair segs seg other a b w
      → IsPair own (seg_in part seg) (seg_in part other) a b w
  pair_by_itself seg other a b w here there pair = record {
    other_known = omega (arith, own_count, place_within part other there);
    seg_below = place_less part seg other rising here there pair.seg_below;
    a_below = pair.a_below;
    a_on = on_own segs part seg a here pair.a_on;
    b_on = on_own segs part seg b here pair.b_on;
    a_on_other = on_own segs part other a there pair.a_on_other;
    b_on_other = on_own segs part other b there pair.b_on_other;
    weight = pair.weight;
  }

  term_by_itself : (t : Term) → is_of part t ≡ true → IsTerm segs t → IsTerm own (term_in part t)
  term_by_itself (Side seg first second w) of side =
      let among : is_in part seg ≡ true = (and_parts (is_in part seg) (is_in part seg) of).0 in
      record {
        seg_known = omega (arith, own_count, place_within part seg among);
        differ = side.differ;
        first_on = on_own segs part seg first among side.first_on;
        second_on = on_own segs part seg second among side.second_on;
        weight = side.weight;
      }
  term_by_itself (Link seg other flip a b w) of pair =
      let ends = and_parts (is_in part seg) (is_in part other) of in pair_by_itself seg other a b w ends.0 ends.1 pair
  term_by_itself (Apart seg other a b w) of pair =
      let ends = and_parts (is_in part seg) (is_in part other) of in pair_by_itself seg other a b w ends.0 ends.1 pair

  terms_by_itself : (qs : List (ℕ × Term)) → AllByRecursion (λ (q : ℕ × Term). is_of part q.1 ≡ true) qs
      → AllByRecursion (IsTerm segs) (plain_terms qs)
      → AllByRecursion (IsTerm own) (map (term_in part) (plain_terms qs))
  terms_by_itself [] of fit = tt
  terms_by_itself (q ∷ qs) of fit = (term_by_itself q.1 of.0 fit.0, terms_by_itself qs of.1 fit.1)

pub problem_by_itself : (p : ProblemParts) (part : List SegId) → IsProblem p
    → All (λ (s : SegId). s.0 < length p.segs) part → IsRisingPart part
    → IsProblem (by_itself p part)
problem_by_itself p part problem known rising =
    let each = recursion_from_All (λ (s : SegId). s.0 < length p.segs) part known in
    let kept : List (ℕ × Term) = part_terms p.terms part in
    let all_of : AllByRecursion (λ (q : ℕ × Term). is_of part q.1 ≡ true) kept = filter_passes (λ (q : ℕ × Term). is_of part q.1) _ in
    let fit = recursion_from_All (IsTerm p.segs) (plain_terms kept) (part_terms_fit p.segs part p.terms problem.terms) in
    record {
      rising = All-map AreRising (lines_on p.segs) part (λ k d below. problem.rising (get_or part k d).0 [] (known k d below));
      terms = All-from_recursion (IsTerm (by_itself p part).segs) (by_itself p part).terms (terms_by_itself p.segs part rising kept all_of fit);
      few_terms = omega (
        arith,
        problem.few_terms,
        part_terms_few part p.terms,
        length-map (plain_terms kept) (term_in part),
        length-map kept (λ (q : ℕ × Term). q.1),
      );
      few_choices = omega (
        arith,
        problem.few_choices,
        length-map part (lines_on p.segs),
        few_segments (length p.segs) part known rising,
        some_of choices p.segs 0 part (segs_rise part rising) each,
      );
    }

-- Terms by their numbers.

pub own_by_number : (part : List SegId) (terms : List Term) (ns : List ℕ)
    → map (λ n. term_in part (get_or terms n no_term)) ns ≡ map (term_in part) (plain_terms (terms_by_number terms ns))
own_by_number part terms [] = refl
own_by_number part terms (n ∷ ns) = ap (λ (ts : List Term). term_in part (get_or terms n no_term) ∷ ts) (own_by_number part terms ns)

pub own_terms_are : (part : List SegId) (terms : List Term)
    → map (λ n. term_in part (get_or terms n no_term)) (part_numbers terms part) ≡ map (term_in part) (plain_terms (part_terms terms part))
own_terms_are part terms =
    own_by_number part terms (part_numbers terms part) ∙ ap (λ (qs : List (ℕ × Term)). map (term_in part) (plain_terms qs)) (part_terms_by_number part terms)

of_number : (part : List SegId) (terms : List Term) (ns : List ℕ) (i : ℕ)
    → AllByRecursion (λ (q : ℕ × Term). is_of part q.1 ≡ true) (terms_by_number terms ns) → i < length ns
    → is_of part (get_or terms (get_or ns i 0) no_term) ≡ true
of_number part terms [] i of below = absurd (omega (arith, below))
of_number part terms (n ∷ ns) zero of below = of.0
of_number part terms (n ∷ ns) (suc i) of below = of_number part terms ns i of.1 (omega (arith, below))

-- the terms with the numbers of a part are of the part
pub of_part : (part : List SegId) (terms : List Term) (i : ℕ) → i < length (part_numbers terms part)
    → is_of part (get_or terms (get_or (part_numbers terms part) i 0) no_term) ≡ true
of_part part terms i below =
    of_number part terms (part_numbers terms part) i
    (subst (AllByRecursion (λ (q : ℕ × Term). is_of part q.1 ≡ true)) (sym (part_terms_by_number part terms)) (filter_passes (λ (q : ℕ × Term). is_of part q.1) _)) below

-- the same of numbers that are those of the part
pub of_read : (part : List SegId) (terms : List Term) (numbers : List ℕ) (i : ℕ) → numbers ≡ part_numbers terms part
    → i < length numbers
    → is_of part (get_or terms (get_or numbers i 0) no_term) ≡ true
of_read part terms numbers i told below =
    subst (λ (ns : List ℕ). is_of part (get_or terms (get_or ns i 0) no_term) ≡ true) (sym told) (of_part part terms i (subst (λ (ns : List ℕ). i < length ns) told below))
