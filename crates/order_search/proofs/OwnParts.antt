-- A part of a problem by itself has the live tree of the part, but for the numbers of segments and terms.
use Rattle.std.proofs.Common.{◌≡◌, ℕ, zero, suc, ◌+◌, ◌<◌, ◌≤◌, ◌==◌, ◌||◌, ◌&&◌, Bool, true, false, cond, List, [], ◌∷◌, length, map, filter, get_or, refl, sym, ◌∙◌, ap, subst, arith, inl, inr, eq-eqb}
use Rattle.std.specs.List.{All, AllByRecursion}
use Rattle.std.proofs.lemmas.Bool.{cases_lt, and_parts}
use Rattle.std.proofs.lemmas.List.{get_or_past, length-map}
use Rattle.std.proofs.lemmas.List.Elements.{All-from_recursion, recursion_from_All}
use Rattle.map_base.specs.declared.ids.SegId.{SegId}
use Rattle.map_base.specs.declared.ids.LineId.{LineId}
use Rattle.order_model.specs.declared.term.Term.{Term}
use Rattle.order_model.specs.declared.term.Term.TheVariants.{Side, Link, Apart}
use Rattle.order_model.specs.declared.problem.ProblemParts.{ProblemParts}
use Rattle.order_model.specs.Problems.{lines_on}
use Rattle.order_model.specs.Costs.{seg_of, other_of}
use Rattle.order_model.specs.Parts.{IsRisingPart}
use Rattle.order_model.specs.PartTerms.{numbered_from, is_in, is_of, part_terms, part_numbers, plain_terms}
use Rattle.order_model.proofs.KeptTerms.{part_numbers_known}
use Rattle.order_proof.specs.Plain.{PlainTree, split, close, Cases, no_case, case_of}
use Rattle.order_proof.specs.Trees.{splits_of, splits_of_cases}
use Rattle.order_bound.proofs.Lists.{filter_passes}
use Rattle.order_bound.proofs.Sound.{same_or_other}
use Rattle.order_search.specs.LiveTrees.{GrownTree, live_tree}
use Rattle.order_search.specs.Bounded.{bounded_part}
use Rattle.order_search.specs.FoundParts.{part_in}
use Rattle.order_search.specs.ByItself.{seg_numbers, place_among, place_in, seg_in, term_in, by_itself, numbered_like, own_segments, tree_by, cases_by, seg_from, number_from}
use Rattle.order_search.proofs.RisingNumbers.{RisesFrom, number_past, number_within, number_beyond, at_place, numbers_apart, is_number, placed_within, placed_at, place_back, segs_rise, terms_rise}
use Rattle.order_search.proofs.Renaming.{Renaming, seg_by, term_by, numbered_by, AreSame}
use Rattle.order_search.proofs.RenamedTrees.{moved, stays, live_same}

-- Numbers that are told by a list.

pub at_number : (part : List SegId) (i : ℕ) (d : SegId) → i < length part → get_or (seg_numbers part) i 0 ≡ (get_or part i d).0
at_number [] i d below = absurd (omega (arith, below))
at_number (s ∷ part) zero d below = refl
at_number (s ∷ part) (suc i) d below = at_number part i d (omega (arith, below))

pub lines_there : (segs : List (List LineId)) (part : List SegId) (i : ℕ) → i < length part → get_or segs (get_or (seg_numbers part) i 0) [] ≡ get_or (map (lines_on segs) part) i []
lines_there segs [] i below = absurd (omega (arith, below))
lines_there segs (s ∷ part) zero below = refl
lines_there segs (s ∷ part) (suc i) below = lines_there segs part i (omega (arith, below))

-- the segments of the part by themselves are those of its places
like_known : (P : SegId → Type 0) (k : ℕ) (part : List SegId) → ((i : ℕ) → k ≤ i → i < k + length part → P (record { 0 = i })) → AllByRecursion P (numbered_like k part)
like_known P k [] each = tt
like_known P k (s ∷ part) each = (each k (omega arith) (omega arith), like_known P (k + 1) part (λ i above below. each i (omega (arith, above)) (omega (arith, below))))

in_like : (k : ℕ) (part : List SegId) (i : ℕ) → k ≤ i → i < k + length part → is_in (numbered_like k part) (record { 0 = i }) ≡ true
in_like k [] i above below = absurd (omega (arith, above, below))
in_like k (s ∷ part) i above below = elim (same_or_other k i) [
  | inl e ↦ ap (λ b. b || is_in (numbered_like (k + 1) part) (record { 0 = i })) (eq-eqb k i e)
  | inr n ↦ later (k == i) (is_in (numbered_like (k + 1) part) (record { 0 = i })) (in_like (k + 1) part i (omega (arith, above, n)) (omega (arith, below)))
]
  where
    later : (a b : Bool) → b ≡ true → (a || b) ≡ true
    later true b h = refl
    later false b h = h

-- the numbered segments are the part
back_to : (f : ℕ → ℕ) (k : ℕ) (part : List SegId) → ((i j : ℕ) → k + i ≡ j → i < length part → f j ≡ get_or (seg_numbers part) i 0)
    → map (λ (s : SegId). let t : SegId = record { 0 = f s.0 } in t) (numbered_like k part) ≡ part
back_to f k [] told = refl
back_to f k (s ∷ part) told =
    let made : ℕ → SegId = λ n. record { 0 = n } in
    let rest : List SegId = map (λ (s : SegId). let t : SegId = record { 0 = f s.0 } in t) (numbered_like (k + 1) part) in
    ap (λ n. made n ∷ rest) (told 0 k (omega arith) (omega arith))
    ∙ ap (λ ss. s ∷ ss) (back_to f (k + 1) part (λ i j e below. told (suc i) j (omega (arith, e)) (omega (arith, below))))

pub numbers_of_segments : (part : List SegId) (s : SegId) → is_in part s ≡ is_number (seg_numbers part) s.0
numbers_of_segments [] s = refl
numbers_of_segments (t ∷ part) s = ap (λ b. (t.0 == s.0) || b) (numbers_of_segments part s)

all_below : (most : ℕ) (part : List SegId) → AllByRecursion (λ (s : SegId). s.0 < most) part → AllByRecursion (λ n. n < most) (seg_numbers part)
all_below most [] h = tt
all_below most (s ∷ part) h = (h.0, all_below most part h.1)

-- the terms with these numbers, one by one
numbered_known : (P : ℕ × Term → Type 0) (k : ℕ) (terms : List Term) → ((i : ℕ) (t : Term) → k ≤ i → i < k + length terms → P (i, t)) → AllByRecursion P (numbered_from k terms)
numbered_known P k [] each = tt
numbered_known P k (t ∷ terms) each =
    (each k t (omega arith) (omega arith), numbered_known P (k + 1) terms (λ i t above below. each i t (omega (arith, above)) (omega (arith, below))))

both : {a b : Bool} → a ≡ true → b ≡ true → (a && b) ≡ true
both {a} {b} h k = ap (λ x. x && b) h ∙ k

filter_all : {A : Type 0} (p : A → Bool) (xs : List A) → AllByRecursion (λ x. p x ≡ true) xs → filter p xs ≡ xs
filter_all p [] h = refl
filter_all p (x ∷ xs) h = ap (λ b. cond b (x ∷ filter p xs) (filter p xs)) h.0 ∙ ap (λ ys. x ∷ ys) (filter_all p xs h.1)

-- the segments of a term of the part
ends_in : (part : List SegId) (t : Term) → is_of part t ≡ true → (is_in part (seg_of t) ≡ true) × (is_in part (other_of t) ≡ true)
ends_in part t h = and_parts (is_in part (seg_of t)) (is_in part (other_of t)) h

module _ (p : ProblemParts) (part : List SegId) (known : All (λ (s : SegId). s.0 < length p.segs) part) (rising : IsRisingPart part) where
  abbrev pub numbers : List ℕ
  numbers = part_numbers p.terms part

  abbrev pub own : ProblemParts
  own = by_itself p part

  pub segs_below : AllByRecursion (λ n. n < length p.segs) (seg_numbers part)
  segs_below = all_below (length p.segs) part (recursion_from_All (λ (s : SegId). s.0 < length p.segs) part known)

  pub numbers_below : AllByRecursion (λ n. n < length p.terms) numbers
  numbers_below = recursion_from_All (λ n. n < length p.terms) numbers (part_numbers_known part p.terms)

  pub numbers_rise : RisesFrom 0 numbers
  numbers_rise = terms_rise (λ (q : ℕ × Term). is_of part q.1) 0 p.terms

  abbrev pub r : Renaming
  r = record {
    seg = number_past (seg_numbers part) (length p.segs);
    number = number_past numbers (length p.terms);
    segs_apart = numbers_apart (seg_numbers part) (length p.segs) (segs_rise part rising) segs_below;
    numbers_apart = numbers_apart numbers (length p.terms) numbers_rise numbers_below;
  }

  seg_count : length (seg_numbers part) ≡ length part
  seg_count = length-map part (λ (s : SegId). s.0)

  own_count : length own.segs ≡ length part
  own_count = length-map part (lines_on p.segs)

  -- the segment at a place of the part, under the other numbers
  pub seg_told : (i : ℕ) → i < length part → r.seg i ≡ get_or (seg_numbers part) i 0
  seg_told i below = number_within (seg_numbers part) (length p.segs) i (omega (arith, seg_count, below))

  pub same_segs : AreSame r own.segs p.segs
  same_segs = record {
    at = λ s. elim (cases_lt s.0 (length part)) [
      | inl below ↦ ap (λ n. get_or p.segs n []) (seg_told s.0 below) ∙ lines_there p.segs part s.0 below
      | inr above ↦ ap (λ n. get_or p.segs n []) (number_beyond (seg_numbers part) (length p.segs) s.0 (omega (arith, seg_count, above)))
          ∙ get_or_past p.segs (s.0 + length p.segs) [] (omega arith)
          ∙ sym (get_or_past own.segs s.0 [] (omega (arith, own_count, above)))
    ];
  }

  pub part_back : map (seg_by r) (own_segments part) ≡ part
  part_back = back_to r.seg 0 part (λ i j e below.
      let same : i ≡ j = omega (arith, e) in
      ap r.seg (sym same) ∙ seg_told i below)

  -- a segment of the part, there and back
  seg_back : (s : SegId) → is_in part s ≡ true → seg_by r (seg_in part s) ≡ s
  seg_back s h =
      let there : is_number (seg_numbers part) s.0 ≡ true = sym (numbers_of_segments part s) ∙ h in
      let made : ℕ → SegId = λ n. record { 0 = n } in
      ap made (number_within (seg_numbers part) (length p.segs) (place_in part s) (placed_within (seg_numbers part) s.0 there) ∙ placed_at (seg_numbers part) s.0 there)

  term_back : (t : Term) → is_of part t ≡ true → term_by r (term_in part t) ≡ t
  term_back (Side seg first second w) h = ap (λ s. Side s first second w) (seg_back seg (let ends = ends_in part (Side seg first second w) h in ends.0))
  term_back (Link seg other flip a b w) h =
      let ends = ends_in part (Link seg other flip a b w) h in
      ap (λ s. Link s (seg_by r (seg_in part other)) flip a b w) (seg_back seg ends.0) ∙ ap (λ s. Link seg s flip a b w) (seg_back other ends.1)
  term_back (Apart seg other a b w) h =
      let ends = ends_in part (Apart seg other a b w) h in
      ap (λ s. Apart s (seg_by r (seg_in part other)) a b w) (seg_back seg ends.0) ∙ ap (λ s. Apart seg s a b w) (seg_back other ends.1)

  terms_back : (k : ℕ) (qs : List (ℕ × Term)) → AllByRecursion (λ (q : ℕ × Term). is_of part q.1 ≡ true) qs
      → ((i j : ℕ) → k + i ≡ j → i < length qs → r.number j ≡ get_or (map (λ (q : ℕ × Term). q.0) qs) i 0)
      → map (numbered_by r) (numbered_from k (map (term_in part) (plain_terms qs))) ≡ qs
  terms_back k [] of told = refl
  terms_back k (q ∷ qs) of told =
      let made : ℕ → Term → List (ℕ × Term) → List (ℕ × Term) = λ n t rest. (n, t) ∷ rest in
      let rest : List (ℕ × Term) = map (numbered_by r) (numbered_from (k + 1) (map (term_in part) (plain_terms qs))) in
      ap (λ n. made n (term_by r (term_in part q.1)) rest) (told 0 k (omega arith) (omega arith))
      ∙ ap (λ t. made q.0 t rest) (term_back q.1 of.0)
      ∙ ap (made q.0 q.1) (terms_back (k + 1) qs of.1 (λ i j e below. told (suc i) j (omega (arith, e)) (omega (arith, below))))

  -- the part's terms by themselves are all terms
  own_in : (s : SegId) → is_in part s ≡ true → is_in (own_segments part) (seg_in part s) ≡ true
  own_in s h =
      let there : is_number (seg_numbers part) s.0 ≡ true = sym (numbers_of_segments part s) ∙ h in
      in_like 0 part (place_in part s) (omega arith) (omega (arith, placed_within (seg_numbers part) s.0 there, seg_count))

  own_of : (t : Term) → is_of part t ≡ true → is_of (own_segments part) (term_in part t) ≡ true
  own_of (Side seg first second w) h =
      let ends = ends_in part (Side seg first second w) h in both (own_in seg ends.0) (own_in seg ends.1)
  own_of (Link seg other flip a b w) h =
      let ends = ends_in part (Link seg other flip a b w) h in both (own_in seg ends.0) (own_in other ends.1)
  own_of (Apart seg other a b w) h =
      let ends = ends_in part (Apart seg other a b w) h in both (own_in seg ends.0) (own_in other ends.1)

  own_ofs : (k : ℕ) (qs : List (ℕ × Term)) → AllByRecursion (λ (q : ℕ × Term). is_of part q.1 ≡ true) qs
      → AllByRecursion (λ (q : ℕ × Term). is_of (own_segments part) q.1 ≡ true) (numbered_from k (map (term_in part) (plain_terms qs)))
  own_ofs k [] of = tt
  own_ofs k (q ∷ qs) of = (own_of q.1 of.0, own_ofs (k + 1) qs of.1)

  all_of : AllByRecursion (λ (q : ℕ × Term). is_of part q.1 ≡ true) (part_terms p.terms part)
  all_of = filter_passes (λ (q : ℕ × Term). is_of part q.1) (numbered_from 0 p.terms)

  own_terms : part_terms own.terms (own_segments part) ≡ numbered_from 0 own.terms
  own_terms = filter_all (λ (q : ℕ × Term). is_of (own_segments part) q.1) (numbered_from 0 own.terms) (own_ofs 0 (part_terms p.terms part) all_of)

  pub terms_there : map (numbered_by r) (part_terms own.terms (own_segments part)) ≡ part_terms p.terms part
  terms_there =
      ap (map (numbered_by r)) own_terms
      ∙ terms_back 0 (part_terms p.terms part) all_of (λ i j e below.
      let same : i ≡ j = omega (arith, e) in
      let count : length numbers ≡ length (part_terms p.terms part) = length-map (part_terms p.terms part) (λ (q : ℕ × Term). q.0) in
      ap r.number (sym same) ∙ number_within numbers (length p.terms) i (omega (arith, count, below)))

  -- the part of the problem is the part by itself under the other numbers
  part_there : bounded_part p.segs (map (seg_by r) (own_segments part)) (map (numbered_by r) (part_terms own.terms (own_segments part))) ≡ part_in p part
  part_there = ap (λ x. bounded_part p.segs x (map (numbered_by r) (part_terms own.terms (own_segments part)))) part_back ∙ ap (bounded_part p.segs part) terms_there

  pub own_known : AllByRecursion (λ (s : SegId). s.0 < length own.segs) (own_segments part)
  own_known = like_known (λ (s : SegId). s.0 < length own.segs) 0 part (λ i above below. omega (arith, own_count, below))

  pub own_known_all : All (λ (s : SegId). s.0 < length own.segs) (own_segments part)
  own_known_all = All-from_recursion (λ (s : SegId). s.0 < length own.segs) (own_segments part) own_known

  pub within : (i : ℕ) → i < length own.segs → r.seg i < length p.segs
  within i below =
      let inside : i < length part = omega (arith, own_count, below) in
      omega (arith, seg_told i inside, at_place (λ n. n < length p.segs) (seg_numbers part) i segs_below (omega (arith, seg_count, inside)))

  number_count : length own.terms ≡ length numbers
  number_count =
      length-map (plain_terms (part_terms p.terms part)) (term_in part) ∙ length-map (part_terms p.terms part) (λ (q : ℕ × Term). q.1)
      ∙ sym (length-map (part_terms p.terms part) (λ (q : ℕ × Term). q.0))

  abbrev own_live : GrownTree
  own_live = live_tree (part_in own (own_segments part))

  pub numbers_told : (f g : ℕ → ℕ) → ((k : ℕ) → k < length numbers → f (r.number k) ≡ g k)
      → AllByRecursion (λ (t : ℕ × Term). f (r.number t.0) ≡ g t.0) (part_terms own.terms (own_segments part))
  numbers_told f g each =
      subst (AllByRecursion (λ (t : ℕ × Term). f (r.number t.0) ≡ g t.0)) (sym own_terms)
      (numbered_known (λ (t : ℕ × Term). f (r.number t.0) ≡ g t.0) 0 own.terms (λ k t above below. each k (omega (arith, number_count, below))))

  pub segs_told : (f g : SegId → SegId) → ((i : ℕ) → i < length part → f (seg_by r (record { 0 = i })) ≡ g (record { 0 = i }))
      → All (λ (s : SegId). f (seg_by r s) ≡ g s) (own_segments part)
  segs_told f g each =
      All-from_recursion (λ (s : SegId). f (seg_by r s) ≡ g s) (own_segments part)
      (like_known (λ (s : SegId). f (seg_by r s) ≡ g s) 0 part (λ i above below. each i (omega (arith, below))))

  alike : (f g : SegId → SegId) (m n : ℕ → ℕ) → ((i : ℕ) → i < length part → f (seg_by r (record { 0 = i })) ≡ g (record { 0 = i }))
      → ((k : ℕ) → k < length numbers → m (r.number k) ≡ n k) → moved f m (live_tree (part_in p part)) ≡ moved g n own_live
  alike f g m n segs nums =
      ap (λ q. moved f m (live_tree q)) (sym part_there)
      ∙ live_same r own.segs p.segs (own_segments part) (part_terms own.terms (own_segments part)) same_segs
      (All-from_recursion (λ (s : SegId). s.0 < length own.segs) (own_segments part) own_known) within g f n m (segs_told f g segs) (numbers_told m n nums)

  -- the live tree of the part is that of the part by itself, under the numbers of the problem
  pub from_own : live_tree (part_in p part) ≡ moved (seg_from part) (number_from numbers) own_live
  from_own =
      sym (stays (live_tree (part_in p part)))
      ∙ alike (λ s. s) (seg_from part) (λ n. n) (number_from numbers)
      (λ i below. let made : ℕ → SegId = λ n. record { 0 = n } in ap made (seg_told i below ∙ at_number part i (record { 0 = 0 }) below))
      (λ k below. number_within numbers (length p.terms) k below)

  -- and the other way round
  pub to_own : moved (seg_in part) (place_among numbers) (live_tree (part_in p part)) ≡ own_live
  to_own =
      alike (seg_in part) (λ s. s) (place_among numbers) (λ n. n)
      (λ i below.
      let made : ℕ → SegId = λ n. record { 0 = n } in
      ap (λ n. made (place_among (seg_numbers part) n)) (seg_told i below) ∙ ap made (place_back (seg_numbers part) i (segs_rise part rising) (omega (arith, seg_count, below))))
      (λ k below. ap (place_among numbers) (number_within numbers (length p.terms) k below) ∙ place_back numbers k numbers_rise below)
      ∙ stays own_live

mutual
  -- other numbers change no number of splits
  pub splits_by : (seg : SegId → SegId) (number : ℕ → ℕ) (t : PlainTree) → splits_of (tree_by seg number t) ≡ splits_of t
  splits_by seg number (split s cases) = ap suc (splits_in seg number cases)
  splits_by seg number (close prices) = refl

  splits_in : (seg : SegId → SegId) (number : ℕ → ℕ) (cs : Cases) → splits_of_cases (cases_by seg number cs) ≡ splits_of_cases cs
  splits_in seg number no_case = refl
  splits_in seg number (case_of a t rest) = omega (arith, splits_by seg number t, splits_in seg number rest)

-- Parts that are the same by themselves.

like_same : (k : ℕ) (part other : List SegId) → length part ≡ length other → numbered_like k part ≡ numbered_like k other
like_same k [] [] e = refl
like_same k [] (s ∷ other) e = absurd (omega (arith, e))
like_same k (s ∷ part) [] e = absurd (omega (arith, e))
like_same k (s ∷ part) (t ∷ other) e =
    let made : List SegId → List SegId = λ ss. record { 0 = k } ∷ ss in ap made (like_same (k + 1) part other (omega (arith, e)))

pub own_again : (p q : ProblemParts) (part other : List SegId) → by_itself p part ≡ by_itself q other
    → live_tree (part_in (by_itself p part) (own_segments part)) ≡ live_tree (part_in (by_itself q other) (own_segments other))
own_again p q part other e =
    let count : length part ≡ length other =
    sym (length-map part (lines_on p.segs)) ∙ ap (λ (x : ProblemParts). length x.segs) e ∙ length-map other (lines_on q.segs) in
    ap (λ x. live_tree (part_in x (own_segments part))) e ∙ ap (λ ss. live_tree (part_in (by_itself q other) ss)) (like_same 0 part other count)
