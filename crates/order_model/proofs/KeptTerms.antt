-- The terms of a part are some of a problem's, with their numbers, and those of each part stand at its number.
use Rattle.std.proofs.Common.{◌≡◌, ℕ, suc, ◌+◌, ◌<◌, ◌≤◌, Bool, true, false, cond, List, [], ◌∷◌, length, map, get_or, refl, sym, ◌∙◌, ap, subst, arith}
use Rattle.std.specs.List.{All, filter}
use Rattle.std.specs.Prelude.{Vec}
use Rattle.std.specs.Global.{Global}
use Rattle.std.proofs.lemmas.List.{get_or-map, length-map}
use Rattle.std.proofs.lemmas.List.Elements.{All-nil, All-cons, All-head, All-tail, All-filter, All-map}
use Rattle.map_base.specs.declared.ids.SegId.{SegId}
use Rattle.map_base.specs.declared.ids.LineId.{LineId}
use Rattle.order_model.specs.declared.term.Term.{Term}
use Rattle.order_model.specs.Problems.{IsTerm}
use Rattle.order_model.specs.Places.{tables_of}
use Rattle.order_model.specs.Gathering.{part_lists}
use Rattle.order_model.specs.PartTerms.{numbered_from, is_of, part_terms, part_numbers, plain_terms, no_term, terms_by_number}
use Rattle.order_model.proofs.Placing.{length-part_lists}
use Rattle.order_model.proofs.PartLists.{part_at}

-- the numbered term is of the part
abbrev pub is_kept : List SegId → ℕ × Term → Bool
is_kept part q = is_of part q.1

-- the number of a numbered term, and its term
abbrev pub number_in : ℕ × Term → ℕ
number_in q = q.0

abbrev pub term_in : ℕ × Term → Term
term_in q = q.1

-- Without numbers: the terms whose segments are of the part.

kept_plain : (k : ℕ) (part : List SegId) (terms : List Term) → map term_in (filter (is_kept part) (numbered_from k terms)) ≡ filter (is_of part) terms
kept_plain k part [] = refl
kept_plain k part (t ∷ terms) = by_test (is_of part t) (kept_plain (k + 1) part terms)
  where
    by_test : (b : Bool) → map term_in (filter (is_kept part) (numbered_from (k + 1) terms)) ≡ filter (is_of part) terms
        → map term_in (cond b ((k, t) ∷ filter (is_kept part) (numbered_from (k + 1) terms)) (filter (is_kept part) (numbered_from (k + 1) terms)))
        ≡ cond b (t ∷ filter (is_of part) terms) (filter (is_of part) terms)
    by_test true rest = ap (λ l. t ∷ l) rest
    by_test false rest = rest

pub plain_kept : (part : List SegId) (terms : List Term) → plain_terms (part_terms terms part) ≡ filter (is_of part) terms
plain_kept part terms = kept_plain 0 part terms

few_filtered : (part : List SegId) (terms : List Term) → length (filter (is_of part) terms) ≤ length terms
few_filtered part [] = omega arith
few_filtered part (t ∷ terms) = by_test (is_of part t) (few_filtered part terms)
  where
    by_test : (b : Bool) → length (filter (is_of part) terms) ≤ length terms → length (cond b (t ∷ filter (is_of part) terms) (filter (is_of part) terms)) ≤ suc (length terms)
    by_test true h = omega (arith, h)
    by_test false h = omega (arith, h)

-- the terms of a part are no more than all terms
pub part_terms_few : (part : List SegId) (terms : List Term) → length (part_terms terms part) ≤ length terms
part_terms_few part terms =
    omega (arith, few_filtered part terms, ap length (plain_kept part terms), length-map (part_terms terms part) term_in)

-- the terms of a part are terms of the problem
pub part_terms_fit : (segs : List (List LineId)) (part : List SegId) (terms : List Term) → All (IsTerm segs) terms → All (IsTerm segs) (plain_terms (part_terms terms part))
part_terms_fit segs part terms ok = subst (All (IsTerm segs)) (sym (plain_kept part terms)) (All-filter (is_of part) (IsTerm segs) terms ok)

-- The term of each number.

-- the number is one of the problem's, and the term stands there
pub record StandsIn (terms : List Term) (q : ℕ × Term) : Type 0 where
  pub below : q.0 < length terms
  pub here : q.1 ≡ get_or terms q.0 no_term

numbered_stand : (all : List Term) (k : ℕ) (rest : List Term) → k + length rest ≡ length all → ((i : ℕ) → i < length rest → get_or rest i no_term ≡ get_or all (k + i) no_term)
    → All (StandsIn all) (numbered_from k rest)
numbered_stand all k [] whole at = All-nil (StandsIn all)
numbered_stand all k (t ∷ rest) whole at =
    All-cons (StandsIn all) (k, t) (numbered_from (k + 1) rest)
    (record { below = omega (arith, whole); here = at 0 (omega arith) ∙ ap (λ i. get_or all i no_term) (plus_none k) })
    (numbered_stand all (k + 1) rest (omega (arith, whole)) (λ i h. at (suc i) (omega (arith, h)) ∙ ap (λ j. get_or all j no_term) (one_later k i)))
  where
    plus_none : (k : ℕ) → k + 0 ≡ k
    plus_none k = omega arith

    one_later : (k i : ℕ) → k + suc i ≡ k + 1 + i
    one_later k i = omega arith

pub part_terms_stand : (part : List SegId) (terms : List Term) → All (StandsIn terms) (part_terms terms part)
part_terms_stand part terms =
    All-filter (is_kept part) (StandsIn terms) (numbered_from 0 terms) (numbered_stand terms 0 terms (omega arith) (λ i h. ap (λ j. get_or terms j no_term) (from_none i)))
  where
    from_none : (i : ℕ) → i ≡ 0 + i
    from_none i = omega arith

-- the numbers of a part are those of terms of the problem
pub part_numbers_known : (part : List SegId) (terms : List Term) → All (λ n. n < length terms) (part_numbers terms part)
part_numbers_known part terms = All-map (λ n. n < length terms) number_in (part_terms terms part) (λ k d below. (part_terms_stand part terms k d below).below)

by_number : (terms : List Term) (qs : List (ℕ × Term)) → All (StandsIn terms) qs → terms_by_number terms (map number_in qs) ≡ qs
by_number terms [] ok = refl
by_number terms ((n, t) ∷ qs) ok =
    let first : t ≡ get_or terms n no_term = (All-head (StandsIn terms) (n, t) qs ok).here in
    ap (λ (u : Term). (n, u) ∷ terms_by_number terms (map number_in qs)) (sym first)
    ∙ ap (λ (l : List (ℕ × Term)). (n, t) ∷ l) (by_number terms qs (All-tail (StandsIn terms) (n, t) qs ok))

-- the numbers of a part tell its terms
pub part_terms_by_number : (part : List SegId) (terms : List Term) → terms_by_number terms (part_numbers terms part) ≡ part_terms terms part
part_terms_by_number part terms = by_number terms (part_terms terms part) (part_terms_stand part terms)

-- Lists of numbers as they lie in memory.

abbrev items : Vec ℕ Global → List ℕ
items v = v.items

-- the numbers of a part stand at its number
pub group_at : (terms : List Term) (parts : List (List SegId)) (k : ℕ) → k < length parts
    → get_or (map (part_numbers terms) parts) k [] ≡ part_numbers terms (get_or parts k [])
group_at terms parts k below = get_or-map (part_numbers terms) parts k [] [] below

-- there are as many lists of numbers as parts
pub group_count : (terms : List Term) (parts : List (Vec SegId Global)) (groups : List (Vec ℕ Global)) → tables_of groups ≡ map (part_numbers terms) (part_lists parts)
    → length groups ≡ length parts
group_count terms parts groups is =
    sym (length-map groups items) ∙ ap length is ∙ length-map (part_lists parts) (part_numbers terms) ∙ length-part_lists parts

-- the numbers of a part as they lie in memory
pub group_items : (terms : List Term) (parts : List (Vec SegId Global)) (groups : List (Vec ℕ Global)) (k : ℕ) (part : Vec SegId Global) (group : Vec ℕ Global)
    → tables_of groups ≡ map (part_numbers terms) (part_lists parts) → k < length parts → part ≡ get_or parts k part → group ≡ get_or groups k group
    → group.items ≡ part_numbers terms part.items
group_items terms parts groups k part group is below here there =
    ap items there
    ∙ sym (get_or-map items groups k group [] (omega (arith, below, group_count terms parts groups is)))
    ∙ ap (λ lists. get_or lists k []) is
    ∙ group_at terms (part_lists parts) k (omega (arith, below, length-part_lists parts))
    ∙ ap (part_numbers terms) (part_at parts k part below here)
