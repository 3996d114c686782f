-- The numbers of the terms of each part, after one term more.
use Rattle.std.proofs.Common.{◌≡◌, ℕ, zero, suc, ◌+◌, ◌<◌, Bool, true, false, cond, List, [], ◌∷◌, ◌++◌, length, map, set, take, get_or, refl, sym, ◌∙◌, ap, subst, arith}
use Rattle.std.specs.List.{All, Contains, AllByRecursion, filter}
use Rattle.std.specs.Prelude.{Vec}
use Rattle.std.specs.Global.{Global}
use Rattle.std.proofs.Common.{append-nil}
use Rattle.std.proofs.lemmas.List.{map-set, get_or-map, map-append, take_more, length-take-le}
use Rattle.std.proofs.lemmas.List.Elements.{Contains-get_or}
use Rattle.map_base.specs.declared.ids.SegId.{SegId}
use Rattle.map_base.specs.declared.ids.LineId.{LineId}
use Rattle.order_model.specs.declared.term.Term.{Term}
use Rattle.order_model.specs.Problems.{IsTerm}
use Rattle.order_model.specs.Costs.{seg_of, other_of}
use Rattle.order_model.specs.Parts.{AreParts}
use Rattle.order_model.specs.Places.{tables_of}
use Rattle.order_model.specs.Gathering.{part_lists}
use Rattle.order_model.proofs.Placing.{length-part_lists}
use Rattle.order_model.specs.PartTerms.{numbered_from, is_in, is_of, part_numbers, no_numbers, with_number}
use Rattle.order_model.specs.Numbers.{number_of, AreNumbers}
use Rattle.order_model.proofs.Shares.{ShareNone, AreApartParts, parts_apart}
use Rattle.order_model.proofs.KeptTerms.{is_kept, number_in, group_count}
use Rattle.order_model.proofs.TermParts.{end_known, end_wide, same_part, number_known}

abbrev items : Vec ℕ Global → List ℕ
items v = v.items

-- Lists without a number.

no_numbers_push : (n : ℕ) → no_numbers n ++ [] ∷ [] ≡ no_numbers (suc n)
no_numbers_push zero = refl
no_numbers_push (suc n) = ap (λ lists. [] ∷ lists) (no_numbers_push n)

pub one_more_empty : (groups after : List (Vec ℕ Global)) (fresh : Vec ℕ Global) (n : ℕ) → tables_of groups ≡ no_numbers n → fresh.items ≡ []
    → after ≡ groups ++ fresh ∷ [] → tables_of after ≡ no_numbers (n + 1)
one_more_empty groups after fresh n none empty pushed =
    let next : suc n ≡ n + 1 = omega arith in
    ap (map items) pushed ∙ map-append items groups (fresh ∷ []) ∙ ap (λ ls. ls ++ fresh.items ∷ []) none ∙ ap (λ l. no_numbers n ++ l ∷ []) empty
    ∙ no_numbers_push n ∙ ap no_numbers next

pub no_numbers_kept : (parts : List (List SegId)) → no_numbers (length parts) ≡ map (part_numbers []) parts
no_numbers_kept [] = refl
no_numbers_kept (p ∷ parts) = ap (λ lists. [] ∷ lists) (no_numbers_kept parts)

-- One term more of a part.

-- the number, where the term is of the part
abbrev if_of : Bool → ℕ → List ℕ
if_of b n = cond b (n ∷ []) []

abbrev numbers_from : ℕ → List SegId → List Term → List ℕ
numbers_from k part terms = map number_in (filter (is_kept part) (numbered_from k terms))

kept_from : (k : ℕ) (part : List SegId) (terms : List Term) (t : Term)
    → numbers_from k part (terms ++ t ∷ []) ≡ numbers_from k part terms ++ if_of (is_of part t) (k + length terms)
kept_from k part [] t = by_last (is_of part t)
  where
    by_last : (b : Bool) → map number_in (cond b ((k, t) ∷ []) []) ≡ if_of b (k + 0)
    by_last true = (let same : k ≡ k + 0 = omega arith in ap (λ n. n ∷ []) same)
    by_last false = refl
kept_from k part (u ∷ terms) t = by_test (is_of part u) (kept_from (k + 1) part terms t ∙ ap (λ n. numbers_from (k + 1) part terms ++ if_of (is_of part t) n) later)
  where
    later : k + 1 + length terms ≡ k + suc (length terms)
    later = omega arith

    by_test : (b : Bool) → numbers_from (k + 1) part (terms ++ t ∷ []) ≡ numbers_from (k + 1) part terms ++ if_of (is_of part t) (k + suc (length terms))
        → map number_in (cond b ((k, u) ∷ filter (is_kept part) (numbered_from (k + 1) (terms ++ t ∷ []))) (filter (is_kept part) (numbered_from (k + 1) (terms ++ t ∷ []))))
        ≡ map number_in (cond b ((k, u) ∷ filter (is_kept part) (numbered_from (k + 1) terms)) (filter (is_kept part) (numbered_from (k + 1) terms)))
        ++ if_of (is_of part t) (k + suc (length terms))
    by_test true rest = ap (λ l. k ∷ l) rest
    by_test false rest = rest

kept_more : (part : List SegId) (terms : List Term) (t : Term) → part_numbers (terms ++ t ∷ []) part ≡ part_numbers terms part ++ if_of (is_of part t) (length terms)
kept_more part terms t = kept_from 0 part terms t ∙ ap (λ n. part_numbers terms part ++ if_of (is_of part t) n) from_none
  where
    from_none : 0 + length terms ≡ length terms
    from_none = omega arith

kept_same : (part : List SegId) (terms : List Term) (t : Term) → is_of part t ≡ false → part_numbers terms part ≡ part_numbers (terms ++ t ∷ []) part
kept_same part terms t e =
    sym (kept_more part terms t ∙ ap (λ b. part_numbers terms part ++ if_of b (length terms)) e ∙ append-nil (part_numbers terms part))

kept_one : (part : List SegId) (terms : List Term) (t : Term) → is_of part t ≡ true → part_numbers terms part ++ length terms ∷ [] ≡ part_numbers (terms ++ t ∷ []) part
kept_one part terms t e = sym (kept_more part terms t ∙ ap (λ b. part_numbers terms part ++ if_of b (length terms)) e)

all_same : (parts : List (List SegId)) (terms : List Term) (t : Term) → AllByRecursion (λ q. is_of q t ≡ false) parts
    → map (part_numbers terms) parts ≡ map (part_numbers (terms ++ t ∷ [])) parts
all_same [] terms t none = refl
all_same (q ∷ parts) terms t none =
    ap (λ l. l ∷ map (part_numbers terms) parts) (kept_same q terms t none.0)
    ∙ ap (λ ls. part_numbers (terms ++ t ∷ []) q ∷ ls) (all_same parts terms t none.1)

none_later : (p : List SegId) (later : List (List SegId)) (t : Term) → AllByRecursion (ShareNone p) later → is_in p (seg_of t) ≡ true
    → AllByRecursion (λ q. is_of q t ≡ false) later
none_later p [] t apart h = tt
none_later p (q ∷ later) t apart h = (rw (apart.0 (seg_of t) h) refl, none_later p later t apart.1 h)

-- the segments of the term are of the same parts
abbrev IsWithin : Term → List (List SegId) → Type 0
IsWithin t parts = AllByRecursion (λ p. is_in p (seg_of t) ≡ is_in p (other_of t)) parts

one_more_grouped : (parts : List (List SegId)) (terms : List Term) (t : Term) → AreApartParts parts → IsWithin t parts → number_of parts (seg_of t) < length parts
    → with_number (number_of parts (seg_of t)) (length terms) (map (part_numbers terms) parts) ≡ map (part_numbers (terms ++ t ∷ [])) parts
one_more_grouped [] terms t apart within below = absurd (omega (arith, below))
one_more_grouped (p ∷ parts) terms t apart within below = by_test (is_in p (seg_of t)) refl below (one_more_grouped parts terms t apart.1 within.1)
  where
    by_test : (b : Bool) → is_in p (seg_of t) ≡ b → cond b 0 (1 + number_of parts (seg_of t)) < suc (length parts)
        → (number_of parts (seg_of t) < length parts → with_number (number_of parts (seg_of t)) (length terms) (map (part_numbers terms) parts) ≡ map (part_numbers (terms ++ t ∷ [])) parts)
        → with_number (cond b 0 (1 + number_of parts (seg_of t))) (length terms) (part_numbers terms p ∷ map (part_numbers terms) parts)
        ≡ part_numbers (terms ++ t ∷ []) p ∷ map (part_numbers (terms ++ t ∷ [])) parts
    by_test true e below rest =
        let both : is_of p t ≡ true = rw (e, sym within.0 ∙ e) refl in
        ap (λ l. l ∷ map (part_numbers terms) parts) (kept_one p terms t both)
        ∙ ap (λ ls. part_numbers (terms ++ t ∷ []) p ∷ ls) (all_same parts terms t (none_later p parts t apart.0 e))
    by_test false e below rest =
        let none : is_of p t ≡ false = rw e refl in
        let n : ℕ = number_of parts (seg_of t) in
        let step : 1 + n ≡ suc n = omega arith in
        ap (λ k. with_number k (length terms) (part_numbers terms p ∷ map (part_numbers terms) parts)) step
        ∙ ap (λ l. l ∷ with_number n (length terms) (map (part_numbers terms) parts)) (kept_same p terms t none)
        ∙ ap (λ ls. part_numbers (terms ++ t ∷ []) p ∷ ls) (rest (omega (arith, below)))

within_all : (segs : List (List LineId)) (all : List Term) (parts some : List (List SegId)) (t : Term) → AreParts segs all parts
    → ((p : List SegId) → Contains some p → Contains parts p) → Contains all t → IsTerm segs t → IsWithin t some
within_all segs all parts [] t ok sub t_in h = tt
within_all segs all parts (p ∷ some) t ok sub t_in h = (
  same_part segs all parts ok p t (sub p (0, omega arith, refl)) t_in h,
  within_all segs all parts some t ok (λ q c. sub q (suc c.0, omega (arith, c.1), c.2)) t_in h,
)

-- the lists of the parts after one more term of the problem
pub one_more_term_grouped : (segs : List (List LineId)) (all : List Term) (parts : List (List SegId)) (terms : List Term) (t : Term) → AreParts segs all parts
    → Contains all t → IsTerm segs t
    → with_number (number_of parts (seg_of t)) (length terms) (map (part_numbers terms) parts) ≡ map (part_numbers (terms ++ t ∷ [])) parts
one_more_term_grouped segs all parts terms t ok t_in h =
    one_more_grouped parts terms t (parts_apart segs all parts ok) (within_all segs all parts parts t ok (λ p c. c) t_in h)
    (number_known segs all parts ok (seg_of t) (end_known segs t h) (end_wide segs t h))

-- The lists as they lie in memory.

pub group_grown : (groups : List (Vec ℕ Global)) (k : ℕ) (old fresh : Vec ℕ Global) (n : ℕ) → k < length groups → old ≡ get_or groups k old
    → fresh.items ≡ old.items ++ n ∷ [] → tables_of (set groups k fresh) ≡ with_number k n (tables_of groups)
group_grown groups k old fresh n below here grown =
    let was : old.items ≡ get_or (tables_of groups) k [] = ap items here ∙ sym (get_or-map items groups k old [] below) in
    map-set items groups k fresh ∙ ap (λ l. set (tables_of groups) k l) (grown ∙ ap (λ l. l ++ n ∷ []) was)

pub no_groups_yet : (parts : List (Vec SegId Global)) (groups : List (Vec ℕ Global)) → tables_of groups ≡ no_numbers (length parts)
    → tables_of groups ≡ map (part_numbers []) (part_lists parts)
no_groups_yet parts groups none =
    none ∙ ap no_numbers (sym (length-part_lists parts)) ∙ no_numbers_kept (part_lists parts)

-- what is known of a problem whose terms are put into the lists of their parts, one by one
pub record AreGroupable (segs : List (List LineId)) (parts : List (List SegId)) (numbers : List ℕ) (terms : List Term) : Type 0 where
  pub fit : All (IsTerm segs) terms
  pub are_parts : AreParts segs terms parts
  pub are_numbers : AreNumbers parts (length segs) numbers

pub groupable : (segs : List (List LineId)) (parts : List (List SegId)) (numbers : List ℕ) (all terms : List Term) → terms ≡ all
    → All (IsTerm segs) all → AreParts segs all parts → AreNumbers parts (length segs) numbers → AreGroupable segs parts numbers terms
groupable segs parts numbers all terms is fit ok told =
    subst (λ ts. AreGroupable segs parts numbers ts) (sym is) (record { fit = fit; are_parts = ok; are_numbers = told })

module _ (segs : List (List LineId)) (parts : List (Vec SegId Global)) (numbers : List ℕ) (terms : List Term)
    (ok : AreGroupable segs (part_lists parts) numbers terms) (i : ℕ) (d : Term) (below : i < length terms)
    (groups : List (Vec ℕ Global)) (done : tables_of groups ≡ map (part_numbers (take i terms)) (part_lists parts)) where
  abbrev t : Term
  t = get_or terms i d

  t_fits : IsTerm segs t
  t_fits = ok.fit i d below

  t_number : get_or numbers (seg_of t).0 0 ≡ number_of (part_lists parts) (seg_of t)
  t_number = ok.are_numbers.told (seg_of t) (end_known segs t t_fits)

  -- the list of the term's part is there
  pub group_known : get_or numbers (seg_of t).0 0 < length groups
  group_known = omega (
    arith,
    t_number,
    number_known segs terms (part_lists parts) ok.are_parts (seg_of t) (end_known segs t t_fits) (end_wide segs t t_fits),
    group_count (take i terms) parts groups done,
    length-part_lists parts,
  )

  count : length (take i terms) ≡ i
  count = length-take-le i terms (omega (arith, below))

  -- with the number of the term added to it, the lists are those of one term more
  pub grouped_more : (after : List (Vec ℕ Global)) → tables_of after ≡ with_number (get_or numbers (seg_of t).0 0) i (tables_of groups)
      → tables_of after ≡ map (part_numbers (take (i + 1) terms)) (part_lists parts)
  grouped_more after added =
      added ∙ ap (λ k. with_number k i (tables_of groups)) t_number ∙ ap (λ ls. with_number (number_of (part_lists parts) (seg_of t)) i ls) done
      ∙ ap (λ n. with_number (number_of (part_lists parts) (seg_of t)) n (map (part_numbers (take i terms)) (part_lists parts))) (sym count)
      ∙ one_more_term_grouped segs terms (part_lists parts) (take i terms) t ok.are_parts (Contains-get_or terms i d below) t_fits
      ∙ ap (λ ts. map (part_numbers ts) (part_lists parts)) (sym (take_more terms i d below))
