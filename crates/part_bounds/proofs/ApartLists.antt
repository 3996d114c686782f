-- The Aparts of a part by the segments of their ends.
use Rattle.std.proofs.Common.{◌≡◌, ◌≢◌, ℕ, zero, suc, ◌+◌, ◌-◌, ◌*◌, ◌<◌, ◌≤◌, ◌==◌, Bool, true, false, cond, ◌||◌, List, [], ◌∷◌, ◌++◌, length, take, get_or, refl, sym, ap, subst, ◌∙◌, arith, eqb-true, eq-eqb, true≢false}
use Rattle.std.specs.Prelude.{Vec, sum_by, Option, Some, None}
use Rattle.std.specs.Global.{Global}
use Rattle.std.specs.List.{All}
use Rattle.std.proofs.Math.ListN.{set}
use Rattle.std.proofs.lemmas.Bool.{or_parts}
use Rattle.std.proofs.lemmas.List.{take_more, append-nil, length-set, map-set, map_push, get_or-map, get_or-set_same, get_or-set_other}
use Rattle.std.proofs.lemmas.List.Elements.{All-nil, All-cons, All-head, All-tail}
use Rattle.std.proofs.lemmas.List.Sums.{sum_by-cons}
use Rattle.map_base.specs.declared.ids.SegId.{SegId}
use Rattle.map_base.specs.declared.ids.LineId.{LineId}
use Rattle.order_model.specs.declared.term.Term.{Term}
use Rattle.order_model.specs.declared.term.Term.TheVariants.{Side, Link, Apart}
use Rattle.order_model.specs.Problems.{IsTerm}
use Rattle.order_model.specs.PartTerms.{no_term, terms_by_number}
use Rattle.order_bound.specs.Decided.{apart_cost}
use Rattle.part_bounds.specs.declared.aparts.Aparts.{Aparts}
use Rattle.pair_bounds.specs.Counted.{settled_cost, settled_sum}
use Rattle.part_bounds.specs.Settled.{is_apart_on, apart_on, aparts_on, lists_in, HasEnds, AreByEnds, AreMore, AreSettled}
use Rattle.part_bounds.proofs.OwnSegments.{SameElsewhere, decided_same}
use Rattle.pair_bounds.proofs.PairCosts.{settled_most}

-- an Apart that is not settled on its other segment costs nothing yet
pub none_there : (w : ℕ) (here : Option Bool) → apart_cost w here None ≡ 0
none_there w None = refl
none_there w (Some together) = refl

-- Lists of terms, as they lie in memory.

-- so many lists without a term
none_yet : (count : ℕ) (lists : List (List Term)) → length lists ≡ count → ((k : ℕ) → get_or lists k [] ≡ []) → AreByEnds count [] lists
none_yet count lists each none = record { each = each; on = λ s known. none s.0 }

-- lists of which none has a term
pub record AreEmpty (count : ℕ) (lists : List (List Term)) : Type 0 where
  pub each : length lists ≡ count
  pub none : (k : ℕ) → get_or lists k [] ≡ []

pub empty_lists : (count : ℕ) (lists : List (List Term)) → AreEmpty count lists → AreByEnds count [] lists
empty_lists count lists ok = none_yet count lists ok.each ok.none

pub list_grown : (lists : List (Vec Term Global)) (k : ℕ) (g e : Vec Term Global) (t : Term) → k < length lists → g ≡ get_or lists k g → e.items ≡ g.items ++ t ∷ []
    → lists_in (set lists k e) ≡ set (lists_in lists) k (get_or (lists_in lists) k [] ++ t ∷ [])
list_grown lists k g e t below here more =
    let at : get_or (lists_in lists) k [] ≡ g.items = get_or-map (λ (v : Vec Term Global). v.items) lists k g [] below ∙ ap (λ (v : Vec Term Global). v.items) (sym here) in
    map-set (λ (v : Vec Term Global). v.items) lists k e ∙ ap (set (lists_in lists) k) (more ∙ ap (λ l. l ++ t ∷ []) (sym at))

-- One term more.

pub none_more : (t : Term) (lists : List (List Term)) → ((s : SegId) → is_apart_on s t ≡ false) → AreMore t lists lists
none_more t lists none = record { each = refl; on = λ s known. sym (ap (λ b. get_or lists s.0 [] ++ cond b (t ∷ []) []) (none s) ∙ append-nil (get_or lists s.0 [])) }

aparts_push : (s : SegId) (done : List (ℕ × Term)) (t : ℕ × Term) → aparts_on s (done ++ t ∷ []) ≡ aparts_on s done ++ apart_on s t.1
aparts_push s [] t = by_test (is_apart_on s t.1)
  where
    by_test : (b : Bool) → cond b (t.1 ∷ []) [] ≡ [] ++ cond b (t.1 ∷ []) []
    by_test b = refl
aparts_push s (u ∷ done) t = by_test (is_apart_on s u.1) (aparts_push s done t)
  where
    by_test : (b : Bool) → aparts_on s (done ++ t ∷ []) ≡ aparts_on s done ++ apart_on s t.1
        → cond b (u.1 ∷ aparts_on s (done ++ t ∷ [])) (aparts_on s (done ++ t ∷ [])) ≡ cond b (u.1 ∷ aparts_on s done) (aparts_on s done) ++ apart_on s t.1
    by_test true rest = ap (λ l. u.1 ∷ l) rest
    by_test false rest = rest

pub by_ends_more : (count : ℕ) (done : List (ℕ × Term)) (t : ℕ × Term) (old new : List (List Term)) → AreByEnds count done old → AreMore t.1 old new → AreByEnds count (done ++ t ∷ []) new
by_ends_more count done t old new ok more = record {
  each = more.each ∙ ok.each;
  on = λ s known. more.on s (subst (λ n. s.0 < n) (sym ok.each) known) ∙ (ap (λ l. l ++ apart_on s t.1) (ok.on s known) ∙ sym (aparts_push s done t));
}

pub by_ends_next : (count : ℕ) (terms held : List Term) (numbers : List ℕ) (i n : ℕ) (d : Term) (old new : List (List Term)) → i < length numbers → All (λ n. n < length terms) numbers → held ≡ terms
    → AreByEnds count (terms_by_number terms (take i numbers)) old → AreMore (get_or held (get_or numbers i n) d) old new → AreByEnds count (terms_by_number terms (take (i + 1) numbers)) new
by_ends_next count terms held numbers i n d old new below known e ok more =
    let k : ℕ = get_or numbers i n in
    let Q : Term → ℕ × Term = λ t. (k, t) in
    let same : get_or held k d ≡ get_or terms k no_term = ap (λ l. get_or l k d) e ∙ get_or-any terms k d no_term (known i n below) in
    subst (λ l. AreByEnds count l new) (sym (ap (terms_by_number terms) (take_more numbers i n below) ∙ map_push (λ n. (n, get_or terms n no_term)) (take i numbers) k))
    (by_ends_more count (terms_by_number terms (take i numbers)) (Q (get_or terms k no_term)) old new ok (subst (λ t. AreMore t old new) same more))
  where
    get_or-any : (xs : List Term) (k : ℕ) (d e : Term) → k < length xs → get_or xs k d ≡ get_or xs k e
    get_or-any [] k d e h = absurd (omega (arith, h))
    get_or-any (x ∷ xs) zero d e h = refl
    get_or-any (x ∷ xs) (suc k) d e h = get_or-any xs k d e (omega (arith, h))

-- What settled Aparts cost.

pub settled_elsewhere : (segs placed next : List (List LineId)) (s : SegId) (t : Term) → SameElsewhere s next placed → is_apart_on s t ≡ false → settled_cost segs next t ≡ settled_cost segs placed t
settled_elsewhere segs placed next s (Side seg first second w) same h = refl
settled_elsewhere segs placed next s (Link seg other flip a b w) same h = refl
settled_elsewhere segs placed next s (Apart seg other a b w) same h =
    let parts = or_parts (seg.0 == s.0) (other.0 == s.0) h in
    decided_same segs next placed (Apart seg other a b w) (same seg parts.0) (same other parts.1)

-- lines are placed on a segment, or taken back there: the Aparts with an end there make the difference
pub settled_moved : (segs placed next : List (List LineId)) (s : SegId) (terms : List (ℕ × Term)) → SameElsewhere s next placed
    → settled_sum segs next terms + sum_by (settled_cost segs placed) (aparts_on s terms) ≡ settled_sum segs placed terms + sum_by (settled_cost segs next) (aparts_on s terms)
settled_moved segs placed next s [] same = refl
settled_moved segs placed next s (t ∷ terms) same = by_test (is_apart_on s t.1) refl (settled_moved segs placed next s terms same)
  where
    more : settled_sum segs next (t ∷ terms) ≡ settled_cost segs next t.1 + settled_sum segs next terms
    more = sum_by-cons (λ (t : ℕ × Term). settled_cost segs next t.1) t terms

    before : settled_sum segs placed (t ∷ terms) ≡ settled_cost segs placed t.1 + settled_sum segs placed terms
    before = sum_by-cons (λ (t : ℕ × Term). settled_cost segs placed t.1) t terms

    by_test : (b : Bool) → is_apart_on s t.1 ≡ b
        → settled_sum segs next terms + sum_by (settled_cost segs placed) (aparts_on s terms) ≡ settled_sum segs placed terms + sum_by (settled_cost segs next) (aparts_on s terms)
        → settled_sum segs next (t ∷ terms) + sum_by (settled_cost segs placed) (cond b (t.1 ∷ aparts_on s terms) (aparts_on s terms))
        ≡ settled_sum segs placed (t ∷ terms) + sum_by (settled_cost segs next) (cond b (t.1 ∷ aparts_on s terms) (aparts_on s terms))
    by_test true e rest =
        let one = sum_by-cons (settled_cost segs placed) t.1 (aparts_on s terms) in
        let two = sum_by-cons (settled_cost segs next) t.1 (aparts_on s terms) in
        omega (arith, rest, more, before, one, two)
    by_test false e rest =
        let kept = settled_elsewhere segs placed next s t.1 same e in
        omega (arith, rest, more, before, kept)

pub settled_below : (segs placed : List (List LineId)) (s : SegId) (terms : List (ℕ × Term)) → sum_by (settled_cost segs placed) (aparts_on s terms) ≤ settled_sum segs placed terms
settled_below segs placed s [] = omega arith
settled_below segs placed s (t ∷ terms) = by_test (is_apart_on s t.1) (settled_below segs placed s terms)
  where
    whole : settled_sum segs placed (t ∷ terms) ≡ settled_cost segs placed t.1 + settled_sum segs placed terms
    whole = sum_by-cons (λ (t : ℕ × Term). settled_cost segs placed t.1) t terms

    by_test : (b : Bool) → sum_by (settled_cost segs placed) (aparts_on s terms) ≤ settled_sum segs placed terms
        → sum_by (settled_cost segs placed) (cond b (t.1 ∷ aparts_on s terms) (aparts_on s terms)) ≤ settled_sum segs placed (t ∷ terms)
    by_test true rest = let one = sum_by-cons (settled_cost segs placed) t.1 (aparts_on s terms) in omega (arith, rest, whole, one)
    by_test false rest = omega (arith, rest, whole)

pub settled_small : (segs placed : List (List LineId)) (terms : List (ℕ × Term)) → All (λ (t : ℕ × Term). IsTerm segs t.1) terms → settled_sum segs placed terms ≤ 256000 * length terms
settled_small segs placed [] known = omega arith
settled_small segs placed (t ∷ terms) known =
    let rest = settled_small segs placed terms (All-tail (λ (t : ℕ × Term). IsTerm segs t.1) t terms known) in
    let one = settled_most segs placed t.1 (All-head (λ (t : ℕ × Term). IsTerm segs t.1) t terms known) in
    let whole = sum_by-cons (λ (t : ℕ × Term). settled_cost segs placed t.1) t terms in
    omega (arith, rest, one, whole)

pub aparts_known : (segs : List (List LineId)) (s : SegId) (terms : List (ℕ × Term)) → All (λ (t : ℕ × Term). IsTerm segs t.1) terms → All (IsTerm segs) (aparts_on s terms)
aparts_known segs s [] known = All-nil (IsTerm segs)
aparts_known segs s (t ∷ terms) known = by_test (is_apart_on s t.1) (aparts_known segs s terms (All-tail (λ (t : ℕ × Term). IsTerm segs t.1) t terms known))
  where
    by_test : (b : Bool) → All (IsTerm segs) (aparts_on s terms) → All (IsTerm segs) (cond b (t.1 ∷ aparts_on s terms) (aparts_on s terms))
    by_test true rest = All-cons (IsTerm segs) t.1 (aparts_on s terms) (All-head (λ (t : ℕ × Term). IsTerm segs t.1) t terms known) rest
    by_test false rest = rest

pub aparts_few : (s : SegId) (terms : List (ℕ × Term)) → length (aparts_on s terms) ≤ length terms
aparts_few s [] = omega arith
aparts_few s (t ∷ terms) = by_test (is_apart_on s t.1) (aparts_few s terms)
  where
    by_test : (b : Bool) → length (aparts_on s terms) ≤ length terms → length (cond b (t.1 ∷ aparts_on s terms) (aparts_on s terms)) ≤ suc (length terms)
    by_test true rest = omega (arith, rest)
    by_test false rest = omega (arith, rest)

-- what they cost then
pub total_next : (segs placed next : List (List LineId)) (s : SegId) (terms : List (ℕ × Term)) (aparts : Aparts) (before after : ℕ) → AreSettled segs placed terms aparts → s.0 < length segs → SameElsewhere s next placed
    → before ≡ sum_by (settled_cost segs placed) (get_or (lists_in aparts.lists.items) s.0 []) → after ≡ sum_by (settled_cost segs next) (get_or (lists_in aparts.lists.items) s.0 [])
    → (total : ℕ) → total ≡ (aparts.total - before) + after → total ≡ settled_sum segs next terms
total_next segs placed next s terms aparts before after ok known same e1 e2 total e =
    let list = ok.by_ends.on s known in
    let one : before ≡ sum_by (settled_cost segs placed) (aparts_on s terms) = e1 ∙ ap (sum_by (settled_cost segs placed)) list in
    let two : after ≡ sum_by (settled_cost segs next) (aparts_on s terms) = e2 ∙ ap (sum_by (settled_cost segs next)) list in
    let sum = ok.total_is in
    let moved = settled_moved segs placed next s terms same in
    let below = settled_below segs placed s terms in
    omega (arith, one, two, sum, moved, below, e)

-- the settled Aparts once the difference is made
pub settled_next : (segs placed next : List (List LineId)) (s : SegId) (terms : List (ℕ × Term)) (aparts fresh : Aparts) (before after : ℕ) → AreSettled segs placed terms aparts → s.0 < length segs → SameElsewhere s next placed
    → before ≡ sum_by (settled_cost segs placed) (get_or (lists_in aparts.lists.items) s.0 []) → after ≡ sum_by (settled_cost segs next) (get_or (lists_in aparts.lists.items) s.0 [])
    → fresh.lists ≡ aparts.lists → fresh.total ≡ (aparts.total - before) + after → AreSettled segs next terms fresh
settled_next segs placed next s terms aparts fresh before after ok known same e1 e2 e3 e4 = record {
  by_ends = subst (λ l. AreByEnds (length segs) terms (lists_in l)) (sym (ap (λ (v : Vec (Vec Term Global) Global). v.items) e3)) ok.by_ends;
  total_is = total_next segs placed next s terms aparts before after ok known same e1 e2 fresh.total e4;
}

-- what is taken off is not above the sum
pub total_low : (segs placed : List (List LineId)) (s : SegId) (terms : List (ℕ × Term)) (aparts : Aparts) (before : ℕ) → AreSettled segs placed terms aparts → s.0 < length segs
    → before ≡ sum_by (settled_cost segs placed) (get_or (lists_in aparts.lists.items) s.0 []) → before ≤ aparts.total
total_low segs placed s terms aparts before ok known e =
    let list = ok.by_ends.on s known in
    let one : before ≡ sum_by (settled_cost segs placed) (aparts_on s terms) = e ∙ ap (sum_by (settled_cost segs placed)) list in
    let sum = ok.total_is in
    omega (arith, one, sum, settled_below segs placed s terms)

-- the sum is small
pub total_most : (segs placed : List (List LineId)) (terms : List (ℕ × Term)) (aparts : Aparts) → AreSettled segs placed terms aparts → All (λ (t : ℕ × Term). IsTerm segs t.1) terms → length terms ≤ 4000000
    → aparts.total ≤ 1024000000000
total_most segs placed terms aparts ok known few = let sum = ok.total_is in omega (arith, sum, few, settled_small segs placed terms known)
