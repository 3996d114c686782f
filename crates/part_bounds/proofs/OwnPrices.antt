-- The prices of a pair of lines depend on the segments of its terms alone.
use Rattle.std.proofs.Common.{◌≡◌, ℕ, zero, suc, ◌+◌, ◌≤◌, ◌==◌, not, Bool, true, false, cond, List, [], ◌∷◌, ◌++◌, length, filter, map, refl, sym, ap, ◌∙◌, arith, eqb-true, true≢false, length-append}
use Rattle.std.specs.List.{AllByRecursion}
use Rattle.std.proofs.lemmas.List.{length-map}
use Rattle.std.proofs.lemmas.List.Filters.{length-filter_both}
use Rattle.map_base.specs.declared.ids.SegId.{SegId}
use Rattle.map_base.specs.declared.ids.LineId.{LineId}
use Rattle.order_model.specs.declared.term.Term.{Term}
use Rattle.order_bound.specs.declared.pairs.Pair.{Pair}
use Rattle.order_bound.specs.declared.pairs.OpenLink.{OpenLink}
use Rattle.order_bound.specs.Pairs.{is_open_on, open_segments, open_links, kept_links}
use Rattle.order_bound.specs.Bounds.{slot_cost}
use Rattle.order_bound.specs.CanonicalPrices.{ends_at, far_end, child_link, walked, children_of, priced, pair_prices}
use Rattle.order_bound.proofs.Lists.{is_false, each_filter}
use Rattle.order_bound.proofs.Bounding.{each_kept}
use Rattle.part_bounds.specs.PairGroups.{meets, own_segments}
use Rattle.part_bounds.proofs.OwnSegments.{IsMet, links_met, filter_turned}

walked_none : (n : ℕ) (links : List OpenLink) → walked n [] links ≡ []
walked_none zero links = refl
walked_none (suc n) links = refl

-- no Link ends at a segment that is not met
not_ends : (q : SegId → Bool) (s : SegId) (l : OpenLink) → q s ≡ false → IsMet q l → ends_at s l ≡ false
not_ends q s l none met =
    let P : ℕ → SegId = λ n. record { 0 = n } in
    let here : (l.seg.0 == s.0) ≡ false = is_false (l.seg.0 == s.0) (λ e. true≢false (sym met.0 ∙ (ap q (ap P (eqb-true l.seg.0 s.0 e)) ∙ none))) in
    let there : (l.other.0 == s.0) ≡ false = is_false (l.other.0 == s.0) (λ e. true≢false (sym met.1 ∙ (ap q (ap P (eqb-true l.other.0 s.0 e)) ∙ none))) in
    rw (here, there) refl

none_end : (q : SegId → Bool) (s : SegId) (links : List OpenLink) → q s ≡ false → AllByRecursion (IsMet q) links → filter (ends_at s) links ≡ []
none_end q s [] none met = refl
none_end q s (l ∷ links) none met = let here = not_ends q s l none met.0 in rw here (none_end q s links none met.1)

all_left : (q : SegId → Bool) (s : SegId) (links : List OpenLink) → q s ≡ false → AllByRecursion (IsMet q) links → filter (λ l. not (ends_at s l)) links ≡ links
all_left q s [] none met = refl
all_left q s (l ∷ links) none met = let here = not_ends q s l none met.0 in rw here (ap (λ k. l ∷ k) (all_left q s links none met.1))

-- far ends are met
far_met : (q : SegId → Bool) (s : SegId) (links : List OpenLink) → AllByRecursion (IsMet q) links → AllByRecursion (λ t. q t ≡ true) (map (far_end s) (filter (ends_at s) links))
far_met q s [] met = tt
far_met q s (l ∷ links) met = by_test (ends_at s l) (one (l.seg.0 == s.0) met.0) (far_met q s links met.1)
  where
    one : (b : Bool) → IsMet q l → q (cond b l.other l.seg) ≡ true
    one true h = h.1
    one false h = h.0

    by_test : (b : Bool) → q (far_end s l) ≡ true → AllByRecursion (λ t. q t ≡ true) (map (far_end s) (filter (ends_at s) links))
        → AllByRecursion (λ t. q t ≡ true) (map (far_end s) (cond b (l ∷ filter (ends_at s) links) (filter (ends_at s) links)))
    by_test true h rest = (h, rest)
    by_test false h rest = rest

filter_front : (q : SegId → Bool) (xs ys : List SegId) → AllByRecursion (λ t. q t ≡ true) xs → filter q (xs ++ ys) ≡ xs ++ filter q ys
filter_front q [] ys h = refl
filter_front q (x ∷ xs) ys h = let here = h.0 in rw here (ap (λ l. x ∷ l) (filter_front q xs ys h.1))

waits : (s : SegId) (waiting : List SegId) (links : List OpenLink)
    → length (map (far_end s) (filter (ends_at s) links) ++ waiting) + length (filter (λ l. not (ends_at s l)) links) ≡ length waiting + length links
waits s waiting links =
    omega (
      arith,
      length-append (map (far_end s) (filter (ends_at s) links)) waiting,
      length-map (filter (ends_at s) links) (far_end s),
      length-filter_both (ends_at s) (λ l. not (ends_at s l)) (λ l. refl) links,
    )

-- the walk passes over segments that are not met
walk_same : (q : SegId → Bool) (n m : ℕ) (waiting : List SegId) (links : List OpenLink) → length waiting + length links ≤ n → length (filter q waiting) + length links ≤ m → AllByRecursion (IsMet q) links
    → walked n waiting links ≡ walked m (filter q waiting) links
walk_same q zero m [] links hn hm met = sym (walked_none m links)
walk_same q zero m (s ∷ waiting) links hn hm met = absurd (omega (arith, hn))
walk_same q (suc n) m [] links hn hm met = sym (walked_none m links)
walk_same q (suc n) m (s ∷ waiting) links hn hm met = by_test (q s) refl m hm (λ k w l a b c. walk_same q n k w l a b c)
  where
    by_test : (b : Bool) → q s ≡ b → (m : ℕ) → length (cond b (s ∷ filter q waiting) (filter q waiting)) + length links ≤ m
        → ((k : ℕ) (w : List SegId) (l : List OpenLink) → length w + length l ≤ n → length (filter q w) + length l ≤ k → AllByRecursion (IsMet q) l → walked n w l ≡ walked k (filter q w) l)
        → map (child_link s) (filter (ends_at s) links) ++ walked n (map (far_end s) (filter (ends_at s) links) ++ waiting) (filter (λ l. not (ends_at s l)) links)
        ≡ walked m (cond b (s ∷ filter q waiting) (filter q waiting)) links
    by_test true e zero hm later = absurd (omega (arith, hm))
    by_test true e (suc m) hm later =
        let front : filter q (map (far_end s) (filter (ends_at s) links) ++ waiting) ≡ map (far_end s) (filter (ends_at s) links) ++ filter q waiting =
        filter_front q (map (far_end s) (filter (ends_at s) links)) waiting (far_met q s links met) in
        let before = waits s waiting links in
        let after = waits s (filter q waiting) links in
        ap (λ k. map (child_link s) (filter (ends_at s) links) ++ k)
        (later m (map (far_end s) (filter (ends_at s) links) ++ waiting) (filter (λ l. not (ends_at s l)) links) (omega (arith, before, hn)) (omega (arith, after, ap length front, hm))
        (each_filter (IsMet q) (λ l. not (ends_at s l)) links met)
        ∙ ap (λ w. walked m w (filter (λ l. not (ends_at s l)) links)) front)
    by_test false e m hm later =
        ap (λ es. map (child_link s) es ++ walked n (map (far_end s) es ++ waiting) (filter (λ l. not (ends_at s l)) links)) (none_end q s links e met)
        ∙ (ap (λ os. walked n waiting os) (all_left q s links e met) ∙ later m waiting links (omega (arith, hn)) hm met)

pub own_prices_is : (segs placed : List (List LineId)) (part : List SegId) (terms : List (ℕ × Term)) (p : Pair) → pair_prices segs placed part terms p ≡ pair_prices segs placed (own_segments part terms) terms p
own_prices_is segs placed part terms p =
    let slots : List SegId = open_segments segs placed part p in
    let links : List OpenLink = kept_links placed p terms in
    let q : SegId → Bool = meets terms in
    let met = each_kept (IsMet q) (λ s. s) (open_links placed p terms) (links_met placed p terms terms (λ t h. h)) in
    ap (priced (slot_cost placed terms p)) (walk_same q (length slots + length links) (length (filter q slots) + length links) slots links (omega arith) (omega arith) met)
    ∙ ap (λ l. priced (slot_cost placed terms p) (children_of l links)) (sym (filter_turned (is_open_on segs placed p) q part))
