-- What a pair of lines adds to the bound depends on the segments of its terms alone.
use Rattle.std.proofs.Common.{◌≡◌, ◌≢◌, ℕ, ◌+◌, ◌==◌, not, Bool, true, false, cond, ◌||◌, ◌&&◌, List, [], ◌∷◌, ◌++◌, filter, set, min, refl, sym, ap, ◌∙◌, inl, inr, arith, eqb-true, eq-eqb, true≢false, get_or-set_other}
use Rattle.std.specs.Prelude.{sum_by}
use Rattle.std.specs.List.{AllByRecursion}
use Rattle.std.proofs.Math.Path.{fun_ext}
use Rattle.std.proofs.lemmas.Bool.{or_left, or_right, or_parts}
use Rattle.std.proofs.lemmas.List.Sums.{sum_by-cons}
use Rattle.map_base.specs.declared.ids.SegId.{SegId}
use Rattle.map_base.specs.declared.ids.LineId.{LineId}
use Rattle.order_model.specs.declared.term.Term.{Term}
use Rattle.order_model.specs.declared.term.Term.TheVariants.{Side, Link, Apart}
use Rattle.order_model.specs.Problems.{lines_on}
use Rattle.order_model.specs.Costs.{comes_before, same_answer, seg_of, other_of, cost_on}
use Rattle.order_model.specs.Places.{has_line}
use Rattle.order_model.specs.Prefixes.{is_placed}
use Rattle.order_model.specs.Looks.{is_decided, neighbours_on}
use Rattle.order_bound.specs.declared.pairs.Pair.{Pair}
use Rattle.order_bound.specs.declared.pairs.OpenLink.{OpenLink}
use Rattle.order_bound.specs.Pairs.{is_pair, pair_of, is_open_on, open_segments, open_link, open_links, kept, kept_links}
use Rattle.order_bound.specs.Decided.{apart_cost, decided_cost}
use Rattle.pair_bounds.specs.Counted.{counted_cost}
use Rattle.order_bound.specs.Bounds.{Choice, open_cost, slot_cost, link_cost, choice_cost, with_answer, least_over, pair_bound}
use Rattle.order_bound.proofs.Lists.{Among, each_append, is_false}
use Rattle.order_bound.proofs.Bounding.{each_kept}
use Rattle.part_bounds.specs.PairGroups.{Group, is_end, meets, share_of}

-- Segments on which a pair has no term cost nothing.

gate_second : (a b c : Bool) (x : ℕ) → b ≡ false → cond ((a && b) && c) x 0 ≡ 0
gate_second true b c x h = rw h refl
gate_second false b c x h = refl

gate_third : (a b c d : Bool) (x y : ℕ) → b ≡ false → cond (((a && b) && c) && d) x y ≡ y
gate_third true b c d x y h = rw h refl
gate_third false b c d x y h = refl

no_end : (placed : List (List LineId)) (p : Pair) (s : SegId) (x : Bool) (t : Term) → is_end s t ≡ false → open_cost placed p s x t ≡ 0
no_end placed p s x (Side seg first second w) h =
    gate_second (is_pair p (pair_of first second)) (seg.0 == s.0) (not (is_decided placed seg first second)) (cond (same_answer (first.0 == p.lesser.0) x) 0 w) (or_parts (seg.0 == s.0) (seg.0 == s.0) h).0
no_end placed p s x (Link seg other flip a b w) h =
    let parts = or_parts (seg.0 == s.0) (other.0 == s.0) h in
    let there : ℕ = cond (same_answer flip (same_answer (comes_before (lines_on placed seg) a b) x)) w 0 in
    gate_third (is_pair p (pair_of a b)) (seg.0 == s.0) (not (is_decided placed seg a b)) (is_decided placed other a b) (cond (same_answer flip (same_answer x (comes_before (lines_on placed other) a b))) w 0)
    (cond (((is_pair p (pair_of a b) && other.0 == s.0) && is_decided placed seg a b) && not (is_decided placed other a b)) there 0) parts.0
    ∙ gate_third (is_pair p (pair_of a b)) (other.0 == s.0) (is_decided placed seg a b) (not (is_decided placed other a b)) there 0 parts.1
no_end placed p s x (Apart seg other a b w) h = refl

no_cost : (placed : List (List LineId)) (p : Pair) (terms : List (ℕ × Term)) (s : SegId) (x : Bool) → meets terms s ≡ false → slot_cost placed terms p s x ≡ 0
no_cost placed p [] s x h = refl
no_cost placed p (t ∷ terms) s x h =
    let parts = or_parts (is_end s t.1) (meets terms s) h in
    omega (arith, sum_by-cons (λ (t : ℕ × Term). open_cost placed p s x t.1) t terms, no_end placed p s x t.1 parts.0, no_cost placed p terms s x parts.1)

-- a Link between segments that are met
abbrev pub IsMet : (SegId → Bool) → OpenLink → Type 0
IsMet q l = (q l.seg ≡ true) × (q l.other ≡ true)

pub met_seg : (terms : List (ℕ × Term)) (t : ℕ × Term) → Among t terms → meets terms (seg_of t.1) ≡ true
met_seg [] t h = absurd h
met_seg (u ∷ terms) t (inl e) =
    or_left (is_end (seg_of t.1) u.1) (meets terms (seg_of t.1)) (ap (λ (v : ℕ × Term). is_end (seg_of t.1) v.1) (sym e) ∙ or_left ((seg_of t.1).0 == (seg_of t.1).0) ((other_of t.1).0 == (seg_of t.1).0) (eq-eqb (seg_of t.1).0 (seg_of t.1).0 refl))
met_seg (u ∷ terms) t (inr h) = or_right (is_end (seg_of t.1) u.1) (meets terms (seg_of t.1)) (met_seg terms t h)

pub met_other : (terms : List (ℕ × Term)) (t : ℕ × Term) → Among t terms → meets terms (other_of t.1) ≡ true
met_other [] t h = absurd h
met_other (u ∷ terms) t (inl e) =
    or_left (is_end (other_of t.1) u.1) (meets terms (other_of t.1)) (ap (λ (v : ℕ × Term). is_end (other_of t.1) v.1) (sym e) ∙ or_right ((seg_of t.1).0 == (other_of t.1).0) ((other_of t.1).0 == (other_of t.1).0) (eq-eqb (other_of t.1).0 (other_of t.1).0 refl))
met_other (u ∷ terms) t (inr h) = or_right (is_end (other_of t.1) u.1) (meets terms (other_of t.1)) (met_other terms t h)

link_met : (q : SegId → Bool) (placed : List (List LineId)) (p : Pair) (k : ℕ) (t : Term) → q (seg_of t) ≡ true → q (other_of t) ≡ true → AllByRecursion (IsMet q) (open_link placed p k t)
link_met q placed p k (Side seg first second w) h g = tt
link_met q placed p k (Apart seg other a b w) h g = tt
link_met q placed p k (Link seg other flip a b w) h g = by_test (is_pair p (pair_of a b) && not (is_decided placed seg a b || is_decided placed other a b))
  where
    by_test : (c : Bool) → AllByRecursion (IsMet q) (cond c (record { number = k; seg = seg; other = other; flip = flip; weight = w } ∷ []) [])
    by_test true = ((h, g), tt)
    by_test false = tt

pub links_met : (placed : List (List LineId)) (p : Pair) (all some : List (ℕ × Term)) → ((t : ℕ × Term) → Among t some → Among t all) → AllByRecursion (IsMet (meets all)) (open_links placed p some)
links_met placed p all [] sub = tt
links_met placed p all (t ∷ some) sub =
    each_append (IsMet (meets all)) (open_link placed p t.0 t.1) (open_links placed p some)
    (link_met (meets all) placed p t.0 t.1 (met_seg all t (sub t (inl refl))) (met_other all t (sub t (inl refl)))) (links_met placed p all some (λ u h. sub u (inr h)))

-- Choices that agree on segments that are met.

abbrev Agree : (SegId → Bool) → Choice → Choice → Type 0
Agree q c d = (s : SegId) → q s ≡ true → c s ≡ d s

agree_more : (q : SegId → Bool) (c d : Choice) (s : SegId) (b : Bool) → Agree q c d → Agree q (with_answer c s b) (with_answer d s b)
agree_more q c d s b h t e = ap (λ x. cond (t.0 == s.0) b x) (h t e)

agree_beside : (q : SegId → Bool) (c : Choice) (s : SegId) (b : Bool) → q s ≡ false → Agree q (with_answer c s b) c
agree_beside q c s b none t e = by_test (t.0 == s.0) refl
  where
    by_test : (x : Bool) → (t.0 == s.0) ≡ x → cond x b (c t) ≡ c t
    by_test true is =
        let P : ℕ → SegId = λ n. record { 0 = n } in
        absurd (true≢false (sym e ∙ (ap q (ap P (eqb-true t.0 s.0 is)) ∙ none)))
    by_test false is = refl

least_agree : (q : SegId → Bool) (slots : List SegId) (c d : Choice) (f : Choice → ℕ) → Agree q c d → ((c d : Choice) → Agree q c d → f c ≡ f d) → least_over slots c f ≡ least_over slots d f
least_agree q [] c d f h k = k c d h
least_agree q (s ∷ slots) c d f h k =
    ap (λ n. min n (least_over slots (with_answer c s false) f)) (least_agree q slots (with_answer c s true) (with_answer d s true) f (agree_more q c d s true h) k)
    ∙ ap (λ n. min (least_over slots (with_answer d s true) f) n) (least_agree q slots (with_answer c s false) (with_answer d s false) f (agree_more q c d s false h) k)

min_same : (n : ℕ) → min n n ≡ n
min_same n = omega arith

least_own : (q : SegId → Bool) (slots : List SegId) (c : Choice) (f g : Choice → ℕ) → ((c : Choice) → f c ≡ g c) → ((c d : Choice) → Agree q c d → g c ≡ g d) → least_over slots c f ≡ least_over (filter q slots) c g
least_own q [] c f g same k = same c
least_own q (s ∷ slots) c f g same k = by_test (q s) refl (least_own q slots (with_answer c s true) f g same k) (least_own q slots (with_answer c s false) f g same k)
  where
    by_test : (b : Bool) → q s ≡ b → least_over slots (with_answer c s true) f ≡ least_over (filter q slots) (with_answer c s true) g
        → least_over slots (with_answer c s false) f ≡ least_over (filter q slots) (with_answer c s false) g
        → min (least_over slots (with_answer c s true) f) (least_over slots (with_answer c s false) f) ≡ least_over (cond b (s ∷ filter q slots) (filter q slots)) c g
    by_test true e first second = ap (λ n. min n (least_over slots (with_answer c s false) f)) first ∙ ap (λ n. min (least_over (filter q slots) (with_answer c s true) g) n) second
    by_test false e first second =
        let one = first ∙ least_agree q (filter q slots) (with_answer c s true) c g (agree_beside q c s true e) k in
        let two = second ∙ least_agree q (filter q slots) (with_answer c s false) c g (agree_beside q c s false e) k in
        ap (λ n. min n (least_over slots (with_answer c s false) f)) one ∙ (ap (λ n. min (least_over (filter q slots) c g) n) two ∙ min_same (least_over (filter q slots) c g))

-- The bound of a pair on the segments of its terms.

costs_own : (q : SegId → Bool) (cost : SegId → Bool → ℕ) (slots : List SegId) (c : Choice) → ((s : SegId) (x : Bool) → q s ≡ false → cost s x ≡ 0) → sum_by (λ s. cost s (c s)) slots ≡ sum_by (λ s. cost s (c s)) (filter q slots)
costs_own q cost [] c none = refl
costs_own q cost (s ∷ slots) c none = by_test (q s) refl (costs_own q cost slots c none)
  where
    by_test : (b : Bool) → q s ≡ b → sum_by (λ s. cost s (c s)) slots ≡ sum_by (λ s. cost s (c s)) (filter q slots) → sum_by (λ s. cost s (c s)) (s ∷ slots) ≡ sum_by (λ s. cost s (c s)) (cond b (s ∷ filter q slots) (filter q slots))
    by_test true e rest = omega (arith, rest, sum_by-cons (λ s. cost s (c s)) s slots, sum_by-cons (λ s. cost s (c s)) s (filter q slots))
    by_test false e rest = omega (arith, rest, none s (c s) e, sum_by-cons (λ s. cost s (c s)) s slots)

costs_agree : (q : SegId → Bool) (cost : SegId → Bool → ℕ) (slots : List SegId) (c d : Choice) → Agree q c d → sum_by (λ s. cost s (c s)) (filter q slots) ≡ sum_by (λ s. cost s (d s)) (filter q slots)
costs_agree q cost [] c d h = refl
costs_agree q cost (s ∷ slots) c d h = by_test (q s) refl (costs_agree q cost slots c d h)
  where
    by_test : (b : Bool) → q s ≡ b → sum_by (λ s. cost s (c s)) (filter q slots) ≡ sum_by (λ s. cost s (d s)) (filter q slots)
        → sum_by (λ s. cost s (c s)) (cond b (s ∷ filter q slots) (filter q slots)) ≡ sum_by (λ s. cost s (d s)) (cond b (s ∷ filter q slots) (filter q slots))
    by_test true e rest = omega (arith, rest, ap (cost s) (h s e), sum_by-cons (λ s. cost s (c s)) s (filter q slots), sum_by-cons (λ s. cost s (d s)) s (filter q slots))
    by_test false e rest = rest

links_agree : (q : SegId → Bool) (links : List OpenLink) (c d : Choice) → AllByRecursion (IsMet q) links → Agree q c d → sum_by (link_cost c) links ≡ sum_by (link_cost d) links
links_agree q [] c d met h = refl
links_agree q (l ∷ links) c d met h =
    let ends = met.0 in
    let one : link_cost c l ≡ link_cost d l =
    ap (λ x. cond (same_answer l.flip (same_answer x (c l.other))) l.weight 0) (h l.seg ends.0) ∙ ap (λ x. cond (same_answer l.flip (same_answer (d l.seg) x)) l.weight 0) (h l.other ends.1) in
    omega (arith, links_agree q links c d met.1 h, one, sum_by-cons (link_cost c) l links, sum_by-cons (link_cost d) l links)

pub filter_turned : {A : Type 0} (p q : A → Bool) (xs : List A) → filter p (filter q xs) ≡ filter q (filter p xs)
filter_turned p q [] = refl
filter_turned p q (x ∷ xs) = by_tests (p x) refl (q x) refl (filter_turned p q xs)
  where
    by_tests : (a : Bool) → p x ≡ a → (b : Bool) → q x ≡ b → filter p (filter q xs) ≡ filter q (filter p xs)
        → filter p (cond b (x ∷ filter q xs) (filter q xs)) ≡ filter q (cond a (x ∷ filter p xs) (filter p xs))
    by_tests true e true g rest = rw (e, g) (ap (λ l. x ∷ l) rest)
    by_tests true e false g rest = rw g rest
    by_tests false e true g rest = rw e rest
    by_tests false e false g rest = rest

pub own_bound_is : (segs placed : List (List LineId)) (part : List SegId) (terms : List (ℕ × Term)) (p : Pair) → pair_bound segs placed part terms p ≡ pair_bound segs placed (filter (meets terms) part) terms p
own_bound_is segs placed part terms p =
    let slots : List SegId = open_segments segs placed part p in
    let cost : SegId → Bool → ℕ = slot_cost placed terms p in
    let links : List OpenLink = kept_links placed p terms in
    let q : SegId → Bool = meets terms in
    let met = each_kept (IsMet q) (λ s. s) (open_links placed p terms) (links_met placed p terms terms (λ t h. h)) in
    least_own q slots (λ s. true) (choice_cost slots cost links) (choice_cost (filter q slots) cost links)
    (λ c. ap (λ n. n + sum_by (link_cost c) links) (costs_own q cost slots c (λ s x h. no_cost placed p terms s x h)))
    (λ c d h. ap (λ n. n + sum_by (link_cost c) links) (costs_agree q cost slots c d h) ∙ ap (λ n. sum_by (λ s. cost s (d s)) (filter q slots) + n) (links_agree q links c d met h))
    ∙ ap (λ l. least_over l (λ s. true) (choice_cost l cost links)) (sym (filter_turned (is_open_on segs placed p) q part))

-- Lines placed elsewhere.

-- two prefixes are the same but for one segment
abbrev pub SameElsewhere : SegId → List (List LineId) → List (List LineId) → Type 0
SameElsewhere s one two = (t : SegId) → (t.0 == s.0) ≡ false → lines_on one t ≡ lines_on two t

pub moved_on : (placed next : List (List LineId)) (s : SegId) (lines : List LineId) → next ≡ set placed s.0 lines → SameElsewhere s next placed
moved_on placed next s lines e t ne =
    let other : t.0 ≢ s.0 = λ is. true≢false (sym (eq-eqb t.0 s.0 is) ∙ ne) in
    ap (λ l. lines_on l t) e ∙ get_or-set_other placed s.0 t.0 lines [] other

pub decided_same : (segs one two : List (List LineId)) (t : Term) → lines_on one (seg_of t) ≡ lines_on two (seg_of t) → lines_on one (other_of t) ≡ lines_on two (other_of t) → decided_cost segs one t ≡ decided_cost segs two t
decided_same segs one two (Side seg first second w) h g = ap (λ l. cond (is_placed l first || is_placed l second) (cost_on l l (Side seg first second w)) 0) h
decided_same segs one two (Link seg other flip a b w) h g =
    ap (λ l. cond ((is_placed l a || is_placed l b) && is_decided one other a b) (cost_on l (lines_on one other) (Link seg other flip a b w)) 0) h
    ∙ ap (λ l. cond (is_decided two seg a b && (is_placed l a || is_placed l b)) (cost_on (lines_on two seg) l (Link seg other flip a b w)) 0) g
decided_same segs one two (Apart seg other a b w) h g =
    ap (λ l. apart_cost w (neighbours_on (lines_on segs seg) l a b) (neighbours_on (lines_on segs other) (lines_on one other) a b)) h
    ∙ ap (λ l. apart_cost w (neighbours_on (lines_on segs seg) (lines_on two seg) a b) (neighbours_on (lines_on segs other) l a b)) g

counted_same : (segs one two : List (List LineId)) (t : Term) → lines_on one (seg_of t) ≡ lines_on two (seg_of t) → lines_on one (other_of t) ≡ lines_on two (other_of t) → counted_cost segs one t ≡ counted_cost segs two t
counted_same segs one two (Side seg first second w) h g = decided_same segs one two (Side seg first second w) h g
counted_same segs one two (Link seg other flip a b w) h g = decided_same segs one two (Link seg other flip a b w) h g
counted_same segs one two (Apart seg other a b w) h g = refl

pub cost_same : (one two : List (List LineId)) (p : Pair) (s : SegId) (x : Bool) (t : Term) → lines_on one (seg_of t) ≡ lines_on two (seg_of t) → lines_on one (other_of t) ≡ lines_on two (other_of t)
    → open_cost one p s x t ≡ open_cost two p s x t
cost_same one two p s x (Side seg first second w) h g =
    ap (λ l. cond ((is_pair p (pair_of first second) && seg.0 == s.0) && not (is_placed l first || is_placed l second)) (cond (same_answer (first.0 == p.lesser.0) x) 0 w) 0) h
cost_same one two p s x (Link seg other flip a b w) h g =
    ap (λ l. cond (((is_pair p (pair_of a b) && seg.0 == s.0) && not (is_placed l a || is_placed l b)) && is_decided one other a b) (cond (same_answer flip (same_answer x (comes_before (lines_on one other) a b))) w 0)
    (cond (((is_pair p (pair_of a b) && other.0 == s.0) && (is_placed l a || is_placed l b)) && not (is_decided one other a b)) (cond (same_answer flip (same_answer (comes_before l a b) x)) w 0) 0)) h
    ∙ ap (λ l. cond (((is_pair p (pair_of a b) && seg.0 == s.0) && not (is_decided two seg a b)) && (is_placed l a || is_placed l b)) (cond (same_answer flip (same_answer x (comes_before l a b))) w 0)
    (cond (((is_pair p (pair_of a b) && other.0 == s.0) && is_decided two seg a b) && not (is_placed l a || is_placed l b)) (cond (same_answer flip (same_answer (comes_before (lines_on two seg) a b) x)) w 0) 0)) g
cost_same one two p s x (Apart seg other a b w) h g = refl

link_same : (one two : List (List LineId)) (p : Pair) (k : ℕ) (t : Term) → lines_on one (seg_of t) ≡ lines_on two (seg_of t) → lines_on one (other_of t) ≡ lines_on two (other_of t)
    → open_link one p k t ≡ open_link two p k t
link_same one two p k (Side seg first second w) h g = refl
link_same one two p k (Apart seg other a b w) h g = refl
link_same one two p k (Link seg other flip a b w) h g =
    let Q : Bool → List OpenLink = λ c. cond c (record { number = k; seg = seg; other = other; flip = flip; weight = w } ∷ []) [] in
    ap (λ l. Q (is_pair p (pair_of a b) && not ((is_placed l a || is_placed l b) || is_decided one other a b))) h
    ∙ ap (λ l. Q (is_pair p (pair_of a b) && not (is_decided two seg a b || (is_placed l a || is_placed l b)))) g

pub same_ends : (s : SegId) (one two : List (List LineId)) (t : Term) → SameElsewhere s one two → is_end s t ≡ false → (lines_on one (seg_of t) ≡ lines_on two (seg_of t)) × (lines_on one (other_of t) ≡ lines_on two (other_of t))
same_ends s one two t same h = let parts = or_parts ((seg_of t).0 == s.0) ((other_of t).0 == s.0) h in (same (seg_of t) parts.0, same (other_of t) parts.1)

pub sum_kept : (f g : ℕ × Term → ℕ) (terms : List (ℕ × Term)) (s : SegId) → meets terms s ≡ false → ((t : ℕ × Term) → is_end s t.1 ≡ false → f t ≡ g t) → sum_by f terms ≡ sum_by g terms
sum_kept f g [] s h same = refl
sum_kept f g (t ∷ terms) s h same =
    let parts = or_parts (is_end s t.1) (meets terms s) h in
    omega (arith, same t parts.0, sum_kept f g terms s parts.1 same, sum_by-cons f t terms, sum_by-cons g t terms)

pub links_kept : (one two : List (List LineId)) (p : Pair) (terms : List (ℕ × Term)) (s : SegId) → meets terms s ≡ false → SameElsewhere s one two → open_links one p terms ≡ open_links two p terms
links_kept one two p [] s h same = refl
links_kept one two p (t ∷ terms) s h same =
    let parts = or_parts (is_end s t.1) (meets terms s) h in
    let ends = same_ends s one two t.1 same parts.0 in
    ap (λ l. l ++ open_links one p terms) (link_same one two p t.0 t.1 ends.0 ends.1) ∙ ap (λ l. open_link two p t.0 t.1 ++ l) (links_kept one two p terms s parts.1 same)

pub open_kept : (segs one two : List (List LineId)) (q : SegId → Bool) (part : List SegId) (p : Pair) (s : SegId) → q s ≡ false → SameElsewhere s one two
    → open_segments segs one (filter q part) p ≡ open_segments segs two (filter q part) p
open_kept segs one two q [] p s none same = refl
open_kept segs one two q (t ∷ part) p s none same = by_test (q t) refl (open_kept segs one two q part p s none same)
  where
    test_same : (t.0 == s.0) ≡ false → is_open_on segs one p t ≡ is_open_on segs two p t
    test_same e = ap (λ l. (has_line (lines_on segs t) p.lesser && has_line (lines_on segs t) p.greater) && not (is_placed l p.lesser || is_placed l p.greater)) (same t e)

    by_test : (b : Bool) → q t ≡ b → open_segments segs one (filter q part) p ≡ open_segments segs two (filter q part) p
        → open_segments segs one (cond b (t ∷ filter q part) (filter q part)) p ≡ open_segments segs two (cond b (t ∷ filter q part) (filter q part)) p
    by_test true e rest =
        let P : ℕ → SegId = λ n. record { 0 = n } in
        let other : (t.0 == s.0) ≡ false = is_false (t.0 == s.0) (λ is. true≢false (sym e ∙ (ap q (ap P (eqb-true t.0 s.0 is)) ∙ none))) in
        ap (λ b. cond b (t ∷ open_segments segs one (filter q part) p) (open_segments segs one (filter q part) p)) (test_same other)
        ∙ ap (λ l. cond (is_open_on segs two p t) (t ∷ l) l) rest
    by_test false e rest = rest

-- a pair without a term on a segment keeps its share when a line is placed there
pub share_kept : (segs one two : List (List LineId)) (part : List SegId) (g : Group) (s : SegId) → meets g.1 s ≡ false → SameElsewhere s one two → share_of segs part one g ≡ share_of segs part two g
share_kept segs one two part g s h same =
    let terms : List (ℕ × Term) = g.1 in
    let own : List SegId = filter (meets terms) part in
    let decided = sum_kept (λ (t : ℕ × Term). counted_cost segs one t.1) (λ (t : ℕ × Term). counted_cost segs two t.1) terms s h
    (λ t e. let ends = same_ends s one two t.1 same e in counted_same segs one two t.1 ends.0 ends.1) in
    let costs : slot_cost one terms g.0 ≡ slot_cost two terms g.0 =
    fun_ext (λ v. fun_ext (λ x. sum_kept (λ (t : ℕ × Term). open_cost one g.0 v x t.1) (λ (t : ℕ × Term). open_cost two g.0 v x t.1) terms s h (λ t e. let ends = same_ends s one two t.1 same e in cost_same one two g.0 v x t.1 ends.0 ends.1))) in
    let bounds : pair_bound segs one own terms g.0 ≡ pair_bound segs two own terms g.0 =
    ap (λ slots. least_over slots (λ s. true) (choice_cost slots (slot_cost one terms g.0) (kept (λ s. s) (open_links one g.0 terms)))) (open_kept segs one two (meets terms) part g.0 s h same)
    ∙ (ap (λ cost. least_over (open_segments segs two own g.0) (λ s. true) (choice_cost (open_segments segs two own g.0) cost (kept (λ s. s) (open_links one g.0 terms)))) costs
    ∙ ap (λ links. least_over (open_segments segs two own g.0) (λ s. true) (choice_cost (open_segments segs two own g.0) (slot_cost two terms g.0) (kept (λ s. s) links))) (links_kept one two g.0 terms s h same)) in
    omega (arith, decided, own_bound_is segs one part terms g.0, bounds, own_bound_is segs two part terms g.0)
