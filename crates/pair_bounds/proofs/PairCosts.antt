-- What is worked out of a pair's terms is its bound.
use Rattle.std.proofs.Common.{true≢false, Option, Some, None, ◌≡◌, ℕ, zero, suc, ◌+◌, ◌*◌, ◌≤◌, ◌==◌, Bool, true, false, not, cond, ◌&&◌, ◌||◌, List, [], ◌∷◌, ◌++◌, length, map, filter, reverse, refl, sym, ap, subst, ◌∙◌, ◌⊎◌, inl, inr, arith, length-append}
use Rattle.std.specs.Prelude.{ℤ, pos, sum_by}
use Rattle.std.specs.List.{All, AllByRecursion}
use Rattle.std.proofs.lemmas.List.{length-map, reverse-reverse, length-reverse}
use Rattle.std.proofs.lemmas.List.Elements.{All-nil, All-cons, All-head, All-tail}
use Rattle.std.proofs.lemmas.List.Filters.{length-filter_both}
use Rattle.std.proofs.lemmas.List.Sums.{sum_by-cons}
use Rattle.map_base.specs.declared.ids.SegId.{SegId}
use Rattle.map_base.specs.declared.ids.LineId.{LineId}
use Rattle.order_model.specs.declared.term.Term.{Term}
use Rattle.order_model.specs.declared.term.Term.TheVariants.{Side, Link, Apart}
use Rattle.order_model.specs.Problems.{IsTerm, lines_on}
use Rattle.order_model.specs.Costs.{same_answer, comes_before, seg_of, other_of}
use Rattle.order_model.specs.Looks.{is_decided, neighbours_on}
use Rattle.order_model.specs.PartTerms.{is_in, is_of}
use Rattle.pair_bounds.specs.declared.slots.Slot.{Slot}
use Rattle.order_bound.specs.Decided.{apart_cost, decided_cost}
use Rattle.pair_bounds.specs.Counted.{counted_cost, settled_cost, counted_sum}
use Rattle.order_bound.specs.Pairs.{pair_of, is_pair, is_open_on, open_segments, open_link, open_links, kept, joined, kept_links, labels_after, AreApartSegments}
use Rattle.order_bound.specs.declared.pairs.Pair.{Pair}
use Rattle.order_bound.specs.declared.pairs.OpenLink.{OpenLink}
use Rattle.order_bound.specs.Bounds.{open_cost, slot_cost, link_cost, pair_bound}
use Rattle.whole_sums.specs.Sums.{int_sum}
use Rattle.order_bound.specs.CanonicalPrices.{ends_at, far_end, child_link, walked, children_of, rise_of, price_for, priced, pair_prices}
use Rattle.order_bound.specs.declared.pairs.ChildLink.{ChildLink}
use Rattle.pair_bounds.specs.Slots.{slots_of, rise_in, with_children, slot_least, IsCollected}
use Rattle.order_bound.proofs.Lists.{each_append, each_weaker, each_of, each_among, Among}
use Rattle.order_bound.proofs.Sums.{sum_less, sum_both, sum_swap, one_segment}
use Rattle.order_bound.proofs.Forests.{kept_forest}
use Rattle.order_bound.proofs.Walks.{IsOwnLink, IsParentFirst, parents_first}
use Rattle.order_bound.proofs.Pricing.{below_cost}
use Rattle.order_bound.proofs.Worth.{IsBetween, each_taken, least_least, worth}
use Rattle.order_bound.proofs.Completing.{apart_filter}
use Rattle.order_bound.proofs.Bounding.{links_between, each_kept}
use Rattle.pair_bounds.proofs.PricedSlots.{rise_found, children_priced, least_slots}
use Rattle.pair_bounds.specs.PriceNotes.{priced_in}

pub all_among : (P : ℕ × Term → Type 0) (terms : List (ℕ × Term)) → All P terms → (t : ℕ × Term) → Among t terms → P t
all_among P [] all t h = absurd h
all_among P (u ∷ terms) all t (inl e) = subst P (sym e) (All-head P u terms all)
all_among P (u ∷ terms) all t (inr h) = all_among P terms (All-tail P u terms all) t h

each_all : {A : Type 0} (P : A → Type 0) (xs : List A) → AllByRecursion P xs → All P xs
each_all P [] h = All-nil P
each_all P (x ∷ xs) h = All-cons P x xs h.0 (each_all P xs h.1)

-- Lengths.

length_filter : {A : Type 0} (p : A → Bool) (xs : List A) → length (filter p xs) ≤ length xs
length_filter p xs = omega (arith, length-filter_both p (λ x. not (p x)) (λ x. refl) xs)

length_slots_of : (label : ℕ → ℕ) (cost : SegId → Bool → ℕ) (segs : List SegId) → length (slots_of label cost segs) ≡ length segs
length_slots_of label cost [] = refl
length_slots_of label cost (s ∷ segs) = ap suc (length_slots_of label cost segs)

pub length_slots : (segs placed : List (List LineId)) (part : List SegId) (p : Pair) (terms : List (ℕ × Term)) (base : ℕ) (slots : List Slot) (links : List OpenLink)
    → IsCollected segs placed p (open_segments segs placed part p) terms base slots links → length slots ≤ length part
length_slots segs placed part p terms base slots links ok =
    omega (arith, ap length ok.slots_are, length_slots_of (labels_after (λ s. s) links) (slot_cost placed terms p) (open_segments segs placed part p), length_filter (is_open_on segs placed p) part)

length_link : (placed : List (List LineId)) (p : Pair) (k : ℕ) (t : Term) → length (open_link placed p k t) ≤ 1
length_link placed p k (Side seg first second w) = omega arith
length_link placed p k (Apart seg other a b w) = omega arith
length_link placed p k (Link seg other flip a b w) = by_test (is_pair p (pair_of a b) && not (is_decided placed seg a b || is_decided placed other a b))
  where
    by_test : (c : Bool) → length {A = OpenLink} (cond c (record { number = k; seg = seg; other = other; flip = flip; weight = w } ∷ []) []) ≤ 1
    by_test true = omega arith
    by_test false = omega arith

length_links : (placed : List (List LineId)) (p : Pair) (terms : List (ℕ × Term)) → length (open_links placed p terms) ≤ length terms
length_links placed p [] = omega arith
length_links placed p (t ∷ terms) = omega (arith, length_link placed p t.0 t.1, length_links placed p terms, length-append (open_link placed p t.0 t.1) (open_links placed p terms))

length_kept : (label : ℕ → ℕ) (links : List OpenLink) → length (kept label links) ≤ length links
length_kept label [] = omega arith
length_kept label (l ∷ links) = by_test (label l.seg.0 == label l.other.0) (length_kept label links) (length_kept (joined label l.seg.0 l.other.0) links)
  where
    by_test : (b : Bool) → length (kept label links) ≤ length links → length (kept (joined label l.seg.0 l.other.0) links) ≤ length links
        → length (cond b (kept label links) (l ∷ kept (joined label l.seg.0 l.other.0) links)) ≤ suc (length links)
    by_test true same rest = omega arith
    by_test false same rest = omega arith

pub few_links : (segs placed : List (List LineId)) (open_segs : List SegId) (p : Pair) (terms : List (ℕ × Term)) (base : ℕ) (slots : List Slot) (links : List OpenLink)
    → IsCollected segs placed p open_segs terms base slots links → length links ≤ length terms
few_links segs placed open_segs p terms base slots links ok = omega (arith, ap length ok.links_are, length_kept (λ s. s) (open_links placed p terms), length_links placed p terms)

pub length_walked : (n : ℕ) (waiting : List SegId) (links : List OpenLink) → length (walked n waiting links) ≤ length links
length_walked zero waiting links = omega arith
length_walked (suc n) [] links = omega arith
length_walked (suc n) (s ∷ waiting) links =
    omega (
      arith,
      length-append (map (child_link s) (filter (ends_at s) links)) (walked n (map (far_end s) (filter (ends_at s) links) ++ waiting) (filter (λ l. not (ends_at s l)) links)),
      length-map (filter (ends_at s) links) (child_link s),
      length_walked n (map (far_end s) (filter (ends_at s) links) ++ waiting) (filter (λ l. not (ends_at s l)) links),
      length-filter_both (ends_at s) (λ l. not (ends_at s l)) (λ l. refl) links,
    )

-- The children.

seg_list : (label : ℕ → ℕ) (cost : SegId → Bool → ℕ) (segs : List SegId) → map (λ (s : Slot). s.seg) (slots_of label cost segs) ≡ segs
seg_list label cost [] = refl
seg_list label cost (s ∷ segs) = ap (λ k. s ∷ k) (seg_list label cost segs)

-- the walk from the segments of all slots
pub walk_is : (segs placed : List (List LineId)) (open_segs : List SegId) (p : Pair) (terms : List (ℕ × Term)) (base : ℕ) (slots : List Slot) (links : List OpenLink) (waiting : List SegId) (children : List ChildLink) (n : ℕ)
    → IsCollected segs placed p open_segs terms base slots links → waiting ≡ reverse (map (λ (s : Slot). s.seg) slots) → n ≡ length waiting + length links → children ≡ [] ++ walked n (reverse waiting) links
    → children ≡ children_of open_segs links
walk_is segs placed open_segs p terms base slots links waiting children n ok e1 e2 e3 =
    let all : map (λ (s : Slot). s.seg) slots ≡ open_segs = ap (map (λ (s : Slot). s.seg)) ok.slots_are ∙ seg_list (labels_after (λ s. s) links) (slot_cost placed terms p) open_segs in
    let back : reverse waiting ≡ open_segs = ap reverse e1 ∙ (reverse-reverse (map (λ (s : Slot). s.seg) slots) ∙ all) in
    let count : n ≡ length open_segs + length links = omega (arith, e2, ap length e1, length-reverse (map (λ (s : Slot). s.seg) slots), ap length all) in
    e3 ∙ (ap (λ k. walked k (reverse waiting) links) count ∙ ap (λ w. walked (length open_segs + length links) w links) back)

light_link : (segs placed : List (List LineId)) (p : Pair) (k : ℕ) (t : Term) → IsTerm segs t → AllByRecursion (λ (l : OpenLink). l.weight ≤ 256000) (open_link placed p k t)
light_link segs placed p k (Side seg first second w) known = tt
light_link segs placed p k (Apart seg other a b w) known = tt
light_link segs placed p k (Link seg other flip a b w) known = by_test (is_pair p (pair_of a b) && not (is_decided placed seg a b || is_decided placed other a b))
  where
    by_test : (c : Bool) → AllByRecursion (λ (l : OpenLink). l.weight ≤ 256000) (cond c (record { number = k; seg = seg; other = other; flip = flip; weight = w } ∷ []) [])
    by_test true = (known.weight.1, tt)
    by_test false = tt

light_links : (segs placed : List (List LineId)) (p : Pair) (terms : List (ℕ × Term)) → All (λ (t : ℕ × Term). IsTerm segs t.1) terms → AllByRecursion (λ (l : OpenLink). l.weight ≤ 256000) (open_links placed p terms)
light_links segs placed p [] known = tt
light_links segs placed p (t ∷ terms) known =
    each_append (λ (l : OpenLink). l.weight ≤ 256000) (open_link placed p t.0 t.1) (open_links placed p terms)
    (light_link segs placed p t.0 t.1 (All-head (λ (t : ℕ × Term). IsTerm segs t.1) t terms known)) (light_links segs placed p terms (All-tail (λ (t : ℕ × Term). IsTerm segs t.1) t terms known))

pub light_children : (segs placed : List (List LineId)) (open_segs : List SegId) (p : Pair) (terms : List (ℕ × Term)) (base : ℕ) (slots : List Slot) (links : List OpenLink) (children : List ChildLink)
    → IsCollected segs placed p open_segs terms base slots links → All (λ (t : ℕ × Term). IsTerm segs t.1) terms → children ≡ children_of open_segs links → All (λ (c : ChildLink). c.link.weight ≤ 256000) children
light_children segs placed open_segs p terms base slots links children ok known e =
    let light : AllByRecursion (λ (l : OpenLink). l.weight ≤ 256000) links = subst (AllByRecursion (λ (l : OpenLink). l.weight ≤ 256000)) (sym ok.links_are)
    (each_kept (λ (l : OpenLink). l.weight ≤ 256000) (λ s. s) (open_links placed p terms) (light_links segs placed p terms known)) in
    subst (All (λ (c : ChildLink). c.link.weight ≤ 256000)) (sym e)
    (each_all (λ (c : ChildLink). c.link.weight ≤ 256000) (children_of open_segs links) (each_taken (λ (l : OpenLink). l.weight ≤ 256000) (length open_segs + length links) open_segs links light))

child_inside : (slots : List SegId) (children : List ChildLink) → IsParentFirst children → AllByRecursion (λ (c : ChildLink). IsBetween slots c.link) children → AllByRecursion (λ (c : ChildLink). is_in slots c.child ≡ true) children
child_inside slots [] first between = tt
child_inside slots (c ∷ later) first between = (inside c first.0 between.0, child_inside slots later first.2 between.1)
  where
    inside : (c : ChildLink) → IsOwnLink c → IsBetween slots c.link → is_in slots c.child ≡ true
    inside c own between = one own.1
      where
        one : (c.child ≡ c.link.seg) ⊎ (c.child ≡ c.link.other) → is_in slots c.child ≡ true
        one (inl e) = ap (is_in slots) e ∙ between.here
        one (inr e) = ap (is_in slots) e ∙ between.there

-- the least costs of slots with all prices are the pair's bound
pub pair_least : (segs placed : List (List LineId)) (part : List SegId) (p : Pair) (terms : List (ℕ × Term)) (base : ℕ) (slots : List Slot) (links : List OpenLink) (children : List ChildLink)
    → AreApartSegments part → All (λ (t : ℕ × Term). IsTerm segs t.1) terms → All (λ (t : ℕ × Term). is_of part t.1 ≡ true) terms
    → IsCollected segs placed p (open_segments segs placed part p) terms base slots links → children ≡ children_of (open_segments segs placed part p) links
    → int_sum slot_least (with_children children slots) ≡ pos (pair_bound segs placed part terms p)
pair_least segs placed part p terms base slots links children apart known inside ok e =
    let open_segs : List SegId = open_segments segs placed part p in
    let all : List OpenLink = kept_links placed p terms in
    let between : AllByRecursion (IsBetween open_segs) all = each_kept (IsBetween open_segs) (λ s. s) (open_links placed p terms)
    (links_between segs placed part p terms (all_among (λ (t : ℕ × Term). IsTerm segs t.1) terms known) (all_among (λ (t : ℕ × Term). is_of part t.1 ≡ true) terms inside)) in
    let forest = kept_forest (λ s. s) (open_links placed p terms) in
    let children_in = child_inside open_segs (children_of open_segs all) (parents_first (length open_segs + length all) open_segs all forest)
    (each_taken (IsBetween open_segs) (length open_segs + length all) open_segs all between) in
    ap (λ c. int_sum slot_least (with_children c slots)) (e ∙ ap (children_of open_segs) ok.links_are)
    ∙ (ap (λ s. int_sum slot_least (with_children (children_of open_segs all) s)) ok.slots_are
    ∙ (ap (int_sum slot_least) (children_priced (labels_after (λ s. s) links) (slot_cost placed terms p) open_segs (children_of open_segs all) children_in)
    ∙ (least_slots (labels_after (λ s. s) links) (below_cost (slot_cost placed terms p) (priced (slot_cost placed terms p) (children_of open_segs all))) open_segs
    ∙ worth open_segs (λ s. true) (slot_cost placed terms p) all (apart_filter (is_open_on segs placed p) part apart) between forest)))

-- the same for what lies in memory
pub pair_total : (segs placed : List (List LineId)) (part : List SegId) (p : Pair) (terms : List (ℕ × Term)) (base : ℕ) (slots now new last : List Slot) (links : List OpenLink) (children : List ChildLink) (total : ℤ)
    → AreApartSegments part → All (λ (t : ℕ × Term). IsTerm segs t.1) terms → All (λ (t : ℕ × Term). is_of part t.1 ≡ true) terms
    → IsCollected segs placed p (open_segments segs placed part p) terms base slots links → children ≡ children_of (open_segments segs placed part p) links
    → now ≡ slots → new ≡ with_children children now → last ≡ new → total ≡ int_sum slot_least last → total ≡ pos (pair_bound segs placed part terms p)
pair_total segs placed part p terms base slots now new last links children total apart known inside ok e e1 e2 e3 e4 =
    e4 ∙ (ap (int_sum slot_least) (e3 ∙ (e2 ∙ ap (with_children children) e1)) ∙ pair_least segs placed part p terms base slots links children apart known inside ok e)

-- The prices of the children, by their slots.

priced_is : (label : ℕ → ℕ) (cost : SegId → Bool → ℕ) (segs : List SegId) (children : List ChildLink) → AllByRecursion (λ (c : ChildLink). is_in segs c.child ≡ true) children
    → priced_in children (slots_of label cost segs) ≡ priced cost children
priced_is label cost segs [] h = refl
priced_is label cost segs (c ∷ later) h =
    let Q : ℤ → OpenLink × ℤ = λ y. (c.link, y) in
    ap (λ s. Q (price_for c (rise_in s c.child)) ∷ priced_in later (slots_of label cost segs)) (children_priced label cost segs later h.1)
    ∙ (ap (λ d. Q (price_for c d) ∷ priced_in later (slots_of label cost segs)) (rise_found label (below_cost cost (priced cost later)) segs c.child h.0)
    ∙ ap (λ l. Q (price_for c (rise_of (below_cost cost (priced cost later) c.child))) ∷ l) (priced_is label cost segs later h.1))

pub priced_pair : (segs placed : List (List LineId)) (part : List SegId) (p : Pair) (terms : List (ℕ × Term)) (base : ℕ) (slots now : List Slot) (children : List ChildLink)
    → All (λ (t : ℕ × Term). IsTerm segs t.1) terms → All (λ (t : ℕ × Term). is_of part t.1 ≡ true) terms
    → IsCollected segs placed p (open_segments segs placed part p) terms base slots (kept_links placed p terms) → children ≡ children_of (open_segments segs placed part p) (kept_links placed p terms)
    → now ≡ slots → priced_in children now ≡ pair_prices segs placed part terms p
priced_pair segs placed part p terms base slots now children known inside ok e1 e2 =
    let open_segs : List SegId = open_segments segs placed part p in
    let all : List OpenLink = kept_links placed p terms in
    let between : AllByRecursion (IsBetween open_segs) all = each_kept (IsBetween open_segs) (λ s. s) (open_links placed p terms)
    (links_between segs placed part p terms (all_among (λ (t : ℕ × Term). IsTerm segs t.1) terms known) (all_among (λ (t : ℕ × Term). is_of part t.1 ≡ true) terms inside)) in
    let forest = kept_forest (λ s. s) (open_links placed p terms) in
    let children_in = child_inside open_segs (children_of open_segs all) (parents_first (length open_segs + length all) open_segs all forest)
    (each_taken (IsBetween open_segs) (length open_segs + length all) open_segs all between) in
    ap (λ c. priced_in c now) e1 ∙ (ap (priced_in (children_of open_segs all)) (e2 ∙ ok.slots_are) ∙ priced_is (labels_after (λ s. s) all) (slot_cost placed terms p) open_segs (children_of open_segs all) children_in)

-- Shares of pairs are small.

sum_most : {A : Type 0} (f : A → ℕ) (m : ℕ) (xs : List A) → AllByRecursion (λ x. f x ≤ m) xs → sum_by f xs ≤ m * length xs
sum_most f m [] h = omega arith
sum_most f m (x ∷ xs) h = let first = h.0 in omega (arith, sum_most f m xs h.1, first, sum_by-cons f x xs)

gate_most : (b : Bool) (w m : ℕ) → w ≤ m → cond b w 0 ≤ m
gate_most true w m h = h
gate_most false w m h = omega arith

turned_most : (b : Bool) (w : ℕ) → cond b 0 w ≤ w
turned_most true w = omega arith
turned_most false w = omega arith

-- what a term of this weight adds at most on a segment: its weight, for each of its ends that is there
abbrev ends_weight : SegId → Term → ℕ
ends_weight s t = cond ((seg_of t).0 == s.0) 256000 0 + cond ((other_of t).0 == s.0) 256000 0

gate_side : (a b c : Bool) (x m : ℕ) → x ≤ 256000 → cond ((a && b) && c) x 0 ≤ cond b 256000 0 + m
gate_side true true true x m h = omega (arith, h)
gate_side true true false x m h = omega arith
gate_side true false c x m h = omega arith
gate_side false b c x m h = omega arith

closed : (a b c d : Bool) → b ≡ false → (((a && b) && c) && d) ≡ false
closed true b c d h = rw h refl
closed false b c d h = refl

gate_link : (g h a b : Bool) (x y : ℕ) → x ≤ 256000 → y ≤ 256000 → (a ≡ false → g ≡ false) → (b ≡ false → h ≡ false) → cond g x (cond h y 0) ≤ cond a 256000 0 + cond b 256000 0
gate_link true h true b x y p q i j = omega (arith, p)
gate_link true h false b x y p q i j = absurd (true≢false (i refl))
gate_link false true a true x y p q i j = omega (arith, q)
gate_link false true a false x y p q i j = absurd (true≢false (j refl))
gate_link false false a b x y p q i j = omega arith

open_ends : (segs placed : List (List LineId)) (p : Pair) (s : SegId) (x : Bool) (t : Term) → IsTerm segs t → open_cost placed p s x t ≤ ends_weight s t
open_ends segs placed p s x (Side seg first second w) known =
    let most : w ≤ 256000 = known.weight.1 in
    gate_side (is_pair p (pair_of first second)) (seg.0 == s.0) (not (is_decided placed seg first second)) (cond (same_answer (first.0 == p.lesser.0) x) 0 w) (cond (seg.0 == s.0) 256000 0)
    (omega (arith, turned_most (same_answer (first.0 == p.lesser.0) x) w, most))
open_ends segs placed p s x (Link seg other flip a b w) known =
    let most : w ≤ 256000 = known.weight.1 in
    gate_link (((is_pair p (pair_of a b) && seg.0 == s.0) && not (is_decided placed seg a b)) && is_decided placed other a b)
    (((is_pair p (pair_of a b) && other.0 == s.0) && is_decided placed seg a b) && not (is_decided placed other a b)) (seg.0 == s.0) (other.0 == s.0)
    (cond (same_answer flip (same_answer x (comes_before (lines_on placed other) a b))) w 0) (cond (same_answer flip (same_answer (comes_before (lines_on placed seg) a b) x)) w 0)
    (gate_most (same_answer flip (same_answer x (comes_before (lines_on placed other) a b))) w 256000 most) (gate_most (same_answer flip (same_answer (comes_before (lines_on placed seg) a b) x)) w 256000 most)
    (λ h. closed (is_pair p (pair_of a b)) (seg.0 == s.0) (not (is_decided placed seg a b)) (is_decided placed other a b) h)
    (λ h. closed (is_pair p (pair_of a b)) (other.0 == s.0) (is_decided placed seg a b) (not (is_decided placed other a b)) h)
open_ends segs placed p s x (Apart seg other a b w) known = omega arith

one_end : (k : SegId) (slots : List SegId) → AreApartSegments slots → sum_by (λ s. cond (k.0 == s.0) 256000 0) slots ≤ 256000
one_end k slots apart = one_segment k (λ s. cond (k.0 == s.0) 256000 0) 256000 slots apart (λ s h. rw h refl) (gate_most (k.0 == k.0) 256000 256000 (omega arith))

open_sum : (segs placed : List (List LineId)) (p : Pair) (slots : List SegId) (t : Term) → AreApartSegments slots → IsTerm segs t → sum_by (λ s. open_cost placed p s true t) slots ≤ 512000
open_sum segs placed p slots t apart known =
    let each = sum_less (λ s. open_cost placed p s true t) (λ s. ends_weight s t) slots (each_of (λ s. open_cost placed p s true t ≤ ends_weight s t) slots (λ s. open_ends segs placed p s true t known)) in
    let both = sum_both (λ s. cond ((seg_of t).0 == s.0) 256000 0) (λ s. cond ((other_of t).0 == s.0) 256000 0) slots in
    omega (arith, each, both, one_end (seg_of t) slots apart, one_end (other_of t) slots apart)

apart_most : (w : ℕ) (here there : Option Bool) → w ≤ 256000 → apart_cost w here there ≤ 256000
apart_most w None there h = omega arith
apart_most w (Some x) None h = omega arith
apart_most w (Some x) (Some y) h = by_test (same_answer x y)
  where
    by_test : (b : Bool) → cond b 0 w ≤ 256000
    by_test true = omega arith
    by_test false = h

decided_most : (segs placed : List (List LineId)) (t : Term) → IsTerm segs t → decided_cost segs placed t ≤ 256000
decided_most segs placed (Side seg first second w) known =
    let most : w ≤ 256000 = known.weight.1 in
    gate_most (is_decided placed seg first second) (cond (comes_before (lines_on placed seg) second first) w 0) 256000 (gate_most (comes_before (lines_on placed seg) second first) w 256000 most)
decided_most segs placed (Link seg other flip a b w) known =
    let most : w ≤ 256000 = known.weight.1 in
    let met : Bool = same_answer flip (same_answer (comes_before (lines_on placed seg) a b) (comes_before (lines_on placed other) a b)) in
    gate_most (is_decided placed seg a b && is_decided placed other a b) (cond met w 0) 256000 (gate_most met w 256000 most)
decided_most segs placed (Apart seg other a b w) known =
    apart_most w (neighbours_on (lines_on segs seg) (lines_on placed seg) a b) (neighbours_on (lines_on segs other) (lines_on placed other) a b) known.weight.1

counted_most : (segs placed : List (List LineId)) (t : Term) → IsTerm segs t → counted_cost segs placed t ≤ 256000
counted_most segs placed (Side seg first second w) known = decided_most segs placed (Side seg first second w) known
counted_most segs placed (Link seg other flip a b w) known = decided_most segs placed (Link seg other flip a b w) known
counted_most segs placed (Apart seg other a b w) known = omega arith

-- so is what an Apart costs that is settled
pub settled_most : (segs placed : List (List LineId)) (t : Term) → IsTerm segs t → settled_cost segs placed t ≤ 256000
settled_most segs placed (Side seg first second w) known = omega arith
settled_most segs placed (Link seg other flip a b w) known = omega arith
settled_most segs placed (Apart seg other a b w) known = decided_most segs placed (Apart seg other a b w) known

links_most : (choice : SegId → Bool) (links : List OpenLink) → AllByRecursion (λ (l : OpenLink). l.weight ≤ 256000) links → sum_by (link_cost choice) links ≤ 256000 * length links
links_most choice links h =
    sum_most (link_cost choice) 256000 links (each_weaker (λ (l : OpenLink). l.weight ≤ 256000) (λ l. link_cost choice l ≤ 256000) links
    (λ l light. gate_most (same_answer l.flip (same_answer (choice l.seg) (choice l.other))) l.weight 256000 light) h)

-- what a pair of lines adds to the bound is at most so much a term
pub share_small : (segs placed : List (List LineId)) (part : List SegId) (p : Pair) (terms : List (ℕ × Term)) → AreApartSegments part → All (λ (t : ℕ × Term). IsTerm segs t.1) terms
    → All (λ (t : ℕ × Term). is_of part t.1 ≡ true) terms → counted_sum segs placed terms + pair_bound segs placed part terms p ≤ 1024000 * length terms
share_small segs placed part p terms apart known inside =
    let open_segs : List SegId = open_segments segs placed part p in
    let all : List OpenLink = kept_links placed p terms in
    let between : AllByRecursion (IsBetween open_segs) all = each_kept (IsBetween open_segs) (λ s. s) (open_links placed p terms)
    (links_between segs placed part p terms (all_among (λ (t : ℕ × Term). IsTerm segs t.1) terms known) (all_among (λ (t : ℕ × Term). is_of part t.1 ≡ true) terms inside)) in
    let light = each_kept (λ (l : OpenLink). l.weight ≤ 256000) (λ s. s) (open_links placed p terms) (light_links segs placed p terms known) in
    let least = least_least open_segs (λ s. true) (λ s. true) (slot_cost placed terms p) all between in
    let swapped = sum_swap (λ s (t : ℕ × Term). open_cost placed p s true t.1) open_segs terms in
    let slots = sum_most (λ (t : ℕ × Term). sum_by (λ s. open_cost placed p s true t.1) open_segs) 512000 terms (each_among (λ (t : ℕ × Term). sum_by (λ s. open_cost placed p s true t.1) open_segs ≤ 512000) terms
    (λ t h. open_sum segs placed p open_segs t.1 (apart_filter (is_open_on segs placed p) part apart) (all_among (λ (t : ℕ × Term). IsTerm segs t.1) terms known t h))) in
    let decided = sum_most (λ (t : ℕ × Term). counted_cost segs placed t.1) 256000 terms (each_among (λ (t : ℕ × Term). counted_cost segs placed t.1 ≤ 256000) terms
    (λ t h. counted_most segs placed t.1 (all_among (λ (t : ℕ × Term). IsTerm segs t.1) terms known t h))) in
    let links = links_most (λ s. true) all light in
    let kept_count = length_kept (λ s. s) (open_links placed p terms) in
    let link_count = length_links placed p terms in
    omega (arith, least, swapped, slots, decided, links, kept_count, link_count)
