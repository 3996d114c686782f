-- Segments and terms with other numbers: bounds, costs and prices stay the same.
use Rattle.std.proofs.Common.{◌≡◌, ℕ, ℤ, zero, suc, ◌+◌, ◌==◌, ◌||◌, ◌&&◌, not, min, Bool, true, false, cond, List, [], ◌∷◌, ◌++◌, length, map, filter, refl, sym, ◌∙◌, ap, pos, negsuc, ◌+ℤ◌, ◌-ℤ◌}
use Rattle.std.specs.List.{sum_by}
use Rattle.std.proofs.lemmas.List.{map-append, length-map}
use Rattle.map_base.specs.declared.ids.SegId.{SegId}
use Rattle.map_base.specs.declared.ids.LineId.{LineId}
use Rattle.order_model.specs.declared.term.Term.{Term}
use Rattle.order_model.specs.declared.term.Term.TheVariants.{Side, Link, Apart}
use Rattle.order_model.specs.Problems.{lines_on}
use Rattle.order_model.specs.Costs.{term_cost, cost_of}
use Rattle.order_model.specs.Looks.{is_decided}
use Rattle.order_model.specs.PartTerms.{plain_terms}
use Rattle.order_bound.specs.declared.pairs.Pair.{Pair}
use Rattle.order_bound.specs.declared.pairs.OpenLink.{OpenLink}
use Rattle.order_bound.specs.declared.pairs.ChildLink.{ChildLink}
use Rattle.order_bound.specs.Decided.{decided_cost, decided_sum}
use Rattle.order_bound.specs.Pairs.{pair_of, pair_in, is_pair, has_pair, pairs_after, pairs_of, is_open_on, open_segments, open_link, open_links, joined, kept, kept_links}
use Rattle.order_bound.specs.Bounds.{open_cost, slot_cost, Choice, link_cost, choice_cost, with_answer, least_over, pair_bound, bound_of}
use Rattle.order_bound.specs.Values.{share}
use Rattle.order_bound.specs.CanonicalPrices.{ends_at, far_end, child_link, walked, children_of, shares, rise_of, price_for, with_price, priced, pair_prices, price_among, listed, prices_on, prices_for}
use Rattle.order_bound.proofs.Sums.{sum_same, sum_map}
use Rattle.order_search.specs.ByItself.{prices_by}

-- Lists that are mapped.

pub map_then : {A B C : Type 0} (f : B → C) (g : A → B) (h : A → C) (xs : List A) → ((x : A) → f (g x) ≡ h x) → map f (map g xs) ≡ map h xs
map_then f g h [] same = refl
map_then f g h (x ∷ xs) same = ap (λ y. y ∷ map f (map g xs)) (same x) ∙ ap (λ ys. h x ∷ ys) (map_then f g h xs same)

pub filter_mapped : {A B : Type 0} (p : B → Bool) (q : A → Bool) (f : A → B) (xs : List A) → ((x : A) → p (f x) ≡ q x) → filter p (map f xs) ≡ map f (filter q xs)
filter_mapped p q f [] same = refl
filter_mapped p q f (x ∷ xs) same =
    ap (λ b. cond b (f x ∷ filter p (map f xs)) (filter p (map f xs))) (same x) ∙ by_test (q x) (filter_mapped p q f xs same)
  where
    by_test : (b : Bool) → filter p (map f xs) ≡ map f (filter q xs)
        → cond b (f x ∷ filter p (map f xs)) (filter p (map f xs)) ≡ map f (cond b (x ∷ filter q xs) (filter q xs))
    by_test true e = ap (λ ys. f x ∷ ys) e
    by_test false e = e

pub sum_mapped : {A B : Type 0} (f : B → ℕ) (g : A → B) (h : A → ℕ) (xs : List A) → ((x : A) → f (g x) ≡ h x) → sum_by f (map g xs) ≡ sum_by h xs
sum_mapped f g h xs same = sum_map f g xs ∙ sum_same (λ x. f (g x)) h xs same

mapped_if : {A B : Type 0} (f : A → B) (b : Bool) (x : A) → cond b (f x ∷ []) [] ≡ map f (cond b (x ∷ []) [])
mapped_if f true x = refl
mapped_if f false x = refl

-- Other numbers, different ones for different segments and for different terms.
pub record Renaming : Type 0 where
  pub seg : ℕ → ℕ
  pub number : ℕ → ℕ
  pub segs_apart : (i j : ℕ) → (seg i == seg j) ≡ (i == j)
  pub numbers_apart : (i j : ℕ) → (number i == number j) ≡ (i == j)

module _ (r : Renaming) where
  abbrev pub seg_by : SegId → SegId
  seg_by s = record { 0 = r.seg s.0 }

  abbrev pub term_by : Term → Term
  term_by (Side seg first second w) = Side (seg_by seg) first second w
  term_by (Link seg other flip a b w) = Link (seg_by seg) (seg_by other) flip a b w
  term_by (Apart seg other a b w) = Apart (seg_by seg) (seg_by other) a b w

  abbrev pub numbered_by : ℕ × Term → ℕ × Term
  numbered_by t = (r.number t.0, term_by t.1)

  abbrev link_by : OpenLink → OpenLink
  link_by l = record { number = r.number l.number; seg = seg_by l.seg; other = seg_by l.other; flip = l.flip; weight = l.weight }

  abbrev child_by : ChildLink → ChildLink
  child_by c = record { child = seg_by c.child; link = link_by c.link }

  abbrev priced_by : OpenLink × ℤ → OpenLink × ℤ
  priced_by q = (link_by q.0, q.1)

  -- lists of segments, here and under the other numbers
  pub record AreSame (here there : List (List LineId)) : Type 0 where
    pub at : (s : SegId) → lines_on there (seg_by s) ≡ lines_on here s

  -- Pairs.

  pair_same : (t : Term) → pair_in (term_by t) ≡ pair_in t
  pair_same (Side seg first second w) = refl
  pair_same (Link seg other flip a b w) = refl
  pair_same (Apart seg other a b w) = refl

  pairs_same : (known : List Pair) (terms : List (ℕ × Term)) → pairs_after known (map numbered_by terms) ≡ pairs_after known terms
  pairs_same known [] = refl
  pairs_same known (t ∷ terms) =
      let p : Pair = pair_in t.1 in
      let more : Pair → List Pair = λ p. cond (has_pair known p) (pairs_after known (map numbered_by terms)) (p ∷ pairs_after (p ∷ known) (map numbered_by terms)) in
      ap more (pair_same t.1)
      ∙ ap (λ x. cond (has_pair known p) x (p ∷ pairs_after (p ∷ known) (map numbered_by terms))) (pairs_same known terms)
      ∙ ap (λ x. cond (has_pair known p) (pairs_after known terms) (p ∷ x)) (pairs_same (p ∷ known) terms)

  -- Links that are kept.

  joined_same : (other_label label : ℕ → ℕ) → ((i j : ℕ) → (other_label (r.seg i) == other_label (r.seg j)) ≡ (label i == label j)) → (e f i j : ℕ)
      → (joined other_label (r.seg e) (r.seg f) (r.seg i) == joined other_label (r.seg e) (r.seg f) (r.seg j)) ≡ (joined label e f i == joined label e f j)
  joined_same other_label label same e f i j =
      ap (λ b. cond b (other_label (r.seg e)) (other_label (r.seg i)) == joined other_label (r.seg e) (r.seg f) (r.seg j)) (same i f)
      ∙ ap (λ c. cond (label i == label f) (other_label (r.seg e)) (other_label (r.seg i)) == cond c (other_label (r.seg e)) (other_label (r.seg j))) (same j f)
      ∙ by_tests (label i == label f) (label j == label f)
    where
      by_tests : (b c : Bool) → (cond b (other_label (r.seg e)) (other_label (r.seg i)) == cond c (other_label (r.seg e)) (other_label (r.seg j)))
          ≡ (cond b (label e) (label i) == cond c (label e) (label j))
      by_tests true true = same e e
      by_tests true false = same e j
      by_tests false true = same i e
      by_tests false false = same i j

  kept_same : (other_label label : ℕ → ℕ) → ((i j : ℕ) → (other_label (r.seg i) == other_label (r.seg j)) ≡ (label i == label j)) → (links : List OpenLink)
      → kept other_label (map link_by links) ≡ map link_by (kept label links)
  kept_same other_label label same [] = refl
  kept_same other_label label same (l ∷ links) =
      let more : List OpenLink = kept (joined other_label (r.seg l.seg.0) (r.seg l.other.0)) (map link_by links) in
      ap (λ b. cond b (kept other_label (map link_by links)) (link_by l ∷ more)) (same l.seg.0 l.other.0)
      ∙ ap (λ x. cond (label l.seg.0 == label l.other.0) x (link_by l ∷ more)) (kept_same other_label label same links)
      ∙ ap (λ x. cond (label l.seg.0 == label l.other.0) (map link_by (kept label links)) (link_by l ∷ x))
      (kept_same (joined other_label (r.seg l.seg.0) (r.seg l.other.0)) (joined label l.seg.0 l.other.0) (joined_same other_label label same l.seg.0 l.other.0) links)
      ∙ by_test (label l.seg.0 == label l.other.0)
    where
      by_test : (b : Bool) → cond b (map link_by (kept label links)) (link_by l ∷ map link_by (kept (joined label l.seg.0 l.other.0) links))
          ≡ map link_by (cond b (kept label links) (l ∷ kept (joined label l.seg.0 l.other.0) links))
      by_test true = refl
      by_test false = refl

  -- The least over all choices.

  least_same : (slots : List SegId) (other_choice choice : Choice) (other_cost cost : Choice → ℕ) → ((s : SegId) → other_choice (seg_by s) ≡ choice s)
      → ((c d : Choice) → ((s : SegId) → c (seg_by s) ≡ d s) → other_cost c ≡ cost d)
      → least_over (map seg_by slots) other_choice other_cost ≡ least_over slots choice cost
  least_same [] other_choice choice other_cost cost chosen costs = costs other_choice choice chosen
  least_same (s ∷ slots) other_choice choice other_cost cost chosen costs =
      let one : Bool → ℕ = λ b. least_over (map seg_by slots) (with_answer other_choice (seg_by s) b) other_cost in
      let answered : (b : Bool) (t : SegId) → with_answer other_choice (seg_by s) b (seg_by t) ≡ with_answer choice s b t = λ b t.
      ap (λ x. cond x b (other_choice (seg_by t))) (r.segs_apart t.0 s.0) ∙ ap (cond (t.0 == s.0) b) (chosen t) in
      let step : (b : Bool) → one b ≡ least_over slots (with_answer choice s b) cost = λ b.
      least_same slots (with_answer other_choice (seg_by s) b) (with_answer choice s b) other_cost cost (answered b) costs in
      ap (λ n. min n (one false)) (step true) ∙ ap (min (least_over slots (with_answer choice s true) cost)) (step false)

  choices_same : (other_cost cost : SegId → Bool → ℕ) → ((s : SegId) (first : Bool) → other_cost (seg_by s) first ≡ cost s first)
      → (slots : List SegId) (links : List OpenLink)
      → least_over (map seg_by slots) (λ s. true) (choice_cost (map seg_by slots) other_cost (map link_by links))
      ≡ least_over slots (λ s. true) (choice_cost slots cost links)
  choices_same other_cost cost same slots links =
      least_same slots (λ s. true) (λ s. true) (choice_cost (map seg_by slots) other_cost (map link_by links)) (choice_cost slots cost links) (λ s. refl)
      (λ c d chosen.
      ap (λ n. n + sum_by (link_cost c) (map link_by links))
      (sum_mapped (λ s. other_cost s (c s)) seg_by (λ s. cost s (d s)) slots (λ s. same s (c (seg_by s)) ∙ ap (cost s) (chosen s)))
      ∙ ap (λ n. sum_by (λ s. cost s (d s)) slots + n) (sum_mapped (link_cost c) link_by (link_cost d) links (λ l. rw (chosen l.seg, chosen l.other) refl)))

  -- Trees of Links, and their prices.

  end_same : (s : SegId) (l : OpenLink) → ends_at (seg_by s) (link_by l) ≡ ends_at s l
  end_same s l = rw (r.segs_apart l.seg.0 s.0, r.segs_apart l.other.0 s.0) refl

  far_same : (s : SegId) (l : OpenLink) → far_end (seg_by s) (link_by l) ≡ seg_by (far_end s l)
  far_same s l = ap (λ b. cond b (seg_by l.other) (seg_by l.seg)) (r.segs_apart l.seg.0 s.0) ∙ by_test (l.seg.0 == s.0)
    where
      by_test : (b : Bool) → cond b (seg_by l.other) (seg_by l.seg) ≡ seg_by (cond b l.other l.seg)
      by_test true = refl
      by_test false = refl

  child_same : (s : SegId) (l : OpenLink) → child_link (seg_by s) (link_by l) ≡ child_by (child_link s l)
  child_same s l = let made : SegId → ChildLink = λ t. record { child = t; link = link_by l } in ap made (far_same s l)

  walk_same : (n : ℕ) (waiting : List SegId) (links : List OpenLink) → walked n (map seg_by waiting) (map link_by links) ≡ map child_by (walked n waiting links)
  walk_same zero waiting links = refl
  walk_same (suc n) [] links = refl
  walk_same (suc n) (s ∷ waiting) links =
      let below : List OpenLink = filter (ends_at s) links in
      let rest : List OpenLink = filter (λ l. not (ends_at s l)) links in
      let next : List OpenLink → List OpenLink → List ChildLink = λ xs ys.
      map (child_link (seg_by s)) xs ++ walked n (map (far_end (seg_by s)) xs ++ map seg_by waiting) ys in
      let goes : List ChildLink → List SegId → List ChildLink = λ cs ss. cs ++ walked n (ss ++ map seg_by waiting) (map link_by rest) in
      let children : List ChildLink = map (child_link s) below in
      let ends : List SegId = map (far_end s) below in
      ap (λ xs. next xs (filter (λ l. not (ends_at (seg_by s) l)) (map link_by links))) (filter_mapped (ends_at (seg_by s)) (ends_at s) link_by links (end_same s))
      ∙ ap (next (map link_by below)) (filter_mapped (λ l. not (ends_at (seg_by s) l)) (λ l. not (ends_at s l)) link_by links (λ l. ap not (end_same s l)))
      ∙ ap (λ cs. goes cs (map (far_end (seg_by s)) (map link_by below)))
      (map_then (child_link (seg_by s)) link_by (λ l. child_by (child_link s l)) below (child_same s) ∙ sym (map_then child_by (child_link s) (λ l. child_by (child_link s l)) below (λ l. refl)))
      ∙ ap (goes (map child_by children))
      (map_then (far_end (seg_by s)) link_by (λ l. seg_by (far_end s l)) below (far_same s) ∙ sym (map_then seg_by (far_end s) (λ l. seg_by (far_end s l)) below (λ l. refl)))
      ∙ ap (λ ss. map child_by children ++ walked n ss (map link_by rest)) (sym (map-append seg_by ends waiting))
      ∙ ap (λ cs. map child_by children ++ cs) (walk_same n (ends ++ waiting) rest)
      ∙ sym (map-append child_by children (walked n (ends ++ waiting) rest))

  children_same : (slots : List SegId) (links : List OpenLink) → children_of (map seg_by slots) (map link_by links) ≡ map child_by (children_of slots links)
  children_same slots links =
      ap (λ n. walked (n + length (map link_by links)) (map seg_by slots) (map link_by links)) (length-map slots seg_by)
      ∙ ap (λ n. walked (length slots + n) (map seg_by slots) (map link_by links)) (length-map links link_by)
      ∙ walk_same (length slots + length links) slots links

  share_same : (y : ℤ) (l : OpenLink) (s : SegId) (first : Bool) → share y (link_by l) (seg_by s) first ≡ share y l s first
  share_same y l s first = rw (r.segs_apart l.seg.0 s.0, r.segs_apart l.other.0 s.0) refl

  shares_same : (qs : List (OpenLink × ℤ)) (s : SegId) (first : Bool) → shares (map priced_by qs) (seg_by s) first ≡ shares qs s first
  shares_same [] s first = refl
  shares_same (q ∷ qs) s first =
      ap (λ x. x +ℤ shares (map priced_by qs) (seg_by s) first) (share_same q.1 q.0 s first) ∙ ap (λ x. share q.1 q.0 s first +ℤ x) (shares_same qs s first)

  price_same : (c : ChildLink) (d : ℤ) → price_for (child_by c) d ≡ price_for c d
  price_same c d = rw (r.segs_apart c.link.seg.0 c.child.0) refl

  one_priced : (other_cost cost : SegId → Bool → ℕ) → ((s : SegId) (first : Bool) → other_cost (seg_by s) first ≡ cost s first)
      → (c : ChildLink) (below : List (OpenLink × ℤ)) → with_price other_cost (child_by c) (map priced_by below) ≡ map priced_by (with_price cost c below)
  one_priced other_cost cost same c below =
      let s : SegId = c.child in
      let there : Bool → ℤ = λ first. pos (other_cost (seg_by s) first) +ℤ shares (map priced_by below) (seg_by s) first in
      let here : Bool → ℤ = λ first. pos (cost s first) +ℤ shares below s first in
      let one : (first : Bool) → there first ≡ here first = λ first.
      ap (λ n. pos n +ℤ shares (map priced_by below) (seg_by s) first) (same s first) ∙ ap (λ x. pos (cost s first) +ℤ x) (shares_same below s first) in
      let rise : rise_of there ≡ rise_of here = ap (λ x. x -ℤ there true) (one false) ∙ ap (λ x. here false -ℤ x) (one true) in
      let made : ℤ → List (OpenLink × ℤ) = λ y. (link_by c.link, y) ∷ map priced_by below in
      ap (λ d. made (price_for (child_by c) d)) rise ∙ ap made (price_same c (rise_of here))

  priced_same : (other_cost cost : SegId → Bool → ℕ) → ((s : SegId) (first : Bool) → other_cost (seg_by s) first ≡ cost s first)
      → (cs : List ChildLink) → priced other_cost (map child_by cs) ≡ map priced_by (priced cost cs)
  priced_same other_cost cost same [] = refl
  priced_same other_cost cost same (c ∷ cs) =
      ap (with_price other_cost (child_by c)) (priced_same other_cost cost same cs) ∙ one_priced other_cost cost same c (priced cost cs)

  among_same : (qs : List (OpenLink × ℤ)) (k : ℕ) → price_among (map priced_by qs) (r.number k) ≡ price_among qs k
  among_same [] k = refl
  among_same (q ∷ qs) k =
      ap (λ b. cond b q.1 (price_among (map priced_by qs) (r.number k))) (r.numbers_apart q.0.number k)
      ∙ ap (cond (q.0.number == k) q.1) (among_same qs k)

  listed_same : (k : ℕ) (y : ℤ) → listed (r.number k) y ≡ prices_by r.number (listed k y)
  listed_same k (pos zero) = refl
  listed_same k (pos (suc n)) = refl
  listed_same k (negsuc n) = refl

  -- What the lists of lines tell.

  term_same : (here there : List (List LineId)) → AreSame here there → (t : Term) → term_cost there (term_by t) ≡ term_cost here t
  term_same here there same (Side seg first second w) = rw (same.at seg) refl
  term_same here there same (Link seg other flip a b w) = rw (same.at seg, same.at other) refl
  term_same here there same (Apart seg other a b w) = rw (same.at seg, same.at other) refl

  pub cost_same : (here there : List (List LineId)) → AreSame here there → (terms : List (ℕ × Term))
      → cost_of (plain_terms (map numbered_by terms)) there ≡ cost_of (plain_terms terms) here
  cost_same here there same terms =
      ap (sum_by (term_cost there)) (map_then (λ (q : ℕ × Term). q.1) numbered_by (λ (q : ℕ × Term). term_by q.1) terms (λ q. refl))
      ∙ sum_map (term_cost there) (λ (q : ℕ × Term). term_by q.1) terms
      ∙ sum_same (λ (q : ℕ × Term). term_cost there (term_by q.1)) (λ (q : ℕ × Term). term_cost here q.1) terms (λ q. term_same here there same q.1)
      ∙ sym (sum_map (term_cost here) (λ (q : ℕ × Term). q.1) terms)

  module _ (segs other_segs placed other_placed : List (List LineId)) (same_segs : AreSame segs other_segs) (same : AreSame placed other_placed) where
    decided_same : (t : Term) → decided_cost other_segs other_placed (term_by t) ≡ decided_cost segs placed t
    decided_same (Side seg first second w) = rw (same.at seg) refl
    decided_same (Link seg other flip a b w) = rw (same.at seg, same.at other) refl
    decided_same (Apart seg other a b w) = rw (same_segs.at seg, same.at seg, same_segs.at other, same.at other) refl

    decided_sums : (terms : List (ℕ × Term)) → decided_sum other_segs other_placed (map numbered_by terms) ≡ decided_sum segs placed terms
    decided_sums terms =
        sum_mapped (λ (t : ℕ × Term). decided_cost other_segs other_placed t.1) numbered_by (λ (t : ℕ × Term). decided_cost segs placed t.1) terms (λ t. decided_same t.1)

    open_same : (p : Pair) (s : SegId) → is_open_on other_segs other_placed p (seg_by s) ≡ is_open_on segs placed p s
    open_same p s = rw (same_segs.at s, same.at s) refl

    opens_same : (part : List SegId) (p : Pair) → open_segments other_segs other_placed (map seg_by part) p ≡ map seg_by (open_segments segs placed part p)
    opens_same part p = filter_mapped (is_open_on other_segs other_placed p) (is_open_on segs placed p) seg_by part (open_same p)

    link_same : (p : Pair) (k : ℕ) (t : Term) → open_link other_placed p (r.number k) (term_by t) ≡ map link_by (open_link placed p k t)
    link_same p k (Side seg first second w) = refl
    link_same p k (Link seg other flip a b w) =
        rw (same.at seg, same.at other)
        (mapped_if link_by (is_pair p (pair_of a b) && not (is_decided placed seg a b || is_decided placed other a b))
        (record { number = k; seg = seg; other = other; flip = flip; weight = w }))
    link_same p k (Apart seg other a b w) = refl

    links_same : (p : Pair) (terms : List (ℕ × Term)) → open_links other_placed p (map numbered_by terms) ≡ map link_by (open_links placed p terms)
    links_same p [] = refl
    links_same p (t ∷ terms) =
        ap (λ x. x ++ open_links other_placed p (map numbered_by terms)) (link_same p t.0 t.1)
        ∙ ap (λ x. map link_by (open_link placed p t.0 t.1) ++ x) (links_same p terms)
        ∙ sym (map-append link_by (open_link placed p t.0 t.1) (open_links placed p terms))

    kept_all : (p : Pair) (terms : List (ℕ × Term)) → kept_links other_placed p (map numbered_by terms) ≡ map link_by (kept_links placed p terms)
    kept_all p terms =
        ap (kept (λ s. s)) (links_same p terms) ∙ kept_same (λ s. s) (λ s. s) r.segs_apart (open_links placed p terms)

    -- What is open costs the same.

    open_costs : (p : Pair) (s : SegId) (first : Bool) (t : Term) → open_cost other_placed p (seg_by s) first (term_by t) ≡ open_cost placed p s first t
    open_costs p s lesser_first (Side seg first second w) = rw (r.segs_apart seg.0 s.0, same.at seg) refl
    open_costs p s lesser_first (Link seg other flip a b w) = rw (r.segs_apart seg.0 s.0, r.segs_apart other.0 s.0, same.at seg, same.at other) refl
    open_costs p s lesser_first (Apart seg other a b w) = refl

    slots_same : (p : Pair) (terms : List (ℕ × Term)) (s : SegId) (first : Bool)
        → slot_cost other_placed (map numbered_by terms) p (seg_by s) first ≡ slot_cost placed terms p s first
    slots_same p terms s first =
        sum_mapped (λ (t : ℕ × Term). open_cost other_placed p (seg_by s) first t.1) numbered_by (λ (t : ℕ × Term). open_cost placed p s first t.1) terms
        (λ t. open_costs p s first t.1)

    pair_bounds : (part : List SegId) (terms : List (ℕ × Term)) (p : Pair)
        → pair_bound other_segs other_placed (map seg_by part) (map numbered_by terms) p ≡ pair_bound segs placed part terms p
    pair_bounds part terms p =
        let there : List SegId → List OpenLink → ℕ = λ slots links.
        least_over slots (λ s. true) (choice_cost slots (slot_cost other_placed (map numbered_by terms) p) links) in
        ap (λ slots. there slots (kept_links other_placed p (map numbered_by terms))) (opens_same part p)
        ∙ ap (there (map seg_by (open_segments segs placed part p))) (kept_all p terms)
        ∙ choices_same (slot_cost other_placed (map numbered_by terms) p) (slot_cost placed terms p) (slots_same p terms)
        (open_segments segs placed part p) (kept_links placed p terms)

    pub bound_same : (part : List SegId) (terms : List (ℕ × Term))
        → bound_of other_segs (map seg_by part) (map numbered_by terms) other_placed ≡ bound_of segs part terms placed
    bound_same part terms =
        let sum : List Pair → ℕ = sum_by (pair_bound other_segs other_placed (map seg_by part) (map numbered_by terms)) in
        ap (λ n. n + sum (pairs_of (map numbered_by terms))) (decided_sums terms)
        ∙ ap (λ ps. decided_sum segs placed terms + sum ps) (pairs_same [] terms)
        ∙ ap (λ n. decided_sum segs placed terms + n)
        (sum_same (pair_bound other_segs other_placed (map seg_by part) (map numbered_by terms)) (pair_bound segs placed part terms) (pairs_of terms) (pair_bounds part terms))

    -- The canonical prices are the same, behind other numbers.

    pairs_priced : (part : List SegId) (terms : List (ℕ × Term)) (p : Pair)
        → pair_prices other_segs other_placed (map seg_by part) (map numbered_by terms) p ≡ map priced_by (pair_prices segs placed part terms p)
    pairs_priced part terms p =
        let cost : SegId → Bool → ℕ = slot_cost other_placed (map numbered_by terms) p in
        let slots : List SegId = open_segments segs placed part p in
        let links : List OpenLink = kept_links placed p terms in
        ap (λ x. priced cost (children_of x (kept_links other_placed p (map numbered_by terms)))) (opens_same part p)
        ∙ ap (λ x. priced cost (children_of (map seg_by slots) x)) (kept_all p terms)
        ∙ ap (priced cost) (children_same slots links)
        ∙ priced_same cost (slot_cost placed terms p) (slots_same p terms) (children_of slots links)

    some_prices : (part : List SegId) (terms : List (ℕ × Term)) (some : List (ℕ × Term))
        → prices_on other_segs (map seg_by part) (map numbered_by terms) other_placed (map numbered_by some)
        ≡ prices_by r.number (prices_on segs part terms placed some)
    some_prices part terms [] = refl
    some_prices part terms (t ∷ some) =
        let p : Pair = pair_in t.1 in
        let rest : List (ℕ × ℤ) = prices_on other_segs (map seg_by part) (map numbered_by terms) other_placed (map numbered_by some) in
        let price : ℤ = price_among (pair_prices segs placed part terms p) t.0 in
        let here : List (ℕ × ℤ) = listed t.0 price in
        let at : List (OpenLink × ℤ) → List (ℕ × ℤ) = λ qs. listed (r.number t.0) (price_among qs (r.number t.0)) ++ rest in
        ap (λ p. at (pair_prices other_segs other_placed (map seg_by part) (map numbered_by terms) p)) (pair_same t.1)
        ∙ ap at (pairs_priced part terms p)
        ∙ ap (λ y. listed (r.number t.0) y ++ rest) (among_same (pair_prices segs placed part terms p) t.0)
        ∙ ap (λ x. x ++ rest) (listed_same t.0 price)
        ∙ ap (λ x. prices_by r.number here ++ x) (some_prices part terms some)
        ∙ sym (map-append (λ (q : ℕ × ℤ). (r.number q.0, q.1)) here (prices_on segs part terms placed some))

    pub prices_same : (part : List SegId) (terms : List (ℕ × Term))
        → prices_for other_segs (map seg_by part) (map numbered_by terms) other_placed ≡ prices_by r.number (prices_for segs part terms placed)
    prices_same part terms = some_prices part terms terms
