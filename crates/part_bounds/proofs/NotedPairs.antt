-- The prices of pairs, noted anew pair by pair, and listed by number.
use Rattle.std.proofs.Common.{◌≡◌, ◌≢◌, ℕ, zero, suc, ◌+◌, ◌<◌, ◌==◌, not, Bool, true, false, cond, ◌||◌, ◌&&◌, List, [], ◌∷◌, ◌++◌, length, map, filter, take, set, get_or, refl, sym, ap, subst, ◌∙◌, inl, inr, arith, eqb-true, eq-eqb, true≢false, append_assoc, get_or-set_other}
use Rattle.std.specs.Prelude.{ℤ, pos, negsuc}
use Rattle.std.specs.List.{All, AllByRecursion}
use Rattle.std.proofs.Math.Path.{fun_ext}
use Rattle.std.proofs.lemmas.Bool.{or_left, or_right, or_cases, and_parts}
use Rattle.std.proofs.lemmas.List.{append-nil, take_more, get_or-map, length-map, get_or_default}
use Rattle.std.proofs.lemmas.List.Elements.{All-head, All-tail, All-from_recursion}
use Rattle.map_base.specs.declared.ids.SegId.{SegId}
use Rattle.map_base.specs.declared.ids.LineId.{LineId}
use Rattle.order_values.specs.PriceLists.{AreRisingPrices}
use Rattle.order_model.specs.declared.term.Term.{Term}
use Rattle.order_model.specs.declared.term.Term.TheVariants.{Side, Link, Apart}
use Rattle.order_model.specs.PartTerms.{part_terms, part_numbers}
use Rattle.order_model.proofs.KeptTerms.{part_numbers_known}
use Rattle.order_model.specs.Looks.{is_decided}
use Rattle.order_bound.specs.declared.pairs.Pair.{Pair}
use Rattle.order_bound.specs.declared.pairs.OpenLink.{OpenLink}
use Rattle.order_bound.specs.Pairs.{is_pair, pair_of, pair_in, has_pair, pairs_of, open_segments, open_link, open_links, kept, kept_links}
use Rattle.order_bound.specs.Bounds.{slot_cost}
use Rattle.order_bound.specs.CanonicalPrices.{children_of, priced, pair_prices, price_among, listed, prices_on}
use Rattle.order_bound.proofs.Lists.{Among, each_append, each_among, is_false}
use Rattle.order_bound.proofs.Worth.{each_taken, each_priced}
use Rattle.order_bound.proofs.Completing.{same_pair, pair_itself}
use Rattle.order_bound.proofs.Parts.{part_numbered}
use Rattle.order_bound.proofs.Bounding.{AreNumbered, each_kept}
use Rattle.part_bounds.specs.declared.changes.Change.{Change}
use Rattle.part_bounds.specs.declared.pair_terms.PairTerms.{PairTerms}
use Rattle.part_bounds.specs.Changes.{is_new_pair, is_changed}
use Rattle.part_bounds.specs.PairGroups.{Group, KnowsOwn, terms_of_pair, group_of, groups_of, group_in, groups_in, no_group, IsGroup}
use Rattle.pair_bounds.specs.PriceNotes.{price_over, listed_all}
use Rattle.part_bounds.specs.Kept.{has_number, cleared, AreMarked, IsNoted, AreNoted}
use Rattle.part_bounds.proofs.OwnTerms.{own_cost, own_links, found_pair}
use Rattle.pair_bounds.proofs.Noted.{over_none}
use Rattle.pair_bounds.proofs.PairCosts.{all_among}
use Rattle.part_bounds.proofs.KeptUp.{group_here, group_at}
use Rattle.part_bounds.proofs.PairsKept.{unchanged}

-- The prices of a pair depend on its own terms alone.

own_prices : (segs placed : List (List LineId)) (part : List SegId) (p : Pair) (terms : List (ℕ × Term)) → pair_prices segs placed part (terms_of_pair p terms) p ≡ pair_prices segs placed part terms p
own_prices segs placed part p terms =
    let slots : List SegId = open_segments segs placed part p in
    ap (λ cost. priced cost (children_of slots (kept (λ s. s) (open_links placed p (terms_of_pair p terms))))) (fun_ext (λ s. fun_ext (λ x. own_cost placed p terms s x)))
    ∙ ap (λ links. priced (slot_cost placed terms p) (children_of slots (kept (λ s. s) links))) (own_links placed p terms)

-- A number is that of one term.

numbered_above : (k : ℕ) (terms : List (ℕ × Term)) (t : ℕ × Term) → AllByRecursion (λ (u : ℕ × Term). k < u.0) terms → Among t terms → k < t.0
numbered_above k [] t above h = absurd h
numbered_above k (u ∷ terms) t above (inl e) = let below = above.0 in omega (arith, below, ap (λ (v : ℕ × Term). v.0) e)
numbered_above k (u ∷ terms) t above (inr h) = numbered_above k terms t above.1 h

one_term : (terms : List (ℕ × Term)) (t u : ℕ × Term) → AreNumbered terms → Among t terms → Among u terms → t.0 ≡ u.0 → t ≡ u
one_term [] t u numbered h k e = absurd h
one_term (v ∷ terms) t u numbered (inl h) (inl k) e = h ∙ sym k
one_term (v ∷ terms) t u numbered (inl h) (inr k) e =
    let above = numbered_above v.0 terms u numbered.0 k in absurd (omega (arith, above, e, ap (λ (w : ℕ × Term). w.0) h))
one_term (v ∷ terms) t u numbered (inr h) (inl k) e =
    let above = numbered_above v.0 terms t numbered.0 h in absurd (omega (arith, above, e, ap (λ (w : ℕ × Term). w.0) k))
one_term (v ∷ terms) t u numbered (inr h) (inr k) e = one_term terms t u numbered.1 h k e

abbrev HasOther : ℕ → OpenLink → Type 0
HasOther k l = (l.number == k) ≡ false

link_other : (placed : List (List LineId)) (p : Pair) (j k : ℕ) (t : Term) → (is_pair p (pair_in t) ≡ true → (j == k) ≡ false) → AllByRecursion (HasOther k) (open_link placed p j t)
link_other placed p j k (Side seg first second w) h = tt
link_other placed p j k (Apart seg other a b w) h = tt
link_other placed p j k (Link seg other flip a b w) h = by_test (is_pair p (pair_of a b) && not (is_decided placed seg a b || is_decided placed other a b)) refl
  where
    by_test : (c : Bool) → (is_pair p (pair_of a b) && not (is_decided placed seg a b || is_decided placed other a b)) ≡ c
        → AllByRecursion (HasOther k) (cond c (record { number = j; seg = seg; other = other; flip = flip; weight = w } ∷ []) [])
    by_test true e = (h (and_parts (is_pair p (pair_of a b)) (not (is_decided placed seg a b || is_decided placed other a b)) e).0, tt)
    by_test false e = tt

links_other : (placed : List (List LineId)) (p : Pair) (k : ℕ) (terms : List (ℕ × Term)) → ((u : ℕ × Term) → Among u terms → is_pair p (pair_in u.1) ≡ true → (u.0 == k) ≡ false)
    → AllByRecursion (HasOther k) (open_links placed p terms)
links_other placed p k [] h = tt
links_other placed p k (t ∷ terms) h =
    each_append (HasOther k) (open_link placed p t.0 t.1) (open_links placed p terms) (link_other placed p t.0 k t.1 (h t (inl refl))) (links_other placed p k terms (λ u m. h u (inr m)))

over_other : (priced : List (OpenLink × ℤ)) (y : ℤ) (k : ℕ) → AllByRecursion (λ (q : OpenLink × ℤ). HasOther k q.0) priced → price_over priced y k ≡ y
over_other [] y k h = refl
over_other (q ∷ priced) y k h = let here = h.0 in rw here (over_other priced y k h.1)

-- the prices of another pair are on none of a term's number
prices_other : (segs placed : List (List LineId)) (part : List SegId) (terms : List (ℕ × Term)) (p : Pair) (t : ℕ × Term) → AreNumbered terms → Among t terms → is_pair (pair_in t.1) p ≡ false
    → AllByRecursion (λ (q : OpenLink × ℤ). HasOther t.0 q.0) (pair_prices segs placed part terms p)
prices_other segs placed part terms p t numbered h other =
    let slots : List SegId = open_segments segs placed part p in
    let links : List OpenLink = kept_links placed p terms in
    each_priced (HasOther t.0) (slot_cost placed terms p) (children_of slots links)
    (each_taken (HasOther t.0) (length slots + length links) slots links (each_kept (HasOther t.0) (λ s. s) (open_links placed p terms)
    (links_other placed p t.0 terms (λ u m mine. is_false (u.0 == t.0) (λ e.
    let same : u ≡ t = one_term terms u t numbered m h (eqb-true u.0 t.0 e) in
    let mine2 : p ≡ pair_in t.1 = same_pair p (pair_in u.1) mine ∙ ap (λ (v : ℕ × Term). pair_in v.1) same in
    true≢false (sym (pair_itself (pair_in t.1)) ∙ (ap (is_pair (pair_in t.1)) (sym mine2) ∙ other)))))))

-- One pair is noted anew.

-- of a filtered list
pub among_filtered : {A : Type 0} (p : A → Bool) (xs : List A) (x : A) → Among x (filter p xs) → Among x xs × (p x ≡ true)
among_filtered p [] x h = absurd h
among_filtered p (y ∷ xs) x h = by_test (p y) refl h (among_filtered p xs x)
  where
    by_test : (b : Bool) → p y ≡ b → Among x (cond b (y ∷ filter p xs) (filter p xs)) → (Among x (filter p xs) → Among x xs × (p x ≡ true)) → Among x (y ∷ xs) × (p x ≡ true)
    by_test true e (inl is) rest = (inl is, ap p is ∙ e)
    by_test true e (inr later) rest = let parts = rest later in (inr parts.0, parts.1)
    by_test false e later rest = let parts = rest later in (inr parts.0, parts.1)

pub in_filtered : {A : Type 0} (p : A → Bool) (xs : List A) (x : A) → Among x xs → p x ≡ true → Among x (filter p xs)
in_filtered p [] x h e = absurd h
in_filtered p (y ∷ xs) x h e = by_test (p y) refl h (λ k. in_filtered p xs x k e)
  where
    by_test : (b : Bool) → p y ≡ b → Among x (y ∷ xs) → (Among x xs → Among x (filter p xs)) → Among x (cond b (y ∷ filter p xs) (filter p xs))
    by_test true g (inl is) rest = inl is
    by_test true g (inr later) rest = inr (rest later)
    by_test false g (inl is) rest = absurd (true≢false (sym e ∙ (ap p is ∙ g)))
    by_test false g (inr later) rest = rest later

numbered_in : (terms : List (ℕ × Term)) (t : ℕ × Term) → Among t terms → has_number terms t.0 ≡ true
numbered_in [] t h = absurd h
numbered_in (u ∷ terms) t (inl e) = or_left (u.0 == t.0) (has_number terms t.0) (eq-eqb u.0 t.0 (ap (λ (v : ℕ × Term). v.0) (sym e)))
numbered_in (u ∷ terms) t (inr h) = or_right (u.0 == t.0) (has_number terms t.0) (numbered_in terms t h)

-- a term of this number is none of these, if each of them has another
numbered_out : (terms : List (ℕ × Term)) (k : ℕ) → ((u : ℕ × Term) → Among u terms → (u.0 == k) ≡ false) → has_number terms k ≡ false
numbered_out [] k h = refl
numbered_out (u ∷ terms) k h = let here = h u (inl refl) in rw here (numbered_out terms k (λ v m. h v (inr m)))

-- a group is that of its pair
pub group_is : (terms : List (ℕ × Term)) (groups : List Group) (k : ℕ) → groups ≡ groups_of terms → k < length groups
    → (get_or groups k no_group).1 ≡ terms_of_pair (get_or groups k no_group).0 terms
group_is terms groups k grouped below =
    let within : k < length (pairs_of terms) = omega (arith, below, ap length grouped, length-map (pairs_of terms) (group_of terms)) in
    let at : get_or groups k no_group ≡ group_of terms (get_or (pairs_of terms) k no_group.0) =
    ap (λ gs. get_or gs k no_group) grouped ∙ get_or-map (group_of terms) (pairs_of terms) k no_group.0 no_group within in
    ap (λ (g : Group). g.1) at ∙ ap (λ p. terms_of_pair p terms) (sym (ap (λ (g : Group). g.0) at))

-- the prices of a pair that is noted anew are its own, and those of others stay
noted_anew : (segs placed : List (List LineId)) (part : List SegId) (terms : List (ℕ × Term)) (p q : Pair) (t : ℕ × Term) (old between new : ℤ) → AreNumbered terms
    → Among t (terms_of_pair p terms) → between ≡ cond (has_number (terms_of_pair q terms) t.0) (pos 0) old → new ≡ price_over (pair_prices segs placed part (terms_of_pair q terms) q) between t.0
    → (is_pair p q ≡ false → old ≡ price_among (pair_prices segs placed part (terms_of_pair p terms) p) t.0) → new ≡ price_among (pair_prices segs placed part (terms_of_pair p terms) p) t.0
noted_anew segs placed part terms p q t old between new numbered h e1 e2 kept = by_test (is_pair p q) refl
  where
    by_test : (b : Bool) → is_pair p q ≡ b → new ≡ price_among (pair_prices segs placed part (terms_of_pair p terms) p) t.0
    by_test true e =
        let same : p ≡ q = same_pair p q e in
        let mine : has_number (terms_of_pair q terms) t.0 ≡ true = ap (λ r. has_number (terms_of_pair r terms) t.0) (sym same) ∙ numbered_in (terms_of_pair p terms) t h in
        let none : between ≡ pos 0 = e1 ∙ ap (λ b. cond b (pos 0) old) mine in
        e2 ∙ (ap (λ y. price_over (pair_prices segs placed part (terms_of_pair q terms) q) y t.0) none ∙ (over_none (pair_prices segs placed part (terms_of_pair q terms) q) t.0
        ∙ ap (λ r. price_among (pair_prices segs placed part (terms_of_pair r terms) r) t.0) (sym same)))
    by_test false e =
        let parts = among_filtered (λ (u : ℕ × Term). is_pair p (pair_in u.1)) terms t h in
        let own : p ≡ pair_in t.1 = same_pair p (pair_in t.1) parts.1 in
        let other : is_pair (pair_in t.1) q ≡ false = ap (λ r. is_pair r q) (sym own) ∙ e in
        let out : has_number (terms_of_pair q terms) t.0 ≡ false = numbered_out (terms_of_pair q terms) t.0 (λ u m. is_false (u.0 == t.0) (λ same.
        let of = among_filtered (λ (v : ℕ × Term). is_pair q (pair_in v.1)) terms u m in
        let is : u ≡ t = one_term terms u t numbered of.0 parts.0 (eqb-true u.0 t.0 same) in
        let pair : q ≡ pair_in t.1 = same_pair q (pair_in u.1) of.1 ∙ ap (λ (v : ℕ × Term). pair_in v.1) is in
        true≢false (sym (pair_itself (pair_in t.1)) ∙ (ap (is_pair (pair_in t.1)) (sym pair) ∙ other)))) in
        e2 ∙ (ap (λ l. price_over l between t.0) (own_prices segs placed part q terms)
        ∙ (over_other (pair_prices segs placed part terms q) between t.0 (prices_other segs placed part terms q t numbered parts.0 other)
        ∙ (e1 ∙ (ap (λ b. cond b (pos 0) old) out ∙ kept e))))

below_numbers : (m : ℕ) (terms : List (ℕ × Term)) → All (λ n. n < m) (map (λ (t : ℕ × Term). t.0) terms) → (t : ℕ × Term) → Among t terms → t.0 < m
below_numbers m [] all t h = absurd h
below_numbers m (u ∷ terms) all t (inl e) =
    let first : u.0 < m = All-head (λ n. n < m) u.0 (map (λ (t : ℕ × Term). t.0) terms) all in omega (arith, first, ap (λ (v : ℕ × Term). v.0) e)
below_numbers m (u ∷ terms) all t (inr h) = below_numbers m terms (All-tail (λ n. n < m) u.0 (map (λ (t : ℕ × Term). t.0) terms) all) t h

-- the pair at a place is noted anew
pub renewed : (segs placed : List (List LineId)) (part : List SegId) (problem_terms : List Term) (groups : List Group) (i : ℕ) (g : Group) (m : ℕ) (old between new : ℕ → ℤ) (stale after : List Bool)
    → groups ≡ groups_of (part_terms problem_terms part) → i < length groups → get_or groups i no_group ≡ g → m ≡ length problem_terms
    → ((k : ℕ) → k < m → between k ≡ cleared g.1 old k) → ((k : ℕ) → k < m → new k ≡ price_over (pair_prices segs placed part g.1 g.0) (between k) k)
    → length stale ≡ length groups → after ≡ set stale i false → AreNoted segs placed part old groups stale → AreNoted segs placed part new groups after
renewed segs placed part problem_terms groups i g m old between new stale after grouped below at enough e1 e2 each e3 noted k kb fresh =
    All-from_recursion (λ (t : ℕ × Term). new t.0 ≡ price_among (pair_prices segs placed part h.1 h.0) t.0) h.1
    (each_among (λ (t : ℕ × Term). new t.0 ≡ price_among (pair_prices segs placed part h.1 h.0) t.0) h.1 one)
  where
    terms : List (ℕ × Term)
    terms = part_terms problem_terms part

    h : Group
    h = get_or groups k no_group

    own_h : h.1 ≡ terms_of_pair h.0 terms
    own_h = group_is terms groups k grouped kb

    own_g : g.1 ≡ terms_of_pair g.0 terms
    own_g = subst (λ (x : Group). x.1 ≡ terms_of_pair x.0 terms) at (group_is terms groups i grouped below)

    known : All (λ n. n < m) (map (λ (t : ℕ × Term). t.0) terms)
    known = subst (λ n. All (λ j. j < n) (part_numbers problem_terms part)) (sym enough) (part_numbers_known part problem_terms)

    still : is_pair h.0 g.0 ≡ false → get_or stale k true ≡ false
    still other =
        let ne : k ≢ i = λ e. true≢false (sym (pair_itself g.0) ∙ (ap (λ (x : Group). is_pair x.0 g.0) (sym at ∙ ap (λ j. get_or groups j no_group) (sym e)) ∙ other)) in
        sym (get_or-set_other stale i k false true ne) ∙ (ap (λ l. get_or l k true) (sym e3) ∙ fresh)

    one : (t : ℕ × Term) → Among t h.1 → new t.0 ≡ price_among (pair_prices segs placed part h.1 h.0) t.0
    one t m1 =
        let mine : Among t (terms_of_pair h.0 terms) = subst (Among t) own_h m1 in
        let within : t.0 < m = below_numbers m terms known t (among_filtered (λ (u : ℕ × Term). is_pair h.0 (pair_in u.1)) terms t mine).0 in
        noted_anew segs placed part terms h.0 g.0 t (old t.0) (between t.0) (new t.0) (part_numbered problem_terms part) mine
        (e1 t.0 within ∙ ap (λ l. cond (has_number l t.0) (pos 0) (old t.0)) own_g)
        (e2 t.0 within ∙ ap (λ l. price_over (pair_prices segs placed part l g.0) (between t.0) t.0) own_g)
        (λ other. all_among (λ (u : ℕ × Term). old u.0 ≡ price_among (pair_prices segs placed part h.1 h.0) u.0) h.1 (noted k kb (still other)) t m1
        ∙ ap (λ l. price_among (pair_prices segs placed part l h.0) t.0) own_h)
        ∙ ap (λ l. price_among (pair_prices segs placed part l h.0) t.0) (sym own_h)

-- a fact of each of some pairs
each_of_pairs : (P : Pair → Type 0) (pairs : List Pair) (q d : Pair) → has_pair pairs q ≡ true → ((k : ℕ) → k < length pairs → P (get_or pairs k d)) → P q
each_of_pairs P [] q d h all = absurd (true≢false (sym h))
each_of_pairs P (p ∷ pairs) q d h all = elim (or_cases (is_pair q p) (has_pair pairs q) h) [
  | inl e ↦ subst P (sym (same_pair q p e)) (all 0 (omega arith))
  | inr later ↦ each_of_pairs P pairs q d later (λ k b. all (suc k) (omega (arith, b)))
]

-- once no pair is stale, each term has its price
pub whole_noted : (segs placed : List (List LineId)) (part : List SegId) (terms : List (ℕ × Term)) (price : ℕ → ℤ) (groups : List Group) (stale : List Bool) → groups ≡ groups_of terms
    → ((k : ℕ) → k < length groups → get_or stale k true ≡ false) → AreNoted segs placed part price groups stale
    → All (λ (t : ℕ × Term). price t.0 ≡ price_among (pair_prices segs placed part terms (pair_in t.1)) t.0) terms
whole_noted segs placed part terms price groups stale grouped fresh noted =
    All-from_recursion (λ (t : ℕ × Term). price t.0 ≡ price_among (pair_prices segs placed part terms (pair_in t.1)) t.0) terms
    (each_among (λ (t : ℕ × Term). price t.0 ≡ price_among (pair_prices segs placed part terms (pair_in t.1)) t.0) terms one)
  where
    at : (k : ℕ) → k < length (pairs_of terms) → IsNoted segs placed part price (group_of terms (get_or (pairs_of terms) k no_group.0))
    at k b =
        let within : k < length groups = omega (arith, b, ap length grouped, length-map (pairs_of terms) (group_of terms)) in
        subst (IsNoted segs placed part price) (ap (λ gs. get_or gs k no_group) grouped ∙ get_or-map (group_of terms) (pairs_of terms) k no_group.0 no_group b) (noted k within (fresh k within))

    one : (t : ℕ × Term) → Among t terms → price t.0 ≡ price_among (pair_prices segs placed part terms (pair_in t.1)) t.0
    one t h =
        let q : Pair = pair_in t.1 in
        let its : IsNoted segs placed part price (group_of terms q) = each_of_pairs (λ p. IsNoted segs placed part price (group_of terms p)) (pairs_of terms) q no_group.0 (found_pair [] terms t h) at in
        all_among (λ (u : ℕ × Term). price u.0 ≡ price_among (pair_prices segs placed part (terms_of_pair q terms) q) u.0) (terms_of_pair q terms) its t
        (in_filtered (λ (u : ℕ × Term). is_pair q (pair_in u.1)) terms t h (pair_itself q))
        ∙ ap (λ l. price_among l t.0) (own_prices segs placed part q terms)

-- Another prefix.

-- what holds of pairs that are not stale still holds of those that a placing leaves, where it doesn't change it
pub left_fresh : (P Q : ℕ → Group → Type 0) (segs : List (List LineId)) (part : List SegId) (c : Change) (pairs : List PairTerms) (count : ℕ) (stale after : List Bool) → All (KnowsOwn part) pairs → All (IsGroup segs part) (groups_in pairs)
    → count ≡ length pairs → AreMarked c pairs count stale after → ((k : ℕ) (g : Group) → IsGroup segs part g → is_changed c g ≡ false → P k g → Q k g)
    → ((k : ℕ) → k < length (groups_in pairs) → get_or stale k true ≡ false → P k (get_or (groups_in pairs) k no_group))
    → (k : ℕ) → k < length (groups_in pairs) → get_or after k true ≡ false → Q k (get_or (groups_in pairs) k no_group)
left_fresh P Q segs part c [] count stale after own fit counted marked same all k below fresh = absurd (omega (arith, below))
left_fresh P Q segs part c (p ∷ rest) count stale after own fit counted marked same all k below fresh =
    let pairs : List PairTerms = p ∷ rest in
    let within : k < length pairs = omega (arith, below, length-map pairs group_in) in
    let e : PairTerms = get_or pairs k p in
    let here : e ≡ get_or pairs k e = get_or_default pairs k p e within in
    let is : get_or (groups_in pairs) k no_group ≡ group_in e = group_here pairs k e within here in
    let fits : IsGroup segs part (group_in e) = group_at (IsGroup segs part) pairs k e fit within here in
    let known : KnowsOwn part e = subst (KnowsOwn part) (sym here) (own k e within) in
    let none : is_changed c (group_in e) ≡ false =
    unchanged part e.terms.items e.segs.items c.seg (is_new_pair c e.pair) known fits.inside (marked.marked k e (omega (arith, within, counted)) within here fresh) in
    subst (Q k) (sym is) (same k (group_in e) fits none (subst (P k) is (all k below (marked.still k fresh))))

-- The list.

listed_push : (price : ℕ → ℤ) (numbers : List ℕ) (n : ℕ) → listed_all price (numbers ++ n ∷ []) ≡ listed_all price numbers ++ listed n (price n)
listed_push price [] n = append-nil (listed n (price n))
listed_push price (m ∷ numbers) n = ap (λ l. listed m (price m) ++ l) (listed_push price numbers n) ∙ sym (append_assoc (listed m (price m)) (listed_all price numbers) (listed n (price n)))

pub listed_more : (price : ℕ → ℤ) (numbers : List ℕ) (i n : ℕ) (list after : List (ℕ × ℤ)) (y : ℤ) → i < length numbers → n ≡ get_or numbers i 0 → y ≡ price n
    → list ≡ listed_all price (take i numbers) → after ≡ list ++ listed n y → after ≡ listed_all price (take (i + 1) numbers)
listed_more price numbers i n list after y below here is e1 e2 =
    e2 ∙ (ap (λ l. l ++ listed n y) e1 ∙ (ap (λ z. listed_all price (take i numbers) ++ listed n z) is ∙ (sym (listed_push price (take i numbers) n)
    ∙ (ap (λ m. listed_all price (take i numbers ++ m ∷ [])) here ∙ ap (listed_all price) (sym (take_more numbers i 0 below))))))

pub listed_is : (segs placed : List (List LineId)) (part : List SegId) (all some : List (ℕ × Term)) (price : ℕ → ℤ)
    → ((t : ℕ × Term) → Among t some → price t.0 ≡ price_among (pair_prices segs placed part all (pair_in t.1)) t.0)
    → listed_all price (map (λ (t : ℕ × Term). t.0) some) ≡ prices_on segs part all placed some
listed_is segs placed part all [] price h = refl
listed_is segs placed part all (t ∷ some) price h =
    ap (λ y. listed t.0 y ++ listed_all price (map (λ (t : ℕ × Term). t.0) some)) (h t (inl refl))
    ∙ ap (λ l. listed t.0 (price_among (pair_prices segs placed part all (pair_in t.1)) t.0) ++ l) (listed_is segs placed part all some price (λ u m. h u (inr m)))

pub list_is : (segs placed : List (List LineId)) (part : List SegId) (problem_terms : List Term) (numbers : List ℕ) (price : ℕ → ℤ) (list : List (ℕ × ℤ)) → numbers ≡ part_numbers problem_terms part
    → All (λ (t : ℕ × Term). price t.0 ≡ price_among (pair_prices segs placed part (part_terms problem_terms part) (pair_in t.1)) t.0) (part_terms problem_terms part)
    → list ≡ listed_all price numbers → list ≡ prices_on segs part (part_terms problem_terms part) placed (part_terms problem_terms part)
list_is segs placed part problem_terms numbers price list e1 all e2 =
    e2 ∙ (ap (listed_all price) e1 ∙ listed_is segs placed part (part_terms problem_terms part) (part_terms problem_terms part) price
    (all_among (λ (t : ℕ × Term). price t.0 ≡ price_among (pair_prices segs placed part (part_terms problem_terms part) (pair_in t.1)) t.0) (part_terms problem_terms part) all))

abbrev pub AreAbove : ℕ → List (ℕ × ℤ) → Type 0
AreAbove k prices = AllByRecursion (λ (p : ℕ × ℤ). k < p.0) prices

rising_more : (k : ℕ) (y : ℤ) (prices : List (ℕ × ℤ)) → AreAbove k prices → AreRisingPrices prices → AreRisingPrices ((k, y) ∷ prices)
rising_more k y [] above rises = tt
rising_more k y (p ∷ prices) above rises = (above.0, rises)

pub listed_rising : (k : ℕ) (y : ℤ) (rest : List (ℕ × ℤ)) → AreAbove k rest → AreRisingPrices rest → AreRisingPrices (listed k y ++ rest)
listed_rising k (pos zero) rest above rises = rises
listed_rising k (pos (suc n)) rest above rises = rising_more k (pos (suc n)) rest above rises
listed_rising k (negsuc n) rest above rises = rising_more k (negsuc n) rest above rises

pub listed_above : (m k : ℕ) (y : ℤ) (rest : List (ℕ × ℤ)) → m < k → AreAbove m rest → AreAbove m (listed k y ++ rest)
listed_above m k (pos zero) rest below above = above
listed_above m k (pos (suc n)) rest below above = (below, above)
listed_above m k (negsuc n) rest below above = (below, above)

prices_above : (segs placed : List (List LineId)) (part : List SegId) (all some : List (ℕ × Term)) (k : ℕ) → AllByRecursion (λ (u : ℕ × Term). k < u.0) some → AreAbove k (prices_on segs part all placed some)
prices_above segs placed part all [] k above = tt
prices_above segs placed part all (t ∷ some) k above =
    listed_above k t.0 (price_among (pair_prices segs placed part all (pair_in t.1)) t.0) (prices_on segs part all placed some) above.0 (prices_above segs placed part all some k above.1)

-- prices stand by rising number
pub prices_rising : (segs placed : List (List LineId)) (part : List SegId) (all some : List (ℕ × Term)) → AreNumbered some → AreRisingPrices (prices_on segs part all placed some)
prices_rising segs placed part all [] numbered = tt
prices_rising segs placed part all (t ∷ some) numbered =
    listed_rising t.0 (price_among (pair_prices segs placed part all (pair_in t.1)) t.0) (prices_on segs part all placed some)
    (prices_above segs placed part all some t.0 numbered.0) (prices_rising segs placed part all some numbered.1)
