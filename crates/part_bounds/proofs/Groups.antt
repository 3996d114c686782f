-- Terms are grouped by pair, one after the other.
use Rattle.std.proofs.Common.{◌≡◌, ℕ, zero, suc, ◌<◌, not, Bool, true, false, cond, ◌||◌, List, [], ◌∷◌, ◌++◌, length, map, get_or, refl, sym, ap, subst, ◌∙◌, arith, true≢false}
use Rattle.std.specs.List.{All}
use Rattle.std.proofs.Math.ListN.{set}
use Rattle.std.proofs.lemmas.Bool.{or_left, or_right, or_parts}
use Rattle.std.specs.Prelude.{slice_get, Some}
use Rattle.std.proofs.lemmas.List.{append-nil, map-set, get_or-map, map_push}
use Rattle.std.proofs.lemmas.Option.{get_or_from_slice_get}
use Rattle.std.proofs.Math.Seq.{map-set_same}
use Rattle.std.proofs.lemmas.List.Elements.{All-nil, All-cons}
use Rattle.order_model.specs.declared.term.Term.{Term}
use Rattle.order_bound.specs.declared.pairs.Pair.{Pair}
use Rattle.order_bound.specs.Pairs.{is_pair, pair_in, has_pair, pairs_after, pairs_of}
use Rattle.order_bound.proofs.Completing.{AreApartPairs, same_pair, pair_itself, pairs_apart}
use Rattle.part_bounds.specs.PairGroups.{Group, terms_of_pair, group_of, groups_of, group_in, groups_in, pair_on, no_group, with_pair, with_term_at}
use Rattle.part_bounds.specs.declared.pair_terms.PairTerms.{PairTerms}

-- One term more.

swapped : (a b c : Bool) → (a || (b || c)) ≡ ((b || a) || c)
swapped true true c = refl
swapped true false c = refl
swapped false true c = refl
swapped false false c = refl

pairs_push_after : (known : List Pair) (terms : List (ℕ × Term)) (t : ℕ × Term)
    → pairs_after known (terms ++ t ∷ []) ≡ pairs_after known terms ++ cond (has_pair known (pair_in t.1) || has_pair (pairs_after known terms) (pair_in t.1)) [] (pair_in t.1 ∷ [])
pairs_push_after known [] t = by_test (has_pair known (pair_in t.1))
  where
    by_test : (b : Bool) → cond b [] (pair_in t.1 ∷ []) ≡ cond (b || false) [] (pair_in t.1 ∷ [])
    by_test true = refl
    by_test false = refl
pairs_push_after known (u ∷ terms) t = by_test (has_pair known (pair_in u.1)) (pairs_push_after known terms t) (pairs_push_after (pair_in u.1 ∷ known) terms t)
  where
    q : Pair
    q = pair_in t.1

    p : Pair
    p = pair_in u.1

    by_test : (b : Bool) → pairs_after known (terms ++ t ∷ []) ≡ pairs_after known terms ++ cond (has_pair known (pair_in t.1) || has_pair (pairs_after known terms) (pair_in t.1)) [] (pair_in t.1 ∷ [])
        → pairs_after (pair_in u.1 ∷ known) (terms ++ t ∷ [])
        ≡ pairs_after (pair_in u.1 ∷ known) terms ++ cond (has_pair (pair_in u.1 ∷ known) (pair_in t.1) || has_pair (pairs_after (pair_in u.1 ∷ known) terms) (pair_in t.1)) [] (pair_in t.1 ∷ [])
        → cond b (pairs_after known (terms ++ t ∷ [])) (pair_in u.1 ∷ pairs_after (pair_in u.1 ∷ known) (terms ++ t ∷ []))
        ≡ cond b (pairs_after known terms) (pair_in u.1 ∷ pairs_after (pair_in u.1 ∷ known) terms)
        ++ cond (has_pair known (pair_in t.1) || has_pair (cond b (pairs_after known terms) (pair_in u.1 ∷ pairs_after (pair_in u.1 ∷ known) terms)) (pair_in t.1)) [] (pair_in t.1 ∷ [])
    by_test true same more = same
    by_test false same more =
        ap (λ l. pair_in u.1 ∷ l) (more ∙ ap (λ b. pairs_after (pair_in u.1 ∷ known) terms ++ cond b [] (pair_in t.1 ∷ []))
        (sym (swapped (has_pair known (pair_in t.1)) (is_pair (pair_in t.1) (pair_in u.1)) (has_pair (pairs_after (pair_in u.1 ∷ known) terms) (pair_in t.1)))))

pairs_push : (terms : List (ℕ × Term)) (t : ℕ × Term) → pairs_of (terms ++ t ∷ []) ≡ cond (has_pair (pairs_of terms) (pair_in t.1)) (pairs_of terms) (pairs_of terms ++ pair_in t.1 ∷ [])
pairs_push terms t = pairs_push_after [] terms t ∙ by_test (has_pair (pairs_of terms) (pair_in t.1))
  where
    by_test : (b : Bool) → pairs_of terms ++ cond b [] (pair_in t.1 ∷ []) ≡ cond b (pairs_of terms) (pairs_of terms ++ pair_in t.1 ∷ [])
    by_test true = append-nil (pairs_of terms)
    by_test false = refl

terms_push : (p : Pair) (terms : List (ℕ × Term)) (t : ℕ × Term) → terms_of_pair p (terms ++ t ∷ []) ≡ terms_of_pair p terms ++ cond (is_pair p (pair_in t.1)) (t ∷ []) []
terms_push p [] t = by_test (is_pair p (pair_in t.1))
  where
    by_test : (b : Bool) → cond b (t ∷ []) [] ≡ [] ++ cond b (t ∷ []) []
    by_test b = refl
terms_push p (u ∷ terms) t = by_test (is_pair p (pair_in u.1)) (terms_push p terms t)
  where
    by_test : (b : Bool) → terms_of_pair p (terms ++ t ∷ []) ≡ terms_of_pair p terms ++ cond (is_pair p (pair_in t.1)) (t ∷ []) []
        → cond b (u ∷ terms_of_pair p (terms ++ t ∷ [])) (terms_of_pair p (terms ++ t ∷ [])) ≡ cond b (u ∷ terms_of_pair p terms) (terms_of_pair p terms) ++ cond (is_pair p (pair_in t.1)) (t ∷ []) []
    by_test true rest = ap (λ l. u ∷ l) rest
    by_test false rest = rest

-- a pair that none of the terms has has no terms
none_yet : (known : List Pair) (terms : List (ℕ × Term)) (q : Pair) → has_pair (pairs_after known terms) q ≡ false → has_pair known q ≡ false → terms_of_pair q terms ≡ []
none_yet known [] q h k = refl
none_yet known (u ∷ terms) q h k = by_test (has_pair known (pair_in u.1)) refl (is_pair q (pair_in u.1)) refl h (none_yet known terms q) (none_yet (pair_in u.1 ∷ known) terms q)
  where
    by_test : (b : Bool) → has_pair known (pair_in u.1) ≡ b → (c : Bool) → is_pair q (pair_in u.1) ≡ c → has_pair (cond b (pairs_after known terms) (pair_in u.1 ∷ pairs_after (pair_in u.1 ∷ known) terms)) q ≡ false
        → (has_pair (pairs_after known terms) q ≡ false → has_pair known q ≡ false → terms_of_pair q terms ≡ [])
        → (has_pair (pairs_after (pair_in u.1 ∷ known) terms) q ≡ false → has_pair (pair_in u.1 ∷ known) q ≡ false → terms_of_pair q terms ≡ [])
        → cond c (u ∷ terms_of_pair q terms) (terms_of_pair q terms) ≡ []
    by_test true e true d h same more = absurd (true≢false (sym e ∙ (ap (has_pair known) (sym (same_pair q (pair_in u.1) d)) ∙ k)))
    by_test true e false d h same more = same h k
    by_test false e true d h same more = absurd (true≢false (sym d ∙ (or_parts (is_pair q (pair_in u.1)) (has_pair (pairs_after (pair_in u.1 ∷ known) terms) q) h).0))
    by_test false e false d h same more =
        let later = (or_parts (is_pair q (pair_in u.1)) (has_pair (pairs_after (pair_in u.1 ∷ known) terms) q) h).1 in
        more later (rw (d, k) refl)

-- The groups, one term more.

abbrev pairs_on : List Group → List Pair
pairs_on groups = map (λ (g : Group). g.0) groups

abbrev with_terms : (Pair → List (ℕ × Term)) → Pair → Group
with_terms f p = (p, f p)

pub pairs_grouped : (f : Pair → List (ℕ × Term)) (pairs : List Pair) → pairs_on (map (with_terms f) pairs) ≡ pairs
pairs_grouped f [] = refl
pairs_grouped f (p ∷ pairs) = ap (λ l. p ∷ l) (pairs_grouped f pairs)

grouped_push : (f : Pair → List (ℕ × Term)) (pairs : List Pair) (q : Pair) → map (with_terms f) (pairs ++ q ∷ []) ≡ map (with_terms f) pairs ++ (q, f q) ∷ []
grouped_push f [] q = refl
grouped_push f (p ∷ pairs) q = ap (λ l. (p, f p) ∷ l) (grouped_push f pairs q)

-- with the pair of a term noted, the groups have all pairs
noted : (terms : List (ℕ × Term)) (t : ℕ × Term) → with_pair (pair_in t.1) (groups_of terms) ≡ map (group_of terms) (pairs_of (terms ++ t ∷ []))
noted terms t =
    ap (λ ps. cond (has_pair ps (pair_in t.1)) (groups_of terms) (groups_of terms ++ (pair_in t.1, []) ∷ [])) (pairs_grouped (λ p. terms_of_pair p terms) (pairs_of terms))
    ∙ (by_test (has_pair (pairs_of terms) (pair_in t.1)) refl ∙ ap (map (group_of terms)) (sym (pairs_push terms t)))
  where
    by_test : (b : Bool) → has_pair (pairs_of terms) (pair_in t.1) ≡ b → cond b (groups_of terms) (groups_of terms ++ (pair_in t.1, []) ∷ [])
        ≡ map (group_of terms) (cond b (pairs_of terms) (pairs_of terms ++ pair_in t.1 ∷ []))
    by_test true e = refl
    by_test false e = ap (λ ts. groups_of terms ++ (pair_in t.1, ts) ∷ []) (sym (none_yet [] terms (pair_in t.1) e refl)) ∙ sym (grouped_push (λ p. terms_of_pair p terms) (pairs_of terms) (pair_in t.1))

apart_none : (q : Pair) (pairs : List Pair) (terms : List (ℕ × Term)) (t : ℕ × Term) → pair_in t.1 ≡ q → has_pair pairs q ≡ false
    → map (group_of terms) pairs ≡ map (group_of (terms ++ t ∷ [])) pairs
apart_none q [] terms t e h = refl
apart_none q (p ∷ pairs) terms t e h =
    let parts = or_parts (is_pair q p) (has_pair pairs q) h in
    let here : is_pair p (pair_in t.1) ≡ false = by_test (is_pair p (pair_in t.1)) refl parts.0 in
    let own : terms_of_pair p terms ≡ terms_of_pair p (terms ++ t ∷ []) = sym (append-nil (terms_of_pair p terms)) ∙ (ap (λ b. terms_of_pair p terms ++ cond b (t ∷ []) []) (sym here) ∙ sym (terms_push p terms t)) in
    ap (λ ts. (p, ts) ∷ map (group_of terms) pairs) own ∙ ap (λ l. (p, terms_of_pair p (terms ++ t ∷ [])) ∷ l) (apart_none q pairs terms t e parts.1)
  where
    by_test : (b : Bool) → is_pair p (pair_in t.1) ≡ b → is_pair q p ≡ false → b ≡ false
    by_test true d h = absurd (true≢false (sym (pair_itself q) ∙ (ap (is_pair q) (sym (same_pair p (pair_in t.1) d ∙ e)) ∙ h)))
    by_test false d h = refl

-- a term is added to the group of its pair
added_at : (q : Pair) (pairs : List Pair) (k : ℕ) (terms : List (ℕ × Term)) (t : ℕ × Term) → pair_in t.1 ≡ q → AreApartPairs pairs → k < length pairs → get_or pairs k q ≡ q
    → with_term_at k t (map (group_of terms) pairs) ≡ map (group_of (terms ++ t ∷ [])) pairs
added_at q [] k terms t e apart below here = absurd (omega (arith, below))
added_at q (p ∷ pairs) zero terms t e apart below here =
    let mine : is_pair p (pair_in t.1) ≡ true = ap (λ r. is_pair r (pair_in t.1)) (here ∙ sym e) ∙ pair_itself (pair_in t.1) in
    let own : terms_of_pair p terms ++ t ∷ [] ≡ terms_of_pair p (terms ++ t ∷ []) = ap (λ b. terms_of_pair p terms ++ cond b (t ∷ []) []) (sym mine) ∙ sym (terms_push p terms t) in
    ap (λ ts. (p, ts) ∷ map (group_of terms) pairs) own
    ∙ ap (λ l. (p, terms_of_pair p (terms ++ t ∷ [])) ∷ l) (apart_none q pairs terms t e (subst (λ r. has_pair pairs r ≡ false) here apart.0))
added_at q (p ∷ pairs) (suc k) terms t e apart below here =
    let later : k < length pairs = omega (arith, below) in
    let other : is_pair p (pair_in t.1) ≡ false = by_test (is_pair p (pair_in t.1)) refl in
    let own : terms_of_pair p terms ≡ terms_of_pair p (terms ++ t ∷ []) = sym (append-nil (terms_of_pair p terms)) ∙ (ap (λ b. terms_of_pair p terms ++ cond b (t ∷ []) []) (sym other) ∙ sym (terms_push p terms t)) in
    ap (λ ts. (p, ts) ∷ with_term_at k t (map (group_of terms) pairs)) own ∙ ap (λ l. (p, terms_of_pair p (terms ++ t ∷ [])) ∷ l) (added_at q pairs k terms t e apart.1 later here)
  where
    found : (pairs : List Pair) (k : ℕ) → k < length pairs → get_or pairs k q ≡ q → has_pair pairs q ≡ true
    found [] k below here = absurd (omega (arith, below))
    found (r ∷ pairs) zero below here = or_left (is_pair q r) (has_pair pairs q) (ap (is_pair q) here ∙ pair_itself q)
    found (r ∷ pairs) (suc k) below here = or_right (is_pair q r) (has_pair pairs q) (found pairs k (omega (arith, below)) here)

    by_test : (b : Bool) → is_pair p (pair_in t.1) ≡ b → b ≡ false
    by_test true d = absurd (true≢false (sym (found pairs k (omega (arith, below)) here) ∙ (ap (has_pair pairs) (sym (same_pair p (pair_in t.1) d ∙ e)) ∙ apart.0)))
    by_test false d = refl

-- the groups after one term more
pub one_more : (terms : List (ℕ × Term)) (t : ℕ × Term) (old noted_groups new : List Group) (k : ℕ) → old ≡ groups_of terms → noted_groups ≡ with_pair (pair_in t.1) old → new ≡ with_term_at k t noted_groups
    → k < length noted_groups → get_or (pairs_on noted_groups) k (pair_in t.1) ≡ pair_in t.1 → new ≡ groups_of (terms ++ t ∷ [])
one_more terms t old noted_groups new k e1 e2 e3 below here =
    let is : noted_groups ≡ map (group_of terms) (pairs_of (terms ++ t ∷ [])) = e2 ∙ (ap (with_pair (pair_in t.1)) e1 ∙ noted terms t) in
    let pairs : pairs_on noted_groups ≡ pairs_of (terms ++ t ∷ []) = ap pairs_on is ∙ pairs_grouped (λ p. terms_of_pair p terms) (pairs_of (terms ++ t ∷ [])) in
    let within : k < length (pairs_of (terms ++ t ∷ [])) = subst (λ n. k < n) (sym (count noted_groups) ∙ ap length pairs) below in
    e3 ∙ (ap (with_term_at k t) is
    ∙ added_at (pair_in t.1) (pairs_of (terms ++ t ∷ [])) k terms t refl (pairs_apart (terms ++ t ∷ [])) within (ap (λ ps. get_or ps k (pair_in t.1)) (sym pairs) ∙ here))
  where
    count : (groups : List Group) → length (pairs_on groups) ≡ length groups
    count [] = refl
    count (g ∷ groups) = ap suc (count groups)

-- The same in memory.

pub pairs_in : (groups : List PairTerms) → pairs_on (groups_in groups) ≡ map pair_on groups
pairs_in [] = refl
pairs_in (e ∷ groups) = ap (λ l. e.pair ∷ l) (pairs_in groups)

not_true : (a b : Bool) → a ≡ true → a ≡ not b → b ≡ false
not_true a true h e = absurd (true≢false (sym h ∙ e))
not_true a false h e = refl

not_false : (a b : Bool) → a ≡ false → a ≡ not b → b ≡ true
not_false a true h e = refl
not_false a false h e = absurd (true≢false (sym e ∙ h))

pub noted_new : (groups after : List PairTerms) (e : PairTerms) (keys : List Pair) (p : Pair) (is_new : Bool) → keys ≡ map pair_on groups → is_new ≡ not (has_pair keys p) → is_new ≡ true
    → after ≡ groups ++ e ∷ [] → e.pair ≡ p → e.terms.items ≡ [] → groups_in after ≡ with_pair p (groups_in groups)
noted_new groups after e keys p is_new k n h pushed mine none =
    let has : has_pair (pairs_on (groups_in groups)) p ≡ false = ap (λ ps. has_pair ps p) (pairs_in groups ∙ sym k) ∙ not_true is_new (has_pair keys p) h n in
    let Q : Pair → List (ℕ × Term) → Group = λ q ts. (q, ts) in
    ap groups_in pushed ∙ (map_push group_in groups e ∙ (ap (λ q. groups_in groups ++ Q q e.terms.items ∷ []) mine ∙ ap (λ ts. groups_in groups ++ Q p ts ∷ []) none)
    ∙ ap (λ b. cond b (groups_in groups) (groups_in groups ++ Q p [] ∷ [])) (sym has))

pub noted_old : (groups : List PairTerms) (keys : List Pair) (p : Pair) (is_new : Bool) → keys ≡ map pair_on groups → is_new ≡ not (has_pair keys p) → is_new ≡ false
    → groups_in groups ≡ with_pair p (groups_in groups)
noted_old groups keys p is_new k n h =
    let has : has_pair (pairs_on (groups_in groups)) p ≡ true = ap (λ ps. has_pair ps p) (pairs_in groups ∙ sym k) ∙ not_false is_new (has_pair keys p) h n in
    let Q : Pair → List (ℕ × Term) → Group = λ q ts. (q, ts) in
    ap (λ b. cond b (groups_in groups) (groups_in groups ++ Q p [] ∷ [])) (sym has)

pub keys_new : (groups after : List PairTerms) (e : PairTerms) (keys fresh : List Pair) (p : Pair) (is_new : Bool) → keys ≡ map pair_on groups → is_new ≡ not (has_pair keys p) → is_new ≡ true
    → fresh ≡ cond (has_pair keys p) keys (keys ++ p ∷ []) → after ≡ groups ++ e ∷ [] → e.pair ≡ p → fresh ≡ map pair_on after
keys_new groups after e keys fresh p is_new k n h grown pushed mine =
    grown ∙ (ap (λ b. cond b keys (keys ++ p ∷ [])) (not_true is_new (has_pair keys p) h n) ∙ (ap (λ ps. ps ++ p ∷ []) k ∙ (ap (λ q. map pair_on groups ++ q ∷ []) (sym mine)
    ∙ (sym (map_push pair_on groups e) ∙ ap (map pair_on) (sym pushed)))))

pub keys_old : (groups : List PairTerms) (keys fresh : List Pair) (p : Pair) (is_new : Bool) → keys ≡ map pair_on groups → is_new ≡ not (has_pair keys p) → is_new ≡ false
    → fresh ≡ cond (has_pair keys p) keys (keys ++ p ∷ []) → fresh ≡ map pair_on groups
keys_old groups keys fresh p is_new k n h grown = grown ∙ (ap (λ b. cond b keys (keys ++ p ∷ [])) (not_false is_new (has_pair keys p) h n) ∙ k)

pub stands_in : (groups : List PairTerms) (k : ℕ) (p q : Pair) → get_or (map pair_on groups) k p ≡ p → p ≡ q → get_or (pairs_on (groups_in groups)) k q ≡ q
stands_in groups k p q h e = subst (λ r. get_or (pairs_on (groups_in groups)) k r ≡ r) e (ap (λ l. get_or l k p) (pairs_in groups) ∙ h)

-- a pair stands where a set has it
pub stands : (keys pairs : List Pair) (k : ℕ) (p q : Pair) → keys ≡ pairs → slice_get keys k ≡ Some q → is_pair p q ≡ true → get_or pairs k p ≡ p
stands keys pairs k p q e at same = ap (λ l. get_or l k p) (sym e) ∙ (get_or_from_slice_get keys k q p at ∙ sym (same_pair p q same))

pub pushed_at : (groups : List PairTerms) (k : ℕ) (g e : PairTerms) (t : ℕ × Term) → k < length groups → g ≡ get_or groups k g → e.pair ≡ g.pair → e.terms.items ≡ g.terms.items ++ t ∷ []
    → groups_in (set groups k e) ≡ with_term_at k t (groups_in groups)
pushed_at groups k g e t below here mine more =
    let at : get_or (groups_in groups) k no_group ≡ group_in g = get_or-map group_in groups k g no_group below ∙ ap group_in (sym here) in
    let Q : Pair → List (ℕ × Term) → Group = λ q ts. (q, ts) in
    map-set group_in groups k e ∙ ap (set (groups_in groups) k)
    (ap (λ q. Q q e.terms.items) mine ∙ (ap (Q g.pair) more ∙ ap (λ (h : Group). Q h.0 (h.1 ++ t ∷ [])) (sym at)))

pub pushed_pairs : (groups : List PairTerms) (k : ℕ) (g e : PairTerms) → g ≡ get_or groups k g → e.pair ≡ g.pair → map pair_on (set groups k e) ≡ map pair_on groups
pushed_pairs groups k g e here mine = map-set_same pair_on groups k e g (mine ∙ ap pair_on here)

-- What each group is.

pub filter_mine : (p : Pair) (terms : List (ℕ × Term)) → All (λ (t : ℕ × Term). p ≡ pair_in t.1) (terms_of_pair p terms)
filter_mine p [] = All-nil (λ (t : ℕ × Term). p ≡ pair_in t.1)
filter_mine p (t ∷ terms) = by_test (is_pair p (pair_in t.1)) refl (filter_mine p terms)
  where
    by_test : (b : Bool) → is_pair p (pair_in t.1) ≡ b → All (λ (t : ℕ × Term). p ≡ pair_in t.1) (terms_of_pair p terms) → All (λ (t : ℕ × Term). p ≡ pair_in t.1) (cond b (t ∷ terms_of_pair p terms) (terms_of_pair p terms))
    by_test true e rest = All-cons (λ (t : ℕ × Term). p ≡ pair_in t.1) t (terms_of_pair p terms) (same_pair p (pair_in t.1) e) rest
    by_test false e rest = rest
