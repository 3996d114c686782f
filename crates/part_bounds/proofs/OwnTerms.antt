-- What a pair of lines adds to the bound depends on its own terms alone, and each term is of one pair.
use Rattle.std.proofs.Common.{◌≡◌, ℕ, ◌+◌, Bool, true, false, cond, ◌||◌, List, [], ◌∷◌, ◌++◌, filter, refl, sym, ap, subst, ◌∙◌, ◌⊎◌, inl, inr, arith, true≢false}
use Rattle.std.specs.Prelude.{sum_by}
use Rattle.std.specs.List.{AllByRecursion}
use Rattle.std.proofs.Math.Path.{fun_ext}
use Rattle.std.proofs.lemmas.Bool.{or_left, or_right, or_cases, or_parts}
use Rattle.std.proofs.lemmas.List.Sums.{sum_by-cons}
use Rattle.map_base.specs.declared.ids.SegId.{SegId}
use Rattle.map_base.specs.declared.ids.LineId.{LineId}
use Rattle.order_model.specs.declared.term.Term.{Term}
use Rattle.order_model.specs.declared.term.Term.TheVariants.{Side, Link, Apart}
use Rattle.order_bound.specs.declared.pairs.Pair.{Pair}
use Rattle.order_bound.specs.Pairs.{is_pair, pair_in, has_pair, pairs_after, pairs_of, open_segments, open_link, open_links, kept}
use Rattle.order_bound.specs.Decided.{decided_cost, decided_sum}
use Rattle.pair_bounds.specs.Counted.{counted_cost, settled_cost, counted_sum, settled_sum}
use Rattle.order_bound.specs.Bounds.{open_cost, slot_cost, choice_cost, least_over, pair_bound, bound_of}
use Rattle.order_bound.proofs.Lists.{Among, each_among}
use Rattle.order_bound.proofs.Sums.{sum_same, sum_both, sum_swap, sum_map}
use Rattle.order_bound.proofs.Completing.{AreApartPairs, same_pair, pair_itself, pairs_apart}
use Rattle.part_bounds.specs.PairGroups.{terms_of_pair, group_of, groups_of, share_of}

-- Terms of another pair add nothing.

other_open : (placed : List (List LineId)) (p : Pair) (s : SegId) (x : Bool) (t : Term) → is_pair p (pair_in t) ≡ false → open_cost placed p s x t ≡ 0
other_open placed p s x (Side seg first second w) h = rw h refl
other_open placed p s x (Link seg other flip a b w) h = rw h refl
other_open placed p s x (Apart seg other a b w) h = refl

other_link : (placed : List (List LineId)) (p : Pair) (k : ℕ) (t : Term) → is_pair p (pair_in t) ≡ false → open_link placed p k t ≡ []
other_link placed p k (Side seg first second w) h = refl
other_link placed p k (Link seg other flip a b w) h = rw h refl
other_link placed p k (Apart seg other a b w) h = refl

sum_filtered : {A : Type 0} (f : A → ℕ) (p : A → Bool) (xs : List A) → ((x : A) → p x ≡ false → f x ≡ 0) → sum_by f (filter p xs) ≡ sum_by f xs
sum_filtered f p [] none = refl
sum_filtered f p (x ∷ xs) none = by_test (p x) refl (sum_filtered f p xs none)
  where
    by_test : (b : Bool) → p x ≡ b → sum_by f (filter p xs) ≡ sum_by f xs → sum_by f (cond b (x ∷ filter p xs) (filter p xs)) ≡ sum_by f (x ∷ xs)
    by_test true e rest = omega (arith, rest, sum_by-cons f x (filter p xs), sum_by-cons f x xs)
    by_test false e rest = omega (arith, rest, none x e, sum_by-cons f x xs)

pub own_cost : (placed : List (List LineId)) (p : Pair) (terms : List (ℕ × Term)) (s : SegId) (x : Bool) → slot_cost placed (terms_of_pair p terms) p s x ≡ slot_cost placed terms p s x
own_cost placed p terms s x =
    sum_filtered (λ (t : ℕ × Term). open_cost placed p s x t.1) (λ (t : ℕ × Term). is_pair p (pair_in t.1)) terms (λ t h. other_open placed p s x t.1 h)

pub own_links : (placed : List (List LineId)) (p : Pair) (terms : List (ℕ × Term)) → open_links placed p (terms_of_pair p terms) ≡ open_links placed p terms
own_links placed p [] = refl
own_links placed p (t ∷ terms) = by_test (is_pair p (pair_in t.1)) refl (own_links placed p terms)
  where
    by_test : (b : Bool) → is_pair p (pair_in t.1) ≡ b → open_links placed p (terms_of_pair p terms) ≡ open_links placed p terms
        → open_links placed p (cond b (t ∷ terms_of_pair p terms) (terms_of_pair p terms)) ≡ open_link placed p t.0 t.1 ++ open_links placed p terms
    by_test true e rest = ap (λ l. open_link placed p t.0 t.1 ++ l) rest
    by_test false e rest = rest ∙ ap (λ l. l ++ open_links placed p terms) (sym (other_link placed p t.0 t.1 e))

pub own_bound : (segs placed : List (List LineId)) (part : List SegId) (p : Pair) (terms : List (ℕ × Term)) → pair_bound segs placed part (terms_of_pair p terms) p ≡ pair_bound segs placed part terms p
own_bound segs placed part p terms =
    let slots : List SegId = open_segments segs placed part p in
    ap (λ cost. least_over slots (λ s. true) (choice_cost slots cost (kept (λ s. s) (open_links placed p (terms_of_pair p terms))))) (fun_ext (λ s. fun_ext (λ x. own_cost placed p terms s x)))
    ∙ ap (λ links. least_over slots (λ s. true) (choice_cost slots (slot_cost placed terms p) (kept (λ s. s) links))) (own_links placed p terms)

-- Each term is of one of the pairs.

pub found_pair : (known : List Pair) (terms : List (ℕ × Term)) (t : ℕ × Term) → Among t terms → (has_pair known (pair_in t.1) || has_pair (pairs_after known terms) (pair_in t.1)) ≡ true
found_pair known [] t h = absurd h
found_pair known (u ∷ terms) t h = by_test (has_pair known (pair_in u.1)) refl h (found_pair known terms t) (found_pair (pair_in u.1 ∷ known) terms t)
  where
    q : Pair
    q = pair_in t.1

    here : (b : Bool) → (has_pair known q || (true || b)) ≡ true
    here b = or_right (has_pair known q) (true || b) refl

    moved : (a b c : Bool) → ((a || b) || c) ≡ true → (b || (a || c)) ≡ true
    moved true true c h = refl
    moved true false c h = refl
    moved false true c h = refl
    moved false false c h = h

    by_test : (b : Bool) → has_pair known (pair_in u.1) ≡ b → (t ≡ u) ⊎ Among t terms → (Among t terms → (has_pair known q || has_pair (pairs_after known terms) q) ≡ true)
        → (Among t terms → (has_pair (pair_in u.1 ∷ known) q || has_pair (pairs_after (pair_in u.1 ∷ known) terms) q) ≡ true)
        → (has_pair known q || has_pair (cond b (pairs_after known terms) (pair_in u.1 ∷ pairs_after (pair_in u.1 ∷ known) terms)) q) ≡ true
    by_test true e (inl is) same more = or_left (has_pair known q) (has_pair (pairs_after known terms) q) (ap (λ (v : ℕ × Term). has_pair known (pair_in v.1)) is ∙ e)
    by_test true e (inr later) same more = same later
    by_test false e (inl is) same more =
        let mine : is_pair q (pair_in u.1) ≡ true = ap (λ (v : ℕ × Term). is_pair (pair_in v.1) (pair_in u.1)) is ∙ pair_itself (pair_in u.1) in
        or_right (has_pair known q) (is_pair q (pair_in u.1) || has_pair (pairs_after (pair_in u.1 ∷ known) terms) q) (or_left (is_pair q (pair_in u.1)) (has_pair (pairs_after (pair_in u.1 ∷ known) terms) q) mine)
    by_test false e (inr later) same more = moved (is_pair q (pair_in u.1)) (has_pair known q) (has_pair (pairs_after (pair_in u.1 ∷ known) terms) q) (more later)

none_of_pair : (q : Pair) (v : ℕ) (pairs : List Pair) → has_pair pairs q ≡ false → sum_by (λ p. cond (is_pair p q) v 0) pairs ≡ 0
none_of_pair q v [] h = refl
none_of_pair q v (p ∷ pairs) h =
    let parts = or_parts (is_pair q p) (has_pair pairs q) h in
    let rest = none_of_pair q v pairs parts.1 in
    let here : cond (is_pair p q) v 0 ≡ 0 = by_test (is_pair p q) refl parts.0 in
    omega (arith, rest, here, sum_by-cons (λ p. cond (is_pair p q) v 0) p pairs)
  where
    by_test : (b : Bool) → is_pair p q ≡ b → is_pair q p ≡ false → cond b v 0 ≡ 0
    by_test true e h = absurd (true≢false (sym (pair_itself q) ∙ (ap (is_pair q) (sym (same_pair p q e)) ∙ h)))
    by_test false e h = refl

one_of_pair : (q : Pair) (v : ℕ) (pairs : List Pair) → AreApartPairs pairs → has_pair pairs q ≡ true → sum_by (λ p. cond (is_pair p q) v 0) pairs ≡ v
one_of_pair q v [] apart h = absurd (true≢false (sym h))
one_of_pair q v (p ∷ pairs) apart h = by_test (is_pair p q) refl (or_cases (is_pair q p) (has_pair pairs q) h) (λ later. one_of_pair q v pairs apart.1 later)
  where
    by_test : (b : Bool) → is_pair p q ≡ b → (is_pair q p ≡ true) ⊎ (has_pair pairs q ≡ true) → (has_pair pairs q ≡ true → sum_by (λ p. cond (is_pair p q) v 0) pairs ≡ v)
        → sum_by (λ p. cond (is_pair p q) v 0) (p ∷ pairs) ≡ v
    by_test true e h rest =
        let none = none_of_pair q v pairs (subst (λ r. has_pair pairs r ≡ false) (same_pair p q e) apart.0) in
        let here : cond (is_pair p q) v 0 ≡ v = rw e refl in
        omega (arith, none, here, sum_by-cons (λ p. cond (is_pair p q) v 0) p pairs)
    by_test false e (inl h) rest = absurd (true≢false (sym (pair_itself q) ∙ (ap (λ r. is_pair r q) (same_pair q p h) ∙ e)))
    by_test false e (inr h) rest =
        let later = rest h in
        let here : cond (is_pair p q) v 0 ≡ 0 = rw e refl in
        omega (arith, later, here, sum_by-cons (λ p. cond (is_pair p q) v 0) p pairs)

sum_gated : {A : Type 0} (f : A → ℕ) (p : A → Bool) (xs : List A) → sum_by f (filter p xs) ≡ sum_by (λ x. cond (p x) (f x) 0) xs
sum_gated f p [] = refl
sum_gated f p (x ∷ xs) = by_test (p x) refl (sum_gated f p xs)
  where
    by_test : (b : Bool) → p x ≡ b → sum_by f (filter p xs) ≡ sum_by (λ x. cond (p x) (f x) 0) xs → sum_by f (cond b (x ∷ filter p xs) (filter p xs)) ≡ sum_by (λ x. cond (p x) (f x) 0) (x ∷ xs)
    by_test true e rest = let here : cond (p x) (f x) 0 ≡ f x = rw e refl in omega (arith, rest, here, sum_by-cons f x (filter p xs), sum_by-cons (λ x. cond (p x) (f x) 0) x xs)
    by_test false e rest = let here : cond (p x) (f x) 0 ≡ 0 = rw e refl in omega (arith, rest, here, sum_by-cons (λ x. cond (p x) (f x) 0) x xs)

sum_each : {A : Type 0} (f g : A → ℕ) (xs : List A) → AllByRecursion (λ x. f x ≡ g x) xs → sum_by f xs ≡ sum_by g xs
sum_each f g [] h = refl
sum_each f g (x ∷ xs) h = let rest = sum_each f g xs h.1 in let here = h.0 in omega (arith, rest, here, sum_by-cons f x xs, sum_by-cons g x xs)

-- a sum over terms, pair by pair
pub parted : (f : ℕ × Term → ℕ) (terms : List (ℕ × Term)) → sum_by (λ p. sum_by f (terms_of_pair p terms)) (pairs_of terms) ≡ sum_by f terms
parted f terms =
    let pairs : List Pair = pairs_of terms in
    sum_same (λ p. sum_by f (terms_of_pair p terms)) (λ p. sum_by (λ (t : ℕ × Term). cond (is_pair p (pair_in t.1)) (f t) 0) terms) pairs (λ p. sum_gated f (λ (t : ℕ × Term). is_pair p (pair_in t.1)) terms)
    ∙ (sum_swap (λ p (t : ℕ × Term). cond (is_pair p (pair_in t.1)) (f t) 0) pairs terms
    ∙ sum_each (λ (t : ℕ × Term). sum_by (λ p. cond (is_pair p (pair_in t.1)) (f t) 0) pairs) f terms
    (each_among (λ (t : ℕ × Term). sum_by (λ p. cond (is_pair p (pair_in t.1)) (f t) 0) pairs ≡ f t) terms
    (λ t h. one_of_pair (pair_in t.1) (f t) pairs (pairs_apart terms) (found_pair [] terms t h))))

-- what is decided of Aparts, and of other terms
decided_parts : (segs placed : List (List LineId)) (t : Term) → decided_cost segs placed t ≡ counted_cost segs placed t + settled_cost segs placed t
decided_parts segs placed (Side seg first second w) = omega arith
decided_parts segs placed (Link seg other flip a b w) = omega arith
decided_parts segs placed (Apart seg other a b w) = omega arith

decided_both : (segs placed : List (List LineId)) (terms : List (ℕ × Term)) → decided_sum segs placed terms ≡ counted_sum segs placed terms + settled_sum segs placed terms
decided_both segs placed terms =
    sum_same (λ (t : ℕ × Term). decided_cost segs placed t.1) (λ (t : ℕ × Term). counted_cost segs placed t.1 + settled_cost segs placed t.1) terms (λ t. decided_parts segs placed t.1)
    ∙ sum_both (λ (t : ℕ × Term). counted_cost segs placed t.1) (λ (t : ℕ × Term). settled_cost segs placed t.1) terms

-- the shares of all pairs and the settled Aparts make the bound
pub shares_bound : (segs placed : List (List LineId)) (part : List SegId) (terms : List (ℕ × Term))
    → sum_by (share_of segs part placed) (groups_of terms) + settled_sum segs placed terms ≡ bound_of segs part terms placed
shares_bound segs placed part terms =
    let pairs : List Pair = pairs_of terms in
    let moved = sum_map (share_of segs part placed) (group_of terms) pairs in
    let both = sum_both (λ p. counted_sum segs placed (terms_of_pair p terms)) (λ p. pair_bound segs placed part (terms_of_pair p terms) p) pairs in
    let counted = parted (λ (t : ℕ × Term). counted_cost segs placed t.1) terms in
    let bounds = sum_same (λ p. pair_bound segs placed part (terms_of_pair p terms) p) (pair_bound segs placed part terms) pairs (λ p. own_bound segs placed part p terms) in
    omega (arith, moved, both, counted, bounds, decided_both segs placed terms)
