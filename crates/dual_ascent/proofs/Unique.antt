-- Where all pairs of lines are settled, at most one order keeps them.
use Rattle.std.proofs.Common.{◌≡◌, ℕ, zero, suc, ◌==◌, ◌||◌, ◌&&◌, not, Bool, true, false, cond, List, [], ◌∷◌, length, refl, sym, ◌∙◌, ap, subst, arith, ◌⊎◌, inl, inr, true≢false, eq-eqb}
use Rattle.std.specs.Prelude.{IsPermutation}
use Rattle.std.specs.List.{AllByRecursion, IsDistinct, list_any}
use Rattle.std.proofs.lemmas.Bool.{and_parts}
use Rattle.std.proofs.lemmas.Bool.Decides.{nat_tests}
use Rattle.map_base.specs.declared.ids.LineId.{LineId}
use Rattle.graph_core.specs.Consistent.{AreRising}
use Rattle.order_model.specs.Costs.{comes_before}
use Rattle.order_model.specs.Prefixes.{is_placed}
use Rattle.order_model.proofs.Lines.{either_true, same_line, has_permutation, order_distinct}
use Rattle.least_orders.specs.Arrangements.{keeps}
use Rattle.least_orders.proofs.Lists.{Among, all_at}
use Rattle.dual_bound.proofs.Segments.{before_or_behind}
use Rattle.dual_ascent.specs.OpenPairs.{leads, is_settled}

abbrev same : LineId → LineId → Bool
same a b = a.0 == b.0

pub turned : (a b : ℕ) → (a == b) ≡ false → (b == a) ≡ false
turned a b h = grind (arith, nat_tests)

-- what stands before a line stands before all behind it
before_trans : (o : List LineId) (a b c : LineId) → comes_before o a b ≡ true → comes_before o b c ≡ true → comes_before o a c ≡ true
before_trans [] a b c h k = h
before_trans (x ∷ o) a b c h k = by_tests (x.0 == a.0) (x.0 == b.0) (x.0 == c.0) h k (λ f g. before_trans o a b c f g)
  where
    by_tests : (r s t : Bool) → cond r true (cond s false (comes_before o a b)) ≡ true → cond s true (cond t false (comes_before o b c)) ≡ true
        → (comes_before o a b ≡ true → comes_before o b c ≡ true → comes_before o a c ≡ true) → cond r true (cond t false (comes_before o a c)) ≡ true
    by_tests true s t h k rest = refl
    by_tests false true t h k rest = absurd (true≢false (sym h))
    by_tests false false true h k rest = absurd (true≢false (sym k))
    by_tests false false false h k rest = rest h k

passed : {A : Type 0} (f : A → Bool) (xs : List A) → list_any f xs ≡ true → (x : A) × Among x xs × (f x ≡ true)
passed f [] h = absurd (true≢false (sym h))
passed {A = A} f (x ∷ xs) h = by_head (f x) refl h (λ g. passed f xs g)
  where
    by_head : (b : Bool) → f x ≡ b → (b || list_any f xs) ≡ true → (list_any f xs ≡ true → (y : A) × Among y xs × (f y ≡ true)) → (y : A) × ((y ≡ x) ⊎ Among y xs) × (f y ≡ true)
    by_head true e g rest = (x, inl refl, e)
    by_head false e g rest = let later = rest g in (later.0, inr later.1, later.2)

-- a chain of pairs that an order keeps
chain_kept : (n : ℕ) (pairs : List (LineId × LineId)) (o : List LineId) (a b : LineId) → keeps pairs o ≡ true → leads n pairs a b ≡ true → comes_before o a b ≡ true
chain_kept zero pairs o a b kept h = absurd (true≢false (sym h))
chain_kept (suc n) pairs o a b kept h =
    let one = passed (λ (q : LineId × LineId). q.0.0 == a.0 && (q.1.0 == b.0 || leads n pairs q.1 b)) pairs h in
    let tests = and_parts (one.0.0.0 == a.0) (one.0.1.0 == b.0 || leads n pairs one.0.1 b) one.2 in
    let step : comes_before o one.0.0 one.0.1 ≡ true = all_at (λ (q : LineId × LineId). comes_before o q.0 q.1) pairs one.0 kept one.1 in
    let from : comes_before o a one.0.1 ≡ true = subst (λ u. comes_before o u one.0.1 ≡ true) (same_line one.0.0 a tests.0) step in
    by_end one.0.1 from (either_true (one.0.1.0 == b.0) (leads n pairs one.0.1 b) tests.1) (λ c more. chain_kept n pairs o c b kept more)
  where
    by_end : (c : LineId) → comes_before o a c ≡ true → ((c.0 == b.0) ≡ true) ⊎ (leads n pairs c b ≡ true) → ((c : LineId) → leads n pairs c b ≡ true → comes_before o c b ≡ true) → comes_before o a b ≡ true
    by_end c from (inl e) rest = subst (λ u. comes_before o a u ≡ true) (same_line c b e) from
    by_end c from (inr more) rest = before_trans o a c b from (rest c more)

-- lines of an order that stands once each
absent : (a : LineId) (xs : List LineId) → AllByRecursion (λ b. same a b ≡ false) xs → is_placed xs a ≡ false
absent a [] h = refl
absent a (x ∷ xs) h = ap (λ t. t || is_placed xs a) (turned a.0 x.0 h.0) ∙ absent a xs h.1

-- where they have the same lines in the same order, they are equal
abbrev AreEqual : List LineId → List LineId → Type 0
AreEqual o u =
    ((a : LineId) → is_placed o a ≡ is_placed u a)
    → ((a b : LineId) → (a.0 == b.0) ≡ false → is_placed o a ≡ true → is_placed o b ≡ true → comes_before o a b ≡ comes_before u a b) → o ≡ u

-- two lists that have the same lines, each once, in the same order
equal_lists : (o u : List LineId) → IsDistinct same o → IsDistinct same u → ((a : LineId) → is_placed o a ≡ is_placed u a)
    → ((a b : LineId) → (a.0 == b.0) ≡ false → is_placed o a ≡ true → is_placed o b ≡ true → comes_before o a b ≡ comes_before u a b) → o ≡ u
unfolding IsDistinct
equal_lists [] [] d e has before = refl
equal_lists [] (y ∷ u) d e has before = absurd (true≢false (sym (has y ∙ ap (λ t. t || is_placed u y) (eq-eqb y.0 y.0 refl))))
equal_lists (x ∷ o) [] d e has before = absurd (true≢false (sym (ap (λ t. t || is_placed o x) (eq-eqb x.0 x.0 refl)) ∙ has x))
equal_lists (x ∷ o) (y ∷ u) d e has before = by_test (x.0 == y.0) refl (λ has before. equal_lists o u d.1 e.1 has before)
  where
    first_o : is_placed (x ∷ o) x ≡ true
    first_o = ap (λ t. t || is_placed o x) (eq-eqb x.0 x.0 refl)

    first_u : is_placed (y ∷ u) y ≡ true
    first_u = ap (λ t. t || is_placed u y) (eq-eqb y.0 y.0 refl)

    two_tests : (s t : Bool) (v : Bool) → s ≡ false → t ≡ true → cond s true (cond t false v) ≡ false
    two_tests true t v h k = absurd (true≢false h)
    two_tests false true v h k = refl
    two_tests false false v h k = absurd (true≢false (sym k))

    by_test : (t : Bool) → (x.0 == y.0) ≡ t → AreEqual o u → x ∷ o ≡ y ∷ u
    by_test false apart rest =
        let here : comes_before (x ∷ o) x y ≡ true = ap (λ t. cond t true (cond (x.0 == y.0) false (comes_before o x y))) (eq-eqb x.0 x.0 refl) in
        let there : comes_before (y ∷ u) x y ≡ false = two_tests (y.0 == x.0) (y.0 == y.0) (comes_before u x y) (turned x.0 y.0 apart) (eq-eqb y.0 y.0 refl) in
        absurd (true≢false (sym here ∙ (before x y apart first_o (has y ∙ first_u) ∙ there)))
    by_test true one rest = ap (λ (v : LineId). v ∷ o) is ∙ ap (λ l. y ∷ l) (rest has_rest before_rest)
      where
        is : x ≡ y
        is = same_line x y one

        none_o : is_placed o x ≡ false
        none_o = absent x o d.0

        none_u : is_placed u x ≡ false
        none_u = ap (is_placed u) is ∙ absent y u e.0

        has_rest : (a : LineId) → is_placed o a ≡ is_placed u a
        has_rest a = by_line (x.0 == a.0) refl
          where
            rest_of : (s t : Bool) (v w : Bool) → s ≡ false → t ≡ false → (s || v) ≡ (t || w) → v ≡ w
            rest_of true t v w h k f = absurd (true≢false h)
            rest_of false true v w h k f = absurd (true≢false k)
            rest_of false false v w h k f = f

            by_line : (t : Bool) → (x.0 == a.0) ≡ t → is_placed o a ≡ is_placed u a
            by_line true f = let at = same_line x a f in (ap (is_placed o) (sym at) ∙ none_o) ∙ sym (ap (is_placed u) (sym at) ∙ none_u)
            by_line false f = rest_of (x.0 == a.0) (y.0 == a.0) (is_placed o a) (is_placed u a) f (ap (λ (v : LineId). v.0 == a.0) (sym is) ∙ f) (has a)

        not_first : (a : LineId) → is_placed o a ≡ true → (x.0 == a.0) ≡ false
        not_first a h = by_line (x.0 == a.0) refl
          where
            by_line : (t : Bool) → (x.0 == a.0) ≡ t → (x.0 == a.0) ≡ false
            by_line true f = absurd (true≢false (sym h ∙ (ap (is_placed o) (sym (same_line x a f)) ∙ none_o)))
            by_line false f = f

        before_rest : (a b : LineId) → (a.0 == b.0) ≡ false → is_placed o a ≡ true → is_placed o b ≡ true → comes_before o a b ≡ comes_before u a b
        before_rest a b apart h k =
            let whole = before a b apart (later (x.0 == a.0) (is_placed o a) h) (later (x.0 == b.0) (is_placed o b) k) in
            both_rest (x.0 == a.0) (x.0 == b.0) (y.0 == a.0) (y.0 == b.0) (comes_before o a b) (comes_before u a b)
            (not_first a h) (not_first b k) (ap (λ (v : LineId). v.0 == a.0) (sym is) ∙ not_first a h) (ap (λ (v : LineId). v.0 == b.0) (sym is) ∙ not_first b k) whole
          where
            later : (s t : Bool) → t ≡ true → (s || t) ≡ true
            later true t h = refl
            later false t h = h

            both_rest : (r s t v : Bool) (c d : Bool) → r ≡ false → s ≡ false → t ≡ false → v ≡ false → cond r true (cond s false c) ≡ cond t true (cond v false d) → c ≡ d
            both_rest false false false false c d e f g h k = k
            both_rest true s t v c d e f g h k = absurd (true≢false e)
            both_rest false true t v c d e f g h k = absurd (true≢false f)
            both_rest false false true v c d e f g h k = absurd (true≢false g)
            both_rest false false false true c d e f g h k = absurd (true≢false h)

-- all pairs of different lines are settled
abbrev pub AreSettled : List (LineId × LineId) → List LineId → Type 0
AreSettled pairs lines = (a b : LineId) → (a.0 == b.0) ≡ false → is_placed lines a ≡ true → is_placed lines b ≡ true → is_settled pairs a b ≡ true

-- then two orders that keep them are one
pub one_order : (pairs : List (LineId × LineId)) (lines o u : List LineId) → AreRising lines → AreSettled pairs lines → IsPermutation lines o → IsPermutation lines u
    → keeps pairs o ≡ true → keeps pairs u ≡ true → o ≡ u
one_order pairs lines o u rising settled po pu ko ku =
    equal_lists o u (order_distinct lines o rising po) (order_distinct lines u rising pu)
    (λ a. sym (has_permutation lines o a po) ∙ has_permutation lines u a pu) by_pair
  where
    by_pair : (a b : LineId) → (a.0 == b.0) ≡ false → is_placed o a ≡ true → is_placed o b ≡ true → comes_before o a b ≡ comes_before u a b
    by_pair a b apart h k =
        by_chain (either_true (leads (length pairs) pairs a b) (leads (length pairs) pairs b a)
        (settled a b apart (has_permutation lines o a po ∙ h) (has_permutation lines o b po ∙ k)))
      where
        in_u : (c : LineId) → is_placed o c ≡ true → is_placed u c ≡ true
        in_u c g = sym (has_permutation lines u c pu) ∙ (has_permutation lines o c po ∙ g)

        by_chain : (leads (length pairs) pairs a b ≡ true) ⊎ (leads (length pairs) pairs b a ≡ true) → comes_before o a b ≡ comes_before u a b
        by_chain (inl e) = chain_kept (length pairs) pairs o a b ko e ∙ sym (chain_kept (length pairs) pairs u a b ku e)
        by_chain (inr e) =
            (before_or_behind o a b apart h k ∙ ap not (chain_kept (length pairs) pairs o b a ko e))
            ∙ sym (before_or_behind u a b apart (in_u a h) (in_u b k) ∙ ap not (chain_kept (length pairs) pairs u b a ku e))
