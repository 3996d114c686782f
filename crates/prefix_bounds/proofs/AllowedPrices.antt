-- A price is allowed on the term of its number alone.
use Rattle.std.proofs.Common.{◌≡◌, ◌≢◌, ℕ, zero, suc, ◌+◌, ◌<◌, ◌≤◌, ◌&&◌, ◌||◌, Bool, true, false, cond, List, [], ◌∷◌, ◌++◌, length, take, get_or, refl, sym, ◌∙◌, ap, subst, arith}
use Rattle.std.specs.Prelude.{ℤ, unsigned_abs}
use Rattle.std.specs.List.{list_all, list_any, filter}
use Rattle.std.proofs.lemmas.List.{take_more}
use Rattle.std.proofs.lemmas.List.Elements.{All-push}
use Rattle.std.proofs.lemmas.Bool.{ne_eqb}
use Rattle.std.proofs.Common.{eq-eqb}
use Rattle.map_base.specs.declared.ids.SegId.{SegId}
use Rattle.map_base.specs.declared.ids.LineId.{LineId}
use Rattle.order_model.specs.declared.term.Term.{Term}
use Rattle.order_model.specs.declared.term.Term.TheVariants.{Side, Link, Apart}
use Rattle.order_model.specs.PartTerms.{is_of, no_term, numbered_from, part_terms}
use Rattle.order_bound.specs.Values.{allows}
use Rattle.order_check.specs.Prices.{may_have}
use Rattle.prefix_bounds.specs.SlotsSoFar.{AreSmallPrices}

allows_own : (placed : List (List LineId)) (q : ℕ × ℤ) (t : Term) → allows placed q q.0 t ≡ may_have placed t q.1
allows_own placed q (Side seg first second w) = refl
allows_own placed q (Link seg other flip a b w) = rw (eq-eqb q.0 q.0 refl) refl
allows_own placed q (Apart seg other a b w) = refl

allows_other : (placed : List (List LineId)) (q : ℕ × ℤ) (k : ℕ) (t : Term) → k ≢ q.0 → allows placed q k t ≡ false
allows_other placed q k (Side seg first second w) n = refl
allows_other placed q k (Link seg other flip a b w) n = rw (ne_eqb k q.0 n) refl
allows_other placed q k (Apart seg other a b w) n = refl

abbrev allowed_from : List (List LineId) → List SegId → (ℕ × ℤ) → ℕ → List Term → Bool
allowed_from placed part q k terms = list_any (λ (t : ℕ × Term). allows placed q t.0 t.1) (filter (λ (t : ℕ × Term). is_of part t.1) (numbered_from k terms))

-- a term of another number allows nothing
passed : (placed : List (List LineId)) (part : List SegId) (q : ℕ × ℤ) (k : ℕ) (t : Term) (terms : List Term) → k ≢ q.0
    → allowed_from placed part q k (t ∷ terms) ≡ allowed_from placed part q (k + 1) terms
passed placed part q k t terms n = by_test (is_of part t)
  where
    by_test : (b : Bool) → list_any (λ (t : ℕ × Term). allows placed q t.0 t.1) (cond b ((k, t) ∷ filter (λ (t : ℕ × Term). is_of part t.1) (numbered_from (k + 1) terms)) (filter (λ (t : ℕ × Term). is_of part t.1) (numbered_from (k + 1) terms)))
        ≡ allowed_from placed part q (k + 1) terms
    by_test true = ap (λ c. c || allowed_from placed part q (k + 1) terms) (allows_other placed q k t n)
    by_test false = refl

none_from : (placed : List (List LineId)) (part : List SegId) (q : ℕ × ℤ) (k : ℕ) (terms : List Term) → q.0 < k → allowed_from placed part q k terms ≡ false
none_from placed part q k [] below = refl
none_from placed part q k (t ∷ terms) below =
    passed placed part q k t terms (λ e. omega (arith, e, below)) ∙ none_from placed part q (k + 1) terms (omega (arith, below))

past_all : (placed : List (List LineId)) (part : List SegId) (q : ℕ × ℤ) (k : ℕ) (terms : List Term) → k + length terms ≤ q.0 → allowed_from placed part q k terms ≡ false
past_all placed part q k [] above = refl
past_all placed part q k (t ∷ terms) above =
    passed placed part q k t terms (λ e. omega (arith, e, above)) ∙ past_all placed part q (k + 1) terms (omega (arith, above))

own_from : (placed : List (List LineId)) (part : List SegId) (q : ℕ × ℤ) (k i : ℕ) (terms : List Term) → k + i ≡ q.0 → i < length terms
    → allowed_from placed part q k terms ≡ cond (is_of part (get_or terms i no_term)) (may_have placed (get_or terms i no_term) q.1) false
own_from placed part q k i [] is below = absurd (omega (arith, below))
own_from placed part q k zero (t ∷ terms) is below = by_test (is_of part t)
  where
    here : k ≡ q.0
    here = omega (arith, is)

    or_none : (b : Bool) → (b || false) ≡ b
    or_none true = refl
    or_none false = refl

    later : allowed_from placed part q (k + 1) terms ≡ false
    later = none_from placed part q (k + 1) terms (omega (arith, is))

    by_test : (b : Bool) → list_any (λ (t : ℕ × Term). allows placed q t.0 t.1) (cond b ((k, t) ∷ filter (λ (t : ℕ × Term). is_of part t.1) (numbered_from (k + 1) terms)) (filter (λ (t : ℕ × Term). is_of part t.1) (numbered_from (k + 1) terms)))
        ≡ cond b (may_have placed t q.1) false
    by_test true = ap (λ c. allows placed q k t || c) later ∙ or_none (allows placed q k t) ∙ ap (λ n. allows placed q n t) here ∙ allows_own placed q t
    by_test false = later
own_from placed part q k (suc i) (t ∷ terms) is below =
    passed placed part q k t terms (λ e. omega (arith, e, is)) ∙ own_from placed part q (k + 1) i terms (omega (arith, is)) (omega (arith, below))

-- no term has the number
pub allowed_nowhere : (placed : List (List LineId)) (part : List SegId) (q : ℕ × ℤ) (terms : List Term) → length terms ≤ q.0
    → list_any (λ (t : ℕ × Term). allows placed q t.0 t.1) (part_terms terms part) ≡ false
allowed_nowhere placed part q terms above = past_all placed part q 0 terms (omega (arith, above))

-- the term of the number is of the part or not, and may have the price or not
pub allowed_own : (placed : List (List LineId)) (part : List SegId) (q : ℕ × ℤ) (terms : List Term) → q.0 < length terms
    → list_any (λ (t : ℕ × Term). allows placed q t.0 t.1) (part_terms terms part) ≡ cond (is_of part (get_or terms q.0 no_term)) (may_have placed (get_or terms q.0 no_term) q.1) false
allowed_own placed part q terms below = own_from placed part q 0 q.0 terms (omega arith) below

pub allowed_out : (placed : List (List LineId)) (part : List SegId) (q : ℕ × ℤ) (terms : List Term) (t : Term) → q.0 < length terms → t ≡ get_or terms q.0 no_term → is_of part t ≡ false
    → list_any (λ (t : ℕ × Term). allows placed q t.0 t.1) (part_terms terms part) ≡ false
allowed_out placed part q terms t below is out =
    allowed_own placed part q terms below ∙ ap (λ u. cond (is_of part u) (may_have placed u q.1) false) (sym is) ∙ ap (λ b. cond b (may_have placed t q.1) false) out

pub allowed_in : (placed : List (List LineId)) (part : List SegId) (q : ℕ × ℤ) (terms : List Term) (t : Term) → q.0 < length terms → t ≡ get_or terms q.0 no_term → is_of part t ≡ true
    → list_any (λ (t : ℕ × Term). allows placed q t.0 t.1) (part_terms terms part) ≡ may_have placed t q.1
allowed_in placed part q terms t below is inside =
    allowed_own placed part q terms below ∙ ap (λ u. cond (is_of part u) (may_have placed u q.1) false) (sym is) ∙ ap (λ b. cond b (may_have placed t q.1) false) inside

-- One price more.

all_last : (f : ℕ × ℤ → Bool) (qs : List (ℕ × ℤ)) (q : ℕ × ℤ) → list_all f qs ≡ true → f q ≡ true → list_all f (qs ++ q ∷ []) ≡ true
all_last f [] q h e = rw e refl
all_last f (x ∷ qs) q h e = by_test (f x) h (λ rest. all_last f qs q rest e)
  where
    by_test : (b : Bool) → (b && list_all f qs) ≡ true → (list_all f qs ≡ true → list_all f (qs ++ q ∷ []) ≡ true) → (b && list_all f (qs ++ q ∷ [])) ≡ true
    by_test true rest later = later rest
    by_test false rest later = rest

pub all_more : (f : ℕ × ℤ → Bool) (qs : List (ℕ × ℤ)) (i : ℕ) (d : ℕ × ℤ) → i < length qs → list_all f (take i qs) ≡ true → f (get_or qs i d) ≡ true → list_all f (take (i + 1) qs) ≡ true
all_more f qs i d below so_far next = ap (list_all f) (take_more qs i d below) ∙ all_last f (take i qs) (get_or qs i d) so_far next

pub small_more : (qs : List (ℕ × ℤ)) (i : ℕ) (d : ℕ × ℤ) → i < length qs → AreSmallPrices (take i qs) → unsigned_abs (get_or qs i d).1 ≤ 256000 → AreSmallPrices (take (i + 1) qs)
small_more qs i d below so_far next =
    subst AreSmallPrices (sym (take_more qs i d below)) (All-push (λ (q : ℕ × ℤ). unsigned_abs q.1 ≤ 256000) (take i qs) (get_or qs i d) so_far next)
