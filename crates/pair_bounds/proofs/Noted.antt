-- Prices noted from the last child to the first.
use Rattle.std.proofs.Common.{◌≡◌, ◌≢◌, ℕ, ◌<◌, ◌≤◌, ◌==◌, Bool, true, false, cond, List, [], ◌∷◌, ◌++◌, length, set, get_or, refl, sym, ap, ◌∙◌, arith, eqb-true, eq-eqb, true≢false, get_or-set_same, get_or-set_other}
use Rattle.std.specs.Prelude.{ℤ, pos}
use Rattle.order_bound.specs.declared.pairs.OpenLink.{OpenLink}
use Rattle.order_bound.specs.declared.pairs.ChildLink.{ChildLink}
use Rattle.order_bound.specs.CanonicalPrices.{price_for, price_among}
use Rattle.pair_bounds.specs.declared.slots.Slot.{Slot}
use Rattle.pair_bounds.specs.Slots.{rise_in, with_child, with_children}
use Rattle.pair_bounds.specs.PriceNotes.{price_noted, price_over, priced_in}
use Rattle.pair_bounds.proofs.PricedSlots.{children_push}

priced_push : (children : List ChildLink) (c : ChildLink) (slots : List Slot) → priced_in (children ++ c ∷ []) slots ≡ priced_in children (with_child c slots) ++ (c.link, price_for c (rise_in slots c.child)) ∷ []
priced_push [] c slots = refl
priced_push (d ∷ children) c slots =
    let Q : ℤ → OpenLink × ℤ = λ y. (d.link, y) in
    ap (λ s. Q (price_for d (rise_in s d.child)) ∷ priced_in (children ++ c ∷ []) slots) (children_push children c slots)
    ∙ ap (λ l. Q (price_for d (rise_in (with_children children (with_child c slots)) d.child)) ∷ l) (priced_push children c slots)

over_push : (priced : List (OpenLink × ℤ)) (q : OpenLink × ℤ) (y : ℤ) (k : ℕ) → price_over (priced ++ q ∷ []) y k ≡ price_over priced (cond (q.0.number == k) q.1 y) k
over_push [] q y k = refl
over_push (r ∷ priced) q y k = ap (λ z. cond (r.0.number == k) r.1 z) (over_push priced q y k)

-- one child more from the end
pub noted_more : (children rest : List ChildLink) (c : ChildLink) (slots after : List Slot) (price old new : ℤ) (k : ℕ) → children ≡ rest ++ c ∷ [] → after ≡ with_child c slots
    → price ≡ price_for c (rise_in slots c.child) → new ≡ cond (c.link.number == k) price old → price_over (priced_in rest after) new k ≡ price_over (priced_in children slots) old k
noted_more children rest c slots after price old new k e1 e2 e3 e4 =
    ap (λ s. price_over (priced_in rest s) new k) e2 ∙ (ap (λ y. price_over (priced_in rest (with_child c slots)) y k) (e4 ∙ ap (λ p. cond (c.link.number == k) p old) e3)
    ∙ (sym (over_push (priced_in rest (with_child c slots)) (c.link, price_for c (rise_in slots c.child)) old k)
    ∙ (ap (λ l. price_over l old k) (sym (priced_push rest c slots)) ∙ ap (λ l. price_over (priced_in l slots) old k) (sym e1))))

-- nothing over 0
pub over_none : (priced : List (OpenLink × ℤ)) (k : ℕ) → price_over priced (pos 0) k ≡ price_among priced k
over_none [] k = refl
over_none (q ∷ priced) k = ap (λ z. cond (q.0.number == k) q.1 z) (over_none priced k)

-- A price is noted in a table.

-- of a number that has a place
pub note_within : (prices : List ℤ) (i : ℕ) (y : ℤ) (k : ℕ) → i < length prices → price_noted (set prices i y) k ≡ cond (i == k) y (price_noted prices k)
note_within prices i y k within = by_test (i == k) refl
  where
    by_test : (b : Bool) → (i == k) ≡ b → get_or (set prices i y) k (pos 0) ≡ cond b y (get_or prices k (pos 0))
    by_test true e = ap (λ j. get_or (set prices i y) j (pos 0)) (sym (eqb-true i k e)) ∙ get_or-set_same prices i y (pos 0) within
    by_test false e = let ne : k ≢ i = λ is. true≢false (sym (eq-eqb i k (sym is)) ∙ e) in get_or-set_other prices i k y (pos 0) ne

-- of a number that has none
pub note_beyond : (prices : List ℤ) (i : ℕ) (y : ℤ) (k : ℕ) → length prices ≤ i → k < length prices → price_noted prices k ≡ cond (i == k) y (price_noted prices k)
note_beyond prices i y k beyond below = by_test (i == k) refl
  where
    by_test : (b : Bool) → (i == k) ≡ b → get_or prices k (pos 0) ≡ cond b y (get_or prices k (pos 0))
    by_test true e = absurd (omega (arith, beyond, below, eqb-true i k e))
    by_test false e = refl
