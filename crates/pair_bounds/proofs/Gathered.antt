-- The loop that gathers a pair's terms.
use Rattle.std.proofs.Common.{◌≡◌, ℕ, zero, suc, ◌+◌, ◌<◌, true, List, [], ◌∷◌, ◌++◌, length, take, get_or, refl, sym, ap, subst, ◌∙◌, arith}
use Rattle.std.specs.List.{All}
use Rattle.std.proofs.lemmas.List.{take_more}
use Rattle.map_base.specs.declared.ids.SegId.{SegId}
use Rattle.map_base.specs.declared.ids.LineId.{LineId}
use Rattle.order_model.specs.declared.term.Term.{Term}
use Rattle.order_model.specs.Problems.{IsTerm}
use Rattle.order_model.specs.PartTerms.{is_of}
use Rattle.pair_bounds.specs.declared.slots.Slot.{Slot}
use Rattle.pair_bounds.specs.declared.term_look.TermLook.{TermLook}
use Rattle.order_bound.specs.Pairs.{pair_in, open_segments}
use Rattle.order_bound.specs.declared.pairs.Pair.{Pair}
use Rattle.order_bound.specs.declared.pairs.OpenLink.{OpenLink}
use Rattle.pair_bounds.specs.TermLooks.{look_of, look_decided}
use Rattle.pair_bounds.specs.Slots.{IsCollected, slots_after, links_after}
use Rattle.order_bound.proofs.Bounding.{link_between}
use Rattle.pair_bounds.proofs.Collected.{gather_step}
use Rattle.pair_bounds.proofs.Mapped.{all_at}

none_taken : {A : Type 0} (ys : List A) → take 0 ys ≡ []
none_taken [] = refl
none_taken (y ∷ ys) = refl

pub take_front : {A : Type 0} (xs zs : List A) (n : ℕ) → length xs ≡ n → take n (xs ++ zs) ≡ xs
take_front [] zs zero h = none_taken zs
take_front [] zs (suc n) h = absurd (omega arith)
take_front (x ∷ xs) zs zero h = absurd (omega arith)
take_front (x ∷ xs) zs (suc n) h = ap (λ ys. x ∷ ys) (take_front xs zs n (omega arith))

-- one turn of the loop
pub gather_next : (segs placed : List (List LineId)) (part : List SegId) (p : Pair) (terms : List (ℕ × Term)) (i : ℕ) (d : ℕ × Term) (base base2 : ℕ) (slots now new slots2 : List Slot) (links links2 : List OpenLink) (look : TermLook)
    → IsCollected segs placed p (open_segments segs placed part p) (take i terms) base slots links → i < length terms
    → All (λ (t : ℕ × Term). IsTerm segs t.1) terms → All (λ (t : ℕ × Term). is_of part t.1 ≡ true) terms → All (λ (t : ℕ × Term). p ≡ pair_in t.1) terms
    → look ≡ look_of segs placed (get_or terms i d).0 (get_or terms i d).1 → base2 ≡ base + look_decided look → now ≡ slots → new ≡ slots_after look now → slots2 ≡ new → links2 ≡ links_after look now links
    → IsCollected segs placed p (open_segments segs placed part p) (take (i + 1) terms) base2 slots2 links2
gather_next segs placed part p terms i d base base2 slots now new slots2 links links2 look ok below known inside mine e1 e2 e3 e4 e5 e6 =
    let t : ℕ × Term = get_or terms i d in
    let at : IsTerm segs t.1 = all_at (λ (t : ℕ × Term). IsTerm segs t.1) terms i d known below in
    let step = gather_step segs placed p (open_segments segs placed part p) (take i terms) t base slots links ok at (all_at (λ (t : ℕ × Term). p ≡ pair_in t.1) terms i d mine below)
    (link_between segs placed part p t.0 t.1 at (all_at (λ (t : ℕ × Term). is_of part t.1 ≡ true) terms i d inside below)) in
    let P : List (ℕ × Term) → ℕ → List Slot → List OpenLink → Type 0 = λ done b s l. IsCollected segs placed p (open_segments segs placed part p) done b s l in
    subst (λ done. P done base2 slots2 links2) (sym (take_more terms i d below))
    (subst (λ b. P (take i terms ++ t ∷ []) b slots2 links2) (sym (e2 ∙ ap (λ k. base + look_decided k) e1))
    (subst (λ s. P (take i terms ++ t ∷ []) (base + look_decided (look_of segs placed t.0 t.1)) s links2) (sym (e5 ∙ (e4 ∙ (ap (slots_after look) e3 ∙ ap (λ k. slots_after k slots) e1))))
    (subst (λ l. P (take i terms ++ t ∷ []) (base + look_decided (look_of segs placed t.0 t.1)) (slots_after (look_of segs placed t.0 t.1) slots) l)
    (sym (e6 ∙ (ap (λ s. links_after look s links) e3 ∙ ap (λ k. links_after k slots links) e1))) step)))
