-- One more term in a table of a part's terms.
use Rattle.std.proofs.Common.{◌≡◌, ℕ, ◌+◌, ◌*◌, ◌<◌, ◌≤◌, Bool, true, false, cond, List, [], ◌∷◌, ◌++◌, length, take, get_or, refl, sym, ◌∙◌, ap, subst, arith, length-append}
use Rattle.std.proofs.lemmas.List.{get_or_append_left, take_more, map_push}
use Rattle.std.proofs.lemmas.List.Elements.{All-nil, All-push}
use Rattle.order_model.specs.declared.term.Term.{Term}
use Rattle.order_model.specs.declared.term.Term.TheVariants.{Side, Link, Apart}
use Rattle.order_model.specs.PartTerms.{terms_by_number, no_term}
use Rattle.order_check.specs.declared.slot.Slot.{Slot}
use Rattle.order_check.specs.declared.slot.PartTerm.{PartTerm}
use Rattle.order_check.specs.Slots.{slot_of, has_slot, noted, with_slots, slots_after, slots_of, StandsAt, HasEnds, plain_term}
use Rattle.order_check.specs.PartTables.{IsPartTable}

-- Slots that are noted keep their places.

pub stands_noted : (slots : List Slot) (place : ℕ) (k l : Slot) → StandsAt slots place k → StandsAt (noted slots l) place k
stands_noted slots place k l h = by_test (has_slot slots l)
  where
    by_test : (b : Bool) → StandsAt (cond b slots (slots ++ l ∷ [])) place k
    by_test true = h
    by_test false = record {
      within = omega (arith, h.within, length-append slots (l ∷ []));
      here = get_or_append_left slots (l ∷ []) k place h.within ∙ h.here;
    }

pub stands_with : (slots : List Slot) (place : ℕ) (k : Slot) (t : Term) → StandsAt slots place k → StandsAt (with_slots slots t) place k
stands_with slots place k (Side seg first second w) h = stands_noted slots place k (slot_of seg first second) h
stands_with slots place k (Link seg other flip a b w) h =
    stands_noted (noted slots (slot_of seg a b)) place k (slot_of other a b) (stands_noted slots place k (slot_of seg a b) h)
stands_with slots place k (Apart seg other a b w) h = h

pub ends_with : (slots : List Slot) (t u : Term) (here there : ℕ) → HasEnds slots t here there → HasEnds (with_slots slots u) t here there
ends_with slots (Side seg first second w) u here there h = stands_with slots here (slot_of seg first second) u h
ends_with slots (Link seg other flip a b w) u here there h = (stands_with slots here (slot_of seg a b) u h.0, stands_with slots there (slot_of other a b) u h.1)
ends_with slots (Apart seg other a b w) u here there h = tt

pub few_noted : (slots : List Slot) (k : Slot) → length (noted slots k) ≤ length slots + 1
few_noted slots k = by_test (has_slot slots k)
  where
    by_test : (b : Bool) → length (let l : List Slot = cond b slots (slots ++ k ∷ []) in l) ≤ length slots + 1
    by_test true = omega arith
    by_test false = omega (arith, length-append slots (k ∷ []))

few_with : (slots : List Slot) (t : Term) → length (with_slots slots t) ≤ length slots + 2
few_with slots (Side seg first second w) = omega (arith, few_noted slots (slot_of seg first second))
few_with slots (Link seg other flip a b w) =
    omega (arith, few_noted slots (slot_of seg a b), few_noted (noted slots (slot_of seg a b)) (slot_of other a b))
few_with slots (Apart seg other a b w) = omega arith

few_after : (slots : List Slot) (terms : List (ℕ × Term)) → length (slots_after slots terms) ≤ length slots + 2 * length terms
few_after slots [] = omega arith
few_after slots (t ∷ terms) = omega (arith, few_after (with_slots slots t.1) terms, few_with slots t.1)

pub few_slots : (terms : List (ℕ × Term)) → length (slots_of terms) ≤ 2 * length terms
few_slots terms = omega (arith, few_after [] terms)

after_push : (slots : List Slot) (terms : List (ℕ × Term)) (t : ℕ × Term) → slots_after slots (terms ++ t ∷ []) ≡ with_slots (slots_after slots terms) t.1
after_push slots [] t = refl
after_push slots (u ∷ terms) t = after_push (with_slots slots u.1) terms t

-- The table, term by term.

pub table_none : IsPartTable [] [] []
table_none = record { listed = refl; are_slots = refl; ends = All-nil (λ (t : PartTerm). HasEnds [] t.term t.here t.there) }

pub table_more : (terms : List (ℕ × Term)) (table after : List PartTerm) (slots fresh : List Slot) (t : ℕ × Term) (e : PartTerm) → IsPartTable terms table slots
    → plain_term e ≡ t → fresh ≡ with_slots slots t.1 → HasEnds fresh e.term e.here e.there → after ≡ table ++ e ∷ [] → IsPartTable (terms ++ t ∷ []) after fresh
table_more terms table after slots fresh t e ok plain grown ends pushed =
    subst (λ es. IsPartTable (terms ++ t ∷ []) es fresh) (sym pushed) (record {
      listed = map_push plain_term table e ∙ ap (λ l. l ++ plain_term e ∷ []) ok.listed ∙ ap (λ q. terms ++ q ∷ []) plain;
      are_slots = grown ∙ ap (λ l. with_slots l t.1) ok.are_slots ∙ sym (after_push [] terms t);
      ends = All-push (λ (u : PartTerm). HasEnds fresh u.term u.here u.there) table e
          (λ k d below. subst (λ l. HasEnds l (get_or table k d).term (get_or table k d).here (get_or table k d).there) (sym grown)
          (ends_with slots (get_or table k d).term t.1 (get_or table k d).here (get_or table k d).there (ok.ends k d below)))
          ends;
    })

-- the terms of these numbers, after one number more
pub numbers_more : (terms : List Term) (numbers : List ℕ) (i : ℕ) (n : ℕ) → i < length numbers → n ≡ get_or numbers i 0
    → terms_by_number terms (take (i + 1) numbers) ≡ terms_by_number terms (take i numbers) ++ (n, get_or terms n no_term) ∷ []
numbers_more terms numbers i n below is =
    ap (terms_by_number terms) (take_more numbers i 0 below) ∙ map_push (λ m. (m, get_or terms m no_term)) (take i numbers) (get_or numbers i 0)
    ∙ ap (λ m. terms_by_number terms (take i numbers) ++ (m, get_or terms m no_term) ∷ []) (sym is)
