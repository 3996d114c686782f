-- Where the part of each label stands, while segments are gathered.
use Rattle.std.proofs.Common.{◌≡◌, ◌≢◌, ℕ, zero, suc, ◌+◌, ◌<◌, ◌==◌, Bool, true, false, cond, List, [], ◌∷◌, ◌++◌, length, map, set, get_or, refl, sym, ◌∙◌, ap, arith, inl, inr, ◌⊎◌, true≢false, eqb-true, eq-eqb, length-append}
use Rattle.std.proofs.lemmas.Bool.{eqb-false, cases_lt}
use Rattle.std.proofs.lemmas.List.{get_or-map, length-map, map-set, get_or_append_left, length-set, get_or-set_same, get_or-set_other}
use Rattle.map_base.specs.declared.ids.SegId.{SegId}
use Rattle.map_base.specs.declared.ids.LineId.{LineId}
use Rattle.order_model.specs.Parts.{least_of, is_wide}
use Rattle.std.specs.Prelude.{Vec}
use Rattle.std.specs.Global.{Global}
use Rattle.order_model.specs.Gathering.{part_lists, added, with_member, with_place, after_segment, places_after, IsOnlyAt, ArePlaced, AreGatherable}

map_unchanged : {X : Type 0} (f : X → X) (xs : List X) → ((j : ℕ) (d : X) → j < length xs → f (get_or xs j d) ≡ get_or xs j d) → map f xs ≡ xs
map_unchanged f [] h = refl
map_unchanged f (x ∷ xs) h =
    let rest = map_unchanged f xs (λ j d below. h (suc j) d (omega arith)) in
    let here : f x ≡ x = h 0 x (omega arith) in cc

-- a write of what f gives at the one place that f changes is f of each
pub set_as_map : {X : Type 0} (f : X → X) (xs : List X) (i : ℕ) (d : X) → i < length xs
    → ((j : ℕ) (e : X) → j < length xs → j ≢ i → f (get_or xs j e) ≡ get_or xs j e) → set xs i (f (get_or xs i d)) ≡ map f xs
set_as_map f [] i d below h = absurd (omega arith)
set_as_map f (x ∷ xs) zero d below h =
    let rest = map_unchanged f xs (λ j e under. h (suc j) e (omega arith) (λ same. omega (arith, same))) in cc
set_as_map f (x ∷ xs) (suc i) d below h =
    let rest = set_as_map f xs i d (omega arith) (λ j e under differ. h (suc j) e (omega arith) (λ same. differ (omega (arith, same)))) in
    let here : f x ≡ x = h 0 x (omega arith) (λ same. omega (arith, same)) in cc

added_here : (label s : ℕ) (p : List SegId) → least_of p ≡ label → added label s p ≡ p ++ record { 0 = s } ∷ []
added_here label s p h = rw (eq-eqb (least_of p) label h) refl

added_elsewhere : (label s : ℕ) (p : List SegId) → least_of p ≢ label → added label s p ≡ p
added_elsewhere label s p h = by_test (least_of p == label) refl
  where
    by_test : (b : Bool) → (least_of p == label) ≡ b → cond b (p ++ record { 0 = s } ∷ []) p ≡ p
    by_test true e = absurd (h (eqb-true (least_of p) label e))
    by_test false e = refl

default_is_nothing : (ps : List (List SegId)) (j : ℕ) (e : List SegId) → j < length ps → get_or ps j e ≡ get_or ps j []
default_is_nothing [] j e below = absurd (omega arith)
default_is_nothing (p ∷ ps) zero e below = refl
default_is_nothing (p ∷ ps) (suc j) e below = default_is_nothing ps j e (omega arith)

pub member_joins : (parts : List (List SegId)) (place label s : ℕ) → IsOnlyAt parts place label
    → set parts place (get_or parts place [] ++ record { 0 = s } ∷ []) ≡ map (added label s) parts
member_joins parts place label s only =
    ap (λ p. set parts place p) (sym (added_here label s (get_or parts place []) only.here))
    ∙ set_as_map (added label s) parts place [] only.known
    (λ j e below differ. let same = default_is_nothing parts j e below in
    added_elsewhere label s (get_or parts j e) (λ is. only.alone j below differ (ap least_of (sym same) ∙ is)))

-- a segment more in one part
pub part_grown : (parts : List (Vec SegId Global)) (i : ℕ) (old grown : Vec SegId Global) (s : SegId) → i < length parts
    → get_or parts i old ≡ old → grown.items ≡ old.items ++ s ∷ []
    → part_lists (set parts i grown) ≡ set (part_lists parts) i (get_or (part_lists parts) i [] ++ s ∷ [])
part_grown parts i old grown s below is more =
    let here : get_or (part_lists parts) i [] ≡ old.items = get_or-map (λ (p : Vec SegId Global). p.items) parts i old [] below ∙ ap (λ (p : Vec SegId Global). p.items) is in
    map-set (λ (p : Vec SegId Global). p.items) parts i grown ∙ ap (set (part_lists parts) i) (more ∙ ap (λ xs. xs ++ s ∷ []) (sym here))

joins_other : (label s : ℕ) (parts : List (List SegId)) → label ≢ s → with_member label s parts ≡ map (added label s) parts
joins_other label s parts h = by_test (label == s) refl
  where
    by_test : (b : Bool) → (label == s) ≡ b → cond b (parts ++ (record { 0 = s } ∷ []) ∷ []) (map (added label s) parts) ≡ map (added label s) parts
    by_test true e = absurd (h (eqb-true label s e))
    by_test false e = refl

-- a segment that joined the part of its label
pub member_joined : (label s place at : ℕ) (parts : List (List SegId)) → label ≢ s → at ≡ place → IsOnlyAt parts place label
    → set parts at (get_or parts at [] ++ record { 0 = s } ∷ []) ≡ with_member label s parts
member_joined label s place at parts differ is only =
    ap (λ k. set parts k (get_or parts k [] ++ record { 0 = s } ∷ [])) is ∙ member_joins parts place label s only ∙ sym (joins_other label s parts differ)

pub only_at : (segs : List (List LineId)) (labels : List ℕ) (s : ℕ) (parts : List (List SegId)) (places : List ℕ) → AreGatherable segs labels
    → ArePlaced segs labels s parts places → s < length segs → is_wide segs s ≡ true → get_or labels s 0 ≢ s
    → IsOnlyAt parts (get_or places (get_or labels s 0) 0) (get_or labels s 0)
only_at segs labels s parts places ok placed known wide differ =
    let low = ok.lowest s known in
    let r = get_or labels s 0 in
    let found = placed.found r (omega (arith, low, differ)) (ok.wide s known wide) (ok.rooted s known) in
    record { known = found.0; here = found.1; alone = λ i below other is. other (sym (placed.at i below) ∙ ap (λ k. get_or places k 0) is) }

-- what stands at the end of a longer list
at_end : (ps : List (List SegId)) (p : List SegId) → get_or (ps ++ p ∷ []) (length ps) [] ≡ p
at_end [] p = refl
at_end (q ∷ ps) p = at_end ps p

last_or_earlier : (i n : ℕ) → i < n + 1 → (i ≡ n) ⊎ (i < n)
last_or_earlier i n h = elim (cases_lt i n) [ inl below ↦ inr below | inr above ↦ inl (omega arith) ]

placed_begin : (segs : List (List LineId)) (labels : List ℕ) (s : ℕ) (parts : List (List SegId)) (places : List ℕ)
    → ArePlaced segs labels s parts places → s < length segs
    → ArePlaced segs labels (s + 1) (parts ++ (record { 0 = s } ∷ []) ∷ []) (set places s (length parts))
placed_begin segs labels s parts places ok known =
    let here : SegId = record { 0 = s } in
    let grown : List (List SegId) = parts ++ (here ∷ []) ∷ [] in
    let written : get_or (set places s (length parts)) s 0 ≡ length parts = get_or-set_same places s (length parts) 0 (omega (arith, ok.each)) in
    let part : (i : ℕ) → i < length grown → ((i ≡ length parts) × (get_or grown i [] ≡ here ∷ [])) ⊎ ((i < length parts) × (get_or grown i [] ≡ get_or parts i [])) =
    λ i below. elim (last_or_earlier i (length parts) (omega (arith, length-append parts ((here ∷ []) ∷ []))))
    [ inl e ↦ inl (e, ap (λ k. get_or grown k []) e ∙ at_end parts (here ∷ [])) | inr b ↦ inr (b, get_or_append_left parts ((here ∷ []) ∷ []) [] i b) ] in
    record {
      each = length-set places s (length parts) ∙ ok.each;
      some = λ i below. elim (part i below) [ inl p ↦ rw p.1 (omega arith) | inr p ↦ rw p.1 (ok.some i p.0) ];
      at = λ i below. elim (part i below) [
        | inl p ↦ ap (λ q. get_or (set places s (length parts)) (least_of q) 0) p.1 ∙ written ∙ sym p.0
        | inr p ↦ (let low = ok.below i p.0 in
            ap (λ q. get_or (set places s (length parts)) (least_of q) 0) p.1
            ∙ get_or-set_other places s _ (length parts) 0 (λ e. omega (arith, e, low)) ∙ ok.at i p.0)
      ];
      below = λ i below. elim (part i below) [ inl p ↦ rw p.1 (omega arith) | inr p ↦ rw p.1 (omega (arith, ok.below i p.0)) ];
      found = λ r below wide root. elim (last_or_earlier r s below) [
        | inl e ↦ (let at : get_or (set places s (length parts)) r 0 ≡ length parts = ap (λ k. get_or (set places s (length parts)) k 0) e ∙ written in
            (omega (arith, at, length-append parts ((here ∷ []) ∷ [])), ap (λ k. least_of (get_or grown k [])) at ∙ ap least_of (at_end parts (here ∷ [])) ∙ sym e))
        | inr b ↦ (let at : get_or (set places s (length parts)) r 0 ≡ get_or places r 0 = get_or-set_other places s r (length parts) 0 (λ e. omega (arith, e, b)) in
            let old = ok.found r b wide root in (
              omega (arith, at, old.0, length-append parts ((here ∷ []) ∷ [])),
              ap (λ k. least_of (get_or grown k [])) at ∙ ap least_of (get_or_append_left parts ((here ∷ []) ∷ []) [] (get_or places r 0) old.0) ∙ old.1,
            ))
      ];
    }

least-append : (p : List SegId) (s : SegId) → 0 < length p → least_of (p ++ s ∷ []) ≡ least_of p
least-append [] s h = absurd (omega arith)
least-append (q ∷ p) s h = refl

added_keeps : (label s : ℕ) (p : List SegId) → 0 < length p → (least_of (added label s p) ≡ least_of p) × (0 < length (added label s p))
added_keeps label s p h =
    elim (least_of p == label) as (λ b. (least_of (cond b (p ++ record { 0 = s } ∷ []) p) ≡ least_of p) × (0 < length (cond b (p ++ record { 0 = s } ∷ []) p)))
    [ true ↦ (least-append p (record { 0 = s }) h, omega (arith, length-append p (record { 0 = s } ∷ []))) | false ↦ (refl, h) ]

placed_join : (segs : List (List LineId)) (labels : List ℕ) (s : ℕ) (parts : List (List SegId)) (places : List ℕ)
    → ArePlaced segs labels s parts places → get_or labels s 0 ≢ s
    → ArePlaced segs labels (s + 1) (map (added (get_or labels s 0) s) parts) places
placed_join segs labels s parts places ok differ =
    let label = get_or labels s 0 in
    let same_length : length (map (added label s) parts) ≡ length parts = length-map parts (added label s) in
    let part : (i : ℕ) → i < length parts → get_or (map (added label s) parts) i [] ≡ added label s (get_or parts i []) =
    λ i below. get_or-map (added label s) parts i [] [] below in
    let least : (i : ℕ) → i < length parts → least_of (get_or (map (added label s) parts) i []) ≡ least_of (get_or parts i []) =
    λ i below. ap least_of (part i below) ∙ (added_keeps label s (get_or parts i []) (ok.some i below)).0 in
    record {
      each = ok.each;
      some = λ i below. (let b : i < length parts = omega (arith, same_length) in rw (part i b) ((added_keeps label s (get_or parts i []) (ok.some i b)).1));
      at = λ i below. (let b : i < length parts = omega (arith, same_length) in ap (λ k. get_or places k 0) (least i b) ∙ ok.at i b);
      below = λ i below. (let b : i < length parts = omega (arith, same_length) in omega (arith, least i b, ok.below i b));
      found = λ r below wide root. elim (last_or_earlier r s below) [
        | inl e ↦ absurd (differ (ap (λ k. get_or labels k 0) (sym e) ∙ root ∙ e))
        | inr b ↦ (let old = ok.found r b wide root in (omega (arith, old.0, same_length), least (get_or places r 0) old.0 ∙ old.1))
      ];
    }

placed_skip : (segs : List (List LineId)) (labels : List ℕ) (s : ℕ) (parts : List (List SegId)) (places : List ℕ)
    → ArePlaced segs labels s parts places → is_wide segs s ≡ false → ArePlaced segs labels (s + 1) parts places
placed_skip segs labels s parts places ok narrow = record {
  each = ok.each;
  some = ok.some;
  at = ok.at;
  below = λ i below. omega (arith, ok.below i below);
  found = λ r below wide root. elim (last_or_earlier r s below) [
    | inl e ↦ absurd (true≢false (sym wide ∙ ap (is_wide segs) e ∙ narrow))
    | inr b ↦ ok.found r b wide root
  ];
}

placed_member : (segs : List (List LineId)) (labels : List ℕ) (s : ℕ) (parts : List (List SegId)) (places : List ℕ)
    → ArePlaced segs labels s parts places → s < length segs
    → ArePlaced segs labels (s + 1) (with_member (get_or labels s 0) s parts) (with_place (get_or labels s 0) s (length parts) places)
placed_member segs labels s parts places ok known = by_test (get_or labels s 0 == s) refl
  where
    by_test : (b : Bool) → (get_or labels s 0 == s) ≡ b
        → ArePlaced segs labels (s + 1) (cond b (parts ++ (record { 0 = s } ∷ []) ∷ []) (map (added (get_or labels s 0) s) parts)) (cond b (set places s (length parts)) places)
    by_test true e = placed_begin segs labels s parts places ok known
    by_test false e = placed_join segs labels s parts places ok (eqb-false (get_or labels s 0) s e)

pub placed_after : (segs : List (List LineId)) (labels : List ℕ) (s : ℕ) (parts : List (List SegId)) (places : List ℕ)
    → ArePlaced segs labels s parts places → s < length segs
    → ArePlaced segs labels (s + 1) (after_segment segs labels s parts) (places_after segs labels s (length parts) places)
placed_after segs labels s parts places ok known = by_test (is_wide segs s) refl
  where
    by_test : (b : Bool) → is_wide segs s ≡ b
        → ArePlaced segs labels (s + 1) (cond b (with_member (get_or labels s 0) s parts) parts) (cond b (with_place (get_or labels s 0) s (length parts) places) places)
    by_test true e = placed_member segs labels s parts places ok known
    by_test false e = placed_skip segs labels s parts places ok e

pub length-part_lists : (parts : List (Vec SegId Global)) → length (part_lists parts) ≡ length parts
length-part_lists parts = length-map parts (λ (p : Vec SegId Global). p.items)
