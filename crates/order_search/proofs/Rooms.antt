-- How much room a prefix leaves.
use Rattle.std.proofs.Common.{◌≡◌, ℕ, ◌<◌, ◌≤◌, ◌==◌, ◌||◌, Bool, true, false, cond, List, [], ◌∷◌, length, set, get_or, refl, sym, ◌∙◌, ap, subst, arith, inl, inr, true≢false, eqb-true, eq-eqb, Some, None}
use Rattle.std.specs.List.{find, sum_by}
use Rattle.std.proofs.lemmas.Bool.{ltb-true}
use Rattle.std.proofs.lemmas.List.{get_or-set_same, get_or-set_other}
use Rattle.std.proofs.lemmas.List.Sums.{sum_by-cons}
use Rattle.map_base.specs.declared.ids.SegId.{SegId}
use Rattle.map_base.specs.declared.ids.LineId.{LineId}
use Rattle.part_bounds.proofs.Restored.{longer}
use Rattle.order_model.specs.Problems.{lines_on}
use Rattle.order_model.specs.Prefixes.{with_line}
use Rattle.order_model.specs.PartTerms.{is_in}
use Rattle.order_model.specs.Completions.{placed_more}
use Rattle.order_model.proofs.Lines.{either_true}
use Rattle.order_bound.proofs.Sound.{same_or_other}
use Rattle.order_search.specs.Left.{is_open, first_open, left_on, room_of}

-- What is found in a part.

some_seg : (s t : SegId) → Some s ≡ Some t → s ≡ t
some_seg s t h = cc

pub none_is_some : (s : SegId) → None ≡ Some s → ⊥
none_is_some s h = cc

pub found_in : (p : SegId → Bool) (part : List SegId) (s : SegId) → find p part ≡ Some s → (p s ≡ true) × (is_in part s ≡ true)
found_in p [] s h = absurd (none_is_some s h)
found_in p (t ∷ part) s h = by_test (p t) refl h (found_in p part s)
  where
    has_later : (a b : Bool) → b ≡ true → (a || b) ≡ true
    has_later true b h = refl
    has_later false b h = h

    by_test : (b : Bool) → p t ≡ b → cond b (Some t) (find p part) ≡ Some s
        → (find p part ≡ Some s → (p s ≡ true) × (is_in part s ≡ true)) → (p s ≡ true) × (((t.0 == s.0) || is_in part s) ≡ true)
    by_test true e is rest =
        let one : t ≡ s = some_seg t s is in
        (subst (λ u. p u ≡ true) one e, rw (eq-eqb t.0 s.0 (ap (λ (u : SegId). u.0) one)) refl)
    by_test false e is rest = let later = rest is in (later.0, has_later (t.0 == s.0) (is_in part s) later.1)

pub none_in : (p : SegId → Bool) (part : List SegId) (s : SegId) → find p part ≡ None → is_in part s ≡ true → p s ≡ false
none_in p [] s h in_part = absurd (true≢false (sym in_part))
none_in p (t ∷ part) s h in_part = by_test (p t) refl h (none_in p part s)
  where
    some_is_none : (t : SegId) → Some t ≡ None → ⊥
    some_is_none t h = cc

    by_test : (b : Bool) → p t ≡ b → cond b (Some t) (find p part) ≡ None → (find p part ≡ None → is_in part s ≡ true → p s ≡ false) → p s ≡ false
    by_test true e is rest = absurd (some_is_none t is)
    by_test false e is rest = elim (either_true (t.0 == s.0) (is_in part s) in_part) [
      | inl here ↦ (let P : ℕ → SegId = λ n. record { 0 = n } in subst (λ u. p u ≡ false) (ap P (eqb-true t.0 s.0 here)) e)
      | inr later ↦ rest is later
    ]

-- Placing a line takes room.

pub left_after : (segs placed : List (List LineId)) (s : SegId) (a : LineId) (u : SegId) → s.0 < length placed → left_on segs (placed_more segs placed s a) u ≤ left_on segs placed u
left_after segs placed s a u known = elim (same_or_other u.0 s.0) [
  | inl e ↦ (let here : lines_on (placed_more segs placed s a) u ≡ with_line (lines_on segs s) (lines_on placed s) a =
      ap (λ n. get_or (set placed s.0 (with_line (lines_on segs s) (lines_on placed s) a)) n []) e ∙ get_or-set_same placed s.0 (with_line (lines_on segs s) (lines_on placed s) a) [] known in
      let was : lines_on placed u ≡ lines_on placed s = ap (λ n. get_or placed n []) e in
      omega (arith, ap length here, ap length was, longer (lines_on segs s) (lines_on placed s) a))
  | inr n ↦ (let other : lines_on (placed_more segs placed s a) u ≡ lines_on placed u = get_or-set_other placed s.0 u.0 (with_line (lines_on segs s) (lines_on placed s) a) [] n in
      omega (arith, ap length other))
]

left_there : (segs placed : List (List LineId)) (s : SegId) (a : LineId) → s.0 < length placed → is_open segs placed s ≡ true
    → left_on segs (placed_more segs placed s a) s < left_on segs placed s
left_there segs placed s a known open_here =
    let here : lines_on (placed_more segs placed s a) s ≡ with_line (lines_on segs s) (lines_on placed s) a =
    get_or-set_same placed s.0 (with_line (lines_on segs s) (lines_on placed s) a) [] known in
    omega (arith, ap length here, longer (lines_on segs s) (lines_on placed s) a, ltb-true (length (lines_on placed s)) (length (lines_on segs s)) open_here)

pub sum_least : (f g : SegId → ℕ) (part : List SegId) → ((u : SegId) → g u ≤ f u) → sum_by g part ≤ sum_by f part
sum_least f g [] each = omega arith
sum_least f g (t ∷ part) each = omega (arith, each t, sum_least f g part each, sum_by-cons f t part, sum_by-cons g t part)

pub sum_falls : (f g : SegId → ℕ) (part : List SegId) (s : SegId) → ((u : SegId) → g u ≤ f u) → is_in part s ≡ true → g s < f s → sum_by g part < sum_by f part
sum_falls f g [] s each h less = absurd (true≢false (sym h))
sum_falls f g (t ∷ part) s each h less = elim (either_true (t.0 == s.0) (is_in part s) h) [
  | inl here ↦ (let P : ℕ → SegId = λ n. record { 0 = n } in
      let one : s ≡ t = sym (ap P (eqb-true t.0 s.0 here)) in
      omega (arith, subst (λ u. g u < f u) one less, sum_least f g part each, sum_by-cons f t part, sum_by-cons g t part))
  | inr later ↦ omega (arith, each t, sum_falls f g part s each later less, sum_by-cons f t part, sum_by-cons g t part)
]

pub room_falls : (segs : List (List LineId)) (part : List SegId) (placed : List (List LineId)) (s : SegId) (a : LineId) → s.0 < length placed
    → is_in part s ≡ true → is_open segs placed s ≡ true → room_of segs part (placed_more segs placed s a) < room_of segs part placed
room_falls segs part placed s a known in_part open_here =
    sum_falls (left_on segs placed) (left_on segs (placed_more segs placed s a)) part s (λ u. left_after segs placed s a u known) in_part (left_there segs placed s a known open_here)

-- without room no segment is open
pub no_room : (segs : List (List LineId)) (part : List SegId) (placed : List (List LineId)) → room_of segs part placed ≡ 0 → first_open segs part placed ≡ None
no_room segs [] placed h = refl
no_room segs (t ∷ part) placed h = by_test (is_open segs placed t) refl (no_room segs part placed (omega (arith, h, sum_by-cons (left_on segs placed) t part)))
  where
    by_test : (b : Bool) → is_open segs placed t ≡ b → first_open segs part placed ≡ None → cond b (Some t) (first_open segs part placed) ≡ None
    by_test false e rest = rest
    by_test true e rest =
        absurd (omega (arith, ltb-true (length (lines_on placed t)) (length (lines_on segs t)) e, h, sum_by-cons (left_on segs placed) t part))

pub no_room_shut : (segs : List (List LineId)) (part : List SegId) (placed : List (List LineId)) → room_of segs part placed ≤ 0 → first_open segs part placed ≡ None
no_room_shut segs part placed h = no_room segs part placed (omega (arith, h))
