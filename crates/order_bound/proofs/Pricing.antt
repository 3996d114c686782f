-- The canonical prices of a forest of Links are worth what the best choice costs.
use Rattle.std.proofs.Common.{◌≡◌, ◌≢◌, ℕ, ◌==◌, Bool, true, false, not, cond, ◌||◌, List, [], ◌∷◌, refl, sym, ap, subst, ◌∙◌, inl, inr, arith, eqb-true, eq-eqb, true≢false}
use Rattle.std.specs.Prelude.{ℤ, pos, ◌+ℤ◌, ◌-ℤ◌}
use Rattle.std.specs.Int.{int_min}
use Rattle.std.specs.List.{AllByRecursion, list_any}
use Rattle.std.proofs.lemmas.Int.{ints, clamps}
use Rattle.std.proofs.lemmas.Bool.{or_left, or_right, or_parts}
use Rattle.map_base.specs.declared.ids.SegId.{SegId}
use Rattle.order_model.specs.Costs.{same_answer}
use Rattle.order_bound.specs.Pairs.{OpenLink}
use Rattle.order_bound.specs.Bounds.{Choice, link_cost, with_answer}
use Rattle.order_bound.specs.Values.{where_one, is_one, is_one_there, share, least_answer}
use Rattle.order_bound.specs.CanonicalPrices.{ChildLink, ends_at, cut_to, shares, rise_of, turned_by, price_for, priced}
use Rattle.order_bound.proofs.Cuts.{weight_if, cut_first, cut_other}
use Rattle.order_bound.proofs.Walks.{IsOwnLink, IsParentFirst}

-- what a price adds by a choice on both segments of a Link
abbrev pub paid : Choice → OpenLink → ℤ → ℤ
paid choice l y = where_one (is_one (choice l.seg)) (pos 0 -ℤ y) +ℤ where_one (is_one_there l (choice l.other)) y

-- the price pays exactly for the Link
abbrev pub PaysFor : Choice → OpenLink × ℤ → Type 0
PaysFor choice q = paid choice q.0 q.1 ≡ pos (link_cost choice q.0)

-- a choice is least on a segment
abbrev pub IsLeastOn : (SegId → Bool → ℤ) → Choice → SegId → Type 0
IsLeastOn cost choice s = cost s (choice s) ≡ least_answer (cost s)

-- what a child costs with the prices of those below it
abbrev pub below_cost : (SegId → Bool → ℕ) → List (OpenLink × ℤ) → SegId → Bool → ℤ
below_cost cost below s first = pos (cost s first) +ℤ shares below s first

-- The answer of one child.

same_segs : (a b : SegId) → a.0 ≢ b.0 → (a.0 == b.0) ≡ false
same_segs a b ne = by_test (a.0 == b.0) refl
  where
    by_test : (b' : Bool) → (a.0 == b.0) ≡ b' → b' ≡ false
    by_test true e = absurd (ne (eqb-true a.0 b.0 e))
    by_test false e = refl

same_seg : (a : SegId) → (a.0 == a.0) ≡ true
same_seg a = eq-eqb a.0 a.0 refl

least_of_two : (x y : ℤ) → int_min x y ≡ int_min y x
least_of_two x y = omega (arith, ints, clamps)

add_zero : (x : ℤ) → x +ℤ pos 0 ≡ x
add_zero x = omega (arith, ints)

zero_add : (x : ℤ) → pos 0 +ℤ x ≡ x
zero_add x = omega (arith, ints)

-- the child is the first segment of its Link
answer_first : (cost : Bool → ℤ) (w : ℕ) (flip there : Bool) (y : ℤ) → y ≡ cut_to w (rise_of cost)
    → (x : Bool) × (cost x +ℤ where_one (is_one x) (pos 0 -ℤ y) ≡ int_min (cost true +ℤ where_one (is_one true) (pos 0 -ℤ y)) (cost false +ℤ where_one (is_one false) (pos 0 -ℤ y)))
    × (where_one (is_one x) (pos 0 -ℤ y) +ℤ where_one (same_answer flip there) y ≡ pos (weight_if (same_answer flip (same_answer x there)) w))
answer_first cost w flip there y h =
    let cut = cut_first (cost true) (cost false) w (same_answer flip there) y h in
    (not cut.0, by_answer cut.0 cut.1, paid_by cut.0 flip there cut.2)
  where
    by_answer : (x : Bool) → cond x (cost false +ℤ (pos 0 -ℤ y)) (cost true) ≡ int_min (cost true) (cost false +ℤ (pos 0 -ℤ y))
        → cost (not x) +ℤ where_one (not (not x)) (pos 0 -ℤ y) ≡ int_min (cost true +ℤ pos 0) (cost false +ℤ (pos 0 -ℤ y))
    by_answer true e = e ∙ ap (λ k. int_min k (cost false +ℤ (pos 0 -ℤ y))) (sym (add_zero (cost true)))
    by_answer false e = add_zero (cost true) ∙ (e ∙ ap (λ k. int_min k (cost false +ℤ (pos 0 -ℤ y))) (sym (add_zero (cost true))))

    paid_by : (x flip there : Bool) → where_one x (pos 0 -ℤ y) +ℤ where_one (same_answer flip there) y ≡ pos (weight_if (same_answer (not x) (same_answer flip there)) w)
        → where_one (not (not x)) (pos 0 -ℤ y) +ℤ where_one (same_answer flip there) y ≡ pos (weight_if (same_answer flip (same_answer (not x) there)) w)
    paid_by true true true e = e
    paid_by true true false e = e
    paid_by true false true e = e
    paid_by true false false e = e
    paid_by false true true e = e
    paid_by false true false e = e
    paid_by false false true e = e
    paid_by false false false e = e

-- the child is the other segment of its Link
answer_other : (cost : Bool → ℤ) (w : ℕ) (flip here : Bool) (y : ℤ) → y ≡ pos 0 -ℤ cut_to w (turned_by flip (rise_of cost))
    → (x : Bool) × (cost x +ℤ where_one (same_answer flip x) y ≡ int_min (cost true +ℤ where_one (same_answer flip true) y) (cost false +ℤ where_one (same_answer flip false) y))
    × (where_one (is_one here) (pos 0 -ℤ y) +ℤ where_one (same_answer flip x) y ≡ pos (weight_if (same_answer flip (same_answer here x)) w))
answer_other cost w true here y h =
    let cut = cut_other (cost false) (cost true) w (not here) y (h ∙ ap (λ d. pos 0 -ℤ cut_to w d) turn) in
    (cut.0, by_answer cut.0 cut.1, paid_by cut.0 here cut.2)
  where
    turn : pos 0 -ℤ (cost false -ℤ cost true) ≡ cost true -ℤ cost false
    turn = omega (arith, ints)

    by_answer : (z : Bool) → cond z (cost true +ℤ y) (cost false) ≡ int_min (cost false) (cost true +ℤ y)
        → cost z +ℤ where_one z y ≡ int_min (cost true +ℤ y) (cost false +ℤ pos 0)
    by_answer true e = e ∙ (least_of_two (cost false) (cost true +ℤ y) ∙ ap (λ k. int_min (cost true +ℤ y) k) (sym (add_zero (cost false))))
    by_answer false e = add_zero (cost false) ∙ (e ∙ (least_of_two (cost false) (cost true +ℤ y) ∙ ap (λ k. int_min (cost true +ℤ y) k) (sym (add_zero (cost false)))))

    paid_by : (z here : Bool) → where_one (not here) (pos 0 -ℤ y) +ℤ where_one z y ≡ pos (weight_if (same_answer (not (not here)) z) w)
        → where_one (not here) (pos 0 -ℤ y) +ℤ where_one z y ≡ pos (weight_if (same_answer here z) w)
    paid_by z true e = e
    paid_by z false e = e
answer_other cost w false here y h =
    let cut = cut_other (cost true) (cost false) w (not here) y h in
    (not cut.0, by_answer cut.0 cut.1, paid_by cut.0 here cut.2)
  where
    by_answer : (z : Bool) → cond z (cost false +ℤ y) (cost true) ≡ int_min (cost true) (cost false +ℤ y)
        → cost (not z) +ℤ where_one (not (not z)) y ≡ int_min (cost true +ℤ pos 0) (cost false +ℤ y)
    by_answer true e = e ∙ ap (λ k. int_min k (cost false +ℤ y)) (sym (add_zero (cost true)))
    by_answer false e = add_zero (cost true) ∙ (e ∙ ap (λ k. int_min k (cost false +ℤ y)) (sym (add_zero (cost true))))

    paid_by : (z here : Bool) → where_one (not here) (pos 0 -ℤ y) +ℤ where_one z y ≡ pos (weight_if (same_answer (not (not here)) z) w)
        → where_one (not here) (pos 0 -ℤ y) +ℤ where_one (not (not z)) y ≡ pos (weight_if (not (same_answer here (not z))) w)
    paid_by true true e = e
    paid_by true false e = e
    paid_by false true e = e
    paid_by false false e = e

-- the answers of both segments of a Link, for which a price pays
abbrev Pays : Bool → Bool → OpenLink → ℤ → Type 0
Pays here there l y =
    where_one (is_one here) (pos 0 -ℤ y) +ℤ where_one (is_one_there l there) y ≡ pos (weight_if (same_answer l.flip (same_answer here there)) l.weight)

pays_at : (choice : Choice) (l : OpenLink) (y : ℤ) (here there : Bool) → choice l.seg ≡ here → choice l.other ≡ there → Pays here there l y → PaysFor choice (l, y)
pays_at choice l y here there e f h = subst (λ b. Pays b (choice l.other) l y) (sym e) (subst (λ b. Pays here b l y) (sym f) h)

share_none : (y : ℤ) (l : OpenLink) (s : SegId) (x : Bool) → ends_at s l ≡ false → share y l s x ≡ pos 0
share_none y l s x h = let parts = or_parts (l.seg.0 == s.0) (l.other.0 == s.0) h in rw (parts.0, parts.1) refl

share_first : (y : ℤ) (l : OpenLink) (x : Bool) → l.seg.0 ≢ l.other.0 → share y l l.seg x ≡ where_one (is_one x) (pos 0 -ℤ y)
share_first y l x ne =
    let here = same_seg l.seg in
    let there = same_segs l.other l.seg (λ e. ne (sym e)) in
    rw (here, there) (add_zero (where_one (is_one x) (pos 0 -ℤ y)))

share_other : (y : ℤ) (l : OpenLink) (x : Bool) → l.seg.0 ≢ l.other.0 → share y l l.other x ≡ where_one (is_one_there l x) y
share_other y l x ne =
    let here = same_segs l.seg l.other ne in
    let there = same_seg l.other in
    rw (here, there) (zero_add (where_one (is_one_there l x) y))

price_first : (l : OpenLink) (d : ℤ) → price_for (record { child = l.seg; link = l }) d ≡ cut_to l.weight d
price_first l d = let here = same_seg l.seg in rw here refl

price_other : (l : OpenLink) (d : ℤ) → l.seg.0 ≢ l.other.0 → price_for (record { child = l.other; link = l }) d ≡ pos 0 -ℤ cut_to l.weight (turned_by l.flip d)
price_other l d ne = let here = same_segs l.seg l.other ne in rw here refl

-- what a child costs with its share of the price of its Link
abbrev child_cost : (Bool → ℤ) → ℤ → OpenLink → SegId → Bool → ℤ
child_cost cost y l child x = cost x +ℤ share y l child x

answer_at : (choice : Choice) (s : SegId) (x : Bool) → with_answer choice s x s ≡ x
answer_at choice s x = let here = same_seg s in rw here refl

answer_elsewhere : (choice : Choice) (s t : SegId) (x : Bool) → (t.0 == s.0) ≡ false → with_answer choice s x t ≡ choice t
answer_elsewhere choice s t x h = rw h refl

-- the child has an answer that is least for it and for which the price pays, whatever its parent's is
abbrev ChildAnswer : (Bool → ℤ) → ℤ → OpenLink → Choice → SegId → Type 0
ChildAnswer cost y l choice child =
    (x : Bool) × (child_cost cost y l child x ≡ int_min (child_cost cost y l child true) (child_cost cost y l child false)) × PaysFor (with_answer choice child x) (l, y)

first_answer : (cost : Bool → ℤ) (l : OpenLink) (choice : Choice) (y : ℤ) → l.seg.0 ≢ l.other.0 → y ≡ price_for (record { child = l.seg; link = l }) (rise_of cost)
    → ChildAnswer cost y l choice l.seg
first_answer cost l choice y ne h =
    let found = answer_first cost l.weight l.flip (choice l.other) y (h ∙ price_first l (rise_of cost)) in (
      found.0,
      ap (λ k. cost found.0 +ℤ k) (share_first y l found.0 ne) ∙ (found.1
          ∙ sym (ap (λ k. int_min (cost true +ℤ k) (cost false +ℤ share y l l.seg false)) (share_first y l true ne) ∙ ap (λ k. int_min (cost true +ℤ where_one (is_one true) (pos 0 -ℤ y)) (cost false +ℤ k)) (share_first y l false ne))),
      pays_at (with_answer choice l.seg found.0) l y found.0 (choice l.other) (answer_at choice l.seg found.0)
          (answer_elsewhere choice l.seg l.other found.0 (same_segs l.other l.seg (λ e. ne (sym e)))) found.2,
    )

other_answer : (cost : Bool → ℤ) (l : OpenLink) (choice : Choice) (y : ℤ) → l.seg.0 ≢ l.other.0 → y ≡ price_for (record { child = l.other; link = l }) (rise_of cost)
    → ChildAnswer cost y l choice l.other
other_answer cost l choice y ne h =
    let found = answer_other cost l.weight l.flip (choice l.seg) y (h ∙ price_other l (rise_of cost) ne) in (
      found.0,
      ap (λ k. cost found.0 +ℤ k) (share_other y l found.0 ne) ∙ (found.1
          ∙ sym (ap (λ k. int_min (cost true +ℤ k) (cost false +ℤ share y l l.other false)) (share_other y l true ne) ∙ ap (λ k. int_min (cost true +ℤ where_one (is_one_there l true) y) (cost false +ℤ k)) (share_other y l false ne))),
      pays_at (with_answer choice l.other found.0) l y (choice l.seg) found.0
          (answer_elsewhere choice l.other l.seg found.0 (same_segs l.seg l.other ne)) (answer_at choice l.other found.0) found.2,
    )

child_answer : (cost : SegId → Bool → ℤ) (c : ChildLink) (choice : Choice) → IsOwnLink c
    → ChildAnswer (cost c.child) (price_for c (rise_of (cost c.child))) c.link choice c.child
child_answer cost c choice own = elim own.1 [
  | inl e ↦ subst (λ (s : SegId). ChildAnswer (cost s) (price_for (record { child = s; link = c.link }) (rise_of (cost s))) c.link choice s) (sym e)
      (first_answer (cost c.link.seg) c.link choice (price_for (record { child = c.link.seg; link = c.link }) (rise_of (cost c.link.seg))) own.0 refl)
  | inr e ↦ subst (λ (s : SegId). ChildAnswer (cost s) (price_for (record { child = s; link = c.link }) (rise_of (cost s))) c.link choice s) (sym e)
      (other_answer (cost c.link.other) c.link choice (price_for (record { child = c.link.other; link = c.link }) (rise_of (cost c.link.other))) own.0 refl)
]

-- The answers of all children, parents first.

-- a segment is a child
abbrev pub is_child : SegId → List ChildLink → Bool
is_child s children = list_any (λ (c : ChildLink). s.0 == c.child.0) children

-- each child costs what it does with the prices below it and that of its own Link
abbrev Agrees : (SegId → Bool → ℤ) → (SegId → Bool → ℕ) → List ChildLink → Type 0
Agrees full cost [] = Unit {0}
Agrees full cost (c ∷ later) =
    ((x : Bool) → full c.child x ≡ child_cost (below_cost cost (priced cost later) c.child) (price_for c (rise_of (below_cost cost (priced cost later) c.child))) c.link c.child x)
    × Agrees full cost later

no_child : (s : SegId) (l : OpenLink) (later : List ChildLink) → ends_at s l ≡ true → AllByRecursion (λ (d : ChildLink). ends_at d.child l ≡ false) later → is_child s later ≡ false
no_child s l [] h free = refl
no_child s l (d ∷ later) h free = by_test (s.0 == d.child.0) refl (no_child s l later h free.1)
  where
    by_test : (b : Bool) → (s.0 == d.child.0) ≡ b → is_child s later ≡ false → (b || is_child s later) ≡ false
    by_test true e rest =
        let P : ℕ → SegId = λ n. record { 0 = n } in
        absurd (true≢false (sym h ∙ (ap (λ u. ends_at u l) (ap P (eqb-true s.0 d.child.0 e)) ∙ free.0)))
    by_test false e rest = rest

pub assigned : (full : SegId → Bool → ℤ) (cost : SegId → Bool → ℕ) (children : List ChildLink) → IsParentFirst children → Agrees full cost children → (start : Choice)
    → (choice : Choice) × AllByRecursion (PaysFor choice) (priced cost children) × AllByRecursion (λ (c : ChildLink). IsLeastOn full choice c.child) children
    × ((s : SegId) → is_child s children ≡ false → choice s ≡ start s)
assigned full cost [] first agrees start = (start, tt, tt, λ s h. refl)
assigned full cost (c ∷ later) first agrees start =
    let below : SegId → Bool → ℤ = below_cost cost (priced cost later) in
    let y : ℤ = price_for c (rise_of (below c.child)) in
    let found = child_answer below c start first.0 in
    let next : Choice = with_answer start c.child found.0 in
    let rest = assigned full cost later first.2 agrees.1 next in
    let choice : Choice = rest.0 in
    let child_ends : ends_at c.child c.link ≡ true = elim first.0.1 [
      | inl e ↦ ap (λ (s : SegId). ends_at s c.link) e ∙ or_left (c.link.seg.0 == c.link.seg.0) (c.link.other.0 == c.link.seg.0) (same_seg c.link.seg)
      | inr e ↦ ap (λ (s : SegId). ends_at s c.link) e ∙ or_right (c.link.seg.0 == c.link.other.0) (c.link.other.0 == c.link.other.0) (same_seg c.link.other)
    ] in
    let at_child : choice c.child ≡ found.0 = rest.3 c.child (no_child c.child c.link later child_ends first.1) ∙ answer_at start c.child found.0 in
    let at_seg : choice c.link.seg ≡ next c.link.seg = rest.3 c.link.seg (no_child c.link.seg c.link later (or_left (c.link.seg.0 == c.link.seg.0) (c.link.other.0 == c.link.seg.0) (same_seg c.link.seg)) first.1) in
    let at_other : choice c.link.other ≡ next c.link.other = rest.3 c.link.other (no_child c.link.other c.link later (or_right (c.link.seg.0 == c.link.other.0) (c.link.other.0 == c.link.other.0) (same_seg c.link.other)) first.1) in (
      choice,
      (pays_at choice c.link y (next c.link.seg) (next c.link.other) at_seg at_other found.2, rest.1),
      (ap (full c.child) at_child ∙ (agrees.0 found.0 ∙ (found.1 ∙ sym (ap (λ k. int_min k (full c.child false)) (agrees.0 true) ∙ ap (λ k. int_min (child_cost (below c.child) y c.link c.child true) k) (agrees.0 false)))), rest.2),
      λ s h.
          let parts = or_parts (s.0 == c.child.0) (is_child s later) h in
          rest.3 s parts.1 ∙ answer_elsewhere start c.child s found.0 parts.0,
    )

pub agree_from : (full : SegId → Bool → ℤ) (cost : SegId → Bool → ℕ) (children : List ChildLink) → IsParentFirst children
    → AllByRecursion (λ (d : ChildLink). (x : Bool) → full d.child x ≡ below_cost cost (priced cost children) d.child x) children → Agrees full cost children
agree_from full cost [] first h = tt
agree_from full cost (c ∷ later) first h = (
  λ x. h.0 x ∙ moved (pos (cost c.child x)) (share (price_for c (rise_of (below_cost cost (priced cost later) c.child))) c.link c.child x) (shares (priced cost later) c.child x),
  agree_from full cost later first.2 (dropped later first.1 h.1),
)
  where
    moved : (a b d : ℤ) → a +ℤ (b +ℤ d) ≡ (a +ℤ d) +ℤ b
    moved a b d = omega (arith, ints)

    dropped : (some : List ChildLink) → AllByRecursion (λ (d : ChildLink). ends_at d.child c.link ≡ false) some
        → AllByRecursion (λ (d : ChildLink). (x : Bool) → full d.child x ≡ below_cost cost (priced cost (c ∷ later)) d.child x) some
        → AllByRecursion (λ (d : ChildLink). (x : Bool) → full d.child x ≡ below_cost cost (priced cost later) d.child x) some
    dropped [] free h = tt
    dropped (d ∷ some) free h = (
      λ x. h.0 x ∙ (ap (λ k. pos (cost d.child x) +ℤ (k +ℤ shares (priced cost later) d.child x)) (share_none (price_for c (rise_of (below_cost cost (priced cost later) c.child))) c.link d.child x free.0)
          ∙ ap (λ k. pos (cost d.child x) +ℤ k) (zero_add (shares (priced cost later) d.child x))),
      dropped some free.1 h.1,
    )
