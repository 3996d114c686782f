-- A walk over the trees of Links takes each Link once, and each child after its parent.
use Rattle.std.proofs.Common.{◌≡◌, ◌≢◌, ℕ, zero, suc, ◌+◌, ◌==◌, Bool, true, false, not, cond, ◌||◌, List, [], ◌∷◌, ◌++◌, length, map, filter, refl, sym, ap, subst, ◌∙◌, ◌⊎◌, inl, inr, arith, eqb-true, eq-eqb, true≢false, append_assoc, length-append}
use Rattle.std.specs.Prelude.{ℤ, ◌+ℤ◌}
use Rattle.std.specs.List.{AllByRecursion, list_any}
use Rattle.std.proofs.lemmas.Bool.{or_left, or_right, or_cases, or_parts}
use Rattle.std.proofs.lemmas.List.{length-map}
use Rattle.std.proofs.lemmas.List.Folds.{list_any-append}
use Rattle.std.proofs.lemmas.List.Filters.{length-filter_both}
use Rattle.map_base.specs.declared.ids.SegId.{SegId}
use Rattle.order_model.specs.PartTerms.{is_in}
use Rattle.order_bound.specs.Pairs.{OpenLink, joined}
use Rattle.whole_sums.specs.Sums.{int_sum}
use Rattle.order_bound.specs.CanonicalPrices.{ChildLink, ends_at, far_end, child_link, walked}
use Rattle.order_bound.proofs.Lists.{each_weaker, each_append, filter_passes, any_filter, none_pass, not_passes, is_false}
use Rattle.whole_sums.proofs.Sums.{int_sum-append, int_sum-map, int_sum_parted}
use Rattle.order_bound.proofs.Forests.{IsForest, joined_coarser, ends_joined, forest_parted, labels_after, after_coarser, forest_after}

-- a child is an end of its Link, which has two
abbrev pub IsOwnLink : ChildLink → Type 0
IsOwnLink c = (c.link.seg.0 ≢ c.link.other.0) × ((c.child ≡ c.link.seg) ⊎ (c.child ≡ c.link.other))

-- no later child is an end of an earlier Link
abbrev pub IsParentFirst : List ChildLink → Type 0
IsParentFirst [] = Unit {0}
IsParentFirst (c ∷ later) = IsOwnLink c × AllByRecursion (λ (d : ChildLink). ends_at d.child c.link ≡ false) later × IsParentFirst later

seg_is : (a b : SegId) → (a.0 == b.0) ≡ true → a ≡ b
seg_is a b h = let P : ℕ → SegId = λ n. record { 0 = n } in ap P (eqb-true a.0 b.0 h)

-- an end of a Link, and the other
pub far_cases : (s : SegId) (l : OpenLink) → ends_at s l ≡ true → ((s ≡ l.seg) × (far_end s l ≡ l.other)) ⊎ ((s ≡ l.other) × (far_end s l ≡ l.seg))
far_cases s l h = by_test (l.seg.0 == s.0) refl h
  where
    by_test : (b : Bool) → (l.seg.0 == s.0) ≡ b → (b || (l.other.0 == s.0)) ≡ true → ((s ≡ l.seg) × (cond b l.other l.seg ≡ l.other)) ⊎ ((s ≡ l.other) × (cond b l.other l.seg ≡ l.seg))
    by_test true e h = inl (sym (seg_is l.seg s e), refl)
    by_test false e h = inr (sym (seg_is l.other s h), refl)

pub ends_cases : (s : SegId) (l : OpenLink) → ends_at s l ≡ true → (s ≡ l.seg) ⊎ (s ≡ l.other)
ends_cases s l h = elim (far_cases s l h) [ inl k ↦ inl k.0 | inr k ↦ inr k.0 ]

pub seg_ends : (l : OpenLink) → ends_at l.seg l ≡ true
seg_ends l = or_left (l.seg.0 == l.seg.0) (l.other.0 == l.seg.0) (eq-eqb l.seg.0 l.seg.0 refl)

pub other_ends : (l : OpenLink) → ends_at l.other l ≡ true
other_ends l = or_right (l.seg.0 == l.other.0) (l.other.0 == l.other.0) (eq-eqb l.other.0 l.other.0 refl)

far_ends : (s : SegId) (l : OpenLink) → ends_at s l ≡ true → ends_at (far_end s l) l ≡ true
far_ends s l h = elim (far_cases s l h) [
  | inl k ↦ rw k.1 (other_ends l)
  | inr k ↦ rw k.1 (seg_ends l)
]

-- the ends of a Link have one label once it has joined them
same_class : (label : ℕ → ℕ) (l : OpenLink) (u v : SegId) → ends_at u l ≡ true → ends_at v l ≡ true
    → joined label l.seg.0 l.other.0 u.0 ≡ joined label l.seg.0 l.other.0 v.0
same_class label l u v h k = elim (ends_cases u l h) [
  | inl e ↦ elim (ends_cases v l k) [
    | inl f ↦ ap (λ (t : SegId). joined label l.seg.0 l.other.0 t.0) (e ∙ sym f)
    | inr f ↦ ap (λ (t : SegId). joined label l.seg.0 l.other.0 t.0) e ∙ (ends_joined label l.seg.0 l.other.0 ∙ ap (λ (t : SegId). joined label l.seg.0 l.other.0 t.0) (sym f))
  ]
  | inr e ↦ elim (ends_cases v l k) [
    | inl f ↦ ap (λ (t : SegId). joined label l.seg.0 l.other.0 t.0) e ∙ (sym (ends_joined label l.seg.0 l.other.0) ∙ ap (λ (t : SegId). joined label l.seg.0 l.other.0 t.0) (sym f))
    | inr f ↦ ap (λ (t : SegId). joined label l.seg.0 l.other.0 t.0) (e ∙ sym f)
  ]
]

-- each Link's ends have one label in the end
after_same : (label : ℕ → ℕ) (links : List OpenLink)
    → AllByRecursion (λ l. (u v : SegId) → ends_at u l ≡ true → ends_at v l ≡ true → labels_after label links u.0 ≡ labels_after label links v.0) links
after_same label [] = tt
after_same label (l ∷ links) = (
  λ u v h k. after_coarser (joined label l.seg.0 l.other.0) links u.0 v.0 (same_class label l u v h k),
  after_same (joined label l.seg.0 l.other.0) links,
)

-- the far ends of the Links of a segment have its label in the end
far_labels : (s : SegId) (label : ℕ → ℕ) (some links : List OpenLink) → AllByRecursion (λ l. ends_at s l ≡ true) some
    → AllByRecursion (λ l. (u v : SegId) → ends_at u l ≡ true → ends_at v l ≡ true → labels_after label links u.0 ≡ labels_after label links v.0) some
    → AllByRecursion (λ (v : SegId). labels_after label links v.0 ≡ labels_after label links s.0) (map (far_end s) some)
far_labels s label [] links ends same = tt
far_labels s label (l ∷ some) links ends same = (same.0 (far_end s l) s (far_ends s l ends.0) ends.0, far_labels s label some links ends.1 same.1)

-- an end of a segment's Links that is another segment is a far end
is_far : (s v : SegId) (links : List OpenLink) → AllByRecursion (λ l. ends_at s l ≡ true) links → list_any (ends_at v) links ≡ true → (v ≡ s → ⊥)
    → is_in (map (far_end s) links) v ≡ true
is_far s v [] ends h ne = h
is_far s v (l ∷ links) ends h ne = elim (or_cases (ends_at v l) (list_any (ends_at v) links) h) [
  | inl here ↦ or_left ((far_end s l).0 == v.0) (is_in (map (far_end s) links) v) (eq-eqb (far_end s l).0 v.0 (ap (λ (t : SegId). t.0) (other_one s v l ends.0 here ne)))
  | inr later ↦ or_right ((far_end s l).0 == v.0) (is_in (map (far_end s) links) v) (is_far s v links ends.1 later ne)
]
  where
    other_one : (s v : SegId) (l : OpenLink) → ends_at s l ≡ true → ends_at v l ≡ true → (v ≡ s → ⊥) → far_end s l ≡ v
    other_one s v l h k ne = elim (far_cases s l h) [
      | inl e ↦ elim (ends_cases v l k) [ inl f ↦ absurd (ne (f ∙ sym e.0)) | inr f ↦ e.1 ∙ sym f ]
      | inr e ↦ elim (ends_cases v l k) [ inl f ↦ e.1 ∙ sym f | inr f ↦ absurd (ne (f ∙ sym e.0)) ]
    ]

-- The Links of one segment.

-- the labels of the ends of a Link that joins two classes
ends_differ : (label : ℕ → ℕ) (s : SegId) (l : OpenLink) → ends_at s l ≡ true → label l.seg.0 ≢ label l.other.0 → label (far_end s l).0 ≢ label s.0
ends_differ label s l h ne e = elim (far_cases s l h) [
  | inl k ↦ ne (ap (λ (t : SegId). label t.0) (sym k.0) ∙ (sym e ∙ ap (λ (t : SegId). label t.0) k.1))
  | inr k ↦ ne (ap (λ (t : SegId). label t.0) (sym k.1) ∙ (e ∙ ap (λ (t : SegId). label t.0) k.0))
]

own_link : (label : ℕ → ℕ) (s : SegId) (l : OpenLink) → ends_at s l ≡ true → label l.seg.0 ≢ label l.other.0 → IsOwnLink (child_link s l)
own_link label s l h ne = (
  λ e. ne (ap label e),
  elim (far_cases s l h) [ inl k ↦ inr k.1 | inr k ↦ inl k.1 ],
)

siblings : (s : SegId) (label : ℕ → ℕ) (links others earlier : List OpenLink) (later : List ChildLink)
    → AllByRecursion (λ l. ends_at s l ≡ true) links → IsForest label (links ++ others)
    → ((v : SegId) → list_any (ends_at v) earlier ≡ true → list_any (ends_at v) links ≡ true → label v.0 ≡ label s.0)
    → AllByRecursion (λ (d : ChildLink). list_any (ends_at d.child) links ≡ false) later → IsParentFirst later
    → AllByRecursion (λ (d : ChildLink). list_any (ends_at d.child) earlier ≡ false) (map (child_link s) links) × IsParentFirst (map (child_link s) links ++ later)
siblings s label [] others earlier later ends forest clash free first = (tt, first)
siblings s label (l ∷ links) others earlier later ends forest clash free first =
    let rest = siblings s (joined label l.seg.0 l.other.0) links others (l ∷ earlier) later ends.1 forest.1
    (λ v e t. elim (or_cases (ends_at v l) (list_any (ends_at v) earlier) e) [
      | inl here ↦ same_class label l v s here ends.0
      | inr before ↦ joined_coarser label l.seg.0 l.other.0 v.0 s.0 (clash v before (or_right (ends_at v l) (list_any (ends_at v) links) t))
    ])
    (each_weaker (λ (d : ChildLink). (ends_at d.child l || list_any (ends_at d.child) links) ≡ false) (λ (d : ChildLink). list_any (ends_at d.child) links ≡ false) later (λ d h. (or_parts (ends_at d.child l) (list_any (ends_at d.child) links) h).1) free)
    first in
    let f : SegId = far_end s l in (
      (
        is_false (list_any (ends_at f) earlier) (λ e. ends_differ label s l ends.0 forest.0 (clash f e (or_left (ends_at f l) (list_any (ends_at f) links) (far_ends s l ends.0)))),
        each_weaker (λ (d : ChildLink). (ends_at d.child l || list_any (ends_at d.child) earlier) ≡ false) (λ (d : ChildLink). list_any (ends_at d.child) earlier ≡ false) (map (child_link s) links)
            (λ d h. (or_parts (ends_at d.child l) (list_any (ends_at d.child) earlier) h).1) rest.0,
      ),
      (
        own_link label s l ends.0 forest.0,
        each_append (λ (d : ChildLink). ends_at d.child l ≡ false) (map (child_link s) links) later
            (each_weaker (λ (d : ChildLink). (ends_at d.child l || list_any (ends_at d.child) earlier) ≡ false) (λ (d : ChildLink). ends_at d.child l ≡ false) (map (child_link s) links)
            (λ d h. (or_parts (ends_at d.child l) (list_any (ends_at d.child) earlier) h).0) rest.0)
            (each_weaker (λ (d : ChildLink). (ends_at d.child l || list_any (ends_at d.child) links) ≡ false) (λ (d : ChildLink). ends_at d.child l ≡ false) later
            (λ d h. (or_parts (ends_at d.child l) (list_any (ends_at d.child) links) h).0) free),
        rest.1,
      ),
    )

-- The walk.

-- the Links that are left are a forest; the segments of the tree under way have one label; an end of an earlier Link that
-- has Links left is one of them
pub record IsWalking (label : ℕ → ℕ) (root : ℕ) (front : List SegId) (links earlier : List OpenLink) : Type 0 where
  pub forest : IsForest label links
  pub same : AllByRecursion (λ (v : SegId). label v.0 ≡ root) front
  pub active : (v : SegId) → list_any (ends_at v) earlier ≡ true → list_any (ends_at v) links ≡ true → is_in front v ≡ true

-- no child of the walk is an end of an earlier Link, in the walk too
abbrev pub WalksOn : List OpenLink → List ChildLink → Type 0
WalksOn earlier children = AllByRecursion (λ (d : ChildLink). list_any (ends_at d.child) earlier ≡ false) children × IsParentFirst children

-- what all of a list pass, a member passes
labels_in : (label : ℕ → ℕ) (root : ℕ) (front : List SegId) (v : SegId) → AllByRecursion (λ (v : SegId). label v.0 ≡ root) front → is_in front v ≡ true → label v.0 ≡ root
labels_in label root [] v h e = absurd (true≢false (sym e))
labels_in label root (s ∷ front) v h e = elim (or_cases (s.0 == v.0) (is_in front v) e) [
  | inl here ↦ ap label (sym (eqb-true s.0 v.0 here)) ∙ h.0
  | inr later ↦ labels_in label root front v h.1 later
]

none_left : (s v : SegId) (links : List OpenLink) → list_any (ends_at v) (filter (λ l. not (ends_at s l)) links) ≡ true → v ≡ s → ⊥
none_left s v links h e =
    none_pass (ends_at s) (filter (λ l. not (ends_at s l)) links)
    (each_weaker (λ l. not (ends_at s l) ≡ true) (λ l. ends_at s l ≡ false) (filter (λ l. not (ends_at s l)) links) (λ l k. not_passes (ends_at s l) k) (filter_passes (λ l. not (ends_at s l)) links))
    (subst (λ u. list_any (ends_at u) (filter (λ l. not (ends_at s l)) links) ≡ true) e h)

-- the next step of a walk
next_walking : (s : SegId) (tail : List SegId) (label : ℕ → ℕ) (links earlier : List OpenLink) → IsWalking label (label s.0) (s ∷ tail) links earlier
    → IsWalking (labels_after label (filter (ends_at s) links)) (labels_after label (filter (ends_at s) links) s.0)
    (map (far_end s) (filter (ends_at s) links) ++ tail) (filter (λ l. not (ends_at s l)) links) (filter (ends_at s) links ++ earlier)
next_walking s tail label links earlier ok = record {
  forest = forest_after label (filter (ends_at s) links) (filter (λ l. not (ends_at s l)) links) (forest_parted (ends_at s) label links ok.forest);
  same = each_append (λ (v : SegId). labels_after label (filter (ends_at s) links) v.0 ≡ labels_after label (filter (ends_at s) links) s.0) (map (far_end s) (filter (ends_at s) links)) tail
      (far_labels s label (filter (ends_at s) links) (filter (ends_at s) links) (filter_passes (ends_at s) links) (after_same label (filter (ends_at s) links)))
      (each_weaker (λ (v : SegId). label v.0 ≡ label s.0) (λ (v : SegId). labels_after label (filter (ends_at s) links) v.0 ≡ labels_after label (filter (ends_at s) links) s.0) tail
      (λ v h. after_coarser label (filter (ends_at s) links) v.0 s.0 h) ok.same.1);
  active = λ v before left. grown v before left;
}
  where
    front_of : (v : SegId) → (is_in (map (far_end s) (filter (ends_at s) links)) v || is_in tail v) ≡ true → is_in (map (far_end s) (filter (ends_at s) links) ++ tail) v ≡ true
    front_of v h = list_any-append (λ (t : SegId). t.0 == v.0) (map (far_end s) (filter (ends_at s) links)) tail ∙ h

    grown : (v : SegId) → list_any (ends_at v) (filter (ends_at s) links ++ earlier) ≡ true → list_any (ends_at v) (filter (λ l. not (ends_at s l)) links) ≡ true
        → is_in (map (far_end s) (filter (ends_at s) links) ++ tail) v ≡ true
    grown v before left = elim (or_cases (list_any (ends_at v) (filter (ends_at s) links)) (list_any (ends_at v) earlier) (sym (list_any-append (ends_at v) (filter (ends_at s) links) earlier) ∙ before)) [
      | inl now ↦ front_of v (or_left (is_in (map (far_end s) (filter (ends_at s) links)) v) (is_in tail v)
          (is_far s v (filter (ends_at s) links) (filter_passes (ends_at s) links) now (none_left s v links left)))
      | inr then ↦ front_of v (or_right (is_in (map (far_end s) (filter (ends_at s) links)) v) (is_in tail v)
          (elim (or_cases (s.0 == v.0) (is_in tail v) (ok.active v then (any_filter (λ l. not (ends_at s l)) (ends_at v) links left))) [
            | inl same ↦ absurd (none_left s v links left (sym (seg_is s v same)))
            | inr later ↦ later
          ]))
    ]

visit : (n : ℕ) (s : SegId) (tail rest : List SegId) (label : ℕ → ℕ) (links earlier : List OpenLink) → IsWalking label (label s.0) (s ∷ tail) links earlier
    → ((label : ℕ → ℕ) (root : ℕ) (front : List SegId) (links earlier : List OpenLink) → IsWalking label root front links earlier → WalksOn earlier (walked n (front ++ rest) links))
    → WalksOn earlier (walked (suc n) (s ∷ (tail ++ rest)) links)
visit n s tail rest label links earlier ok walks =
    let here : List OpenLink = filter (ends_at s) links in
    let others : List OpenLink = filter (λ l. not (ends_at s l)) links in
    let on : WalksOn (here ++ earlier) (walked n (map (far_end s) here ++ (tail ++ rest)) others) =
    subst (λ w. WalksOn (here ++ earlier) (walked n w others)) (append_assoc (map (far_end s) here) tail rest)
    (walks (labels_after label here) (labels_after label here s.0) (map (far_end s) here ++ tail) others (here ++ earlier) (next_walking s tail label links earlier ok)) in
    let later : List ChildLink = walked n (map (far_end s) here ++ (tail ++ rest)) others in
    let parts : (d : ChildLink) → list_any (ends_at d.child) (here ++ earlier) ≡ false → (list_any (ends_at d.child) here ≡ false) × (list_any (ends_at d.child) earlier ≡ false) =
    λ d h. or_parts (list_any (ends_at d.child) here) (list_any (ends_at d.child) earlier) (sym (list_any-append (ends_at d.child) here earlier) ∙ h) in
    let done = siblings s label here others earlier later (filter_passes (ends_at s) links) (forest_parted (ends_at s) label links ok.forest)
    (λ v e t. labels_in label (label s.0) (s ∷ tail) v ok.same (ok.active v e (any_filter (ends_at s) (ends_at v) links t)))
    (each_weaker (λ (d : ChildLink). list_any (ends_at d.child) (here ++ earlier) ≡ false) (λ (d : ChildLink). list_any (ends_at d.child) here ≡ false) later (λ d h. (parts d h).0) on.0) on.1 in (
      each_append (λ (d : ChildLink). list_any (ends_at d.child) earlier ≡ false) (map (child_link s) here) later done.0
          (each_weaker (λ (d : ChildLink). list_any (ends_at d.child) (here ++ earlier) ≡ false) (λ (d : ChildLink). list_any (ends_at d.child) earlier ≡ false) later (λ d h. (parts d h).1) on.0),
      done.1,
    )

pub walks_on : (n : ℕ) (label : ℕ → ℕ) (root : ℕ) (front rest : List SegId) (links earlier : List OpenLink) → IsWalking label root front links earlier
    → WalksOn earlier (walked n (front ++ rest) links)
walks_on zero label root front rest links earlier ok = (tt, tt)
walks_on (suc n) label root [] [] links earlier ok = (tt, tt)
walks_on (suc n) label root [] (s ∷ rest) links earlier ok =
    visit n s [] rest label links earlier
    (record { forest = ok.forest; same = (refl, tt); active = λ v e t. absurd (true≢false (sym (ok.active v e t))) })
    (λ label root front links earlier ok. walks_on n label root front rest links earlier ok)
walks_on (suc n) label root (s ∷ tail) rest links earlier ok =
    visit n s tail rest label links earlier
    (record { forest = ok.forest; same = (refl, each_weaker (λ (v : SegId). label v.0 ≡ root) (λ (v : SegId). label v.0 ≡ label s.0) tail (λ v h. h ∙ sym ok.same.0) ok.same.1); active = ok.active })
    (λ label root front links earlier ok. walks_on n label root front rest links earlier ok)

-- the children of a forest of Links stand after their parents
pub parents_first : (n : ℕ) (slots : List SegId) (links : List OpenLink) → IsForest (λ s. s) links → IsParentFirst (walked n slots links)
parents_first n slots links forest =
    (walks_on n (λ s. s) 0 [] slots links [] (record { forest = forest; same = tt; active = λ v e t. e })).1

-- Each Link is taken once.

still_waits : (s : SegId) (waiting far : List SegId) (l : OpenLink) → is_in (s ∷ waiting) l.seg ≡ true → not (ends_at s l) ≡ true → is_in (far ++ waiting) l.seg ≡ true
still_waits s waiting far l h k = elim (or_cases (s.0 == l.seg.0) (is_in waiting l.seg) h) [
  | inl here ↦ absurd (true≢false (sym (or_left (l.seg.0 == s.0) (l.other.0 == s.0) (eq-eqb l.seg.0 s.0 (sym (eqb-true s.0 l.seg.0 here)))) ∙ not_passes (ends_at s l) k))
  | inr later ↦ list_any-append (λ (t : SegId). t.0 == l.seg.0) far waiting ∙ or_right (is_in far l.seg) (is_in waiting l.seg) later
]

each_waits : (s : SegId) (waiting far : List SegId) (links : List OpenLink) → AllByRecursion (λ (l : OpenLink). is_in (s ∷ waiting) l.seg ≡ true) links
    → AllByRecursion (λ (l : OpenLink). is_in (far ++ waiting) l.seg ≡ true) (filter (λ l. not (ends_at s l)) links)
each_waits s waiting far [] h = tt
each_waits s waiting far (l ∷ links) h = by_test (not (ends_at s l)) refl (each_waits s waiting far links h.1)
  where
    by_test : (b : Bool) → not (ends_at s l) ≡ b → AllByRecursion (λ (l : OpenLink). is_in (far ++ waiting) l.seg ≡ true) (filter (λ l. not (ends_at s l)) links)
        → AllByRecursion (λ (l : OpenLink). is_in (far ++ waiting) l.seg ≡ true) (cond b (l ∷ filter (λ l. not (ends_at s l)) links) (filter (λ l. not (ends_at s l)) links))
    by_test true e rest = (still_waits s waiting far l h.0 e, rest)
    by_test false e rest = rest

pub links_taken : (f : OpenLink → ℤ) (n : ℕ) (waiting : List SegId) (links : List OpenLink) → length waiting + length links ≡ n
    → AllByRecursion (λ (l : OpenLink). is_in waiting l.seg ≡ true) links → int_sum (λ (c : ChildLink). f c.link) (walked n waiting links) ≡ int_sum f links
links_taken f zero waiting [] e h = refl
links_taken f zero waiting (l ∷ links) e h = absurd (omega arith)
links_taken f (suc n) [] [] e h = refl
links_taken f (suc n) [] (l ∷ links) e h = absurd (true≢false (sym h.0))
links_taken f (suc n) (s ∷ waiting) links e h =
    let here : List OpenLink = filter (ends_at s) links in
    let others : List OpenLink = filter (λ l. not (ends_at s l)) links in
    let fewer : length (map (far_end s) here ++ waiting) + length others ≡ n =
    omega (arith, length-append (map (far_end s) here) waiting, length-map here (far_end s), length-filter_both (ends_at s) (λ l. not (ends_at s l)) (λ l. refl) links) in
    let rest = links_taken f n (map (far_end s) here ++ waiting) others fewer (each_waits s waiting (map (far_end s) here) links h) in
    let append = int_sum-append (λ (c : ChildLink). f c.link) (map (child_link s) here) (walked n (map (far_end s) here ++ waiting) others) in
    let first = int_sum-map (λ (c : ChildLink). f c.link) (child_link s) here in
    append ∙ (ap (λ k. k +ℤ int_sum (λ (c : ChildLink). f c.link) (walked n (map (far_end s) here ++ waiting) others)) first
    ∙ (ap (λ k. int_sum f here +ℤ k) rest ∙ int_sum_parted f (ends_at s) links))
