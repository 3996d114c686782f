-- Labels that tell classes still do after the classes of a term's two segments became one.
use Rattle.std.proofs.Common.{◌≡◌, ◌≢◌, ℕ, zero, suc, ◌<◌, ◌≤◌, ◌==◌, ◌&&◌, ◌||◌, Bool, true, false, min, max, List, [], ◌∷◌, ◌++◌, length, take, drop, get_or, refl, sym, ◌∙◌, ap, subst, arith, inl, inr, ◌⊎◌, true≢false, eqb-true}
use Rattle.std.specs.List.{All, Contains}
use Rattle.std.proofs.lemmas.Bool.{eqb-false, cases_lt}
use Rattle.std.proofs.lemmas.Bool.Decides.{nat_tests}
use Rattle.std.proofs.lemmas.List.{get_or-map, length-map, take_all, drop_all, append-nil}
use Rattle.std.proofs.lemmas.List.Elements.{All-contains, Contains-append_left, Contains-append_cases, Contains-push}
use Rattle.order_model.specs.declared.term.Term.{Term}
use Rattle.order_model.specs.declared.term.Term.TheVariants.{Side, Link, Apart}
use Rattle.order_model.specs.Costs.{IsReadable}
use Rattle.order_model.specs.Parts.{are_ends, is_between, Reaches, relabelled, joined, joined_by, AreLabels}
use Rattle.order_model.specs.Parts.Reaches.{itself, onward}

-- Reaching.

reaches_more : (terms more : List Term) (s t : ℕ) → Reaches terms s t → Reaches (terms ++ more) s t
reaches_more terms more _ _ (itself s) = itself s
reaches_more terms more _ _ (onward s t u x h b r) = onward s t u x (Contains-append_left terms more x h) b (reaches_more terms more t u r)

reaches_on : (terms : List Term) (s t u : ℕ) → Reaches terms s t → Reaches terms t u → Reaches terms s u
reaches_on terms _ _ u (itself s) q = q
reaches_on terms _ _ u (onward s v t x h b r) q = onward s v u x h b (reaches_on terms v t u r q)

either : (a b : Bool) → (a || b) ≡ true → (a ≡ true) ⊎ (b ≡ true)
either true b h = inl refl
either false b h = inr h

both : (a b : Bool) → (a && b) ≡ true → (a ≡ true) × (b ≡ true)
both true b h = (refl, h)
both false b h = absurd (true≢false (sym h))

-- which two segments a term lies between
pub ends_are : (e f s t : ℕ) → are_ends e f s t ≡ true → ((e ≡ s) × (f ≡ t)) ⊎ ((e ≡ t) × (f ≡ s))
ends_are e f s t h = elim (either (e == s && f == t) (e == t && f == s) h) [
  | inl p ↦ (let q = both (e == s) (f == t) p in inl (eqb-true e s q.0, eqb-true f t q.1))
  | inr p ↦ (let q = both (e == t) (f == s) p in inr (eqb-true e t q.0, eqb-true f s q.1))
]

ends_here : (e f : ℕ) → are_ends e f e f ≡ true
ends_here e f = grind (arith, nat_tests)

ends_back : (e f : ℕ) → are_ends e f f e ≡ true
ends_back e f = grind (arith, nat_tests)

-- A label after two classes became one.

module _ (low high : ℕ) (under : low ≤ high) where
  abbrev pub new : ℕ → ℕ
  new l = relabelled low high l

  pub new_high : new high ≡ low
  new_high = grind (arith, nat_tests)

  pub new_other : (l : ℕ) → l ≢ high → new l ≡ l
  new_other l h = grind (arith, nat_tests)

  pub new_low : new low ≡ low
  new_low = grind (arith, nat_tests)

  which : (l : ℕ) → (l ≡ high) ⊎ (l ≢ high)
  which l = by_test (l == high) refl
    where
      by_test : (b : Bool) → (l == high) ≡ b → (l ≡ high) ⊎ (l ≢ high)
      by_test true e = inl (eqb-true l high e)
      by_test false e = inr (eqb-false l high e)

  new_below : (l : ℕ) → new l ≤ l
  new_below l = elim (which l)
      [ inl e ↦ omega (arith, ap new e, new_high) | inr n ↦ omega (arith, new_other l n) ]

  -- where two new labels are one, the old ones are, or they are the two that became one
  new_same : (l m : ℕ) → new l ≡ new m → (l ≡ m) ⊎ (((l ≡ low) × (m ≡ high)) ⊎ ((l ≡ high) × (m ≡ low)))
  new_same l m e = elim (which l) [
    | inl a ↦ elim (which m) [
      | inl b ↦ inl (a ∙ sym b)
      | inr b ↦ inr (inr (a, sym (new_other m b) ∙ sym e ∙ ap new a ∙ new_high))
    ]
    | inr a ↦ elim (which m) [
      | inl b ↦ inr (inl (sym (new_other l a) ∙ e ∙ ap new b ∙ new_high, b))
      | inr b ↦ inl (sym (new_other l a) ∙ e ∙ new_other m b)
    ]
  ]

-- the two that became one are the labels a and b of two segments
two_labels : (a b l m : ℕ) → new (min a b) (max a b) (omega arith) l ≡ new (min a b) (max a b) (omega arith) m
    → (l ≡ m) ⊎ (((l ≡ a) × (m ≡ b)) ⊎ ((l ≡ b) × (m ≡ a)))
two_labels a b l m e = elim (new_same (min a b) (max a b) (omega arith) l m e) [
  | inl same ↦ inl same
  | inr differ ↦ elim (cases_lt a b) [
    | inl below ↦ elim differ [ inl p ↦ inr (inl (omega (arith, p.0), omega (arith, p.1))) | inr p ↦ inr (inr (omega (arith, p.0), omega (arith, p.1))) ]
    | inr above ↦ elim differ [ inl p ↦ inr (inr (omega (arith, p.0), omega (arith, p.1))) | inr p ↦ inr (inl (omega (arith, p.0), omega (arith, p.1))) ]
  ]
]

pub both_low : (a b : ℕ) → (relabelled (min a b) (max a b) a ≡ min a b) × (relabelled (min a b) (max a b) b ≡ min a b)
both_low a b = elim (cases_lt a b) [
  | inl below ↦ (let l : min a b ≡ a = omega arith in let h : max a b ≡ b = omega arith in (rw (l, h) (new_low a b (omega arith)), rw (l, h) (new_high a b (omega arith))))
  | inr above ↦ (let l : min a b ≡ b = omega arith in let h : max a b ≡ a = omega arith in (rw (l, h) (new_high b a (omega arith)), rw (l, h) (new_low b a (omega arith))))
]

-- A term between two segments is read over their numbers.

between_known : (n s t : ℕ) (y : Term) → IsReadable n y → is_between y s t ≡ true → t < n
between_known n s t (Side seg first second w) r h = absurd (true≢false (sym h))
between_known n s t (Link seg other flip a b w) r h = elim (ends_are seg.0 other.0 s t h) [ inl p ↦ omega (arith, p.1, r.1) | inr p ↦ omega (arith, p.0, r.0) ]
between_known n s t (Apart seg other a b w) r h = elim (ends_are seg.0 other.0 s t h) [ inl p ↦ omega (arith, p.1, r.1) | inr p ↦ omega (arith, p.0, r.0) ]

-- One more term.

module _ (terms : List Term) (n : ℕ) (ls : List ℕ) (x : Term) (e f : ℕ) (ok : AreLabels terms n ls) (e_known : e < n) (f_known : f < n)
    (readable : All (IsReadable n) terms) (there : is_between x e f ≡ true) (back : is_between x f e ≡ true)
    (only : (s t : ℕ) → is_between x s t ≡ true → ((e ≡ s) × (f ≡ t)) ⊎ ((e ≡ t) × (f ≡ s))) where
  abbrev a : ℕ
  a = get_or ls e 0

  abbrev b : ℕ
  b = get_or ls f 0

  abbrev after : ℕ → ℕ
  after l = relabelled (min a b) (max a b) l

  abbrev more : List Term
  more = terms ++ x ∷ []

  label : (s : ℕ) → s < n → get_or (joined ls a b) s 0 ≡ after (get_or ls s 0)
  label s below = get_or-map after ls s 0 0 (omega (arith, ok.each))

  one_more : (s t : ℕ) → Reaches terms s t → Reaches more s t
  one_more s t r = reaches_more terms (x ∷ []) s t r

  over : (s t : ℕ) → is_between x s t ≡ true → Reaches more s t
  over s t h = onward s t t x (Contains-push terms x) h (itself t)

  lowest : (s : ℕ) → s < n → get_or (joined ls a b) s 0 ≤ s
  lowest s below = omega (arith, label s below, new_below (min a b) (max a b) (omega arith) (get_or ls s 0), ok.lowest s below)

  same : (s t : ℕ) → s < n → t < n → get_or (joined ls a b) s 0 ≡ get_or (joined ls a b) t 0 → Reaches more s t
  same s t s_known t_known h = elim (two_labels a b (get_or ls s 0) (get_or ls t 0) (sym (label s s_known) ∙ h ∙ label t t_known)) [
    | inl p ↦ one_more s t (ok.same s t s_known t_known p)
    | inr differ ↦ elim differ [
      | inl p ↦ reaches_on more s e t (one_more s e (ok.same s e s_known e_known p.0))
          (reaches_on more e f t (over e f there) (one_more f t (ok.same f t f_known t_known (sym p.1))))
      | inr p ↦ reaches_on more s f t (one_more s f (ok.same s f s_known f_known p.0))
          (reaches_on more f e t (over f e back) (one_more e t (ok.same e t e_known t_known (sym p.1))))
    ]
  ]

  met : after a ≡ after b
  met = (both_low a b).0 ∙ sym (both_low a b).1

  step : (s t : ℕ) (y : Term) → s < n → t < n → Contains more y → is_between y s t ≡ true → get_or (joined ls a b) s 0 ≡ get_or (joined ls a b) t 0
  step s t y s_known t_known h between = elim (Contains-append_cases terms (x ∷ []) y h) [
    | inl old ↦ label s s_known ∙ ap after (ok.reached s t s_known t_known (onward s t t y old between (itself t))) ∙ sym (label t t_known)
    | inr new ↦ (let is : x ≡ y = only_one y new in
        elim (only s t (subst (λ z. is_between z s t ≡ true) (sym is) between)) [
          | inl p ↦ label s s_known ∙ ap (λ k. after (get_or ls k 0)) (sym p.0) ∙ met ∙ ap (λ k. after (get_or ls k 0)) p.1 ∙ sym (label t t_known)
          | inr p ↦ label s s_known ∙ ap (λ k. after (get_or ls k 0)) (sym p.1) ∙ sym met ∙ ap (λ k. after (get_or ls k 0)) p.0 ∙ sym (label t t_known)
        ])
  ]
    where
      only_one : (y : Term) → Contains (x ∷ []) y → x ≡ y
      only_one y (zero, below, is) = is
      only_one y (suc k, below, is) = absurd (omega arith)

  step_known : (s t : ℕ) (y : Term) → Contains more y → is_between y s t ≡ true → t < n
  step_known s t y h between = elim (Contains-append_cases terms (x ∷ []) y h) [
    | inl old ↦ between_known n s t y (All-contains (IsReadable n) terms y readable old) between
    | inr new ↦ (let is : x ≡ y = only_here y new in
        elim (only s t (subst (λ z. is_between z s t ≡ true) (sym is) between))
        [ inl p ↦ subst (λ k. k < n) p.1 f_known | inr p ↦ subst (λ k. k < n) p.0 e_known ])
  ]
    where
      only_here : (y : Term) → Contains (x ∷ []) y → x ≡ y
      only_here y (zero, below, is) = is
      only_here y (suc k, below, is) = absurd (omega arith)

  reached : (s t : ℕ) → Reaches more s t → s < n → t < n → get_or (joined ls a b) s 0 ≡ get_or (joined ls a b) t 0
  reached _ _ (itself s) s_known t_known = refl
  reached _ _ (onward s t u y h between r) s_known u_known =
      let t_known : t < n = step_known s t y h between in
      step s t y s_known t_known h between ∙ reached t u r t_known u_known

  -- the lower of the two labels is a label of its own
  low_rooted : get_or ls (min a b) 0 ≡ min a b
  low_rooted = elim (cases_lt a b) [
    | inl below ↦ (let l : min a b ≡ a = omega arith in rw l (ok.rooted e e_known))
    | inr above ↦ (let l : min a b ≡ b = omega arith in rw l (ok.rooted f f_known))
  ]

  root_known : (s : ℕ) → s < n → get_or ls s 0 < n
  root_known s below = omega (arith, ok.lowest s below)

  rooted : (s : ℕ) → s < n → get_or (joined ls a b) (get_or (joined ls a b) s 0) 0 ≡ get_or (joined ls a b) s 0
  rooted s below = elim (which (min a b) (max a b) (omega arith) (get_or ls s 0)) [
    | inl high ↦ (let is : get_or (joined ls a b) s 0 ≡ min a b = label s below ∙ ap after high ∙ new_high (min a b) (max a b) (omega arith) in
        let low_known : min a b < n = omega (arith, root_known e e_known) in
        rw is (label (min a b) low_known ∙ ap after low_rooted ∙ new_low (min a b) (max a b) (omega arith)))
    | inr other ↦ (let kept : after (get_or ls s 0) ≡ get_or ls s 0 = new_other (min a b) (max a b) (omega arith) (get_or ls s 0) other in
        let is : get_or (joined ls a b) s 0 ≡ get_or ls s 0 = label s below ∙ kept in
        rw is (label (get_or ls s 0) (root_known s below) ∙ ap after (ok.rooted s below) ∙ kept))
  ]

  joined_labels : AreLabels more n (joined ls a b)
  joined_labels = record {
    each = length-map ls after ∙ ok.each;
    lowest = lowest;
    rooted = rooted;
    same = same;
    reached = λ s t s_known t_known r. reached s t r s_known t_known;
  }

-- The labels at first, and after each term.

nothing_contained : (y : Term) → Contains [] y → ⊥
nothing_contained y h = omega (arith, h.1)

reaches_none : (s t : ℕ) → Reaches [] s t → s ≡ t
reaches_none _ _ (itself s) = refl
reaches_none _ _ (onward s t u x h b r) = absurd (nothing_contained x h)

pub own_labels_tell : (n : ℕ) (ls : List ℕ) → length ls ≡ n → ((s : ℕ) → s < n → get_or ls s 0 ≡ s) → AreLabels [] n ls
own_labels_tell n ls each own = record {
  each = each;
  lowest = λ s below. omega (arith, own s below);
  rooted = λ s below. ap (λ k. get_or ls k 0) (own s below);
  same = λ s t s_known t_known e. subst (λ k. Reaches [] s k) (sym (own s s_known) ∙ e ∙ own t t_known) (itself s);
  reached = λ s t s_known t_known r. ap (λ k. get_or ls k 0) (reaches_none s t r);
}

reaches_aside : (terms : List Term) (x : Term) → ((s t : ℕ) → is_between x s t ≡ false) → (s t : ℕ) → Reaches (terms ++ x ∷ []) s t → Reaches terms s t
reaches_aside terms x never _ _ (itself s) = itself s
reaches_aside terms x never _ _ (onward s t u y h b r) = elim (Contains-append_cases terms (x ∷ []) y h) [
  | inl old ↦ onward s t u y old b (reaches_aside terms x never t u r)
  | inr new ↦ absurd (true≢false (sym b ∙ ap (λ z. is_between z s t) (sym (only y new)) ∙ never s t))
]
  where
    only : (y : Term) → Contains (x ∷ []) y → x ≡ y
    only y (zero, below, is) = is
    only y (suc k, below, is) = absurd (omega arith)

pub labels_after : (terms : List Term) (n : ℕ) (ls : List ℕ) (x : Term) → AreLabels terms n ls → All (IsReadable n) terms → IsReadable n x
    → AreLabels (terms ++ x ∷ []) n (joined_by ls x)
labels_after terms n ls (Side seg first second w) ok readable here = record {
  each = ok.each;
  lowest = ok.lowest;
  rooted = ok.rooted;
  same = λ s t s_known t_known e. reaches_more terms _ s t (ok.same s t s_known t_known e);
  reached = λ s t s_known t_known r. ok.reached s t s_known t_known (reaches_aside terms (Side seg first second w) (λ s t. refl) s t r);
}
labels_after terms n ls (Link seg other flip a b w) ok readable here =
    joined_labels terms n ls (Link seg other flip a b w) seg.0 other.0 ok here.0 here.1 readable
    (ends_here seg.0 other.0) (ends_back seg.0 other.0) (λ s t h. ends_are seg.0 other.0 s t h)
labels_after terms n ls (Apart seg other a b w) ok readable here =
    joined_labels terms n ls (Apart seg other a b w) seg.0 other.0 ok here.0 here.1 readable
    (ends_here seg.0 other.0) (ends_back seg.0 other.0) (λ s t h. ends_are seg.0 other.0 s t h)

-- what a slice over a whole vector writes back
pub written_back : (xs fresh : List ℕ) (n : ℕ) → length xs ≡ n → length fresh ≡ n → take n (fresh ++ drop (length fresh) xs) ≡ fresh
written_back xs fresh n p q = rw (drop_all (length fresh) xs (omega arith), append-nil) (take_all n fresh (omega arith))
