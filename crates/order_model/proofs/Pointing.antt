-- Segments that point within their classes still do after one points elsewhere.
use Rattle.std.proofs.Common.{◌≡◌, ◌≢◌, ℕ, suc, ◌<◌, ◌≤◌, ◌==◌, Bool, true, false, min, max, List, length, set, get_or, refl, sym, ◌∙◌, ap, arith, inl, inr, ◌⊎◌, eqb-true}
use Rattle.std.proofs.lemmas.Bool.{eqb-false}
use Rattle.std.proofs.lemmas.List.{length-set, length-map, get_or-map, get_or-set_same, get_or-set_other, ext_get_or}
use Rattle.order_model.specs.Parts.{relabelled, joined, AreLabels, AreOwnLabels, PointDown, PointWithin}
use Rattle.order_model.specs.declared.term.Term.{Term}
use Rattle.order_model.proofs.Classes.{new_high, new_low, new_other}

pub same_or_other : (i j : ℕ) → (i ≡ j) ⊎ (i ≢ j)
same_or_other i j = by_test (i == j) refl
  where
    by_test : (b : Bool) → (i == j) ≡ b → (i ≡ j) ⊎ (i ≢ j)
    by_test true e = inl (eqb-true i j e)
    by_test false e = inr (eqb-false i j e)

pub down_after : (ps : List ℕ) (s t : ℕ) → s < length ps → t ≤ s → PointDown ps → PointDown (set ps s t)
down_after ps s t known below down r r_known = elim (same_or_other r s) [
  | inl e ↦ rw (e, get_or-set_same ps s t 0 known) below
  | inr n ↦ rw (get_or-set_other ps s r t 0 n) (down r (omega (arith, r_known, length-set ps s t)))
]

pub within_after : (ls ps : List ℕ) (s t : ℕ) → s < length ps → t ≤ s → get_or ls t 0 ≡ get_or ls s 0 → (t ≡ s → get_or ls s 0 ≡ s)
    → PointWithin ls ps → PointWithin ls (set ps s t)
within_after ls ps s t known below same own ok = record {
  each = length-set ps s t ∙ ok.each;
  down = down_after ps s t known below ok.down;
  same = λ r r_known. elim (same_or_other r s) [
    | inl e ↦ rw (e, get_or-set_same ps s t 0 known) same
    | inr n ↦ rw (get_or-set_other ps s r t 0 n) (ok.same r (omega (arith, r_known, length-set ps s t)))
  ];
  own = λ r r_known at. elim (same_or_other r s) [
    | inl e ↦ rw e (own (sym (get_or-set_same ps s t 0 known) ∙ ap (λ k. get_or (set ps s t) k 0) (sym e) ∙ at ∙ e))
    | inr n ↦ ok.own r (omega (arith, r_known, length-set ps s t)) (sym (get_or-set_other ps s r t 0 n) ∙ at)
  ];
}

-- a segment points at what the one that it points at points at
pub further_below : (ps : List ℕ) (s : ℕ) → s < length ps → PointDown ps → get_or ps (get_or ps s 0) 0 ≤ s
further_below ps s known down = omega (arith, down s known, down (get_or ps s 0) (omega (arith, down s known)))

pub further_within : (ls ps : List ℕ) (s : ℕ) → s < length ps → PointWithin ls ps → PointWithin ls (set ps s (get_or ps (get_or ps s 0) 0))
further_within ls ps s known ok =
    let p_known : get_or ps s 0 < length ps = omega (arith, ok.down s known) in
    within_after ls ps s (get_or ps (get_or ps s 0) 0) known (further_below ps s known ok.down)
    (ok.same (get_or ps s 0) p_known ∙ ok.same s known)
    (λ e. ok.own s known (omega (arith, e, ok.down s known, ok.down (get_or ps s 0) p_known)))
    ok

pub further_same : (ls ps : List ℕ) (s : ℕ) → s < length ps → PointWithin ls ps → get_or ls (get_or ps (get_or ps s 0) 0) 0 ≡ get_or ls s 0
further_same ls ps s known ok = ok.same (get_or ps s 0) (omega (arith, ok.down s known)) ∙ ok.same s known

-- the higher of two labels points at the lower
module _ (ls ps : List ℕ) (a b : ℕ) (own : AreOwnLabels ls) (ok : PointWithin ls ps) (a_known : a < length ps) (b_known : b < length ps)
    (a_own : get_or ls a 0 ≡ a) (b_own : get_or ls b 0 ≡ b) where
  abbrev low : ℕ
  low = min a b

  abbrev high : ℕ
  high = max a b

  abbrev after : List ℕ
  after = joined ls a b

  high_known : high < length ps
  high_known = omega (arith, a_known, b_known)

  low_own : get_or ls low 0 ≡ low
  low_own = elim (same_or_other low a) [
    | inl e ↦ rw e a_own
    | inr n ↦ (let e : low ≡ b = omega (arith, n) in rw e b_own)
  ]

  high_own : get_or ls high 0 ≡ high
  high_own = elim (same_or_other high a) [
    | inl e ↦ rw e a_own
    | inr n ↦ (let e : high ≡ b = omega (arith, n) in rw e b_own)
  ]

  label : (s : ℕ) → s < length ps → get_or after s 0 ≡ relabelled low high (get_or ls s 0)
  label s known = get_or-map (relabelled low high) ls s 0 0 (omega (arith, known, ok.each))

  label_low : get_or after low 0 ≡ low
  label_low = label low (omega (arith, high_known)) ∙ ap (relabelled low high) low_own ∙ new_low low high (omega arith)

  label_high : get_or after high 0 ≡ low
  label_high = label high high_known ∙ ap (relabelled low high) high_own ∙ new_high low high (omega arith)

  pub within_joined : PointWithin after (set ps high low)
  within_joined = record {
    each = length-set ps high low ∙ ok.each ∙ sym (length-map ls (relabelled low high));
    down = down_after ps high low high_known (omega arith) ok.down;
    same = λ r r_known. elim (same_or_other r high) [
      | inl e ↦ rw (e, get_or-set_same ps high low 0 high_known) (label_low ∙ sym label_high)
      | inr n ↦ (let known : r < length ps = omega (arith, r_known, length-set ps high low) in
          rw (get_or-set_other ps high r low 0 n)
          (label (get_or ps r 0) (omega (arith, known, ok.down r known)) ∙ ap (relabelled low high) (ok.same r known) ∙ sym (label r known)))
    ];
    own = λ r r_known at. elim (same_or_other r high) [
      | inl e ↦ rw e (label_high ∙ sym (get_or-set_same ps high low 0 high_known) ∙ ap (λ k. get_or (set ps high low) k 0) (sym e) ∙ at ∙ e)
      | inr n ↦ (let known : r < length ps = omega (arith, r_known, length-set ps high low) in
          let is : get_or ls r 0 ≡ r = ok.own r known (sym (get_or-set_other ps high r low 0 n) ∙ at) in
          label r known ∙ ap (relabelled low high) is ∙ new_other low high (omega arith) r n)
    ];
  }

-- labels that tell classes are their own labels
pub own_of_labels : (terms : List Term) (n : ℕ) (ls : List ℕ) → AreLabels terms n ls → AreOwnLabels ls
own_of_labels terms n ls ok = record {
  lowest = λ s known. ok.lowest s (omega (arith, known, ok.each));
  rooted = λ s known. ok.rooted s (omega (arith, known, ok.each));
}

-- at first each segment points at itself
pub within_first : (ls : List ℕ) (n : ℕ) → length ls ≡ n → ((s : ℕ) → s < n → get_or ls s 0 ≡ s) → PointWithin ls ls
within_first ls n each own = record {
  each = refl;
  down = λ s known. omega (arith, own s (omega (arith, known, each)));
  same = λ s known. ap (λ k. get_or ls k 0) (own s (omega (arith, known, each)));
  own = λ s known at. own s (omega (arith, known, each));
}

-- the segments below s point at their labels
abbrev pub PointAtBelow : List ℕ → List ℕ → ℕ → Type 0
PointAtBelow ls ps s = (r : ℕ) → r < s → get_or ps r 0 ≡ get_or ls r 0

pub one_more_points : (ls ps : List ℕ) (s : ℕ) → s < length ps → PointWithin ls ps → PointAtBelow ls ps s
    → PointAtBelow ls (set ps s (get_or ps (get_or ps s 0) 0)) (suc s)
one_more_points ls ps s known ok below r r_below = elim (same_or_other r s) [
  | inl e ↦ rw (e, get_or-set_same ps s (get_or ps (get_or ps s 0) 0) 0 known) here
  | inr n ↦ get_or-set_other ps s r (get_or ps (get_or ps s 0) 0) 0 n ∙ below r (omega (arith, r_below, n))
]
  where
    here : get_or ps (get_or ps s 0) 0 ≡ get_or ls s 0
    here = elim (same_or_other (get_or ps s 0) s) [
      | inl e ↦ ap (λ k. get_or ps k 0) e ∙ e ∙ sym (ok.own s known e)
      | inr n ↦ below (get_or ps s 0) (omega (arith, n, ok.down s known)) ∙ ok.same s known
    ]

pub all_point : (ls ps : List ℕ) → PointWithin ls ps → PointAtBelow ls ps (length ps) → ps ≡ ls
all_point ls ps ok below = ext_get_or 0 ps ls ok.each (λ i known. below i known)

-- the same for what the code keeps: the labels of two segments, and what is written at the higher
pub joined_within : (ls ps : List ℕ) (a b e f : ℕ) → e < length ps → f < length ps → AreOwnLabels ls → PointWithin ls ps
    → a ≡ get_or ls e 0 → b ≡ get_or ls f 0 → PointWithin (joined ls (get_or ls e 0) (get_or ls f 0)) (set ps (max a b) (min a b))
joined_within ls ps a b e f e_known f_known own ok a_is b_is =
    let e_in : e < length ls = omega (arith, e_known, ok.each) in
    let f_in : f < length ls = omega (arith, f_known, ok.each) in
    rw (a_is, b_is)
    (within_joined ls ps (get_or ls e 0) (get_or ls f 0) own ok (omega (arith, own.lowest e e_in, e_known)) (omega (arith, own.lowest f f_in, f_known))
    (own.rooted e e_in) (own.rooted f f_in))
