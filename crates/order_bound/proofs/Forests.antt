-- Links that close no cycle.
use Rattle.std.proofs.Common.{◌≡◌, ◌≢◌, ℕ, ◌==◌, Bool, true, false, not, cond, List, [], ◌∷◌, ◌++◌, filter, refl, sym, ap, ◌∙◌, eqb-true, eq-eqb, true≢false}
use Rattle.order_bound.specs.Pairs.{OpenLink, joined, kept}
pub use Rattle.order_bound.specs.Pairs.{labels_after}

-- each Link joins two classes that those before it have not joined
abbrev pub IsForest : (ℕ → ℕ) → List OpenLink → Type 0
IsForest label [] = Unit {0}
IsForest label (l ∷ links) = (label l.seg.0 ≢ label l.other.0) × IsForest (joined label l.seg.0 l.other.0) links

-- what the first labels alike, the second does too
abbrev pub IsCoarser : (ℕ → ℕ) → (ℕ → ℕ) → Type 0
IsCoarser fine coarse = (a b : ℕ) → fine a ≡ fine b → coarse a ≡ coarse b

pub joined_coarser : (label : ℕ → ℕ) (e f : ℕ) → IsCoarser label (joined label e f)
joined_coarser label e f a b h = ap (λ n. cond (n == label f) (label e) n) h

pub ends_joined : (label : ℕ → ℕ) (e f : ℕ) → joined label e f e ≡ joined label e f f
ends_joined label e f = at_e (label e == label f) ∙ sym at_f
  where
    at_e : (b : Bool) → cond b (label e) (label e) ≡ label e
    at_e true = refl
    at_e false = refl

    at_f : joined label e f f ≡ label e
    at_f = rw (eq-eqb (label f) (label f) refl) refl

not_equal : (a b : ℕ) → (a == b) ≡ false → a ≢ b
not_equal a b h e = true≢false (sym (eq-eqb a b e) ∙ h)

-- a segment of the same class, whose label was kept
stands_for : (label coarse : ℕ → ℕ) (e f : ℕ) → IsCoarser label coarse → coarse e ≡ coarse f → (s : ℕ)
    → (t : ℕ) × (joined label e f s ≡ label t) × (coarse s ≡ coarse t)
stands_for label coarse e f c same s = by_test (label s == label f) refl
  where
    by_test : (b : Bool) → (label s == label f) ≡ b → (t : ℕ) × (cond b (label e) (label s) ≡ label t) × (coarse s ≡ coarse t)
    by_test true h = (e, refl, c s f (eqb-true (label s) (label f) h) ∙ sym same)
    by_test false h = (s, refl, refl)

-- joining two classes gives the finest labels that are coarser and give both one label
pub joined_least : (label coarse : ℕ → ℕ) (e f : ℕ) → IsCoarser label coarse → coarse e ≡ coarse f → IsCoarser (joined label e f) coarse
joined_least label coarse e f c same a b h =
    let s = stands_for label coarse e f c same a in
    let t = stands_for label coarse e f c same b in
    s.2 ∙ (c s.0 t.0 (sym s.1 ∙ (h ∙ t.1)) ∙ sym t.2)

pub coarser_on : (a b c : ℕ → ℕ) → IsCoarser a b → IsCoarser b c → IsCoarser a c
coarser_on a b c p q s t h = q s t (p s t h)

pub finer_forest : (fine coarse : ℕ → ℕ) → IsCoarser fine coarse → (links : List OpenLink) → IsForest coarse links → IsForest fine links
finer_forest fine coarse c [] h = tt
finer_forest fine coarse c (l ∷ links) h = (
  λ e. h.0 (c l.seg.0 l.other.0 e),
  finer_forest (joined fine l.seg.0 l.other.0) (joined coarse l.seg.0 l.other.0)
      (joined_least fine (joined coarse l.seg.0 l.other.0) l.seg.0 l.other.0
      (coarser_on fine coarse (joined coarse l.seg.0 l.other.0) c (joined_coarser coarse l.seg.0 l.other.0)) (ends_joined coarse l.seg.0 l.other.0)) links h.1,
)

-- two Links that follow one another change places
pub forest_swap : (label : ℕ → ℕ) (l m : OpenLink) (links : List OpenLink) → IsForest label (l ∷ m ∷ links) → IsForest label (m ∷ l ∷ links)
forest_swap label l m links h = (
  λ e. h.1.0 (joined_coarser label l.seg.0 l.other.0 m.seg.0 m.other.0 e),
  (
    λ e. by_tests (label l.seg.0 == label m.other.0) refl (label l.other.0 == label m.other.0) refl e,
    finer_forest (joined by_m l.seg.0 l.other.0) by_both
        (joined_least by_m by_both l.seg.0 l.other.0
        (joined_least label by_both m.seg.0 m.other.0 (coarser_on label by_l by_both (joined_coarser label l.seg.0 l.other.0) (joined_coarser by_l m.seg.0 m.other.0)) (ends_joined by_l m.seg.0 m.other.0))
        (joined_coarser by_l m.seg.0 m.other.0 l.seg.0 l.other.0 (ends_joined label l.seg.0 l.other.0))) links h.1.1,
  ),
)
  where
    by_l : ℕ → ℕ
    by_l s = joined label l.seg.0 l.other.0 s

    by_m : ℕ → ℕ
    by_m s = joined label m.seg.0 m.other.0 s

    by_both : ℕ → ℕ
    by_both s = joined (joined label l.seg.0 l.other.0) m.seg.0 m.other.0 s

    alike : (a b : ℕ) → label a ≡ label b → joined label l.seg.0 l.other.0 a ≡ joined label l.seg.0 l.other.0 b
    alike a b e = joined_coarser label l.seg.0 l.other.0 a b e

    together : joined label l.seg.0 l.other.0 l.seg.0 ≡ joined label l.seg.0 l.other.0 l.other.0
    together = ends_joined label l.seg.0 l.other.0

    by_tests : (b : Bool) → (label l.seg.0 == label m.other.0) ≡ b → (d : Bool) → (label l.other.0 == label m.other.0) ≡ d
        → cond b (label m.seg.0) (label l.seg.0) ≡ cond d (label m.seg.0) (label l.other.0) → ⊥
    by_tests true p true q e = h.0 (eqb-true (label l.seg.0) (label m.other.0) p ∙ sym (eqb-true (label l.other.0) (label m.other.0) q))
    by_tests true p false q e =
        h.1.0 (alike m.seg.0 l.other.0 e ∙ (sym together ∙ alike l.seg.0 m.other.0 (eqb-true (label l.seg.0) (label m.other.0) p)))
    by_tests false p true q e =
        h.1.0 (alike m.seg.0 l.seg.0 (sym e) ∙ (together ∙ alike l.other.0 m.other.0 (eqb-true (label l.other.0) (label m.other.0) q)))
    by_tests false p false q e = h.0 e

-- a first Link goes back to behind others
forest_back_in : (label : ℕ → ℕ) (m : OpenLink) (front back : List OpenLink) → IsForest label (m ∷ (front ++ back)) → IsForest label (front ++ (m ∷ back))
forest_back_in label m [] back h = h
forest_back_in label m (l ∷ front) back h =
    let swapped = forest_swap label m l (front ++ back) h in
    (swapped.0, forest_back_in (joined label l.seg.0 l.other.0) m front back swapped.1)

-- those that pass a test come first
pub forest_parted : (p : OpenLink → Bool) (label : ℕ → ℕ) (links : List OpenLink) → IsForest label links
    → IsForest label (filter p links ++ filter (λ l. not (p l)) links)
forest_parted p label [] h = tt
forest_parted p label (l ∷ links) h = by_test (p l) (forest_parted p (joined label l.seg.0 l.other.0) links h.1)
  where
    by_test : (b : Bool) → IsForest (joined label l.seg.0 l.other.0) (filter p links ++ filter (λ l. not (p l)) links) → IsForest label (cond b (l ∷ filter p links) (filter p links) ++ cond (not b) (l ∷ filter (λ l. not (p l)) links) (filter (λ l. not (p l)) links))
    by_test true rest = (h.0, rest)
    by_test false rest = forest_back_in label l (filter p links) (filter (λ l. not (p l)) links) (h.0, rest)

pub after_coarser : (label : ℕ → ℕ) (links : List OpenLink) → IsCoarser label (labels_after label links)
after_coarser label [] a b h = h
after_coarser label (l ∷ links) a b h =
    after_coarser (joined label l.seg.0 l.other.0) links a b (joined_coarser label l.seg.0 l.other.0 a b h)

pub forest_after : (label : ℕ → ℕ) (front back : List OpenLink) → IsForest label (front ++ back) → IsForest (labels_after label front) back
forest_after label [] back h = h
forest_after label (l ∷ front) back h = forest_after (joined label l.seg.0 l.other.0) front back h.1

-- the Links that are kept are a forest
pub kept_forest : (label : ℕ → ℕ) (links : List OpenLink) → IsForest label (kept label links)
kept_forest label [] = tt
kept_forest label (l ∷ links) = by_test (label l.seg.0 == label l.other.0) refl (kept_forest label links) (kept_forest (joined label l.seg.0 l.other.0) links)
  where
    by_test : (b : Bool) → (label l.seg.0 == label l.other.0) ≡ b → IsForest label (kept label links)
        → IsForest (joined label l.seg.0 l.other.0) (kept (joined label l.seg.0 l.other.0) links) → IsForest label (cond b (kept label links) (l ∷ kept (joined label l.seg.0 l.other.0) links))
    by_test true h same rest = same
    by_test false h same rest = (not_equal (label l.seg.0) (label l.other.0) h, rest)
