-- Segments that stand in a round, as many as it has, are its segments in another order.
use Rattle.std.proofs.Common.{◌≡◌, refl, sym, ap, subst, ◌∙◌, ℕ, ◌+◌, ◌<◌, Bool, true, false, ◌||◌, ◌&&◌, ◌==◌, List, [], ◌∷◌, ◌++◌, length, arith, length-append}
use Rattle.std.specs.Prelude.{if◌then◌else◌}
use Rattle.std.specs.List.{list_all}
use Rattle.std.specs.List.Sorted.{IsPermutation}
use Rattle.std.proofs.lemmas.Bool.{and_parts, eqb-true, false≢true}
use Rattle.std.proofs.lemmas.List.Folds.{list_any-append}
use Rattle.std.proofs.lemmas.List.Sorted.{IsPermutation-refl, IsPermutation-cons, IsPermutation-trans, IsPermutation-sym, IsPermutation-middle}
use Rattle.map_base.specs.declared.ids.NodeId.{NodeId}
use Rattle.map_base.specs.declared.ids.SegId.{SegId}
use Rattle.graph_core.specs.Round.{ends_at, segments_from, segments_at}
use Rattle.graph_json.specs.References.{has_seg}

-- a list in front of an element, the element, and the list behind it
abbrev Parted : List SegId → SegId → Type 0
Parted round s = (before : List SegId) × (after : List SegId) × (round ≡ before ++ s ∷ after)

same_seg : (r s : SegId) → (r.0 == s.0) ≡ true → r ≡ s
same_seg r s t = ap (λ (n : ℕ). record { 0 = n }) (eqb-true r.0 s.0 t)

parted : (round : List SegId) (s : SegId) → has_seg round s ≡ true → Parted round s
parted [] s t = absurd (false≢true t)
parted (r ∷ round) s t = by (r.0 == s.0) refl t (λ t. parted round s t)
  where
    by : (b : Bool) → (r.0 == s.0) ≡ b → (b || has_seg round s) ≡ true → (has_seg round s ≡ true → Parted round s) → Parted (r ∷ round) s
    by true e t later = ([], round, ap (λ (x : SegId). x ∷ round) (same_seg r s e))
    by false e t later =
        let rest = later t in
        (r ∷ rest.0, rest.1, ap (λ (xs : List SegId). r ∷ xs) rest.2)

-- other elements stand where they stood
without : (before after : List SegId) (s z : SegId) → (s.0 == z.0) ≡ false → has_seg (before ++ s ∷ after) z ≡ has_seg (before ++ after) z
without before after s z e =
    list_any-append (λ (r : SegId). r.0 == z.0) before (s ∷ after)
    ∙ ap (λ (b : Bool). has_seg before z || (b || has_seg after z)) e
    ∙ sym (list_any-append (λ (r : SegId). r.0 == z.0) before after)

differ : (i j : ℕ) → i < j → (i == j) ≡ false
differ i j h = grind arith

-- numbers from i + 1 on stand in what is left of a round without segment i
still : (i j n : ℕ) (es : List (NodeId × NodeId)) (before after : List SegId) → i < j
    → list_all (has_seg (before ++ record { 0 = i } ∷ after)) (segments_from j n es) ≡ true → list_all (has_seg (before ++ after)) (segments_from j n es) ≡ true
still i j n [] before after h t = refl
still i j n (e ∷ es) before after h t = by (ends_at n e) t (λ t. still i (j + 1) n es before after (omega arith) t)
  where
    by : (b : Bool)
        → list_all (has_seg (before ++ record { 0 = i } ∷ after)) (if b then record { 0 = j } ∷ segments_from (j + 1) n es else segments_from (j + 1) n es) ≡ true
        → (list_all (has_seg (before ++ record { 0 = i } ∷ after)) (segments_from (j + 1) n es) ≡ true → list_all (has_seg (before ++ after)) (segments_from (j + 1) n es) ≡ true)
        → list_all (has_seg (before ++ after)) (if b then record { 0 = j } ∷ segments_from (j + 1) n es else segments_from (j + 1) n es) ≡ true
    by true t later =
        let both = and_parts _ _ t in
        let here = sym (without before after (record { 0 = i }) (record { 0 = j }) (differ i j h)) ∙ both.0 in
        ap (λ (b : Bool). b && list_all (has_seg (before ++ after)) (segments_from (j + 1) n es)) here ∙ later both.1
    by false t later = later t

permuted : (i n : ℕ) (es : List (NodeId × NodeId)) (round : List SegId) → length round ≡ length (segments_from i n es)
    → list_all (has_seg round) (segments_from i n es) ≡ true → IsPermutation (segments_from i n es) round
permuted i n [] [] e t = IsPermutation-refl []
permuted i n [] (r ∷ round) e t = let never : ⊥ = omega arith in absurd never
permuted i n (e ∷ es) round same t = by (ends_at n e) same t (λ left same t. permuted (i + 1) n es left same t)
  where
    by : (b : Bool) → length round ≡ length (if b then record { 0 = i } ∷ segments_from (i + 1) n es else segments_from (i + 1) n es)
        → list_all (has_seg round) (if b then record { 0 = i } ∷ segments_from (i + 1) n es else segments_from (i + 1) n es) ≡ true
        → ((left : List SegId) → length left ≡ length (segments_from (i + 1) n es) → list_all (has_seg left) (segments_from (i + 1) n es) ≡ true
        → IsPermutation (segments_from (i + 1) n es) left)
        → IsPermutation (if b then record { 0 = i } ∷ segments_from (i + 1) n es else segments_from (i + 1) n es) round
    by false same t later = later round same t
    by true same t later =
        let both = and_parts _ _ t in
        let r = parted round (record { 0 = i }) both.0 in
        let s : SegId = record { 0 = i } in
        let left : list_all (has_seg (r.0 ++ s ∷ r.1)) (segments_from (i + 1) n es) ≡ true = subst (λ (xs : List SegId). list_all (has_seg xs) (segments_from (i + 1) n es) ≡ true) r.2 both.1 in
        let count : length (r.0 ++ r.1) ≡ length (segments_from (i + 1) n es) = omega (arith, same, ap length r.2, length-append r.0 (s ∷ r.1), length-append r.0 r.1) in
        let rest = later (r.0 ++ r.1) count (still i (i + 1) n es r.0 r.1 (omega arith) left) in
        subst (λ (xs : List SegId). IsPermutation (s ∷ segments_from (i + 1) n es) xs) (sym r.2)
        (IsPermutation-trans _ _ _ (IsPermutation-cons s (segments_from (i + 1) n es) (r.0 ++ r.1) rest) (IsPermutation-sym _ _ (IsPermutation-middle r.0 s r.1)))

pub round_permuted : (n : ℕ) (ends : List (NodeId × NodeId)) (round : List SegId) → length round ≡ length (segments_at n ends)
    → list_all (has_seg round) (segments_at n ends) ≡ true → IsPermutation (segments_at n ends) round
round_permuted n ends round e t = permuted 0 n ends round e t
