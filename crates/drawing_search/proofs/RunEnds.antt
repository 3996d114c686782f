-- The first and the last segment of a run, and where it ends, as they are read.
use Rattle.std.proofs.Common.{◌≡◌, refl, sym, ◌∙◌, ap, ℕ, zero, suc, ◌+◌, ◌-◌, ◌<◌, ◌≤◌, List, [], ◌∷◌, length, drop, get_or, arith, length-drop}
use Rattle.drawing_search.proofs.Common.{drop_more, first_seg_of, inner_nodes, last_seg, ChainStep, NodeId, SegId}

pub first_seg_is : (ts : List ChainStep) (d : ChainStep) → 0 < length ts → first_seg_of ts ≡ (get_or ts 0 d).seg
first_seg_is [] d h = absurd (omega arith)
first_seg_is (t ∷ ts) d h = refl

pub last_seg_is : (s : SegId) (ts : List ChainStep) (n : ℕ) (d : ChainStep) → length ts ≡ suc n → last_seg s ts ≡ (get_or ts n d).seg
last_seg_is s [] n d h = absurd (omega arith)
last_seg_is s (t ∷ []) zero d h = refl
last_seg_is s (t ∷ []) (suc n) d h = absurd (omega arith)
last_seg_is s (t ∷ u ∷ us) zero d h = absurd (omega arith)
last_seg_is s (t ∷ u ∷ us) (suc n) d h = last_seg_is t.seg (u ∷ us) n d (omega arith)

-- the nodes between steps, one after another
pub inner_more : (ts : List ChainStep) (i : ℕ) (d : ChainStep) → 0 < i → i < length ts → inner_nodes (drop (i - 1) ts) ≡ (get_or ts (i - 1) d).to ∷ inner_nodes (drop i ts)
inner_more ts i d some h =
    ap inner_nodes (drop_more ts (i - 1) d (omega arith) ∙ ap (λ n. get_or ts (i - 1) d ∷ drop n ts) same)
    ∙ ap (λ (us : List ChainStep). inner_nodes (get_or ts (i - 1) d ∷ us)) rest
    ∙ ap (λ (us : List ChainStep). (get_or ts (i - 1) d).to ∷ inner_nodes us) (sym rest)
  where
    same : i - 1 + 1 ≡ i
    same = omega arith

    rest : drop i ts ≡ get_or ts i d ∷ drop (i + 1) ts
    rest = drop_more ts i d h

-- and what is left behind the next step
pub inner_left : (ts : List ChainStep) (i : ℕ) (d : ChainStep) → 1 ≤ i → i < length ts → inner_nodes (drop (i - 1) ts) ≡ (let ns : List NodeId = (get_or ts (i - 1) d).to ∷ inner_nodes (drop (i + 1 - 1) ts) in ns)
inner_left ts i d some h =
    let whole : i ≡ i + 1 - 1 = omega arith in
    inner_more ts i d (omega (arith, some)) h ∙ ap (λ j. (let ns : List NodeId = (get_or ts (i - 1) d).to ∷ inner_nodes (drop j ts) in ns)) whole

pub inner_end : (ts : List ChainStep) (i : ℕ) → length ts ≤ i → inner_nodes (drop (i - 1) ts) ≡ []
inner_end ts i h = of_few (drop (i - 1) ts) (omega (arith, length-drop (i - 1) ts))
  where
    of_few : (us : List ChainStep) → length us ≤ 1 → inner_nodes us ≡ []
    of_few [] few = refl
    of_few (u ∷ []) few = refl
    of_few (u ∷ v ∷ vs) few = absurd (omega arith)
