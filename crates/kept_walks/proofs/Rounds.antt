-- Rounds of nodes: no segment is there twice, and where two meet a way goes on over the other one.
use Rattle.std.proofs.Common.{◌≡◌, refl, sym, ◌∙◌, ap, subst, ℕ, ◌+◌, ◌<◌, ◌≤◌, Bool, true, false, cond, eqb, List, [], ◌∷◌, length, inl, inr, arith}
use Rattle.std.proofs.lemmas.Bool.{cases_eq, eq-eqb, ne_eqb}
use Rattle.std.proofs.lemmas.List.Sorted.{sum_by-IsPermutation}
use Rattle.std.proofs.lemmas.List.Sums.{sum_by-cons}
use Rattle.std.specs.List.{sum_by}
use Rattle.map_base.specs.declared.ids.NodeId.{NodeId}
use Rattle.map_base.specs.declared.ids.SegId.{SegId}
use Rattle.graph_core.specs.declared.parts.GraphParts.{GraphParts}
use Rattle.graph_core.specs.Consistent.{IsConsistent}
use Rattle.graph_core.specs.Round.{ends_at, segments_at, segments_from}
use Rattle.line_chains.specs.Chains.{other_of, round_of}
use Rattle.octi_grid.proofs.Members.{In}
use Rattle.run_laying.specs.Runs.{MeetAlone}

-- how often a segment is in a list
abbrev is_seg : ℕ → SegId → ℕ
is_seg s t = cond (eqb t.0 s) 1 0

none_from : (s n i : ℕ) (es : List (NodeId × NodeId)) → s < i → sum_by (is_seg s) (segments_from i n es) ≡ 0
none_from s n i [] h = refl
none_from s n i (e ∷ es) h = by_test (ends_at n e) (none_from s n (i + 1) es (omega (arith, h)))
  where
    by_test : (b : Bool) → sum_by (is_seg s) (segments_from (i + 1) n es) ≡ 0 → sum_by (is_seg s) (cond b (record { 0 = i } ∷ segments_from (i + 1) n es) (segments_from (i + 1) n es)) ≡ 0
    by_test false rest = rest
    by_test true rest =
        let other : is_seg s (record { 0 = i }) ≡ 0 = ap (λ b. cond b 1 0) (ne_eqb i s (λ e. absurd (omega (arith, e, h)))) in
        let all = sum_by-cons (is_seg s) (record { 0 = i }) (segments_from (i + 1) n es) in
        omega (arith, rest, other, all)

once_from : (s n i : ℕ) (es : List (NodeId × NodeId)) → sum_by (is_seg s) (segments_from i n es) ≤ 1
once_from s n i [] = omega arith
once_from s n i (e ∷ es) = by_test (ends_at n e) (once_from s n (i + 1) es)
  where
    by_test : (b : Bool) → sum_by (is_seg s) (segments_from (i + 1) n es) ≤ 1 → sum_by (is_seg s) (cond b (record { 0 = i } ∷ segments_from (i + 1) n es) (segments_from (i + 1) n es)) ≤ 1
    by_test false rest = rest
    by_test true rest = elim (cases_eq i s) [
      | inl same ↦ (let one : is_seg s (record { 0 = i }) ≡ 1 = ap (λ b. cond b 1 0) (eq-eqb i s same) in
          let none = none_from s n (i + 1) es (omega (arith, same)) in
          omega (arith, all, one, none))
      | inr other ↦ (let none : is_seg s (record { 0 = i }) ≡ 0 = ap (λ b. cond b 1 0) (ne_eqb i s other) in
          omega (arith, all, none, rest))
    ]
      where
        all : sum_by (is_seg s) (record { 0 = i } ∷ segments_from (i + 1) n es) ≡ is_seg s (record { 0 = i }) + sum_by (is_seg s) (segments_from (i + 1) n es)
        all = sum_by-cons (is_seg s) (record { 0 = i }) (segments_from (i + 1) n es)

-- no segment is in a list twice
abbrev pub AreSegsOnce : List SegId → Type 0
AreSegsOnce [] = Unit {0}
AreSegsOnce (s ∷ ss) = ((t : SegId) → In t ss → t.0 ≡ s.0 → ⊥) × AreSegsOnce ss

counted : (ss : List SegId) (t : SegId) (s : ℕ) → In t ss → t.0 ≡ s → 1 ≤ sum_by (is_seg s) ss
counted [] t s i e = absurd i
counted (x ∷ ss) t s (inl same) e =
    let one : is_seg s x ≡ 1 = ap (λ b. cond b 1 0) (eq-eqb x.0 s (ap (λ (u : SegId). u.0) (sym same) ∙ e)) in
    let all = sum_by-cons (is_seg s) x ss in
    omega (arith, one, all)
counted (x ∷ ss) t s (inr i) e = let rest = counted ss t s i e in let all = sum_by-cons (is_seg s) x ss in omega (arith, rest, all)

once_counted : (ss : List SegId) → ((s : ℕ) → sum_by (is_seg s) ss ≤ 1) → AreSegsOnce ss
once_counted [] few = tt
once_counted (x ∷ ss) few = (again, once_counted ss (λ s. let all = sum_by-cons (is_seg s) x ss in omega (arith, all, few s)))
  where
    again : (t : SegId) → In t ss → t.0 ≡ x.0 → ⊥
    again t i e =
        let one : is_seg x.0 x ≡ 1 = ap (λ b. cond b 1 0) (eq-eqb x.0 x.0 refl) in
        let more = counted ss t x.0 i e in
        let all = sum_by-cons (is_seg x.0) x ss in
        omega (arith, one, more, all, few x.0)

pub round_once : (graph : GraphParts) → IsConsistent graph → (n : NodeId) → n.0 < length graph.kinds → AreSegsOnce (round_of graph n)
round_once graph fit n node =
    once_counted (round_of graph n)
    (λ s. let same = sum_by-IsPermutation (is_seg s) (segments_at n.0 graph.ends) (round_of graph n) (fit.rounds n.0 (omega (arith, node, fit.round_each))).1 in let few = once_from s n.0 0 graph.ends in omega (arith, same, few))

-- where two segments meet, the other one
pub record IsOther (graph : GraphParts) (s : SegId) (n : NodeId) (t : SegId) : Type 0 where
  pub alone : MeetAlone graph s n t
  pub other : t.0 ≡ s.0 → ⊥
  pub there : In t (round_of graph n)

pub other_there : (graph : GraphParts) → IsConsistent graph → (n : NodeId) (s : SegId) → n.0 < length graph.kinds → In s (round_of graph n) → length (round_of graph n) ≡ 2 → IsOther graph s n (other_of (round_of graph n) s)
other_there graph fit n s node on two = by_round (round_of graph n) refl (round_once graph fit n node) on two
  where
    by_round : (r : List SegId) → round_of graph n ≡ r → AreSegsOnce r → In s r → length r ≡ 2 → IsOther graph s n (other_of r s)
    by_round [] is once i e = absurd i
    by_round (a ∷ []) is once i e = absurd (omega (arith, e))
    by_round (a ∷ b ∷ c ∷ rest) is once i e = absurd (omega (arith, e))
    by_round (a ∷ b ∷ []) is once (inl same) e =
        subst (IsOther graph s n) (sym (ap (λ t. cond t b a) (eq-eqb a.0 s.0 (ap (λ (u : SegId). u.0) (sym same)))))
        (record {
          alone = inl (is ∙ ap (λ (u : SegId). u ∷ b ∷ []) (sym same));
          other = λ f. once.0 b (inl refl) (f ∙ ap (λ (u : SegId). u.0) same);
          there = subst (In b) (sym is) (inr (inl refl));
        })
    by_round (a ∷ b ∷ []) is once (inr (inl same)) e =
        subst (IsOther graph s n) (sym (ap (λ t. cond t b a) (ne_eqb a.0 s.0 (λ f. once.0 b (inl refl) (ap (λ (u : SegId). u.0) (sym same) ∙ sym f)))))
        (record {
          alone = inr (is ∙ ap (λ (u : SegId). a ∷ u ∷ []) (sym same));
          other = λ f. once.0 b (inl refl) (ap (λ (u : SegId). u.0) (sym same) ∙ sym f);
          there = subst (In a) (sym is) (inl refl);
        })
    by_round (a ∷ b ∷ []) is once (inr (inr none)) e = absurd none

-- the other one is one
abbrev first_of : SegId → List SegId → SegId
first_of s [] = s
first_of s (x ∷ xs) = x

abbrev second_of : SegId → List SegId → SegId
second_of s [] = s
second_of s (x ∷ []) = s
second_of s (x ∷ y ∷ ys) = y

pub alone_other : (graph : GraphParts) (n : NodeId) (a b s : SegId) → MeetAlone graph a n s → MeetAlone graph b n s → a ≡ b
alone_other graph n a b s (inl e) (inl f) = ap (first_of s) (sym e ∙ f)
alone_other graph n a b s (inl e) (inr f) = ap (first_of s) (sym e ∙ f) ∙ ap (second_of s) (sym e ∙ f)
alone_other graph n a b s (inr e) (inl f) = ap (second_of s) (sym e ∙ f) ∙ ap (first_of s) (sym e ∙ f)
alone_other graph n a b s (inr e) (inr f) = ap (second_of s) (sym e ∙ f)

pub alone_turned : (graph : GraphParts) (n : NodeId) (a b : SegId) → MeetAlone graph a n b → MeetAlone graph b n a
alone_turned graph n a b (inl e) = inr e
alone_turned graph n a b (inr e) = inl e
