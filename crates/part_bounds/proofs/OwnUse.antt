-- A pair on the segments of its terms.
use Rattle.std.proofs.Common.{◌≡◌, ℕ, ◌+◌, ◌<◌, ◌≤◌, ◌==◌, Bool, true, false, cond, ◌||◌, ◌&&◌, List, [], ◌∷◌, length, filter, get_or, refl, sym, ap, subst, ◌∙◌, ◌⊎◌, inl, inr, arith, true≢false, eqb-true}
use Rattle.std.specs.List.{All, AllWithin}
use Rattle.std.proofs.Math.ListN.{set}
use Rattle.std.proofs.lemmas.Bool.{or_left, or_right, or_cases, and_parts, and_from}
use Rattle.std.proofs.Math.Seq.{map-set_same}
use Rattle.std.proofs.lemmas.List.Elements.{All-head, All-tail, All-filter, All-from_recursion, AllWithin-more_set}
use Rattle.map_base.specs.declared.ids.SegId.{SegId}
use Rattle.map_base.specs.declared.ids.LineId.{LineId}
use Rattle.order_model.specs.declared.term.Term.{Term}
use Rattle.order_model.specs.Costs.{seg_of, other_of}
use Rattle.order_model.specs.PartTerms.{is_in, is_of}
use Rattle.order_bound.specs.Pairs.{AreApartSegments}
use Rattle.pair_bounds.specs.Counted.{counted_sum}
use Rattle.order_bound.specs.Bounds.{pair_bound}
use Rattle.order_bound.proofs.Lists.{each_among, is_false}
use Rattle.order_bound.proofs.Completing.{apart_filter}
use Rattle.pair_bounds.specs.declared.one_pair.Room.{Room}
use Rattle.part_bounds.specs.declared.pair_terms.PairTerms.{PairTerms}
use Rattle.part_bounds.specs.PairGroups.{Group, KnowsOwn, own_segments, is_end, meets, group_in, groups_in, share_of}
use Rattle.pair_bounds.specs.Slots.{HasRoom}
use Rattle.pair_bounds.proofs.PairCosts.{all_among}
use Rattle.part_bounds.proofs.KeptUp.{few_filtered}
use Rattle.part_bounds.proofs.OwnSegments.{met_seg, met_other, own_bound_is}

pub own_known : (n : ℕ) (part : List SegId) (terms : List (ℕ × Term)) (own : List SegId) → own ≡ own_segments part terms → All (λ (s : SegId). s.0 < n) part → All (λ (s : SegId). s.0 < n) own
own_known n part terms own e known = subst (All (λ (s : SegId). s.0 < n)) (sym e) (All-filter (meets terms) (λ (s : SegId). s.0 < n) part known)

pub own_apart : (part : List SegId) (terms : List (ℕ × Term)) (own : List SegId) → own ≡ own_segments part terms → AreApartSegments part → AreApartSegments own
own_apart part terms own e apart = subst AreApartSegments (sym e) (apart_filter (meets terms) part apart)

in_own : (q : SegId → Bool) (part : List SegId) (s : SegId) → is_in part s ≡ true → q s ≡ true → is_in (filter q part) s ≡ true
in_own q [] s h e = absurd (true≢false (sym h))
in_own q (t ∷ part) s h e = by_test (q t) refl (or_cases (t.0 == s.0) (is_in part s) h) (λ later. in_own q part s later e)
  where
    by_test : (b : Bool) → q t ≡ b → ((t.0 == s.0) ≡ true) ⊎ (is_in part s ≡ true) → (is_in part s ≡ true → is_in (filter q part) s ≡ true) → is_in (cond b (t ∷ filter q part) (filter q part)) s ≡ true
    by_test true g (inl here) rest = or_left (t.0 == s.0) (is_in (filter q part) s) here
    by_test true g (inr later) rest = or_right (t.0 == s.0) (is_in (filter q part) s) (rest later)
    by_test false g (inl here) rest =
        let P : ℕ → SegId = λ n. record { 0 = n } in
        absurd (true≢false (sym e ∙ (sym (ap q (ap P (eqb-true t.0 s.0 here))) ∙ g)))
    by_test false g (inr later) rest = rest later

either_end : (part : List SegId) (s a b : SegId) → (a.0 == s.0 || b.0 == s.0) ≡ true → (is_in part a && is_in part b) ≡ true → is_in part s ≡ true
either_end part s a b h inside =
    let P : ℕ → SegId = λ n. record { 0 = n } in
    let parts = and_parts (is_in part a) (is_in part b) inside in
    elim (or_cases (a.0 == s.0) (b.0 == s.0) h) [
      | inl e ↦ ap (λ k. is_in part k) (sym (ap P (eqb-true a.0 s.0 e))) ∙ parts.0
      | inr e ↦ ap (λ k. is_in part k) (sym (ap P (eqb-true b.0 s.0 e))) ∙ parts.1
    ]

met_inside : (part : List SegId) (terms : List (ℕ × Term)) (s : SegId) → All (λ (t : ℕ × Term). is_of part t.1 ≡ true) terms → meets terms s ≡ true → is_in part s ≡ true
met_inside part [] s inside h = absurd (true≢false (sym h))
met_inside part (t ∷ terms) s inside h = elim (or_cases (is_end s t.1) (meets terms s) h) [
  | inl here ↦ either_end part s (seg_of t.1) (other_of t.1) here (All-head (λ (t : ℕ × Term). is_of part t.1 ≡ true) t terms inside)
  | inr later ↦ met_inside part terms s (All-tail (λ (t : ℕ × Term). is_of part t.1 ≡ true) t terms inside) later
]

-- a segment that is none of a pair's own meets none of its terms
pub not_own : (part : List SegId) (terms : List (ℕ × Term)) (own : List SegId) (s : SegId) → own ≡ own_segments part terms → All (λ (t : ℕ × Term). is_of part t.1 ≡ true) terms → is_in own s ≡ false
    → meets terms s ≡ false
not_own part terms own s e inside none =
    is_false (meets terms s) (λ h. true≢false (sym (in_own (meets terms) part s (met_inside part terms s inside h) h) ∙ (ap (λ l. is_in l s) (sym e) ∙ none)))

pub own_inside : (part : List SegId) (terms all : List (ℕ × Term)) (own : List SegId) → own ≡ own_segments part terms → all ≡ terms → All (λ (t : ℕ × Term). is_of part t.1 ≡ true) terms
    → All (λ (t : ℕ × Term). is_of own t.1 ≡ true) all
own_inside part terms all own e same inside =
    subst (All (λ (t : ℕ × Term). is_of own t.1 ≡ true)) (sym same) (subst (λ l. All (λ (t : ℕ × Term). is_of l t.1 ≡ true) terms) (sym e)
    (All-from_recursion (λ (t : ℕ × Term). is_of (own_segments part terms) t.1 ≡ true) terms (each_among (λ (t : ℕ × Term). is_of (own_segments part terms) t.1 ≡ true) terms (λ t h.
    let ends = and_parts (is_in part (seg_of t.1)) (is_in part (other_of t.1)) (all_among (λ (t : ℕ × Term). is_of part t.1 ≡ true) terms inside t h) in
    and_from (is_in (own_segments part terms) (seg_of t.1)) (is_in (own_segments part terms) (other_of t.1)) (in_own (meets terms) part (seg_of t.1) ends.0 (met_seg terms t h))
    (in_own (meets terms) part (other_of t.1) ends.1 (met_other terms t h))))))

pub own_room : (part : List SegId) (terms : List (ℕ × Term)) (own : List SegId) (n m : ℕ) (room : Room) → own ≡ own_segments part terms → n ≡ m → HasRoom (length part) m room → HasRoom (length own) n room
own_room part terms own n m room e same has =
    let few : length own ≤ length part = omega (arith, ap length e, few_filtered (meets terms) part) in
    let a = has.slots in let b = has.links in let c = has.waiting in let d = has.children in
    record { slots = omega (arith, a, few); links = omega (arith, b, same); waiting = omega (arith, c, few, same); children = omega (arith, d, same) }

pub own_share : (segs placed : List (List LineId)) (part own : List SegId) (g : Group) (all : List (ℕ × Term)) → own ≡ own_segments part g.1 → all ≡ g.1
    → counted_sum segs placed all + pair_bound segs placed own all g.0 ≡ share_of segs part placed g
own_share segs placed part own g all e same =
    ap (λ l. counted_sum segs placed l + pair_bound segs placed own l g.0) same ∙ (ap (λ l. counted_sum segs placed g.1 + pair_bound segs placed l g.1 g.0) e
    ∙ ap (λ n. counted_sum segs placed g.1 + n) (sym (own_bound_is segs placed part g.1 g.0)))

-- the segments of one pair more are found
pub found_at : (part : List SegId) (pairs : List PairTerms) (i : ℕ) (g e : PairTerms) → i < length pairs → g ≡ get_or pairs i g → e.terms.items ≡ g.terms.items → e.segs.items ≡ own_segments part g.terms.items
    → AllWithin (KnowsOwn part) pairs 0 i → AllWithin (KnowsOwn part) (set pairs i e) 0 (i + 1)
found_at part pairs i g e below here terms own before =
    AllWithin-more_set pairs i e below (KnowsOwn part) before (own ∙ ap (own_segments part) (sym terms))

pub same_groups : (pairs : List PairTerms) (i : ℕ) (g e : PairTerms) → g ≡ get_or pairs i g → group_in e ≡ group_in g → groups_in (set pairs i e) ≡ groups_in pairs
same_groups pairs i g e here same = map-set_same group_in pairs i e g (same ∙ ap group_in here)
