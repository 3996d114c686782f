-- All segments of a part by itself.
use Rattle.std.proofs.Common.{◌≡◌, ℕ, suc, ◌+◌, ◌*◌, ◌/◌, ◌^◌, ◌<◌, ◌==◌, nat_le, Bool, true, ◌&&◌, List, [], ◌∷◌, length, map, sum_by, get_or}
use Rattle.std.proofs.Common.{refl, sym, ◌∙◌, ap, arith, inl, inr, eqb-true, true≢false}
use Rattle.std.specs.List.{list_all}
use Rattle.std.proofs.lemmas.List.Sums.{sum_by-cons}
use Rattle.map_base.specs.declared.ids.SegId.{SegId}
use Rattle.map_base.specs.declared.ids.LineId.{LineId}
use Rattle.order_model.specs.declared.problem.ProblemParts.{ProblemParts}
use Rattle.order_model.specs.Problems.{lines_on, choices}
use Rattle.order_model.specs.Parts.{IsRisingPart}
use Rattle.order_model.specs.PartTerms.{is_in}
use Rattle.order_model.proofs.Lines.{either_true}
use Rattle.order_search.specs.Finding.{places_of}
use Rattle.order_search.specs.ByItself.{by_itself, numbered_like, own_segments}
use Rattle.order_search.proofs.OwnParts.{at_number, lines_there}
use Rattle.dual_bound.specs.Accepting.{is_narrow, load_of}
use Rattle.dual_ascent.specs.OwnNumbers.{segments_from, all_segments}

pub within_from : (k : ℕ) (segs : List (List LineId)) (s : SegId) → is_in (segments_from k segs) s ≡ true
    → s.0 < k + length segs
within_from k [] s h = absurd (true≢false (sym h))
within_from k (lines ∷ segs) s h = elim (either_true (k == s.0) (is_in (segments_from (k + 1) segs) s) h) [
  | inl here ↦ omega (arith, eqb-true k s.0 here)
  | inr later ↦ omega (arith, within_from (k + 1) segs s later)
]

own_from : (segs : List (List LineId)) (k : ℕ) (part : List SegId)
    → segments_from k (map (lines_on segs) part) ≡ numbered_like k part
own_from segs k [] = refl
own_from segs k (s ∷ part) = let made : List SegId → List SegId = λ rest. record { 0 = k } ∷ rest in ap made (own_from segs (k + 1) part)

pub all_are_own : (p : ProblemParts) (part : List SegId) → all_segments (by_itself p part) ≡ own_segments part
all_are_own p part = own_from p.segs 0 part

pub some_segments : (p : ProblemParts) (part : List SegId) → IsRisingPart part → 0 < length (by_itself p part).segs
some_segments p [] rising = absurd rising
some_segments p (s ∷ part) rising = omega arith

-- What is summed over the segments of a part by itself, and what holds of each.

sum_like : (f g : SegId → ℕ) (k : ℕ) (part : List SegId)
    → ((i j : ℕ) (d : SegId) → k + i ≡ j → i < length part → f (record { 0 = j }) ≡ g (get_or part i d))
    → sum_by f (numbered_like k part) ≡ sum_by g part
sum_like f g k [] same = refl
sum_like f g k (s ∷ part) same =
    let first : f (record { 0 = k }) ≡ g s = same 0 k s (omega arith) (omega arith) in
    let later = sum_like f g (k + 1) part (λ i j d e below. same (suc i) j d (omega (arith, e)) (omega (arith, below))) in
    sum_by-cons f (record { 0 = k }) (numbered_like (k + 1) part)
    ∙ ap (λ n. n + sum_by f (numbered_like (k + 1) part)) first
    ∙ ap (λ n. g s + n) later
    ∙ sym (sum_by-cons g s part)

all_like : (f g : SegId → Bool) (k : ℕ) (part : List SegId)
    → ((i j : ℕ) (d : SegId) → k + i ≡ j → i < length part → f (record { 0 = j }) ≡ g (get_or part i d))
    → list_all f (numbered_like k part) ≡ list_all g part
all_like f g k [] same = refl
all_like f g k (s ∷ part) same =
    let first : f (record { 0 = k }) ≡ g s = same 0 k s (omega arith) (omega arith) in
    let later = all_like f g (k + 1) part (λ i j d e below. same (suc i) j d (omega (arith, e)) (omega (arith, below))) in
    ap (λ b. b && list_all f (numbered_like (k + 1) part)) first ∙ ap (λ b. g s && b) later

-- the lines of a segment of a part by itself
lines_like : (p : ProblemParts) (part : List SegId) (i j : ℕ) (d : SegId) → 0 + i ≡ j → i < length part
    → lines_on (by_itself p part).segs (record { 0 = j }) ≡ lines_on p.segs (get_or part i d)
lines_like p part i j d e below =
    let here : j ≡ i = omega (arith, e) in
    ap (λ n. get_or (by_itself p part).segs n []) here
    ∙ sym (lines_there p.segs part i below)
    ∙ ap (λ n. get_or p.segs n []) (at_number part i d below)

sum_by_itself : (f : List LineId → ℕ) (p : ProblemParts) (part : List SegId)
    → sum_by (λ (s : SegId). f (lines_on (by_itself p part).segs s)) (own_segments part)
    ≡ sum_by (λ (s : SegId). f (lines_on p.segs s)) part
sum_by_itself f p part =
    sum_like (λ (s : SegId). f (lines_on (by_itself p part).segs s)) (λ (s : SegId). f (lines_on p.segs s)) 0 part
    (λ i j d e below. ap f (lines_like p part i j d e below))

pub places_by_itself : (p : ProblemParts) (part : List SegId)
    → places_of (by_itself p part).segs (own_segments part) ≡ places_of p.segs part
places_by_itself p part = sum_by_itself choices p part

pub load_by_itself : (p : ProblemParts) (part : List SegId)
    → load_of (by_itself p part).segs (own_segments part) ≡ load_of p.segs part
load_by_itself p part =
    ap (λ n. (n + 999999) / 1000000) (sum_by_itself (λ lines. length lines * length lines * 2 ^ length lines) p part)

pub narrow_by_itself : (p : ProblemParts) (part : List SegId)
    → is_narrow (by_itself p part).segs (own_segments part) ≡ is_narrow p.segs part
narrow_by_itself p part =
    all_like (λ (s : SegId). nat_le (length (lines_on (by_itself p part).segs s)) 16)
    (λ (s : SegId). nat_le (length (lines_on p.segs s)) 16) 0 part
    (λ i j d e below. ap (λ lines. nat_le (length lines) 16) (lines_like p part i j d e below))
