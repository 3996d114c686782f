-- A segment is searched for in a part, and a line on a segment.
use Rattle.std.proofs.Common.{◌≡◌, ℕ, zero, suc, ◌<◌, ◌==◌, ◌||◌, ◌&&◌, not, Bool, true, false, List, [], ◌∷◌, length, get_or, refl, sym, ◌∙◌, ap, arith, Result, Ok, Err, Some, eq-eqb}
use Rattle.std.specs.List.Sorted.{IsSearchInRange, IsBinarySearchResult}
use Rattle.std.specs.Ordering.{nat_cmp}
use Rattle.std.specs.Result.{is_ok}
use Rattle.map_base.specs.declared.ids.SegId.{SegId}
use Rattle.map_base.specs.declared.ids.LineId.{LineId}
use Rattle.order_model.specs.Parts.{IsRisingPart}
use Rattle.order_model.specs.Places.{has_line}
use Rattle.order_model.specs.PartTerms.{is_in}
use Rattle.order_model.specs.Problems.{lines_on}
use Rattle.order_model.specs.Questions.{Question}
use Rattle.dual_bound.specs.Accepting.{is_fork}
use Rattle.dual_shares.specs.GroupSteps.{IsPlaceInPart}
use Rattle.dual_shares.proofs.Grouping.{found_in_part, missing_in_part}

in_at : (part : List SegId) (s : SegId) (k : ℕ) → k < length part → get_or part k s ≡ s → is_in part s ≡ true
in_at [] s k below is = absurd (omega (arith, below))
in_at (t ∷ part) s zero below is = ap (λ b. b || is_in part s) (eq-eqb t.0 s.0 (ap (λ (u : SegId). u.0) is))
in_at (t ∷ part) s (suc k) below is = or_second (t.0 == s.0) (is_in part s) (in_at part s k (omega (arith, below)) is)
  where
    or_second : (a b : Bool) → b ≡ true → (a || b) ≡ true
    or_second true b h = refl
    or_second false b h = h

pub part_searched : (part : List SegId) (s : SegId) (r : Result ℕ ℕ) → IsRisingPart part → IsSearchInRange r (length part) → IsBinarySearchResult (λ (t : SegId). nat_cmp t.0 s.0) part r → is_in part s ≡ is_ok r
part_searched part s (Ok k) rising within found = let at : IsPlaceInPart part s (Some k) = found_in_part part s k within found in in_at part s k at.0 at.1
part_searched part s (Err k) rising within found = missing_in_part part s k rising found

-- the tests of a fork

pub no_segment : (q : Question) (s : SegId) (a b : LineId) → is_in q.part s ≡ false → false ≡ is_fork q s a b
no_segment q s a b h = sym (ap (λ t. t && (has_line (lines_on q.segs s) a && (has_line (lines_on q.segs s) b && not (a.0 == b.0)))) h)

pub all_hold : (q : Question) (s : SegId) (a b : LineId) (has : Bool) → is_in q.part s ≡ true → (a.0 == b.0) ≡ false → has_line (lines_on q.segs s) a ≡ true → has ≡ has_line (lines_on q.segs s) b → has ≡ is_fork q s a b
all_hold q s a b has here apart first second =
    second
    ∙ sym (ap (λ t. t && (has_line (lines_on q.segs s) a && (has_line (lines_on q.segs s) b && not (a.0 == b.0)))) here
    ∙ (ap (λ t. t && (has_line (lines_on q.segs s) b && not (a.0 == b.0))) first
    ∙ (ap (λ t. has_line (lines_on q.segs s) b && not t) apart ∙ and_true (has_line (lines_on q.segs s) b))))
  where
    and_true : (x : Bool) → (x && true) ≡ x
    and_true true = refl
    and_true false = refl
