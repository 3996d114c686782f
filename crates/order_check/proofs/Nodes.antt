-- What a node of a tree is tested for.
use Rattle.std.proofs.Common.{◌≡◌, ℕ, suc, ◌+◌, ◌<◌, ◌≤◌, ◌==◌, ◌&&◌, Bool, true, false, List, [], ◌∷◌, length, refl, sym, ◌∙◌, ap, arith, get_or, eq-eqb, eqb-true}
use Rattle.std.specs.List.{All, list_all}
use Rattle.std.proofs.lemmas.List.{length-map}
use Rattle.map_base.specs.declared.ids.SegId.{SegId}
use Rattle.map_base.specs.declared.ids.LineId.{LineId}
use Rattle.graph_core.specs.Consistent.{AreRising}
use Rattle.order_model.specs.Problems.{lines_on}
use Rattle.order_model.specs.Prefixes.{is_left, ArePlacedLines}
use Rattle.order_model.proofs.PrefixLemmas.{lines_at_segment}
use Rattle.order_proof.specs.declared.tree.Tree.{Tree}
use Rattle.order_proof.specs.Trees.{AreDistinct}
use Rattle.order_model.specs.PartTerms.{is_in}
use Rattle.order_bound.specs.Accepting.{are_those_left}
use Rattle.order_bound.proofs.Sound.{all_in, rising_at}
use Rattle.order_bound.proofs.LeftCounts.{those_left_by_count}
use Rattle.order_check.specs.Children.{child_lines}
use Rattle.order_check.specs.Verdict.{are_same}

-- a segment that is none of the problem's is not of the part
pub not_of_part : (part : List SegId) (n : ℕ) (s : SegId) → All (λ (t : SegId). t.0 < n) part → n ≤ s.0 → is_in part s ≡ false
not_of_part part n s known over = by_test (is_in part s) refl
  where
    by_test : (b : Bool) → is_in part s ≡ b → b ≡ false
    by_test false e = refl
    by_test true e = absurd (omega (arith, over, all_in (λ (t : SegId). t.0 < n) part s known e))

-- lists of different lengths are not the same
pub other_lengths : (some others : List SegId) → (length some ≡ length others → ⊥) → are_same some others ≡ false
other_lengths [] [] h = absurd (h refl)
other_lengths [] (t ∷ others) h = refl
other_lengths (s ∷ some) [] h = refl
other_lengths (s ∷ some) (t ∷ others) h = by_rest (s.0 == t.0) (other_lengths some others (λ e. h (ap suc e)))
  where
    by_rest : (b : Bool) → are_same some others ≡ false → (b && are_same some others) ≡ false
    by_rest true e = e
    by_rest false e = refl

-- the lines of a segment, as they are read
pub lines_read : (segs read : List (List LineId)) (s : SegId) (item lines : List LineId) → s.0 < length segs → read ≡ segs → item ≡ get_or read s.0 item → lines ≡ item
    → lines ≡ lines_on segs s
lines_read segs read s item lines known same is copy =
    copy ∙ lines_at_segment segs s.0 item known (is ∙ ap (λ l. get_or l s.0 item) same)

-- Lines of children that are left, by their count.

module _ (segs placed : List (List LineId)) (s : SegId) (children : List (LineId × Tree)) (rising : All AreRising segs) (known : s.0 < length segs)
    (ok : ArePlacedLines (lines_on segs s) (lines_on placed s)) (distinct : AreDistinct (child_lines children)) where
  abbrev are_left : Bool
  are_left = list_all (is_left (lines_on segs s) (lines_on placed s)) (child_lines children)

  counted : are_those_left (lines_on segs s) (lines_on placed s) (child_lines children)
      ≡ ((length (child_lines children) + length (lines_on placed s) == length (lines_on segs s)) && are_left)
  counted = those_left_by_count (lines_on segs s) (lines_on placed s) (child_lines children) (rising_at segs s.0 rising) ok distinct

  same_count : length (child_lines children) ≡ length children
  same_count = length-map children (λ (c : LineId × Tree). c.0)

  pub as_many_left : length children + length (lines_on placed s) ≡ length (lines_on segs s)
      → are_left ≡ are_those_left (lines_on segs s) (lines_on placed s) (child_lines children)
  as_many_left h = sym (counted ∙ ap (λ b. b && are_left) (eq-eqb (length (child_lines children) + length (lines_on placed s)) (length (lines_on segs s)) (omega (arith, h, same_count))))

  pub not_as_many : (length children + length (lines_on placed s) ≡ length (lines_on segs s) → ⊥)
      → false ≡ are_those_left (lines_on segs s) (lines_on placed s) (child_lines children)
  not_as_many h = sym (counted ∙ ap (λ b. b && are_left) (differ (length (child_lines children) + length (lines_on placed s) == length (lines_on segs s)) refl))
    where
      differ : (b : Bool) → (length (child_lines children) + length (lines_on placed s) == length (lines_on segs s)) ≡ b → b ≡ false
      differ false e = refl
      differ true e = absurd (h (omega (arith, same_count, eqb-true (length (child_lines children) + length (lines_on placed s)) (length (lines_on segs s)) e)))
