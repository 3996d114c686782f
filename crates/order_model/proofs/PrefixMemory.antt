-- A prefix as it lies in memory, segment by segment, and what becomes of it where one segment changes.
use Rattle.std.proofs.Common.{◌≡◌, ℕ, ◌+◌, ◌<◌, List, [], ◌∷◌, ◌++◌, length, map, take, set, get_or, refl, sym, ◌∙◌, ap, subst, arith, inl, inr}
use Rattle.std.specs.List.{All}
use Rattle.std.proofs.lemmas.List.{get_or-map, length-map, map-set, length-set, get_or-set_same, get_or-set_other, take_more, map_push}
use Rattle.std.proofs.Math.Seq.{map-set_same}
use Rattle.std.specs.Prelude.{Vec}
use Rattle.std.specs.Global.{Global}
use Rattle.map_base.specs.declared.ids.LineId.{LineId}
use Rattle.graph_core.specs.Consistent.{AreRising}
use Rattle.order_model.specs.Prefixes.{Placement, placement_of, SegmentPlacement, segment_placement, unchosen, first_placed, none_placed, ArePlacedLines, IsPrefixOf}
use Rattle.order_model.proofs.PlaceLemmas.{same_or_not}
use Rattle.order_model.proofs.PrefixLemmas.{first_placed_fits}

abbrev pub table_of : Vec ℕ Global → List ℕ
table_of v = v.items

abbrev pub lines_in : SegmentPlacement → List LineId
lines_in p = p.lines

abbrev pub placed_in : SegmentPlacement → List LineId
placed_in p = p.placed

-- one more of several is made
pub push_one : {X Y Z : Type 0} (f : X → Z) (g : Y → Z) (xs fresh : List X) (x : X) (ys : List Y) (y : Y) (i : ℕ) → map f xs ≡ map g (take i ys)
    → fresh ≡ xs ++ x ∷ [] → i < length ys → y ≡ get_or ys i y → f x ≡ g y → map f fresh ≡ map g (take (i + 1) ys)
push_one f g xs fresh x ys y i before is below read same =
    ap (map f) is ∙ map_push f xs x ∙ ap (λ zs. zs ++ f x ∷ []) before ∙ ap (λ z. map g (take i ys) ++ z ∷ []) same
    ∙ sym (map_push g (take i ys) y) ∙ sym (ap (map g) (take_more ys i y below ∙ ap (λ z. take i ys ++ z ∷ []) (sym read)))

-- No line is chosen at first.

lines_unchosen : (segs : List (List LineId)) → map lines_in (map unchosen segs) ≡ segs
lines_unchosen [] = refl
lines_unchosen (lines ∷ segs) = ap (λ l. lines ∷ l) (lines_unchosen segs)

placed_unchosen : (segs : List (List LineId)) → map placed_in (map unchosen segs) ≡ none_placed segs
placed_unchosen [] = refl
placed_unchosen (lines ∷ segs) = ap (λ l. first_placed lines ∷ l) (placed_unchosen segs)

pub none_is : (segs : List (List LineId)) (parts : List SegmentPlacement) → parts ≡ map unchosen segs → (placement_of parts).placed ≡ none_placed segs
none_is segs parts is = ap (map placed_in) is ∙ placed_unchosen segs

pub none_fits : (segs : List (List LineId)) (parts : List SegmentPlacement) → All AreRising segs → parts ≡ map unchosen segs → IsPrefixOf segs (placement_of parts)
none_fits segs parts rising is = record {
  of_problem = ap (map lines_in) is ∙ lines_unchosen segs;
  each = ap length (none_is segs parts is) ∙ length-map segs first_placed;
  lines = λ s below. subst (ArePlacedLines (get_or segs s []))
      (sym (get_or-map first_placed segs s [] [] below) ∙ ap (λ q. get_or q s []) (sym (none_is segs parts is)))
      (first_placed_fits (get_or segs s []) (rising s [] below));
}

-- One segment changes.

-- what stands at one segment of a prefix
pub record IsAt (segs : List (List LineId)) (p : Placement) (parts : List SegmentPlacement) (s : ℕ) (old : SegmentPlacement) : Type 0 where
  pub fits : IsPrefixOf segs (placement_of parts)
  pub known : s < length parts
  pub here : old ≡ get_or parts s old
  pub lines_are : old.lines ≡ get_or segs s []
  pub placed_are : old.placed ≡ get_or p.placed s []

pub count_parts : (segs : List (List LineId)) (p : Placement) (parts : List SegmentPlacement) → placement_of parts ≡ p → IsPrefixOf segs p → length parts ≡ length segs
count_parts segs p parts view fits =
    sym (length-map parts placed_in) ∙ ap (λ (q : Placement). length q.placed) view ∙ fits.each

pub at_segment : (segs : List (List LineId)) (p : Placement) (parts : List SegmentPlacement) (s : ℕ) (old : SegmentPlacement)
    → placement_of parts ≡ p → IsPrefixOf segs p → s < length segs → old ≡ get_or parts s old → IsAt segs p parts s old
at_segment segs p parts s old view fits known here = record {
  fits = subst (IsPrefixOf segs) (sym view) fits;
  known = below;
  here = here;
  lines_are = ap lines_in here ∙ sym (get_or-map lines_in parts s old [] below) ∙ ap (λ (q : Placement). get_or q.segs s []) view ∙ ap (λ ls. get_or ls s []) fits.of_problem;
  placed_are = ap placed_in here ∙ sym (get_or-map placed_in parts s old [] below) ∙ ap (λ (q : Placement). get_or q.placed s []) view;
}
  where
    below : s < length parts
    below = omega (arith, known, count_parts segs p parts view fits)

-- the placed lines after the change
pub placed_after : (segs : List (List LineId)) (p : Placement) (parts : List SegmentPlacement) (s : ℕ) (old new : SegmentPlacement) (f : List LineId → List LineId → List LineId)
    → placement_of parts ≡ p → IsAt segs p parts s old → new ≡ segment_placement old.lines (f old.lines old.placed)
    → map placed_in (set parts s new) ≡ set p.placed s (f (get_or segs s []) (get_or p.placed s []))
placed_after segs p parts s old new f view at is =
    map-set placed_in parts s new
    ∙ ap (set (map placed_in parts) s) (ap placed_in is ∙ ap (λ ls. f ls old.placed) at.lines_are ∙ ap (f (get_or segs s [])) at.placed_are)
    ∙ ap (λ (q : Placement). set q.placed s (f (get_or segs s []) (get_or p.placed s []))) view

-- it is a prefix of the problem still
pub fits_after : (segs : List (List LineId)) (p : Placement) (parts : List SegmentPlacement) (s : ℕ) (old new : SegmentPlacement) (placed : List LineId)
    → IsAt segs p parts s old → new ≡ segment_placement old.lines placed → ArePlacedLines new.lines new.placed → IsPrefixOf segs (placement_of (set parts s new))
fits_after segs p parts s old new placed at is ok = record {
  of_problem = map-set_same lines_in parts s new old (ap lines_in is ∙ ap lines_in at.here) ∙ at.fits.of_problem;
  each = length-map (set parts s new) placed_in ∙ length-set parts s new ∙ sym (length-map parts placed_in) ∙ at.fits.each;
  lines = lines_at;
}
  where
    fresh : ArePlacedLines (get_or segs s []) new.placed
    fresh = subst (λ ls. ArePlacedLines ls new.placed) (ap lines_in is ∙ at.lines_are) ok

    lines_at : (t : ℕ) → t < length segs → ArePlacedLines (get_or segs t []) (get_or (map placed_in (set parts s new)) t [])
    lines_at t below = rw (map-set placed_in parts s new) (elim (same_or_not t s) [
      | inl e ↦ subst (λ k. ArePlacedLines (get_or segs k []) (get_or (set (map placed_in parts) s new.placed) k [])) (sym e)
          (rw (get_or-set_same (map placed_in parts) s new.placed [] (omega (arith, at.known, length-map parts placed_in))) fresh)
      | inr n ↦ rw (get_or-set_other (map placed_in parts) s t new.placed [] n) (at.fits.lines t below)
    ])
