-- Names that are printed keep clear of each other, of markers and of walks.
use Rattle.std.proofs.Common.{◌≡◌, ℕ, zero, suc, ◌+◌, Bool, true, false, not, cond, ◌||◌, ℤ, List, [], ◌∷◌, ◌++◌, length, Option, Some, None, refl, subst, sym, ◌∙◌, arith}
use Rattle.std.specs.Int.{int_min, int_max}
use Rattle.std.specs.List.{find, list_all, list_any, range_with_len}
use Rattle.std.proofs.lemmas.Int.{ints, clamps}
use Rattle.std.proofs.lemmas.Bool.{and_from, and_parts, not_from_false, not-true, or_from, or_parts}
use Rattle.std.proofs.lemmas.List.{append-nil}
use Rattle.std.proofs.lemmas.List.Folds.{list_all-append, list_any-append}
use Rattle.graph_core.specs.declared.parts.NodeKind.{NodeKind}
use Rattle.graph_core.specs.declared.parts.NodeKind.TheVariants.{Station, Junction}
use Rattle.graph_core.specs.declared.parts.GraphParts.{GraphParts}
use Rattle.octi_grid.specs.Walks.{PlainWalk}
use Rattle.svg_writer.specs.declared.bounds.Bounds.{Bounds}
use Rattle.svg_writer.specs.declared.names.Names.{Names}
use Rattle.svg_writer.specs.Picture.{kind_at}
use Rattle.label_place.specs.declared.place.Place.{Place}
use Rattle.label_place.specs.Boxes.{share_point}
use Rattle.label_place.specs.Places.{all_places, are_apart, box_at, boxes_from, first_places, is_clear, is_taken, marker_squares, meets_walk, place_of, sign_of, with_next}
use Rattle.label_place.proofs.Held.{boxes_from-append, length-places}
use Rattle.label_place.proofs.Numbers.{le_ends}
use Rattle.label_place.proofs.Tests.{and_same}

max_swap : (a b : ℤ) → int_max a b ≡ int_max b a
max_swap a b = omega (arith, ints, clamps)

min_swap : (a b : ℤ) → int_min a b ≡ int_min b a
min_swap a b = omega (arith, ints, clamps)

share_swap : (a b : Bounds) → share_point a b ≡ share_point b a
share_swap a b = and_same _ _ _ _
    (le_ends (int_max a.left b.left) (int_min a.right b.right) _ _ (max_swap a.left b.left) (min_swap a.right b.right))
    (le_ends (int_max a.top b.top) (int_min a.bottom b.bottom) _ _ (max_swap a.top b.top) (min_swap a.bottom b.bottom))

-- one box more
apart_more : (bs : List Bounds) (b : Bounds) → are_apart bs ≡ true → list_any (share_point b) bs ≡ false → are_apart (bs ++ b ∷ []) ≡ true
apart_more [] b e f = refl
apart_more (a ∷ bs) b e f =
    let parts = and_parts (not (list_any (share_point a) bs)) (are_apart bs) e in
    let none = or_parts (share_point b a) (list_any (share_point b) bs) f in
    and_from _ _
    (not_from_false _ (list_any-append (share_point a) bs (b ∷ []) ∙ or_from _ _ (not-true _ parts.0) (or_from _ _ (share_swap a b ∙ none.0) refl)))
    (apart_more bs b parts.1 none.1)

found_passes : {X : Type 0} (f : X → Bool) (xs : List X) (x : X) → find f xs ≡ Some x → f x ≡ true
found_passes f [] x e = cc
found_passes {X} f (y ∷ ys) x e = by_test (f y) refl (λ g. found_passes f ys x g) e
  where
    by_test : (b : Bool) → f y ≡ b → (find f ys ≡ Some x → f x ≡ true) → cond b (Some y) (find f ys) ≡ Some x → f x ≡ true
    by_test true is h g = let same : y ≡ x = cc in subst (λ (z : X). f z ≡ true) same is
    by_test false is h g = h g

-- a place that is taken was free
was_free : (names : Names) (g : GraphParts) (walks : List PlainWalk) (printed : List Bounds) (n : ℕ) (kind : NodeKind) (p : Place) → place_of names g walks printed n kind ≡ Some p
    → is_taken g walks printed (box_at (sign_of names g walks n) p) ≡ false
was_free names g walks printed n (Station s) p e = not-true _ (found_passes (λ (q : Place). not (is_taken g walks printed (box_at (sign_of names g walks n) q))) all_places p e)
was_free names g walks printed n Junction p e = cc

-- boxes that keep clear
pub record Keep (g : GraphParts) (walks : List PlainWalk) (boxes : List Bounds) : Type 0 where
  pub apart : are_apart boxes ≡ true
  pub clear : list_all (is_clear g walks) boxes ≡ true

keep_more : (g : GraphParts) (walks : List PlainWalk) (boxes : List Bounds) (b : Bounds) → Keep g walks boxes → is_taken g walks boxes b ≡ false → Keep g walks (boxes ++ b ∷ [])
keep_more g walks boxes b h free =
    let parts = or_parts (list_any (share_point b) boxes || list_any (share_point b) (marker_squares g walks)) (list_any (meets_walk g walks b) (range_with_len 0 (length g.ends))) free in
    let near = or_parts (list_any (share_point b) boxes) (list_any (share_point b) (marker_squares g walks)) parts.0 in
    record {
      apart = apart_more boxes b h.apart near.0;
      clear = list_all-append (is_clear g walks) boxes (b ∷ [])
          ∙ and_from _ _ h.clear (and_from _ _ (not_from_false _ (or_from _ _ (or_from false (list_any (share_point b) (marker_squares g walks)) refl near.1) parts.1)) refl);
    }

kept_next : (names : Names) (g : GraphParts) (walks : List PlainWalk) (n : ℕ) (earlier : List (Option Place)) → 0 + length earlier ≡ n → Keep g walks (boxes_from names g walks 0 earlier)
    → Keep g walks (boxes_from names g walks 0 (with_next names g walks n earlier))
kept_next names g walks n earlier count h =
    let next = place_of names g walks (boxes_from names g walks 0 earlier) n (kind_at g.kinds n) in
    subst (Keep g walks) (sym (boxes_from-append names g walks 0 n earlier (next ∷ []) count)) (by_place next refl)
  where
    by_place : (o : Option Place) → place_of names g walks (boxes_from names g walks 0 earlier) n (kind_at g.kinds n) ≡ o → Keep g walks (boxes_from names g walks 0 earlier ++ boxes_from names g walks n (o ∷ []))
    by_place None e = subst (Keep g walks) (sym (append-nil (boxes_from names g walks 0 earlier))) h
    by_place (Some p) e = keep_more g walks (boxes_from names g walks 0 earlier) (box_at (sign_of names g walks n) p) h (was_free names g walks (boxes_from names g walks 0 earlier) n (kind_at g.kinds n) p e)

pub kept : (names : Names) (g : GraphParts) (walks : List PlainWalk) (n : ℕ) → Keep g walks (boxes_from names g walks 0 (first_places names g walks n))
kept names g walks zero = record { apart = refl; clear = refl }
kept names g walks (suc n) = kept_next names g walks n (first_places names g walks n) (omega (arith, length-places names g walks n)) (kept names g walks n)
