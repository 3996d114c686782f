-- Tables that hold what names keep clear of.
use Rattle.std.proofs.Common.{◌≡◌, ℕ, zero, suc, ◌+◌, ◌<◌, Bool, true, false, not, cond, ◌||◌, List, [], ◌∷◌, ◌++◌, length, get_or, drop, Option, Some, None, refl, ap, subst, sym, ◌∙◌, arith, append_assoc, length-append}
use Rattle.std.specs.List.{find, list_any, range_with_len}
use Rattle.std.proofs.Math.Bool.{or_assoc, or_comm}
use Rattle.std.proofs.lemmas.Int.{ints}
use Rattle.std.proofs.lemmas.List.{append-nil, drop_more, map-append}
use Rattle.std.proofs.lemmas.List.Folds.{list_any-append}
use Rattle.graph_core.specs.declared.parts.NodeKind.TheVariants.{Station, Junction}
use Rattle.graph_core.specs.declared.parts.GraphParts.{GraphParts}
use Rattle.map_base.specs.declared.ids.StationId.{StationId}
use Rattle.octi_grid.specs.Walks.{PlainWalk}
use Rattle.line_offsets.specs.declared.corner.Corner.{Corner}
use Rattle.svg_writer.specs.declared.bounds.Bounds.{Bounds}
use Rattle.svg_writer.specs.declared.names.Names.{Names}
use Rattle.svg_writer.specs.Picture.{kind_at, walk_at}
use Rattle.label_place.specs.declared.place.Place.{Place}
use Rattle.label_place.specs.declared.place.Sign.{Sign}
use Rattle.label_place.specs.declared.things.Thing.{Thing}
use Rattle.label_place.specs.declared.things.Thing.TheVariants.{Area}
use Rattle.label_place.specs.declared.cells.Cell.{Cell}
use Rattle.label_place.specs.declared.grid.Grid.{Grid}
use Rattle.label_place.specs.Boxes.{share_point}
use Rattle.label_place.specs.Places.{all_places, box_at, box_from, boxes_from, first_places, is_taken, margin_of, marker_squares, meets_walk, place_of, sign_of, text_at, width}
use Rattle.label_place.specs.Grids.{cells_in, cells_of, found_at, hits, meets, meets_at, meets_some, Adds}
use Rattle.label_place.specs.Signs.{all_strokes, areas, boxes_at, is_free, things_of, walk_things, Has, Takes, TakesFree}
use Rattle.label_place.proofs.Tests.{any_flat, any_map, any_same, or_same}
use Rattle.label_place.proofs.Reaching.{all_found, IsUpright}
use Rattle.label_place.proofs.Stepping.{strokes_met}

-- ---- what is taken, by things

or_turned : (a b c : Bool) → (a || (b || c)) ≡ ((c || a) || b)
or_turned a b c = sym (or_assoc a b c) ∙ or_comm (a || b) c ∙ sym (or_assoc c a b)

areas_met : (box : Bounds) (bs : List Bounds) → list_any (meets box) (areas bs) ≡ list_any (share_point box) bs
areas_met box bs = any_map (meets box) (λ (b : Bounds). Area b) bs

walks_met : (g : GraphParts) (walks : List PlainWalk) (box : Bounds) → list_any (meets box) (all_strokes g walks) ≡ list_any (meets_walk g walks box) (range_with_len 0 (length g.ends))
walks_met g walks box = any_flat (meets box) (walk_things g walks) (range_with_len 0 (length g.ends))
    ∙ any_same (λ (s : ℕ). list_any (meets box) (walk_things g walks s)) (meets_walk g walks box) (range_with_len 0 (length g.ends))
    (λ s. strokes_met box (margin_of g s) (walk_at walks s).start (walk_at walks s).steps)

taken_by_things : (g : GraphParts) (walks : List PlainWalk) (printed : List Bounds) (box : Bounds) → list_any (meets box) (things_of g walks printed) ≡ is_taken g walks printed box
taken_by_things g walks printed box =
    list_any-append (meets box) (areas (marker_squares g walks)) (all_strokes g walks ++ areas printed)
    ∙ or_same _ _ _ _ (areas_met box (marker_squares g walks)) (list_any-append (meets box) (all_strokes g walks) (areas printed) ∙ or_same _ _ _ _ (walks_met g walks box) (areas_met box printed))
    ∙ or_turned (list_any (share_point box) (marker_squares g walks)) (list_any (meets_walk g walks box) (range_with_len 0 (length g.ends))) (list_any (share_point box) printed)

-- a table tells what is taken
table_tells : (table : Grid) (g : GraphParts) (walks : List PlainWalk) (printed : List Bounds) (box : Bounds) → Has table g walks printed → IsUpright box → meets_some table box ≡ is_taken g walks printed box
table_tells table g walks printed box h up =
    any_same (meets_at table box) (λ (q : Cell). list_any (found_at table.side box q) (things_of g walks printed)) (cells_in (cells_of table.side box)) (λ q. h.found box q)
    ∙ all_found table.side box (things_of g walks printed) h.linked.side up ∙ taken_by_things g walks printed box

-- ---- tables that grow

pub has_all : (empty marked full : Grid) (g : GraphParts) (walks : List PlainWalk) → empty.entries.items ≡ [] → Adds empty marked (areas (marker_squares g walks)) → Adds marked full (all_strokes g walks) → Has full g walks []
has_all empty marked full g walks none squares strokes = record {
  linked = strokes.linked;
  found = λ box q. strokes.found box q ∙ or_same _ _ _ _ (squares.found box q) refl ∙ start box q
      ∙ ap (λ (side : ℕ). list_any (found_at side box q) (areas (marker_squares g walks)) || list_any (found_at marked.side box q) (all_strokes g walks)) (sym (strokes.side ∙ squares.side))
      ∙ ap (λ (side : ℕ). list_any (found_at full.side box q) (areas (marker_squares g walks)) || list_any (found_at side box q) (all_strokes g walks)) (sym strokes.side)
      ∙ sym (list_any-append (found_at full.side box q) (areas (marker_squares g walks)) (all_strokes g walks))
      ∙ ap (λ (ts : List Thing). list_any (found_at full.side box q) (areas (marker_squares g walks) ++ ts)) (sym (append-nil (all_strokes g walks)));
}
  where
    start : (box : Bounds) (q : Cell)
        → ((meets_at empty box q || list_any (found_at empty.side box q) (areas (marker_squares g walks))) || list_any (found_at marked.side box q) (all_strokes g walks))
        ≡ (list_any (found_at empty.side box q) (areas (marker_squares g walks)) || list_any (found_at marked.side box q) (all_strokes g walks))
    start box q = ap (λ es. (list_any (hits box q) es || list_any (found_at empty.side box q) (areas (marker_squares g walks))) || list_any (found_at marked.side box q) (all_strokes g walks)) none

has_more : (old new : Grid) (g : GraphParts) (walks : List PlainWalk) (printed more : List Bounds) → Has old g walks printed → Adds old new (areas more) → Has new g walks (printed ++ more)
has_more old new g walks printed more h adds =
    let all : things_of g walks (printed ++ more) ≡ things_of g walks printed ++ areas more =
    ap (λ (ts : List Thing). areas (marker_squares g walks) ++ (all_strokes g walks ++ ts)) (map-append (λ (b : Bounds). Area b) printed more)
    ∙ ap (λ (ts : List Thing). areas (marker_squares g walks) ++ ts) (sym (append_assoc (all_strokes g walks) (areas printed) (areas more)))
    ∙ sym (append_assoc (areas (marker_squares g walks)) (all_strokes g walks ++ areas printed) (areas more)) in
    record {
      linked = adds.linked;
      found = λ box q. adds.found box q
          ∙ ap (λ (b : Bool). b || list_any (found_at old.side box q) (areas more)) (h.found box q)
          ∙ sym (list_any-append (found_at old.side box q) (things_of g walks printed) (areas more))
          ∙ ap (list_any (found_at old.side box q)) (sym all)
          ∙ ap (λ (side : ℕ). list_any (found_at side box q) (things_of g walks (printed ++ more))) (sym adds.side);
    }

-- ---- places

upright : (at : Corner) (n : ℕ) → IsUpright (box_from at n)
upright at n = record { across = omega (arith, ints); along = omega (arith, ints) }

found_same : {X : Type 0} (f g : X → Bool) (xs : List X) → ((x : X) → f x ≡ g x) → find f xs ≡ find g xs
found_same f g [] e = refl
found_same {X} f g (x ∷ xs) e = ap (λ (b : Bool). cond b (Some x) (find f xs)) (e x) ∙ ap (λ (o : Option X). cond (g x) (Some x) o) (found_same f g xs e)

-- a junction takes no place
pub takes_none : (g : Grid) (names : Names) (graph : GraphParts) (walks : List PlainWalk) (n : ℕ) → kind_at graph.kinds n ≡ Junction → Takes g g names graph walks n None
takes_none g names graph walks n e = record {
  first = λ printed h. ap (place_of names graph walks printed n) (sym e);
  has = λ printed h. subst (λ (bs : List Bounds). Has g graph walks bs) (sym (append-nil printed)) h;
}

-- a station takes its first place that is free
pub takes_free : (old new : Grid) (names : Names) (graph : GraphParts) (walks : List PlainWalk) (n : ℕ) (s : StationId) (sign : Sign) (place : Option Place)
    → kind_at graph.kinds n ≡ Station s → sign ≡ sign_of names graph walks n → TakesFree old new sign place → Takes old new names graph walks n place
takes_free old new names graph walks n s sign place kind is h = record {
  first = λ printed has. h.first
      ∙ found_same (is_free old sign) (λ (p : Place). not (is_taken graph walks printed (box_at sign p))) all_places
      (λ p. ap not (table_tells old graph walks printed (box_at sign p) has (upright (text_at sign p) (width sign))))
      ∙ ap (λ (v : Sign). find (λ (p : Place). not (is_taken graph walks printed (box_at v p))) all_places) is
      ∙ ap (place_of names graph walks printed n) (sym kind);
  has = λ printed has. has_more old new graph walks printed (boxes_from names graph walks n (place ∷ [])) has
      (subst (λ (bs : List Bounds). Adds old new (areas bs)) (ap (λ (v : Sign). boxes_at v place) is ∙ by_place place) h.adds);
}
  where
    by_place : (p : Option Place) → boxes_at (sign_of names graph walks n) p ≡ boxes_from names graph walks n (p ∷ [])
    by_place None = refl
    by_place (Some p) = refl

-- ---- all places

pub length-places : (names : Names) (g : GraphParts) (walks : List PlainWalk) (n : ℕ) → length (first_places names g walks n) ≡ n
length-places names g walks zero = refl
length-places names g walks (suc n) =
    let earlier = first_places names g walks n in
    omega (arith, length-append earlier (place_of names g walks (boxes_from names g walks 0 earlier) n (kind_at g.kinds n) ∷ []), length-places names g walks n)

pub boxes_from-append : (names : Names) (g : GraphParts) (walks : List PlainWalk) (n m : ℕ) (ps qs : List (Option Place)) → n + length ps ≡ m
    → boxes_from names g walks n (ps ++ qs) ≡ boxes_from names g walks n ps ++ boxes_from names g walks m qs
boxes_from-append names g walks n m [] qs e = let same : n ≡ m = omega arith in ap (λ (k : ℕ). boxes_from names g walks k qs) same
boxes_from-append names g walks n m (None ∷ ps) qs e = boxes_from-append names g walks (n + 1) m ps qs (omega arith)
boxes_from-append names g walks n m (Some p ∷ ps) qs e = ap (λ (bs : List Bounds). box_at (sign_of names g walks n) p ∷ bs) (boxes_from-append names g walks (n + 1) m ps qs (omega arith))

-- the places so far are those of the first nodes, and the table has their boxes
pub record Placed (table : Grid) (names : Names) (g : GraphParts) (walks : List PlainWalk) (n : ℕ) (found : List (Option Place)) : Type 0 where
  pub places : found ≡ first_places names g walks n
  pub has : Has table g walks (boxes_from names g walks 0 found)

pub placed_none : (table : Grid) (names : Names) (g : GraphParts) (walks : List PlainWalk) (found : List (Option Place)) → found ≡ [] → Has table g walks [] → Placed table names g walks 0 found
placed_none table names g walks found e h = record { places = e; has = subst (λ (ps : List (Option Place)). Has table g walks (boxes_from names g walks 0 ps)) (sym e) h }

pub placed_more : (old new : Grid) (names : Names) (g : GraphParts) (walks : List PlainWalk) (n : ℕ) (found more : List (Option Place)) (place : Option Place)
    → Placed old names g walks n found → Takes old new names g walks n place → more ≡ found ++ place ∷ [] → Placed new names g walks (n + 1) more
placed_more old new names g walks n found more place h takes e =
    let boxes = boxes_from names g walks 0 found in
    let count : 0 + length found ≡ n = omega (arith, ap length h.places, length-places names g walks n) in
    let next : n + 1 ≡ suc n = omega arith in
    record {
      places = e ∙ ap (λ (p : Option Place). found ++ p ∷ []) (takes.first boxes h.has)
          ∙ ap (λ (ps : List (Option Place)). ps ++ place_of names g walks (boxes_from names g walks 0 ps) n (kind_at g.kinds n) ∷ []) h.places
          ∙ sym (ap (first_places names g walks) next);
      has = subst (λ (bs : List Bounds). Has new g walks bs) (sym (ap (boxes_from names g walks 0) e ∙ boxes_from-append names g walks 0 n found (place ∷ []) count)) (takes.has boxes h.has);
    }

-- ---- the first that passes

pub find_past : {X : Type 0} (f : X → Bool) (xs : List X) (i : ℕ) (d : X) → i < length xs → f (get_or xs i d) ≡ false → find f (drop (i + 1) xs) ≡ find f (drop i xs)
find_past {X} f xs i d low e = sym (ap (find f) (drop_more xs i d low) ∙ ap (λ (b : Bool). cond b (Some (get_or xs i d)) (find f (drop (i + 1) xs))) e)

pub find_here : {X : Type 0} (f : X → Bool) (xs : List X) (i : ℕ) (d : X) → i < length xs → f (get_or xs i d) ≡ true → find f (drop i xs) ≡ Some (get_or xs i d)
find_here {X} f xs i d low e = ap (find f) (drop_more xs i d low) ∙ ap (λ (b : Bool). cond b (Some (get_or xs i d)) (find f (drop (i + 1) xs))) e
