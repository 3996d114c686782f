-- The bounds of the labelled map and its spots, name by name.
use Rattle.std.proofs.Common.{◌≡◌, ℕ, ◌+◌, ◌<◌, List, [], ◌∷◌, ◌++◌, length, get_or, drop, fold, Option, None, ap, sym, ◌∙◌, arith, append_assoc, append-nil}
use Rattle.std.proofs.lemmas.List.{at_drop_all, drop_more}
use Rattle.std.proofs.lemmas.List.Sums.{fold-append}
use Rattle.graph_core.specs.declared.parts.GraphParts.{GraphParts}
use Rattle.octi_grid.specs.Walks.{PlainWalk}
use Rattle.line_offsets.specs.declared.corner.Corner.{Corner}
use Rattle.svg_writer.specs.declared.bounds.Bounds.{Bounds}
use Rattle.svg_writer.specs.declared.names.Names.{Names}
use Rattle.label_place.specs.declared.place.Place.{Place}
use Rattle.label_place.specs.Boxes.{hull}
use Rattle.label_place.specs.Places.{boxes_from}
use Rattle.label_place.specs.Labelled.{spot_of, spots_from}
use Rattle.label_place.proofs.Held.{boxes_from-append}

-- one box more
pub frame_more : (names : Names) (g : GraphParts) (walks : List PlainWalk) (n : ℕ) (ps : List (Option Place)) (place : Option Place) (before after whole : Bounds) → n < length ps → place ≡ get_or ps n None
    → after ≡ fold hull before (boxes_from names g walks n (place ∷ [])) → fold hull before (boxes_from names g walks n (drop n ps)) ≡ whole
    → fold hull after (boxes_from names g walks (n + 1) (drop (n + 1) ps)) ≡ whole
frame_more names g walks n ps place before after whole low is grew all =
    let rest = boxes_from names g walks (n + 1) (drop (n + 1) ps) in
    let one = boxes_from names g walks n (place ∷ []) in
    let split : boxes_from names g walks n (drop n ps) ≡ one ++ rest =
    ap (boxes_from names g walks n) (drop_more ps n None low)
    ∙ ap (λ (p : Option Place). boxes_from names g walks n (p ∷ drop (n + 1) ps)) (sym is)
    ∙ boxes_from-append names g walks n (n + 1) (place ∷ []) (drop (n + 1) ps) (omega arith) in
    ap (λ (b : Bounds). fold hull b rest) grew ∙ sym (fold-append hull before one rest) ∙ sym (ap (fold hull before) split) ∙ all

-- nothing is left
pub frame_all : (names : Names) (g : GraphParts) (walks : List PlainWalk) (n : ℕ) (ps : List (Option Place)) (before whole : Bounds) → length ps ≡ n
    → fold hull before (boxes_from names g walks n (drop n ps)) ≡ whole → before ≡ whole
frame_all names g walks n ps before whole end all = sym (at_drop_all (λ (rest : List (Option Place)). fold hull before (boxes_from names g walks n rest)) ps n (omega arith)) ∙ all

-- one spot more
pub spots_more : (names : Names) (g : GraphParts) (walks : List PlainWalk) (n : ℕ) (ps : List (Option Place)) (place : Option Place) (spot : Option Corner) (before after whole : List (Option Corner)) → n < length ps → place ≡ get_or ps n None
    → spot ≡ spot_of names g walks n place → after ≡ before ++ spot ∷ [] → before ++ spots_from names g walks n (drop n ps) ≡ whole
    → after ++ spots_from names g walks (n + 1) (drop (n + 1) ps) ≡ whole
spots_more names g walks n ps place spot before after whole low is at grew all =
    let rest = spots_from names g walks (n + 1) (drop (n + 1) ps) in
    ap (λ (spots : List (Option Corner)). spots ++ rest) grew ∙ append_assoc before (spot ∷ []) rest
    ∙ ap (λ (s : Option Corner). before ++ s ∷ rest) at
    ∙ ap (λ (p : Option Place). before ++ spots_from names g walks n (p ∷ drop (n + 1) ps)) is
    ∙ sym (ap (λ (qs : List (Option Place)). before ++ spots_from names g walks n qs) (drop_more ps n None low)) ∙ all

pub spots_all : (names : Names) (g : GraphParts) (walks : List PlainWalk) (n : ℕ) (ps : List (Option Place)) (before whole : List (Option Corner)) → length ps ≡ n
    → before ++ spots_from names g walks n (drop n ps) ≡ whole → before ≡ whole
spots_all names g walks n ps before whole end all = sym (append-nil before) ∙ sym (at_drop_all (λ (rest : List (Option Place)). before ++ spots_from names g walks n rest) ps n (omega arith)) ∙ all
