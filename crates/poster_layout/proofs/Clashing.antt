-- Things that keep apart, one after another.
use Rattle.std.proofs.Common.{◌≡◌, ℕ, ◌+◌, ◌<◌, Bool, true, false, ◌&&◌, not, List, [], ◌∷◌, ◌++◌, length, drop, get_or, map, ap, sym, ◌∙◌}
use Rattle.std.proofs.lemmas.List.{drop_more}
use Rattle.poster_plan.specs.declared.plan.Mark.{Mark}
use Rattle.poster_plan.specs.declared.plan.Piece.{Piece}
use Rattle.std.specs.List.{list_any}
use Rattle.poster_plan.specs.declared.things.Thing.{Thing}
use Rattle.poster_plan.specs.Things.{clash}
use Rattle.poster_plan.specs.Pitches.{mark_thing, none_clash, piece_thing}

-- a thing that clashes with none before it
pub clash_more : (before after ts rest : List Thing) (t : Thing) (whole : Bool) → not (list_any (clash t) before) ≡ true → after ≡ before ++ t ∷ [] → ts ≡ t ∷ rest → none_clash before ts ≡ whole → none_clash after rest ≡ whole
clash_more before after ts rest t whole apart grew cut is =
    ap (λ (xs : List Thing). none_clash xs rest) grew
    ∙ sym (ap (λ (b : Bool). b && none_clash (before ++ t ∷ []) rest) apart)
    ∙ sym (ap (none_clash before) cut)
    ∙ is

-- one that does not
pub clash_stop : (before ts rest : List Thing) (t : Thing) (whole : Bool) → not (list_any (clash t) before) ≡ false → ts ≡ t ∷ rest → none_clash before ts ≡ whole → false ≡ whole
clash_stop before ts rest t whole met cut is =
    sym (ap (λ (b : Bool). b && none_clash (before ++ t ∷ []) rest) met) ∙ sym (ap (none_clash before) cut) ∙ is

-- a mark more, and a straight piece more
pub mark_apart : (u : ℕ) (marks : List Mark) (pieces : List Piece) (i : ℕ) (d : Mark) (before after : List Thing) (t : Thing) (whole : Bool) → i < length marks → t ≡ mark_thing u (get_or marks i d) → not (list_any (clash t) before) ≡ true → after ≡ before ++ t ∷ []
    → none_clash before (map (mark_thing u) (drop i marks) ++ map (piece_thing u) pieces) ≡ whole → none_clash after (map (mark_thing u) (drop (i + 1) marks) ++ map (piece_thing u) pieces) ≡ whole
mark_apart u marks pieces i d before after t whole low is apart grew all =
    clash_more before after (map (mark_thing u) (drop i marks) ++ map (piece_thing u) pieces) (map (mark_thing u) (drop (i + 1) marks) ++ map (piece_thing u) pieces) t whole apart grew
    (ap (λ (ms : List Mark). map (mark_thing u) ms ++ map (piece_thing u) pieces) (drop_more marks i d low) ∙ ap (λ (s : Thing). s ∷ (map (mark_thing u) (drop (i + 1) marks) ++ map (piece_thing u) pieces)) (sym is)) all

pub piece_apart : (u : ℕ) (pieces : List Piece) (i : ℕ) (d : Piece) (before after : List Thing) (t : Thing) (whole : Bool) → i < length pieces → t ≡ piece_thing u (get_or pieces i d) → not (list_any (clash t) before) ≡ true → after ≡ before ++ t ∷ []
    → none_clash before (map (piece_thing u) (drop i pieces)) ≡ whole → none_clash after (map (piece_thing u) (drop (i + 1) pieces)) ≡ whole
piece_apart u pieces i d before after t whole low is apart grew all =
    clash_more before after (map (piece_thing u) (drop i pieces)) (map (piece_thing u) (drop (i + 1) pieces)) t whole apart grew
    (ap (map (piece_thing u)) (drop_more pieces i d low) ∙ ap (λ (s : Thing). s ∷ map (piece_thing u) (drop (i + 1) pieces)) (sym is)) all

pub mark_met : (u : ℕ) (marks : List Mark) (pieces : List Piece) (i : ℕ) (d : Mark) (before : List Thing) (t : Thing) (whole : Bool) → i < length marks → t ≡ mark_thing u (get_or marks i d) → not (list_any (clash t) before) ≡ false
    → none_clash before (map (mark_thing u) (drop i marks) ++ map (piece_thing u) pieces) ≡ whole → false ≡ whole
mark_met u marks pieces i d before t whole low is met all =
    clash_stop before (map (mark_thing u) (drop i marks) ++ map (piece_thing u) pieces) (map (mark_thing u) (drop (i + 1) marks) ++ map (piece_thing u) pieces) t whole met
    (ap (λ (ms : List Mark). map (mark_thing u) ms ++ map (piece_thing u) pieces) (drop_more marks i d low) ∙ ap (λ (s : Thing). s ∷ (map (mark_thing u) (drop (i + 1) marks) ++ map (piece_thing u) pieces)) (sym is)) all

pub piece_met : (u : ℕ) (pieces : List Piece) (i : ℕ) (d : Piece) (before : List Thing) (t : Thing) (whole : Bool) → i < length pieces → t ≡ piece_thing u (get_or pieces i d) → not (list_any (clash t) before) ≡ false
    → none_clash before (map (piece_thing u) (drop i pieces)) ≡ whole → false ≡ whole
piece_met u pieces i d before t whole low is met all =
    clash_stop before (map (piece_thing u) (drop i pieces)) (map (piece_thing u) (drop (i + 1) pieces)) t whole met
    (ap (map (piece_thing u)) (drop_more pieces i d low) ∙ ap (λ (s : Thing). s ∷ map (piece_thing u) (drop (i + 1) pieces)) (sym is)) all
