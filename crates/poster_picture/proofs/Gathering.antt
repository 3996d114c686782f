-- The feet of the lines that call at a node, line by line.
use Rattle.std.proofs.Common.{◌≡◌, ℕ, zero, suc, ◌+◌, ◌<◌, Bool, true, false, cond, ◌&&◌, ◌||◌, not, List, [], ◌∷◌, ◌++◌, length, fold, map, get_or, take, refl, ap, sym, ◌∙◌, append-nil, arith}
use Rattle.std.specs.List.{flat_map, list_any}
use Rattle.std.proofs.lemmas.Grind.{flat_map-append}
use Rattle.std.proofs.lemmas.List.{map-append, take_more}
use Rattle.std.proofs.lemmas.List.Sums.{fold-append}
use Rattle.std.proofs.lemmas.List.Folds.{list_any_more}
use Rattle.svg_writer.specs.Picture.{are_one}
use Rattle.map_base.specs.declared.ids.SegId.{SegId}
use Rattle.map_base.specs.declared.ids.LineId.{LineId}
use Rattle.line_offsets.specs.declared.corner.Corner.{Corner}
use Rattle.poster_rules.specs.Stations.{has_line}
use Rattle.poster_rules.specs.Posters.{first_stands, foot_on, stands_on, stroke_through, with_corner, Sheet, Stand}
use Rattle.poster_picture.specs.Feet.{with_stand, with_stands, Gathered}

-- the feet that are gathered are those of the first stands of each line
pub gathered : (sheet : Sheet) (n : ℕ) (callers seen : List LineId) (path : List Corner) (ts : List Stand)
    → (with_stands sheet n callers (record { seen = seen; path = path }) ts).path ≡ fold with_corner path (map (λ (t : Stand). foot_on sheet n t.seg t.line) (first_stands callers seen ts))
gathered sheet n callers seen path [] = refl
gathered sheet n callers seen path (t ∷ ts) =
    by_test (has_line t.line callers && not (has_line t.line seen)) (gathered sheet n callers (seen ++ t.line ∷ []) (with_corner path (foot_on sheet n t.seg t.line)) ts) (gathered sheet n callers seen path ts)
  where
    foot : Corner
    foot = foot_on sheet n t.seg t.line

    feet : List Stand → List Corner
    feet us = map (λ (u : Stand). foot_on sheet n u.seg u.line) us

    by_test : (b : Bool)
        → (with_stands sheet n callers (record { seen = seen ++ t.line ∷ []; path = with_corner path foot }) ts).path ≡ fold with_corner (with_corner path foot) (feet (first_stands callers (seen ++ t.line ∷ []) ts))
        → (with_stands sheet n callers (record { seen = seen; path = path }) ts).path ≡ fold with_corner path (feet (first_stands callers seen ts))
        → (with_stands sheet n callers (cond b (record { seen = seen ++ t.line ∷ []; path = with_corner path foot }) (record { seen = seen; path = path })) ts).path
        ≡ fold with_corner path (feet (cond b (t ∷ first_stands callers (seen ++ t.line ∷ []) ts) (first_stands callers seen ts)))
    by_test true e f = e
    by_test false e f = f

-- the lines of a segment, one after another
pub stand_more : (sheet : Sheet) (n : ℕ) (callers : List LineId) (s : ℕ) (start mid new : Gathered) (order : List LineId) (i : ℕ) (d : LineId) → i < length order
    → mid ≡ with_stands sheet n callers start (map (λ (a : LineId). let t : Stand = record { seg = s; line = a } in t) (take i order))
    → new ≡ with_stand sheet n callers mid (record { seg = s; line = get_or order i d })
    → new ≡ with_stands sheet n callers start (map (λ (a : LineId). let t : Stand = record { seg = s; line = a } in t) (take (i + 1) order))
stand_more sheet n callers s start mid new order i d low was now =
    let stand : LineId → Stand = λ a. record { seg = s; line = a } in
    now
    ∙ ap (λ (g : Gathered). with_stand sheet n callers g (stand (get_or order i d))) was
    ∙ sym (fold-append (with_stand sheet n callers) start (map stand (take i order)) (stand (get_or order i d) ∷ []))
    ∙ ap (with_stands sheet n callers start) (sym (map-append stand (take i order) (get_or order i d ∷ [])) ∙ sym (ap (map stand) (take_more order i d low)))

-- the segments of a node, one after another
pub stands_more : (sheet : Sheet) (n : ℕ) (callers : List LineId) (start mid new : Gathered) (segments : List SegId) (i : ℕ) (d : SegId) → i < length segments
    → mid ≡ with_stands sheet n callers start (flat_map (stands_on sheet) (take i segments)) → new ≡ with_stands sheet n callers mid (stands_on sheet (get_or segments i d))
    → new ≡ with_stands sheet n callers start (flat_map (stands_on sheet) (take (i + 1) segments))
stands_more sheet n callers start mid new segments i d low was now =
    let next = stands_on sheet (get_or segments i d) in
    now
    ∙ ap (λ (g : Gathered). with_stands sheet n callers g next) was
    ∙ sym (fold-append (with_stand sheet n callers) start (flat_map (stands_on sheet) (take i segments)) next)
    ∙ ap (λ (ts : List Stand). with_stands sheet n callers start (flat_map (stands_on sheet) (take i segments) ++ ts)) (sym (append-nil next))
    ∙ ap (with_stands sheet n callers start) (sym (flat_map-append (stands_on sheet) (take i segments) (get_or segments i d ∷ [])))
    ∙ ap (λ (ss : List SegId). with_stands sheet n callers start (flat_map (stands_on sheet) ss)) (sym (take_more segments i d low))

-- a line that does not call, or is seen already, changes nothing; any other is seen, with its foot
pub stand_passed : (sheet : Sheet) (n : ℕ) (callers seen : List LineId) (path : List Corner) (t : Stand) → (has_line t.line callers && not (has_line t.line seen)) ≡ false
    → (let g : Gathered = record { seen = seen; path = path } in g) ≡ with_stand sheet n callers (record { seen = seen; path = path }) t
stand_passed sheet n callers seen path t e =
    let here : Gathered = record { seen = seen; path = path } in
    let met : Gathered = record { seen = seen ++ t.line ∷ []; path = with_corner path (foot_on sheet n t.seg t.line) } in
    sym (ap (λ (b : Bool). cond b met here) e)

pub stand_met : (sheet : Sheet) (n : ℕ) (callers seen more : List LineId) (path new : List Corner) (foot : Corner) (t : Stand) → (has_line t.line callers && not (has_line t.line seen)) ≡ true
    → more ≡ seen ++ t.line ∷ [] → new ≡ with_corner path foot → foot ≡ foot_on sheet n t.seg t.line → (let g : Gathered = record { seen = more; path = new } in g) ≡ with_stand sheet n callers (record { seen = seen; path = path }) t
stand_met sheet n callers seen more path new foot t e f g h =
    let here : Gathered = record { seen = seen; path = path } in
    let met : Gathered = record { seen = seen ++ t.line ∷ []; path = with_corner path (foot_on sheet n t.seg t.line) } in
    ap (λ (ls : List LineId). let g : Gathered = record { seen = ls; path = new } in g) f
    ∙ ap (λ (cs : List Corner). let g : Gathered = record { seen = seen ++ t.line ∷ []; path = cs } in g) (g ∙ ap (with_corner path) h)
    ∙ sym (ap (λ (b : Bool). cond b met here) e)

-- a corner that a path has, and one that it has not
pub corner_known : (path : List Corner) (c : Corner) → list_any (are_one c) path ≡ true → path ≡ with_corner path c
corner_known path c e = sym (ap (λ (b : Bool). cond b path (path ++ c ∷ [])) e)

pub corner_new : (path new : List Corner) (c : Corner) → list_any (are_one c) path ≡ false → new ≡ path ++ c ∷ [] → new ≡ with_corner path c
corner_new path new c e is = is ∙ sym (ap (λ (b : Bool). cond b path (path ++ c ∷ [])) e)

-- of a list one element more that fails a test, and one that passes it
pub none_more : {A : Type 0} (p : A → Bool) (xs : List A) (i : ℕ) (d : A) → i < length xs → list_any p (take i xs) ≡ false → p (get_or xs i d) ≡ false → list_any p (take (i + 1) xs) ≡ false
none_more p xs i d low none fails = list_any_more p xs i d low ∙ ap (λ (b : Bool). b || p (get_or xs i d)) none ∙ fails

pub any_here : {A : Type 0} (p : A → Bool) (xs : List A) (i : ℕ) (d : A) → i < length xs → p (get_or xs i d) ≡ true → list_any p xs ≡ true
any_here p [] i d low passes = absurd (omega (arith, low))
any_here p (x ∷ xs) zero d low passes = ap (λ (b : Bool). b || list_any p xs) passes
any_here p (x ∷ xs) (suc i) d low passes = by_test (p x) (any_here p xs i d (omega (arith, low)) passes)
  where
    by_test : (b : Bool) → list_any p xs ≡ true → (b || list_any p xs) ≡ true
    by_test true e = refl
    by_test false e = e

-- a path that has not one corner alone, and one that has
pub closed_already : (path : List Corner) → (length path ≡ 1 → ⊥) → path ≡ stroke_through path
closed_already [] many = refl
closed_already (c ∷ []) many = absurd (many refl)
closed_already (c ∷ d ∷ cs) many = refl

pub closed_once : (path new : List Corner) (d : Corner) → length path ≡ 1 → new ≡ path ++ get_or path 0 d ∷ [] → new ≡ stroke_through path
closed_once [] new d one is = absurd (omega (arith, one))
closed_once (c ∷ []) new d one is = is
closed_once (c ∷ e ∷ cs) new d one is = absurd (omega (arith, one))
