-- Numbers that are kept by cells.
use Rattle.std.proofs.Common.{◌≡◌, refl, sym, ◌∙◌, ap, ℕ, suc, ◌+◌, ◌-◌, ◌<◌, ◌≤◌, pos, length, take, drop, arith, length-append, Bool, true, false, cond, ℤ, Vec, List, [], ◌∷◌, ◌++◌, Some, append_assoc, append-nil}
use Rattle.std.specs.Global.{Global}
use Rattle.std.specs.Ordering.{int_eq}
use Rattle.std.specs.List.{All, range_with_len, flat_map, slice_range}
use Rattle.std.proofs.lemmas.List.{take_all, take-append-drop, take-append-le, get_or-take, get_or-drop, length-take, length-drop, get_or_default}
use Rattle.std.proofs.lemmas.List.Folds.{drop_split}
use Rattle.std.specs.declared.hash.FoldHasher.{FoldHasher}
use Rattle.std.specs.declared.hash.BuildHasherDefault.{BuildHasherDefault}
use Rattle.std.specs.HashMap.{get, HashMap}
use Rattle.std.proofs.lemmas.List.Elements.{filter-append}
use Rattle.std.proofs.lemmas.Bool.{and_parts}
use Rattle.std.proofs.lemmas.Bool.Decides.{Decides-int_eq}
use Rattle.map_base.specs.declared.point.Point.{Point}
use Rattle.track_net.specs.Nearness.{point_at}
use Rattle.track_net.specs.Cells.{cell_of, is_cell, CellMap, items_or_none, listed, numbers_in, AreListed, points_in, AreKept}
use Rattle.track_net.proofs.Lists.{range_more, filter-range_more}

int_eq-true : (x y : ℤ) → int_eq x y ≡ true → x ≡ y
int_eq-true x y e = (Decides-int_eq x y).0 e

-- equal cells are one
pub is_cell-true : (c d : ℤ × ℤ) → is_cell c d ≡ true → c ≡ d
is_cell-true c d e =
    let parts = and_parts (int_eq c.0 d.0) (int_eq c.1 d.1) e in
    ap (λ (x : ℤ). (x, c.1)) (int_eq-true c.0 d.0 parts.0) ∙ ap (λ (y : ℤ). (d.0, y)) (int_eq-true c.1 d.1 parts.1)

-- more items are kept for a cell
pub listed_all : {X : Type 0} (old new : HashMap (ℤ × ℤ) (Vec X Global) (BuildHasherDefault FoldHasher)) (cell : ℤ × ℤ) (xs : List X) (more : Vec X Global) → more.items ≡ listed old cell ++ xs →
    ((q : ℤ × ℤ) → get is_cell new q ≡ cond (is_cell cell q) (Some more) (get is_cell old q)) → (other : ℤ × ℤ) →
    listed new other ≡ cond (is_cell cell other) (listed old other ++ xs) (listed old other)
listed_all {X} old new cell xs more more_is put other = of_test (is_cell cell other) refl
  where
    of_test : (b : Bool) → is_cell cell other ≡ b → listed new other ≡ cond b (listed old other ++ xs) (listed old other)
    of_test true e =
        let here : get is_cell new other ≡ Some more = put other ∙ ap (λ b. cond b (Some more) (get is_cell old other)) e in
        ap items_or_none here ∙ more_is ∙ ap (λ ys. ys ++ xs) (ap (listed old) (is_cell-true cell other e))
    of_test false e = ap items_or_none (put other ∙ ap (λ b. cond b (Some more) (get is_cell old other)) e)

-- one more item is kept for a cell
pub listed_more : {X : Type 0} (old new : HashMap (ℤ × ℤ) (Vec X Global) (BuildHasherDefault FoldHasher)) (cell : ℤ × ℤ) (x : X) (more : Vec X Global) → more.items ≡ listed old cell ++ x ∷ [] →
    ((q : ℤ × ℤ) → get is_cell new q ≡ cond (is_cell cell q) (Some more) (get is_cell old q)) → (other : ℤ × ℤ) →
    listed new other ≡ cond (is_cell cell other) (listed old other ++ x ∷ []) (listed old other)
listed_more {X} old new cell x more more_is put other = listed_all old new cell (x ∷ []) more more_is put other

-- items are kept for a cell that had none
pub listed_new : {X : Type 0} (old between new : HashMap (ℤ × ℤ) (Vec X Global) (BuildHasherDefault FoldHasher)) (cell : ℤ × ℤ) (xs : List X) (more : Vec X Global) → between ≡ old → [] ≡ listed old cell →
    more.items ≡ xs → ((q : ℤ × ℤ) → get is_cell new q ≡ cond (is_cell cell q) (Some more) (get is_cell between q)) → (other : ℤ × ℤ) →
    listed new other ≡ cond (is_cell cell other) (listed old other ++ xs) (listed old other)
listed_new {X} old between new cell xs more same nothing more_is put other =
    listed_all old new cell xs more (more_is ∙ ap (λ ys. ys ++ xs) nothing)
    (λ q. put q ∙ ap (λ (m : HashMap (ℤ × ℤ) (Vec X Global) (BuildHasherDefault FoldHasher)). cond (is_cell cell q) (Some more) (get is_cell m q)) same) other

-- the first item is kept for a cell
pub listed_first : {X : Type 0} (old between new : HashMap (ℤ × ℤ) (Vec X Global) (BuildHasherDefault FoldHasher)) (cell : ℤ × ℤ) (x : X) (none more : Vec X Global) → between ≡ old → [] ≡ listed old cell →
    none.items ≡ [] → more.items ≡ none.items ++ x ∷ [] → ((q : ℤ × ℤ) → get is_cell new q ≡ cond (is_cell cell q) (Some more) (get is_cell between q)) → (other : ℤ × ℤ) →
    listed new other ≡ cond (is_cell cell other) (listed old other ++ x ∷ []) (listed old other)
listed_first {X} old between new cell x none more same nothing empty more_is put other =
    listed_more old new cell x more (more_is ∙ ap (λ xs. xs ++ x ∷ []) (empty ∙ nothing))
    (λ q. put q ∙ ap (λ (m : HashMap (ℤ × ℤ) (Vec X Global) (BuildHasherDefault FoldHasher)). cond (is_cell cell q) (Some more) (get is_cell m q)) same) other

-- a step of a list of lists
pub flat_map-range_more : (F : ℕ → List ℕ) (n : ℕ) → flat_map F (range_with_len 0 (n + 1)) ≡ flat_map F (range_with_len 0 n) ++ F n
flat_map-range_more F n = ap (flat_map F) (range_more n) ∙ joined (range_with_len 0 n)
  where
    joined : (xs : List ℕ) → flat_map F (xs ++ n ∷ []) ≡ flat_map F xs ++ F n
    joined [] = append-nil (F n)
    joined (x ∷ xs) = ap (λ ys. F x ++ ys) (joined xs) ∙ sym (append_assoc (F x) (flat_map F xs) (F n))

-- one more point
pub one_more : (size : ℕ) (ps : List Point) (k : ℕ) (old new : CellMap ℕ) (cell : ℤ × ℤ) → AreListed size ps k old → cell ≡ cell_of size (point_at ps k) →
    ((other : ℤ × ℤ) → listed new other ≡ cond (is_cell cell other) (listed old other ++ k ∷ []) (listed old other)) → AreListed size ps (k + 1) new
one_more size ps k old new cell before is added other =
    added other ∙ ap (λ d. cond (is_cell d other) (listed old other ++ k ∷ []) (listed old other)) is
    ∙ ap (λ ks. cond (is_cell (cell_of size (point_at ps k)) other) (ks ++ k ∷ []) ks) (before other) ∙ of_test (is_cell (cell_of size (point_at ps k)) other)
    ∙ sym (filter-range_more (λ j. is_cell (cell_of size (point_at ps j)) other) k)
  where
    kept : List ℕ
    kept = numbers_in size ps k other

    of_test : (b : Bool) → cond b (numbers_in size ps k other ++ k ∷ []) (numbers_in size ps k other) ≡ numbers_in size ps k other ++ cond b (k ∷ []) []
    of_test true = refl
    of_test false = sym (append-nil (numbers_in size ps k other))

-- one more point, in its cell
pub AreKept-pushed : (size : ℕ) (ps qs : List Point) (p : Point) (old new : CellMap Point) (cell : ℤ × ℤ) → AreKept size ps old → qs ≡ ps ++ p ∷ [] → cell ≡ cell_of size p →
    ((other : ℤ × ℤ) → listed new other ≡ cond (is_cell cell other) (listed old other ++ p ∷ []) (listed old other)) → AreKept size qs new
AreKept-pushed size ps qs p old new cell before pushed is added other =
    added other ∙ ap (λ d. cond (is_cell d other) (listed old other ++ p ∷ []) (listed old other)) is
    ∙ ap (λ (ks : List Point). cond (is_cell (cell_of size p) other) (ks ++ p ∷ []) ks) (before other) ∙ of_test (is_cell (cell_of size p) other)
    ∙ sym (filter-append (λ (q : Point). is_cell (cell_of size q) other) ps (p ∷ [])) ∙ ap (λ (rs : List Point). points_in size rs other) (sym pushed)
  where
    of_test : (b : Bool) → cond b (points_in size ps other ++ p ∷ []) (points_in size ps other) ≡ points_in size ps other ++ cond b (p ∷ []) []
    of_test true = refl
    of_test false = sym (append-nil (points_in size ps other))

-- points up to one, and those from there to another, are those up to the other
pub take_run : (ps : List Point) (start end : ℕ) → start ≤ end → end ≤ length ps → take end ps ≡ take start ps ++ slice_range ps start end
take_run ps start end order within =
    ap (take end) (sym whole) ∙ take-append-le end (take start ps ++ slice_range ps start end) (drop end ps) (omega (arith, count)) ∙ take_all end (take start ps ++ slice_range ps start end) (omega (arith, count))
  where
    whole : (take start ps ++ slice_range ps start end) ++ drop end ps ≡ ps
    whole = append_assoc (take start ps) (slice_range ps start end) (drop end ps) ∙ ap (λ (qs : List Point). take start ps ++ qs) (sym (drop_split ps start end order)) ∙ take-append-drop start ps

    count : length (take start ps ++ slice_range ps start end) ≡ end
    count = simp (length-append, length-take, length-drop) (omega (arith, order, within))

-- points of one cell are kept for it
pub AreKept-run : (size : ℕ) (ps qs run : List Point) (old new : CellMap Point) (cell : ℤ × ℤ) → AreKept size ps old → qs ≡ ps ++ run → All (λ (p : Point). cell_of size p ≡ cell) run →
    ((other : ℤ × ℤ) → listed new other ≡ cond (is_cell cell other) (listed old other ++ run) (listed old other)) → AreKept size qs new
AreKept-run size ps qs run old new cell before is theirs added other =
    added other ∙ ap (λ (ks : List Point). cond (is_cell cell other) (ks ++ run) ks) (before other) ∙ of_test (is_cell cell other) refl
    ∙ sym (filter-append (λ (q : Point). is_cell (cell_of size q) other) ps run) ∙ ap (λ (rs : List Point). points_in size rs other) (sym is)
  where
    all_in : (rs : List Point) → All (λ (p : Point). cell_of size p ≡ cell) rs → is_cell cell other ≡ true → points_in size rs other ≡ rs
    all_in [] a e = refl
    all_in (r ∷ rs) a e =
        ap (λ b. cond b (r ∷ points_in size rs other) (points_in size rs other)) (ap (λ d. is_cell d other) (a 0 r (omega arith)) ∙ e)
        ∙ ap (λ (qs : List Point). r ∷ qs) (all_in rs (λ k d below. a (suc k) d (omega arith)) e)

    none_in : (rs : List Point) → All (λ (p : Point). cell_of size p ≡ cell) rs → is_cell cell other ≡ false → points_in size rs other ≡ []
    none_in [] a e = refl
    none_in (r ∷ rs) a e =
        ap (λ b. cond b (r ∷ points_in size rs other) (points_in size rs other)) (ap (λ d. is_cell d other) (a 0 r (omega arith)) ∙ e)
        ∙ none_in rs (λ k d below. a (suc k) d (omega arith)) e

    of_test : (b : Bool) → is_cell cell other ≡ b → cond b (points_in size ps other ++ run) (points_in size ps other) ≡ points_in size ps other ++ points_in size run other
    of_test true e = ap (λ (ks : List Point). points_in size ps other ++ ks) (sym (all_in run theirs e))
    of_test false e = sym (ap (λ (ks : List Point). points_in size ps other ++ ks) (none_in run theirs e) ∙ append-nil (points_in size ps other))

-- what holds of the points at places from one to another holds of their list
pub run_all : (size : ℕ) (ps : List Point) (start end : ℕ) (cell : ℤ × ℤ) → end ≤ length ps → ((k : ℕ) → start ≤ k → k < end → cell_of size (point_at ps k) ≡ cell) →
    All (λ (p : Point). cell_of size p ≡ cell) (slice_range ps start end)
run_all size ps start end cell within theirs k d below =
    ap (cell_of size) (get_or-take (end - start) (drop start ps) k d inside ∙ get_or-drop start ps k d ∙ get_or_default ps (start + k) d (record { x = pos 0; y = pos 0 }) (omega (arith, within, inside)))
    ∙ theirs (start + k) (omega arith) (omega (arith, inside))
  where
    inside : k < end - start
    inside = omega (arith, simp (length-take, length-drop) at below)
