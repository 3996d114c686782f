-- A table whose entries name the one before them of their cell.
use Rattle.std.proofs.Common.{◌≡◌, ℕ, zero, suc, ◌+◌, ◌<◌, ◌≤◌, Bool, true, false, ◌&&◌, ◌||◌, cond, eqb, List, [], ◌∷◌, ◌++◌, length, get_or, take, Option, Some, None, refl, ap, subst, sym, ◌∙◌, inl, inr, arith, length-append}
use Rattle.std.specs.Prelude.{IfSome}
use Rattle.std.specs.List.{list_any}
use Rattle.std.specs.HashMap.{get}
use Rattle.std.proofs.Math.Bool.{or-false}
use Rattle.std.proofs.lemmas.Bool.{cases_lt, and_parts, and_from, and_right, or_right, eqb-true}
use Rattle.std.proofs.lemmas.Bool.Decides.{nat_tests}
use Rattle.std.proofs.lemmas.List.{get_or_append_left, take_all}
use Rattle.std.proofs.Math.Seq.{get_or-append_seam}
use Rattle.std.proofs.lemmas.List.Folds.{list_any-append, list_any_more}
use Rattle.svg_writer.specs.declared.bounds.Bounds.{Bounds}
use Rattle.label_place.specs.declared.cells.Cell.{Cell}
use Rattle.label_place.specs.declared.grid.Entry.{Entry}
use Rattle.label_place.specs.declared.grid.Grid.{Grid}
use Rattle.label_place.specs.Grids.{hits, hits_upto, is_cell, last_before, meets, meets_at, no_entry, put_in, IsLinked, IsThing}

-- what the last entries of a cell are met by
pub hits_known : (box : Bounds) (q : Cell) (es : List Entry) (n : ℕ) → n ≤ length es → hits_upto box q es (last_before q es n) ≡ list_any (hits box q) (take n es)
hits_known box q es zero h = refl
hits_known box q es (suc n) h =
    let more : n + 1 ≡ suc n = omega arith in
    by_test (is_cell q (get_or es n no_entry).cell) (hits_known box q es n (omega arith)) (list_any_more (hits box q) es n no_entry (omega arith)) ∙ ap (λ (k : ℕ). list_any (hits box q) (take k es)) more
  where
    by_test : (b : Bool) → hits_upto box q es (last_before q es n) ≡ list_any (hits box q) (take n es)
        → list_any (hits box q) (take (n + 1) es) ≡ (list_any (hits box q) (take n es) || (b && meets box (get_or es n no_entry).thing))
        → hits_upto box q es (cond b (Some n) (last_before q es n)) ≡ list_any (hits box q) (take (n + 1) es)
    by_test true e f = refl
    by_test false e f = e ∙ sym (or-false _) ∙ sym f

pub last_below : (q : Cell) (es : List Entry) (n k : ℕ) → last_before q es n ≡ Some k → k < n
last_below q es zero k e = cc
last_below q es (suc n) k e = by_test (is_cell q (get_or es n no_entry).cell) (last_below q es n k) e
  where
    by_test : (b : Bool) → (last_before q es n ≡ Some k → k < n) → cond b (Some n) (last_before q es n) ≡ Some k → k < suc n
    by_test true f g = let same : n ≡ k = cc in omega arith
    by_test false f g = let low : k < n = f g in omega arith

pub last_of_cell : (q : Cell) (es : List Entry) (n k : ℕ) → last_before q es n ≡ Some k → is_cell q (get_or es k no_entry).cell ≡ true
last_of_cell q es zero k e = cc
last_of_cell q es (suc n) k e = by_test (is_cell q (get_or es n no_entry).cell) refl (last_of_cell q es n k) e
  where
    by_test : (b : Bool) → is_cell q (get_or es n no_entry).cell ≡ b → (last_before q es n ≡ Some k → is_cell q (get_or es k no_entry).cell ≡ true)
        → cond b (Some n) (last_before q es n) ≡ Some k → is_cell q (get_or es k no_entry).cell ≡ true
    by_test true is f g = let same : n ≡ k = cc in subst (λ (i : ℕ). is_cell q (get_or es i no_entry).cell ≡ true) same is
    by_test false is f g = f g

-- ---- one entry more

last_before-append : (q : Cell) (es : List Entry) (e : Entry) (n : ℕ) → n ≤ length es → last_before q (es ++ e ∷ []) n ≡ last_before q es n
last_before-append q es e zero h = refl
last_before-append q es e (suc n) h =
    ap (λ (x : Entry). cond (is_cell q x.cell) (Some n) (last_before q (es ++ e ∷ []) n)) (get_or_append_left es (e ∷ []) no_entry n (omega arith))
    ∙ ap (λ (o : Option ℕ). cond (is_cell q (get_or es n no_entry).cell) (Some n) o) (last_before-append q es e n (omega arith))

last_before-last : (q : Cell) (es : List Entry) (e : Entry) → last_before q (es ++ e ∷ []) (length (es ++ e ∷ [])) ≡ cond (is_cell q e.cell) (Some (length es)) (last_before q es (length es))
last_before-last q es e =
    let count : length (es ++ e ∷ []) ≡ suc (length es) = omega (arith, length-append es (e ∷ [])) in
    ap (last_before q (es ++ e ∷ [])) count
    ∙ ap (λ (x : Entry). cond (is_cell q x.cell) (Some (length es)) (last_before q (es ++ e ∷ []) (length es))) (get_or-append_seam es e [] no_entry)
    ∙ ap (λ (o : Option ℕ). cond (is_cell q e.cell) (Some (length es)) o) (last_before-append q es e (length es) (omega arith))

is_cell_swap : (p q : Cell) → is_cell p q ≡ is_cell q p
is_cell_swap p q = grind (arith, nat_tests)

-- a table with one entry more
pub linked_more : (old new : Grid) (e : Entry) → IsLinked old → IsThing e.thing → new.side ≡ old.side → new.entries.items ≡ old.entries.items ++ e ∷ []
    → e.earlier ≡ last_before e.cell old.entries.items (length old.entries.items)
    → ((q : Cell) → get is_cell new.heads q ≡ cond (is_cell e.cell q) (Some (length old.entries.items)) (get is_cell old.heads q)) → IsLinked new
linked_more old new e linked thing side pushed earlier heads =
    let es = old.entries.items in
    record {
      side = subst (λ (n : ℕ). 0 < n) (sym side) linked.side;
      heads = λ q. heads q
          ∙ ap (λ (b : Bool). cond b (Some (length es)) (get is_cell old.heads q)) (is_cell_swap e.cell q)
          ∙ ap (λ (o : Option ℕ). cond (is_cell q e.cell) (Some (length es)) o) (linked.heads q)
          ∙ sym (last_before-last q es e)
          ∙ ap (λ (xs : List Entry). last_before q xs (length xs)) (sym pushed);
      earlier = λ k low. subst (λ (xs : List Entry). k < length xs → (get_or xs k no_entry).earlier ≡ last_before (get_or xs k no_entry).cell xs k) (sym pushed) (earlier_at k) low;
      things = λ k low. subst (λ (xs : List Entry). k < length xs → IsThing (get_or xs k no_entry).thing) (sym pushed) (thing_at k) low;
    }
  where
    earlier_at : (k : ℕ) → k < length (old.entries.items ++ e ∷ []) → (get_or (old.entries.items ++ e ∷ []) k no_entry).earlier ≡ last_before (get_or (old.entries.items ++ e ∷ []) k no_entry).cell (old.entries.items ++ e ∷ []) k
    earlier_at k low =
        let es = old.entries.items in
        elim (cases_lt k (length es)) [
          | inl h ↦
              (subst (λ (x : Entry). x.earlier ≡ last_before x.cell (es ++ e ∷ []) k) (sym (get_or_append_left es (e ∷ []) no_entry k h))
              (linked.earlier k h ∙ sym (last_before-append (get_or es k no_entry).cell es e k (omega arith))))
          | inr h ↦ (let at : k ≡ length es = omega (arith, length-append es (e ∷ [])) in
              subst (λ (i : ℕ). (get_or (es ++ e ∷ []) i no_entry).earlier ≡ last_before (get_or (es ++ e ∷ []) i no_entry).cell (es ++ e ∷ []) i) (sym at)
              (subst (λ (x : Entry). x.earlier ≡ last_before x.cell (es ++ e ∷ []) (length es)) (sym (get_or-append_seam es e [] no_entry))
              (earlier ∙ sym (last_before-append e.cell es e (length es) (omega arith)))))
        ]

    thing_at : (k : ℕ) → k < length (old.entries.items ++ e ∷ []) → IsThing (get_or (old.entries.items ++ e ∷ []) k no_entry).thing
    thing_at k low =
        let es = old.entries.items in
        elim (cases_lt k (length es)) [
          | inl h ↦ subst (λ (x : Entry). IsThing x.thing) (sym (get_or_append_left es (e ∷ []) no_entry k h)) (linked.things k h)
          | inr h ↦ (let at : k ≡ length es = omega (arith, length-append es (e ∷ [])) in
              subst (λ (i : ℕ). IsThing (get_or (es ++ e ∷ []) i no_entry).thing) (sym at)
              (subst (λ (x : Entry). IsThing x.thing) (sym (get_or-append_seam es e [] no_entry)) thing))
        ]

-- what it is met by
pub meets_more : (old new : Grid) (e : Entry) → new.entries.items ≡ old.entries.items ++ e ∷ [] → (box : Bounds) (q : Cell)
    → meets_at new box q ≡ (meets_at old box q || put_in (e.cell ∷ []) e.thing box q)
meets_more old new e pushed box q = ap (list_any (hits box q)) pushed
    ∙ list_any-append (hits box q) old.entries.items (e ∷ [])
    ∙ ap (λ (b : Bool). meets_at old box q || b) (or-false (hits box q e) ∙ ap (λ (b : Bool). b && meets box e.thing) (sym (or-false (is_cell q e.cell))))

-- how many entries are left, up to this one
abbrev pub left_over : Option ℕ → ℕ
left_over None = 0
left_over (Some i) = i + 1

-- the whole table, from its heads
pub from_head : (g : Grid) (box : Bounds) (q : Cell) → IsLinked g → hits_upto box q g.entries.items (get is_cell g.heads q) ≡ meets_at g box q
from_head g box q h =
    let es = g.entries.items in
    ap (hits_upto box q es) (h.heads q) ∙ hits_known box q es (length es) (omega arith) ∙ ap (list_any (hits box q)) (take_all (length es) es (omega arith))

-- an entry of a cell
abbrev pub IsHere : Grid → Cell → ℕ → Type 0
IsHere g q i = (i < length g.entries.items) × (is_cell q (get_or g.entries.items i no_entry).cell ≡ true)

-- a head is an entry of its cell
pub head_ok : (g : Grid) (q : Cell) (o : Option ℕ) → IsLinked g → o ≡ get is_cell g.heads q → IfSome o (IsHere g q)
head_ok g q None h e = tt
head_ok g q (Some i) h e =
    let is : last_before q g.entries.items (length g.entries.items) ≡ Some i = sym (h.heads q) ∙ sym e in
    (last_below q g.entries.items (length g.entries.items) i is, last_of_cell q g.entries.items (length g.entries.items) i is)

is_cell_one : (q : Cell) (p : Cell) → is_cell q p ≡ true → p ≡ q
is_cell_one q p e =
    let parts = and_parts (eqb q.column p.column) (eqb q.row p.row) e in
    let column : p.column ≡ q.column = sym (eqb-true q.column p.column parts.0) in
    let row : p.row ≡ q.row = sym (eqb-true q.row p.row parts.1) in
    ap (λ (c : ℕ). let r : Cell = record { column = c; row = p.row } in r) column ∙ ap (λ (c : ℕ). let r : Cell = record { column = q.column; row = c } in r) row

-- the entry before one of a cell
pub earlier_is : (g : Grid) (q : Cell) (i : ℕ) → IsLinked g → i < length g.entries.items → is_cell q (get_or g.entries.items i no_entry).cell ≡ true
    → (get_or g.entries.items i no_entry).earlier ≡ last_before q g.entries.items i
earlier_is g q i h low e = h.earlier i low ∙ ap (λ (p : Cell). last_before p g.entries.items i) (is_cell_one q (get_or g.entries.items i no_entry).cell e)

-- an entry that is not met leaves what is met up to the one before it
pub past_entry : (g : Grid) (box : Bounds) (q : Cell) (i : ℕ) → IsLinked g → i < length g.entries.items → is_cell q (get_or g.entries.items i no_entry).cell ≡ true → meets box (get_or g.entries.items i no_entry).thing ≡ false
    → hits_upto box q g.entries.items (get_or g.entries.items i no_entry).earlier ≡ hits_upto box q g.entries.items (Some i)
past_entry g box q i h low cell missed =
    let es = g.entries.items in
    ap (hits_upto box q es) (earlier_is g q i h low cell) ∙ hits_known box q es i (omega arith)
    ∙ sym (or-false (list_any (hits box q) (take i es)))
    ∙ ap (λ (b : Bool). list_any (hits box q) (take i es) || b) (sym (and_right (is_cell q (get_or es i no_entry).cell) _ missed))
    ∙ sym (list_any_more (hits box q) es i no_entry low)

-- an entry that is met
pub at_entry : (g : Grid) (box : Bounds) (q : Cell) (i : ℕ) → i < length g.entries.items → is_cell q (get_or g.entries.items i no_entry).cell ≡ true → meets box (get_or g.entries.items i no_entry).thing ≡ true
    → hits_upto box q g.entries.items (Some i) ≡ true
at_entry g box q i low cell met =
    let es = g.entries.items in
    list_any_more (hits box q) es i no_entry low ∙ or_right (list_any (hits box q) (take i es)) _ (and_from _ _ cell met)

-- the entry before one is an earlier one of its cell
pub earlier_ok : (g : Grid) (q : Cell) (i : ℕ) → IsLinked g → IsHere g q i → IfSome (get_or g.entries.items i no_entry).earlier (IsHere g q)
earlier_ok g q i h here = by_entry (get_or g.entries.items i no_entry).earlier (earlier_is g q i h here.0 here.1)
  where
    by_entry : (o : Option ℕ) → o ≡ last_before q g.entries.items i → IfSome o (IsHere g q)
    by_entry None e = tt
    by_entry (Some k) e = let low = last_below q g.entries.items i k (sym e) in (omega (arith, here.0), last_of_cell q g.entries.items i k (sym e))

pub earlier_less : (g : Grid) (q : Cell) (i : ℕ) (at : Option ℕ) → IsLinked g → IsHere g q i → at ≡ Some i → left_over (get_or g.entries.items i no_entry).earlier < left_over at
earlier_less g q i at h here is = subst (λ (o : Option ℕ). left_over (get_or g.entries.items i no_entry).earlier < left_over o) (sym is) (by_entry (get_or g.entries.items i no_entry).earlier (earlier_is g q i h here.0 here.1))
  where
    by_entry : (o : Option ℕ) → o ≡ last_before q g.entries.items i → left_over o < i + 1
    by_entry None e = omega arith
    by_entry (Some k) e = let low = last_below q g.entries.items i k (sym e) in omega arith
