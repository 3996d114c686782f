-- The values of an edit that a line says are in the ranges of what it sets.
use Rattle.std.proofs.Common.{◌≡◌, ℕ, ◌≤◌, ◌⊎◌, inl, inr, ℤ, unsigned_abs, Bool, true, false, ◌&&◌, ◌||◌, ◌==◌, List, [], ◌∷◌, Option, Some, None, option_map, nat_le, refl, sym, ap, subst, ◌∙◌, if◌then◌else◌}
use Rattle.std.specs.Option.{option_and_then}
use Rattle.std.proofs.lemmas.Bool.{leb-true, eqb-true}
use Rattle.std.proofs.lemmas.Option.{same_Some, none-some}
use Rattle.map_base.specs.declared.weights.Weights.{Weights}
use Rattle.map_base.specs.Settings.{AreLight}
use Rattle.table_rows.specs.Values.{degrees_of}
use Rattle.table_rows.specs.Degrees.{latitude_of, longitude_of}
use Rattle.table_rows.specs.Degrees as degrees
use Rattle.map_edits.specs.Words.{words, only_word, two_words, three_words}
use Rattle.map_edits.specs.Values.{id_in, within, number_in, number_within, wide_enough, cell_in, weight_in, weights_in, weights_with}
use Rattle.map_edits.specs.Effects.{IsInRange}
use Rattle.map_edits.specs.Grammar.{one_id, one_number, one_cell, both, station_in, id_and_name, id_and_colour, id_and_importance, id_and_place, weight_edit, undo_edit, edit_of, edit_by, edit_in, kind_of}
use Rattle.map_edits.specs.declared.kind.Kind.{Kind}
use Rattle.map_edits.specs.declared.kind.Kind.TheVariants as kind
use Rattle.map_edits.specs.declared.edit.Edit.{Edit}
use Rattle.map_edits.specs.declared.edit.Edit.TheVariants as edit

-- what a chain gives was there
then_is : {A B : Type 0} (f : A → Option B) (o : Option A) (y : B) → option_and_then f o ≡ Some y → (x : A) × (o ≡ Some x) × (f x ≡ Some y)
then_is f None y is = absurd (none-some _ is)
then_is f (Some x) y is = (x, refl, is)

-- an edit that is made of a value has the range of that value's edits
made : {A : Type 0} (make : A → Edit) (o : Option A) (e : Edit) → ((a : A) → o ≡ Some a → IsInRange (make a)) → option_map make o ≡ Some e → IsInRange e
made make None e range is = absurd (none-some _ is)
made make (Some a) e range is = subst IsInRange (same_Some _ _ is) (range a refl)

both_is : {A B : Type 0} (o : Option A) (p : Option B) (x : A × B) → both o p ≡ Some x → (o ≡ Some x.0) × (p ≡ Some x.1)
both_is None p x is = absurd (none-some _ is)
both_is (Some a) None x is = absurd (none-some _ is)
both_is {A} {B} (Some a) (Some b) x is =
    let same : (a, b) ≡ x = same_Some _ _ is in
    (ap (λ (y : A × B). Some y.0) same, ap (λ (y : A × B). Some y.1) same)

within_is : (least most m n : ℕ) → within least most m ≡ Some n → (least ≤ n) × (n ≤ most)
within_is least most m n is = by (nat_le least m) (nat_le m most) refl refl is
  where
    by : (a b : Bool) → nat_le least m ≡ a → nat_le m most ≡ b → (if a && b then Some m else None) ≡ Some n → (least ≤ n) × (n ≤ most)
    by true true from to is =
        let same : m ≡ n = same_Some _ _ is in
        (subst (λ (k : ℕ). least ≤ k) same (leb-true least m from), subst (λ (k : ℕ). k ≤ most) same (leb-true m most to))
    by true false from to is = absurd (none-some _ is)
    by false b from to is = absurd (none-some _ is)

number_is : (least most : ℕ) (word : List ℕ) (n : ℕ) → number_within least most word ≡ Some n → (least ≤ n) × (n ≤ most)
number_is least most word n is = let found = then_is (within least most) (number_in word) n is in within_is least most found.0 n found.2

one_number_is : (least most : ℕ) (arguments : List (List ℕ)) (n : ℕ) → one_number least most arguments ≡ Some n → (least ≤ n) × (n ≤ most)
one_number_is least most arguments n is = let found = then_is (number_within least most) (only_word arguments) n is in number_is least most found.0 n found.2

wide_is : (m n : ℕ) → wide_enough m ≡ Some n → (m ≡ n) × ((n ≡ 0) ⊎ (10 ≤ n))
wide_is m n is = by (m == 0) (nat_le 10 m) refl refl is
  where
    by : (a b : Bool) → (m == 0) ≡ a → nat_le 10 m ≡ b → (if a || b then Some m else None) ≡ Some n → (m ≡ n) × ((n ≡ 0) ⊎ (10 ≤ n))
    by true b zero wide is = let same : m ≡ n = same_Some _ _ is in (same, inl (sym same ∙ eqb-true m 0 zero))
    by false true zero wide is = let same : m ≡ n = same_Some _ _ is in (same, inr (subst (λ (k : ℕ). 10 ≤ k) same (leb-true 10 m wide)))
    by false false zero wide is = absurd (none-some _ is)

cell_is : (word : List ℕ) (n : ℕ) → cell_in word ≡ Some n → (n ≡ 0) ⊎ ((10 ≤ n) × (n ≤ 1000000))
cell_is word n is =
    let found = then_is wide_enough (number_within 0 1000000 word) n is in
    let wide = wide_is found.0 n found.2 in
    let most : n ≤ 1000000 = subst (λ (k : ℕ). k ≤ 1000000) wide.0 (number_is 0 1000000 word found.0 found.1).1 in
    elim wide.1 [ inl none ↦ inl none | inr some ↦ inr (some, most) ]

weights_is : (x : List ℕ × List ℕ × List ℕ) (w : Weights) → weights_in x ≡ Some w → AreLight w
weights_is x w is = by (weight_in x.0) (weight_in x.1) (weight_in x.2) (λ n e. (number_is 0 1000 x.0 n e).1) (λ n e. (number_is 0 1000 x.1 n e).1) (λ n e. (number_is 0 1000 x.2 n e).1) is
  where
    by : (a b c : Option ℕ) → ((n : ℕ) → a ≡ Some n → n ≤ 1000) → ((n : ℕ) → b ≡ Some n → n ≤ 1000) → ((n : ℕ) → c ≡ Some n → n ≤ 1000) → weights_with a b c ≡ Some w → AreLight w
    by None b c la lb lc is = absurd (none-some _ is)
    by (Some l) None c la lb lc is = absurd (none-some _ is)
    by (Some l) (Some s) None la lb lc is = absurd (none-some _ is)
    by (Some l) (Some s) (Some p) la lb lc is = subst AreLight (same_Some _ _ is) (record { link = la l refl; split = lb s refl; sep = lc p refl })

place_is : (most : ℕ) (o : Option ℤ) (z : ℤ) → degrees.within most o ≡ Some z → unsigned_abs z ≤ most
place_is most None z is = absurd (none-some _ is)
place_is most (Some d) z is = by (nat_le (unsigned_abs d) most) refl is
  where
    by : (b : Bool) → nat_le (unsigned_abs d) most ≡ b → (if b then Some d else None) ≡ Some z → unsigned_abs z ≤ most
    by true low is = subst (λ (k : ℤ). unsigned_abs k ≤ most) (same_Some _ _ is) (leb-true (unsigned_abs d) most low)
    by false low is = absurd (none-some _ is)

weight_in_range : (arguments : List (List ℕ)) (e : Edit) → weight_edit arguments ≡ Some e → IsInRange e
weight_in_range [] e is = absurd (none-some _ is)
weight_in_range (word ∷ numbers) e is =
    made (λ (w : Bool × Weights). edit.Weight w.0 w.1) (both (station_in word) (option_and_then weights_in (three_words numbers))) e
    (λ w here. let found = then_is weights_in (three_words numbers) w.1 (both_is (station_in word) (option_and_then weights_in (three_words numbers)) w here).1 in weights_is found.0 w.1 found.2) is

undo_in_range : (arguments : List (List ℕ)) (e : Edit) → undo_edit arguments ≡ Some e → IsInRange e
undo_in_range [] e is = subst IsInRange (same_Some _ _ is) tt
undo_in_range (word ∷ rest) e is = absurd (none-some _ is)

-- the edit of each kind
kind_in_range : (arguments : List (List ℕ)) (k : Kind) (e : Edit) → edit_of arguments k ≡ Some e → IsInRange e
kind_in_range arguments kind.Hide e is = made (λ line. edit.Hide line) (one_id arguments) e (λ a _. tt) is
kind_in_range arguments kind.Show e is = made (λ line. edit.Show line) (one_id arguments) e (λ a _. tt) is
kind_in_range arguments kind.Weight e is = weight_in_range arguments e is
kind_in_range arguments kind.Near e is = made (λ near. edit.Near near) (one_number 20 20000 arguments) e (one_number_is 20 20000 arguments) is
kind_in_range arguments kind.Cell e is =
    made (λ cell. edit.Cell cell) (one_cell arguments) e (λ n here. let found = then_is cell_in (only_word arguments) n here in cell_is found.0 n found.2) is
kind_in_range arguments kind.Budget e is = made (λ budget. edit.Budget budget) (one_number 1 100000 arguments) e (one_number_is 1 100000 arguments) is
kind_in_range arguments kind.Rename e is = made (λ (x : List ℕ × List ℕ). edit.Rename x.0 x.1) (option_and_then id_and_name (two_words arguments)) e (λ a _. tt) is
kind_in_range arguments kind.Move e is =
    made (λ (x : List ℕ × (ℤ × ℤ)). edit.Move x.0 x.1.0 x.1.1) (option_and_then id_and_place (three_words arguments)) e
    (λ x here. let found = then_is id_and_place (three_words arguments) x here in
    let place = both_is (latitude_of found.0.1) (longitude_of found.0.2) x.1 (both_is (id_in found.0.0) (both (latitude_of found.0.1) (longitude_of found.0.2)) x found.2).1 in
    record { latitude = place_is 90000000 (degrees_of found.0.1) x.1.0 place.0; longitude = place_is 180000000 (degrees_of found.0.2) x.1.1 place.1 }) is
kind_in_range arguments kind.Colour e is = made (λ (x : List ℕ × List ℕ). edit.Colour x.0 x.1) (option_and_then id_and_colour (two_words arguments)) e (λ a _. tt) is
kind_in_range arguments kind.Importance e is =
    made (λ (x : List ℕ × ℕ). edit.Importance x.0 x.1) (option_and_then id_and_importance (two_words arguments)) e
    (λ x here. let found = then_is id_and_importance (two_words arguments) x here in number_is 1 16 found.0.1 x.1 (both_is (id_in found.0.0) (number_within 1 16 found.0.1) x found.2).1) is
kind_in_range arguments kind.Undo e is = undo_in_range arguments e is

-- the edit that a line says
pub line_in_range : (line : List ℕ) (e : Edit) → edit_in line ≡ Some e → IsInRange e
line_in_range line e is = by (words line) is
  where
    by : (ws : List (List ℕ)) → edit_by ws ≡ Some e → IsInRange e
    by [] is = absurd (none-some _ is)
    by (word ∷ arguments) is = let found = then_is (edit_of arguments) (kind_of word) e is in kind_in_range arguments found.0 e found.2
