-- What is read of lists, element by element.
use Rattle.std.proofs.Common.{◌≡◌, refl, sym, ap, ap₂, ◌∙◌, ℕ, zero, suc, ◌+◌, ◌≤◌, List, [], ◌∷◌, ◌++◌, length, map, fold, drop, append-nil, append_assoc, arith}
use Rattle.std.specs.Prelude.{Option, Some, None, option_map, slice_get, Result, Ok, Err}
use Rattle.std.specs.List.{range_with_len}
use Rattle.std.proofs.lemmas.List.{map-append}
use Rattle.std.proofs.lemmas.List.Elements.{filter_map-append}
use Rattle.std.proofs.lemmas.List.FromFn.{map-range_with_len_more}
use Rattle.map_base.specs.declared.ids.LineId.{LineId}
use Rattle.serde_json.specs.declared.value.Value.{Value}
use Rattle.serde_json.specs.Find.{as_array}
use Rattle.serde_json.specs.Data.{Data}
use Rattle.serde_json.specs.View.{view, items_of}
use Rattle.graph_json.specs.Forms.{elements, in_front, of_each}
use Rattle.graph_json.specs.Limits.{names_in}
use Rattle.graph_json.specs.Written.{after_lines}
use Rattle.graph_json.specs.Outcome.{in_order, each_or_first}

pub elements-items_of : (ds : List Data) → elements (items_of ds) ≡ ds
elements-items_of [] = refl
elements-items_of (d ∷ ds) = ap (λ xs. d ∷ xs) (elements-items_of ds)

pub array_elements : (value : Data) (ds : List Data) → Some (items_of ds) ≡ as_array value → Some ds ≡ option_map elements (as_array value)
array_elements value ds e = ap Some (sym (elements-items_of ds)) ∙ ap (option_map elements) e

-- a list behind what was read before it
abbrev pub behind : {B : Type 0} → List B → Option (List B) → Option (List B)
behind done rest = option_map (λ xs. done ++ xs) rest

abbrev pub prefixed : {B : Type 0} → List B → Result (List B) ℕ → Result (List B) ℕ
prefixed done (Ok xs) = Ok (done ++ xs)
prefixed done (Err i) = Err i

module _ {A B : Type 0} (f : A → Option B) where
  pub behind_more : (done : List B) (x : A) (y : B) (xs : List A) → f x ≡ Some y → behind (done ++ y ∷ []) (of_each f xs) ≡ behind done (of_each f (x ∷ xs))
  behind_more done x y xs e = by (of_each f xs) ∙ ap (λ o. behind done (in_front o (of_each f xs))) (sym e)
    where
      by : (rest : Option (List B)) → behind (done ++ y ∷ []) rest ≡ behind done (in_front (Some y) rest)
      by None = refl
      by (Some rest) = ap Some (append_assoc done (y ∷ []) rest)

  pub behind_none : (done : List B) (x : A) (xs : List A) → f x ≡ None → behind done (of_each f (x ∷ xs)) ≡ None
  behind_none done x xs e = ap (λ o. behind done (in_front o (of_each f xs))) e

  pub prefixed_more : (done : List B) (x : A) (y : B) (i : ℕ) (xs : List A) → f x ≡ Some y
      → prefixed (done ++ y ∷ []) (each_or_first f (i + 1) xs) ≡ prefixed done (each_or_first f i (x ∷ xs))
  prefixed_more done x y i xs e = by (each_or_first f (i + 1) xs) ∙ ap (λ o. prefixed done (in_order o i (each_or_first f (i + 1) xs))) (sym e)
    where
      by : (rest : Result (List B) ℕ) → prefixed (done ++ y ∷ []) rest ≡ prefixed done (in_order (Some y) i rest)
      by (Ok rest) = ap Ok (append_assoc done (y ∷ []) rest)
      by (Err j) = refl

  pub prefixed_first : (done : List B) (x : A) (i : ℕ) (xs : List A) → f x ≡ None → prefixed done (each_or_first f i (x ∷ xs)) ≡ Err i
  prefixed_first done x i xs e = ap (λ o. prefixed done (in_order o i (each_or_first f (i + 1) xs))) e

-- ---- names that are there

pub name_more : (names : List (Option (List ℕ))) (name : List ℕ) → names_in (names ++ Some name ∷ []) ≡ names_in names ++ name ∷ []
name_more names name = filter_map-append (λ n. n) names (Some name ∷ [])

pub name_less : (names : List (Option (List ℕ))) → names_in (names ++ None ∷ []) ≡ names_in names
name_less names = filter_map-append (λ n. n) names (None ∷ []) ∙ append-nil (names_in names)

-- ---- what is written of numbers

module _ (f : ℕ → Data) where
  pub one_more : (old : List Data) (all : List Value) (v : Value) (n : ℕ) → map view all ≡ old ++ map f (range_with_len 0 n) → view v ≡ f n
      → map view (all ++ v ∷ []) ≡ old ++ map f (range_with_len 0 (n + 1))
  one_more old all v n so_far is =
      map-append view all (v ∷ []) ∙ ap₂ (λ a b. a ++ b ∷ []) so_far is ∙ append_assoc old (map f (range_with_len 0 n)) (f n ∷ [])
      ∙ ap (λ l. old ++ l) (sym (map-range_with_len_more f 0 n n (omega arith)))

  pub one_counted : (all : List Value) (v : Value) (n : ℕ) → map view all ≡ map f (range_with_len 0 n) → view v ≡ f n
      → map view (all ++ v ∷ []) ≡ map f (range_with_len 0 (n + 1))
  one_counted all v n so_far is = one_more [] all v n so_far is

-- ---- lines of segments, counted one by one

pub lines_more : (segments : List (List LineId)) (listed s all : ℕ) (ls : List LineId) → slice_get segments s ≡ Some ls → fold after_lines listed (drop s segments) ≡ all
    → fold after_lines (after_lines listed ls) (drop (s + 1) segments) ≡ all
lines_more [] listed s all ls is h = absurd (cc)
lines_more (x ∷ xs) listed zero all ls is h = let same : ls ≡ x = cc in ap (λ l. fold after_lines (after_lines listed l) xs) same ∙ h
lines_more (x ∷ xs) listed (suc s) all ls is h =
    let on : suc s + 1 ≡ suc (s + 1) = omega arith in
    ap (λ (n : ℕ). fold after_lines (after_lines listed ls) (drop n (x ∷ xs))) on ∙ lines_more xs listed s all ls is h

pub lines_done : (segments : List (List LineId)) (listed s all : ℕ) → length segments ≤ s → fold after_lines listed (drop s segments) ≡ all → listed ≡ all
lines_done [] listed zero all over h = h
lines_done [] listed (suc s) all over h = h
lines_done (x ∷ xs) listed zero all over h = absurd (omega arith)
lines_done (x ∷ xs) listed (suc s) all over h = lines_done xs listed s all (omega arith) h
