-- Lines by their numbers: what is listed up to the last line on a segment is read as it was.
use Rattle.std.proofs.Common.{◌≡◌, ◌∙◌, ap, ℕ, ◌+◌, ◌<◌, ◌≤◌, max, List, [], ◌∷◌, length, map, fold, get_or, arith}
use Rattle.std.specs.Prelude.{Some, Option, slice_get, unwrap_or}
use Rattle.std.specs.List.{AllByRecursion as ByRecursion, range_with_len}
use Rattle.std.proofs.lemmas.List.{get_or_default}
use Rattle.std.proofs.lemmas.List.FromFn.{length-map-range_with_len, get_or-map-range_with_len}
use Rattle.std.proofs.lemmas.Option.{slice_get-get_or, unwrap_or-slice_get}
use Rattle.map_base.specs.declared.ids.LineId.{LineId}
use Rattle.svg_writer.specs.declared.names.Names.{Names}
use Rattle.svg_writer.specs.Picture.{colour_of, name_of}
use Rattle.graph_json.specs.Again.{name_and_colour}
use Rattle.graph_json.specs.Written.{after_lines, importance_at, lines_listed}

-- all lines of lists are below a number
abbrev pub AreBelow : ℕ → List (List LineId) → Type 0
AreBelow most lists = ByRecursion (ByRecursion (λ (l : LineId). l.0 < most)) lists

-- ---- how many are listed

at_least : (most : ℕ) (lines : List LineId) → most ≤ after_lines most lines
at_least most [] = omega arith
at_least most (l ∷ lines) = omega (arith, at_least (max most (l.0 + 1)) lines)

at_least_all : (most : ℕ) (lists : List (List LineId)) → most ≤ fold after_lines most lists
at_least_all most [] = omega arith
at_least_all most (lines ∷ lists) =
    omega (arith, at_least most lines, at_least_all (after_lines most lines) lists)

below : (most all : ℕ) (lines : List LineId) → after_lines most lines ≤ all
    → ByRecursion (λ (l : LineId). l.0 < all) lines
below most all [] h = tt
below most all (l ∷ lines) h =
    (omega (arith, h, at_least (max most (l.0 + 1)) lines), below (max most (l.0 + 1)) all lines h)

below_all : (most all : ℕ) (lists : List (List LineId)) → fold after_lines most lists ≤ all → AreBelow all lists
below_all most all [] h = tt
below_all most all (lines ∷ lists) h = (
  below most all lines (omega (arith, h, at_least_all (after_lines most lines) lists)),
  below_all (after_lines most lines) all lists h,
)

-- each line on a segment is listed
pub each_listed : (lists : List (List LineId)) → AreBelow (lines_listed lists) lists
each_listed lists = below_all 0 (lines_listed lists) lists (omega arith)

at_most : (most all : ℕ) (lines : List LineId) → ByRecursion (λ (l : LineId). l.0 < all) lines → most ≤ all
    → after_lines most lines ≤ all
at_most most all [] h few = few
at_most most all (l ∷ lines) h few = at_most (max most (l.0 + 1)) all lines h.1 (omega (arith, h.0, few))

at_most_all : (most all : ℕ) (lists : List (List LineId)) → AreBelow all lists → most ≤ all
    → fold after_lines most lists ≤ all
at_most_all most all [] h few = few
at_most_all most all (lines ∷ lists) h few =
    at_most_all (after_lines most lines) all lists h.1 (at_most most all lines h.0 few)

-- no more are listed than a number that all lines are below
pub few_listed : (all : ℕ) (lists : List (List LineId)) → AreBelow all lists → lines_listed lists ≤ all
few_listed all lists h = at_most_all 0 all lists h (omega arith)

-- ---- what is listed

entry : {X : Type 0} (f : ℕ → X) (n l : ℕ) → l < n → slice_get (map f (range_with_len 0 n)) l ≡ Some (f l)
entry f n l h =
    let here : 0 + l ≡ l = omega arith in
    slice_get-get_or (map f (range_with_len 0 n)) l (f l) (omega (arith, h, length-map-range_with_len f 0 n))
    ∙ ap Some (get_or-map-range_with_len f 0 n l l (f l) h here)

-- names, colours and importances of the first lines
abbrev pub names_up_to : List (List ℕ) → Names → ℕ → Names
names_up_to stations names n =
    record { stations = stations; lines = map (name_and_colour names) (range_with_len 0 n) }

abbrev pub importance_up_to : List ℕ → ℕ → List ℕ
importance_up_to importance n = map (importance_at importance) (range_with_len 0 n)

module _ (stations : List (List ℕ)) (names : Names) (n : ℕ) (l : LineId) (h : l.0 < n) where
  pub same_name : name_of (names_up_to stations names n) l ≡ name_of names l
  same_name = ap (λ (o : Option (List ℕ × List ℕ)). (unwrap_or o ([], [])).0) (entry (name_and_colour names) n l.0 h)

  pub same_colour : colour_of (names_up_to stations names n) l ≡ colour_of names l
  same_colour = ap (λ (o : Option (List ℕ × List ℕ)). (unwrap_or o ([], [])).1) (entry (name_and_colour names) n l.0 h)

module _ (importance : List ℕ) (n : ℕ) where
  pub length_up_to : length (importance_up_to importance n) ≡ n
  length_up_to = length-map-range_with_len (importance_at importance) 0 n

  pub same_importance : (l d e : ℕ) → l < n → n ≤ length importance
      → get_or (importance_up_to importance n) l d ≡ get_or importance l e
  same_importance l d e h few =
      let here : 0 + l ≡ l = omega arith in
      get_or-map-range_with_len (importance_at importance) 0 n l l d h here
      ∙ unwrap_or-slice_get importance l 1
      ∙ get_or_default importance l 1 e (omega (arith, h, few))
