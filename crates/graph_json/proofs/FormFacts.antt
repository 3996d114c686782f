-- What is known of the entries that a file is read as: importances from 1 to 16, and places within reach.
use Rattle.std.proofs.Common.{◌≡◌, refl, subst, ℕ, ◌+◌, ◌≤◌, arith, Bool, true, false, ◌&&◌, List, [], ◌∷◌, Vec, Global}
use Rattle.std.specs.Prelude.{◌≤ℤ◌, ℤ, pos, negsuc, int_le, nat_le, codes, All, Option, Some, None, option_map, option_and_then, Result, Ok, Err, MatchResult, if◌then◌else◌}
use Rattle.std.specs.List.{AllByRecursion as ByRecursion}
use Rattle.std.proofs.lemmas.Bool.{and_parts, leb-true}
use Rattle.std.proofs.lemmas.Int.{ints}
use Rattle.std.proofs.lemmas.List.Elements.{All-from_recursion}
use Rattle.graph_core.specs.declared.parts.Join.{Join}
use Rattle.graph_core.specs.Consistent.{IsNear}
use Rattle.map_base.specs.declared.ids.SegId.{SegId}
use Rattle.map_base.specs.declared.point.Point.{Point}
use Rattle.serde_json.specs.Data.{Data}
use Rattle.serde_json.specs.Find.{get, as_number, as_i64}
use Rattle.graph_json.specs.declared.forms.NodeForm.{NodeForm}
use Rattle.graph_json.specs.declared.forms.SegmentForm.{SegmentForm}
use Rattle.graph_json.specs.declared.forms.Feature.TheVariants.{Node, Segment}
use Rattle.graph_json.specs.Forms as forms
use Rattle.graph_json.specs.Outcome.{in_order, each_or_first, IsImportant, LiesNear}

-- what holds of a value, where there is one
abbrev Each : {A : Type 0} → (A → Type 0) → Option A → Type 0
Each P None = Unit {0}
Each P (Some x) = P x

after : {A B : Type 0} (P : B → Type 0) (f : A → Option B) (o : Option A) → ((x : A) → Each P (f x)) → Each P (option_and_then f o)
after P f None each = tt
after P f (Some x) each = each x

tested : {A : Type 0} (P : A → Type 0) (b : Bool) (o : Option A) → Each P o → Each P (forms.where_true b o)
tested P true o h = h
tested P false o h = tt

-- ---- lines

abbrev IsInRange : ℕ → Type 0
IsInRange n = (1 ≤ n) × (n ≤ 16)

importance : (n : ℕ) → Each IsInRange (forms.importance n)
importance n = by (nat_le 1 n && nat_le n 16) refl
  where
    by : (b : Bool) → (nat_le 1 n && nat_le n 16) ≡ b → Each IsInRange (forms.where_true b (Some n))
    by true t = let both = and_parts _ _ t in (leb-true 1 n both.0, leb-true n 16 both.1)
    by false t = tt

pub important : (value : Data) → Each IsImportant (forms.line_of value)
important value =
    by (forms.text_at (codes "name") value) (option_and_then forms.colour_of_text (forms.text_at (codes "colour") value)) (option_and_then forms.importance_of (get (codes "importance") value))
    (after IsInRange forms.importance_of (get (codes "importance") value) (λ v. after IsInRange forms.importance (forms.small_of v) importance))
  where
    by : (name colour : Option (List ℕ)) (n : Option ℕ) → Each IsInRange n
        → Each IsImportant (option_and_then (λ name. option_and_then (λ colour. option_map (forms.line_with name colour) n) colour) name)
    by None colour n h = tt
    by (Some name) None n h = tt
    by (Some name) (Some colour) None h = tt
    by (Some name) (Some colour) (Some n) h = h

-- ---- features

abbrev IsCoordinate : ℤ → Type 0
IsCoordinate z = (negsuc 299999999 ≤ℤ z) × (z ≤ℤ pos 300000000)

int_le-true : (x y : ℤ) → int_le x y ≡ true → x ≤ℤ y
int_le-true x y t = grind (arith, ints)

near_enough : (z : ℤ) → Each IsCoordinate (forms.near_enough z)
near_enough z = by (int_le (negsuc 299999999) z && int_le z (pos 300000000)) refl
  where
    by : (b : Bool) → (int_le (negsuc 299999999) z && int_le z (pos 300000000)) ≡ b → Each IsCoordinate (forms.where_true b (Some z))
    by true t = let both = and_parts _ _ t in (int_le-true _ _ both.0, int_le-true _ _ both.1)
    by false t = tt

coordinate : (value : Data) → Each IsCoordinate (forms.coordinate_of value)
coordinate value = after IsCoordinate forms.near_enough (option_and_then as_i64 (as_number value)) near_enough

two : (values : List Data) → Each IsNear (forms.of_two forms.coordinate_of forms.point_with values)
two [] = tt
two (a ∷ []) = tt
two (a ∷ b ∷ []) = by (forms.coordinate_of a) (forms.coordinate_of b) (coordinate a) (coordinate b)
  where
    by : (x y : Option ℤ) → Each IsCoordinate x → Each IsCoordinate y → Each IsNear (option_and_then (λ x. option_map (forms.point_with x) y) x)
    by None y h k = tt
    by (Some x) None h k = tt
    by (Some x) (Some y) h k = (h.0, h.1, k.0, k.1)
two (a ∷ b ∷ c ∷ rest) = tt

place : (value : Data) → Each IsNear (forms.place_of value)
place value = after IsNear (forms.of_two forms.coordinate_of forms.point_with) (forms.array_of value) two

abbrev HasNearPlace : NodeForm → Type 0
HasNearPlace n = IsNear n.place

node : (geometry properties : Data) → Each HasNearPlace (forms.node_of geometry properties)
node geometry properties =
    by (option_and_then forms.place_of (get (codes "coordinates") geometry)) (forms.name_or_none (get (codes "name") properties))
    (option_and_then (forms.array_of_each forms.seg_of) (get (codes "round") properties)) (option_and_then (forms.array_of_each forms.join_of) (get (codes "joins") properties))
    (after IsNear forms.place_of (get (codes "coordinates") geometry) place)
  where
    by : (p : Option Point) (name : Option (Option (List ℕ))) (round : Option (List SegId)) (joins : Option (List Join)) → Each IsNear p
        → Each HasNearPlace (option_and_then (λ place. option_and_then (λ name. option_and_then (λ round. option_map (forms.node_with place name round) joins) round) name) p)
    by None name round joins h = tt
    by (Some p) None round joins h = tt
    by (Some p) (Some name) None joins h = tt
    by (Some p) (Some name) (Some round) None h = tt
    by (Some p) (Some name) (Some round) (Some joins) h = h

node_near : (o : Option NodeForm) → Each HasNearPlace o → Each LiesNear (option_map Node o)
node_near None h = tt
node_near (Some n) h = h

segment_near : (o : Option SegmentForm) → Each LiesNear (option_map Segment o)
segment_near None = tt
segment_near (Some s) = tt

shaped : (geometry properties : Data) → Each LiesNear (forms.shaped geometry properties)
shaped geometry properties =
    by (forms.is_text (codes "Point") (forms.text_at (codes "type") geometry)) (forms.is_text (codes "LineString") (forms.text_at (codes "type") geometry))
  where
    by : (b c : Bool) → Each LiesNear (if b then option_map Node (forms.node_of geometry properties) else if c then option_map Segment (forms.segment_of geometry properties) else None)
    by true c = node_near (forms.node_of geometry properties) (node geometry properties)
    by false true = segment_near (forms.segment_of geometry properties)
    by false false = tt

pub near : (value : Data) → Each LiesNear (forms.feature_of value)
near value =
    tested LiesNear (forms.is_text (codes "Feature") (forms.text_at (codes "type") value))
    (option_and_then (λ geometry. option_and_then (forms.shaped geometry) (get (codes "properties") value)) (get (codes "geometry") value))
    (after LiesNear (λ geometry. option_and_then (forms.shaped geometry) (get (codes "properties") value)) (get (codes "geometry") value)
    (λ geometry. after LiesNear (forms.shaped geometry) (get (codes "properties") value) (shaped geometry)))

-- ---- entries in order

each_of : {A B : Type 0} (P : B → Type 0) (f : A → Option B) (each : (x : A) → Each P (f x)) (i : ℕ) (xs : List A) (ys : List B) → each_or_first f i xs ≡ Ok ys → ByRecursion P ys
each_of {A} {B} P f each i [] ys e = let none : [] ≡ ys = cc in subst (ByRecursion P) none tt
each_of {A} {B} P f each i (x ∷ xs) ys e =
    by (f x) (each x) (each_or_first f (i + 1) xs) (λ zs r. each_of P f each (i + 1) xs zs r) e
  where
    by : (o : Option B) → Each P o → (rest : Result (List B) ℕ) → ((zs : List B) → rest ≡ Ok zs → ByRecursion P zs) → in_order o i rest ≡ Ok ys → ByRecursion P ys
    by None h rest later e = absurd (cc)
    by (Some y) h (Err j) later e = absurd (cc)
    by (Some y) h (Ok zs) later e = let same : y ∷ zs ≡ ys = cc in subst (ByRecursion P) same (h, later zs refl)

pub each_holds : {A B : Type 0} (P : B → Type 0) (f : A → Option B) → ((x : A) → Each P (f x)) → (xs : List A) (ys : List B) → each_or_first f 0 xs ≡ Ok ys → All P ys
each_holds P f each xs ys e = All-from_recursion P ys (each_of P f each 0 xs ys e)

pub each_read : {A B : Type 0} (P : B → Type 0) (f : A → Option B) → ((x : A) → Each P (f x)) → (xs : List A) (read : Result (Vec B Global) ℕ) (v : Vec B Global)
    → MatchResult read (λ (v : Vec B Global). each_or_first f 0 xs ≡ Ok v.items) (λ i. each_or_first f 0 xs ≡ Err i) → read ≡ Ok v → All P v.items
each_read {A} {B} P f each xs read v is ok =
    each_holds P f each xs v.items (subst (λ (r : Result (Vec B Global) ℕ). MatchResult r (λ (v : Vec B Global). each_or_first f 0 xs ≡ Ok v.items) (λ i. each_or_first f 0 xs ≡ Err i)) ok is)
