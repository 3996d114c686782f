-- Which elements a picture has.
use Rattle.std.proofs.Common.{◌≡◌, refl, sym, ◌∙◌, ap, subst, ℕ, zero, suc, ◌+◌, ◌<◌, ◌≤◌, Bool, true, false, cond, ◌==◌, ◌&&◌, List, [], ◌∷◌, ◌++◌, length, map, filter, slice_get, Option, Some, None, count_by, Contains, flat_map, arith}
use Rattle.std.proofs.lemmas.Bool.{and_from, and_parts, eq-eqb, eqb-true, eqb-false, true≢false, false_from_ne_true}
use Rattle.std.proofs.lemmas.List.Elements.{Contains-append_left, Contains-append_right, filter-append}
use Rattle.std.proofs.lemmas.List.Sums.{sum_by-append, sum_by-cons}
use Rattle.std.specs.List.{list_all, range_with_len}
use Rattle.map_base.specs.declared.ids.LineId.{LineId}
use Rattle.graph_core.specs.declared.parts.GraphParts.{GraphParts}
use Rattle.graph_core.specs.declared.parts.Join.{Join}
use Rattle.graph_core.specs.declared.parts.NodeKind.{NodeKind}
use Rattle.graph_core.specs.declared.parts.NodeKind.TheVariants.{Station, Junction}
use Rattle.line_offsets.specs.declared.corner.Corner.{Corner}
use Rattle.svg_writer.specs.declared.bounds.Bounds.{Bounds}
use Rattle.svg_writer.specs.declared.names.Names.{Names}
use Rattle.svg_writer.specs.declared.style.Style.{Style}
use Rattle.svg_writer.specs.Courses.{Courses, gauge, order_at}
use Rattle.svg_writer.specs.Elements.{Element, Head, OnSegment, AtNode, Marker, Label, Tail}
use Rattle.svg_writer.specs.Picture.{all_joins, all_labels, all_lines, all_markers, are_one, beside, colour_of, elements_with, join_elements, joins_at, kind_at, label, line_elements, line_end, marker, name_of, node_joins, placed_label, placed_labels, radius_in, segment_elements, spot_at, station_name}
use Rattle.picture_laws.specs.Shown.{is_label, is_marker, is_path_of, is_station, label_at, marker_at, station_of, stations_of}

-- ---- lists

all_append : {X : Type 0} (p : X → Bool) (xs ys : List X) → list_all p xs ≡ true → list_all p ys ≡ true → list_all p (xs ++ ys) ≡ true
all_append p [] ys a b = b
all_append p (x ∷ xs) ys a b = let parts = and_parts (p x) (list_all p xs) a in and_from _ _ parts.0 (all_append p xs ys parts.1 b)

all_flat : {X Y : Type 0} (p : Y → Bool) (f : X → List Y) (xs : List X) → ((x : X) → list_all p (f x) ≡ true) → list_all p (flat_map f xs) ≡ true
all_flat p f [] each = refl
all_flat p f (x ∷ xs) each = all_append p (f x) (flat_map f xs) (each x) (all_flat p f xs each)

-- a test that holds of all keeps all, and one that never holds with it keeps none
kept_all : {X : Type 0} (p : X → Bool) (xs : List X) → list_all p xs ≡ true → filter p xs ≡ xs
kept_all p [] all = refl
kept_all {X = X} p (x ∷ xs) all =
    let parts = and_parts (p x) (list_all p xs) all in
    ap (λ (b : Bool). cond b (x ∷ filter p xs) (filter p xs)) parts.0 ∙ ap (λ (ys : List X). x ∷ ys) (kept_all p xs parts.1)

kept_none : {X : Type 0} (p q : X → Bool) (xs : List X) → ((x : X) → p x ≡ true → q x ≡ false) → list_all p xs ≡ true → filter q xs ≡ []
kept_none p q [] other all = refl
kept_none p q (x ∷ xs) other all =
    let parts = and_parts (p x) (list_all p xs) all in
    ap (λ (b : Bool). cond b (x ∷ filter q xs) (filter q xs)) (other x parts.0) ∙ kept_none p q xs other parts.1

count_cons : {X : Type 0} (q : X → Bool) (x : X) (xs : List X) → count_by q (x ∷ xs) ≡ cond (q x) 1 0 + count_by q xs
count_cons q x xs = sum_by-cons (λ y. cond (q y) 1 0) x xs

count_none : {X : Type 0} (p q : X → Bool) (xs : List X) → ((x : X) → p x ≡ true → q x ≡ false) → list_all p xs ≡ true → count_by q xs ≡ 0
count_none p q [] other all = refl
count_none p q (x ∷ xs) other all =
    let parts = and_parts (p x) (list_all p xs) all in
    let here : ◌≡◌ {A = ℕ} (cond (q x) 1 0) 0 = ap (λ (b : Bool). cond {A = ℕ} b 1 0) (other x parts.0) in
    omega (arith, count_cons q x xs, here, count_none p q xs other parts.1)

count_append : {X : Type 0} (q : X → Bool) (xs ys : List X) → count_by q (xs ++ ys) ≡ count_by q xs + count_by q ys
count_append q xs ys = sum_by-append (λ x. cond (q x) 1 0) xs ys

none_more : {X : Type 0} (xs : List X) → xs ++ [] ≡ xs
none_more [] = refl
none_more (x ∷ xs) = ap (λ ys. x ∷ ys) (none_more xs)

one_each : {X Y : Type 0} (p : X → Bool) (f : X → Y) (g : X → List Y) (xs : List X) → ((x : X) → g x ≡ cond (p x) (f x ∷ []) []) → flat_map g xs ≡ map f (filter p xs)
one_each p f g [] each = refl
one_each p f g (x ∷ xs) each = ap (λ ys. ys ++ flat_map g xs) (each x) ∙ by (p x) (one_each p f g xs each)
  where
    by : (b : Bool) → flat_map g xs ≡ map f (filter p xs) → cond b (f x ∷ []) [] ++ flat_map g xs ≡ map f (cond b (x ∷ filter p xs) (filter p xs))
    by true rest = ap (λ ys. f x ∷ ys) rest
    by false rest = rest

-- ---- kinds of elements

-- the number of an element's kind
abbrev sort_of : Element → ℕ
sort_of (Head bounds) = 0
sort_of (OnSegment seg line path colour name) = 1
sort_of (AtNode node line start end colour) = 2
sort_of (Marker centre radius) = 3
sort_of (Label place name) = 4
sort_of Tail = 5

abbrev is_sort : ℕ → Element → Bool
is_sort k e = sort_of e == k

marker_by : (e : Element) → is_marker e ≡ is_sort 3 e
marker_by (Head bounds) = refl
marker_by (OnSegment seg line path colour name) = refl
marker_by (AtNode node line start end colour) = refl
marker_by (Marker centre radius) = refl
marker_by (Label place name) = refl
marker_by Tail = refl

label_by : (e : Element) → is_label e ≡ is_sort 4 e
label_by (Head bounds) = refl
label_by (OnSegment seg line path colour name) = refl
label_by (AtNode node line start end colour) = refl
label_by (Marker centre radius) = refl
label_by (Label place name) = refl
label_by Tail = refl

path_by : (s : ℕ) (l : LineId) (e : Element) → is_sort 1 e ≡ false → is_path_of s l e ≡ false
path_by s l (Head bounds) h = refl
path_by s l (OnSegment seg line path colour name) h = absurd (true≢false h)
path_by s l (AtNode node line start end colour) h = refl
path_by s l (Marker centre radius) h = refl
path_by s l (Label place name) h = refl
path_by s l Tail h = refl

-- an element of one kind is of no other
other_sort : (k j : ℕ) → (k == j) ≡ false → (e : Element) → is_sort k e ≡ true → is_sort j e ≡ false
other_sort k j apart e h = ap (λ (n : ℕ). n == j) (eqb-true (sort_of e) k h) ∙ apart

no_marker : (k : ℕ) → (k == 3) ≡ false → (xs : List Element) → list_all (is_sort k) xs ≡ true → filter is_marker xs ≡ []
no_marker k apart xs all = kept_none (is_sort k) is_marker xs (λ e h. marker_by e ∙ other_sort k 3 apart e h) all

no_label : (k : ℕ) → (k == 4) ≡ false → (xs : List Element) → list_all (is_sort k) xs ≡ true → filter is_label xs ≡ []
no_label k apart xs all = kept_none (is_sort k) is_label xs (λ e h. label_by e ∙ other_sort k 4 apart e h) all

no_path : (s : ℕ) (l : LineId) (k : ℕ) → (k == 1) ≡ false → (xs : List Element) → list_all (is_sort k) xs ≡ true → count_by (is_path_of s l) xs ≡ 0
no_path s l k apart xs all = count_none (is_sort k) (is_path_of s l) xs (λ e h. path_by s l e (other_sort k 1 apart e h)) all

-- ---- the parts of a picture

module _ (style : Style) (names : Names) (g : GraphParts) (courses : Courses) (orders : List (List LineId)) where
  lines_are : list_all (is_sort 1) (all_lines names g courses orders) ≡ true
  lines_are = all_flat (is_sort 1) (segment_elements names courses orders) (range_with_len 0 (length g.ends)) (λ s. each s (length (order_at orders s)) 0 (order_at orders s))
    where
      each : (s n i : ℕ) (order : List LineId) → list_all (is_sort 1) (line_elements names courses s n i order) ≡ true
      each s n i [] = refl
      each s n i (l ∷ order) = each s n (i + 1) order

  joins_are : list_all (is_sort 2) (all_joins names g courses orders) ≡ true
  joins_are = all_flat (is_sort 2) (node_joins names g courses orders) (range_with_len 0 (length g.kinds)) (λ n. all_flat (is_sort 2) (join_elements names g courses orders n) (joins_at g.joins n) (λ j. each n j))
    where
      one : (n : ℕ) (l : LineId) (a b : Corner) (colour : List ℕ) (same : Bool) → list_all (is_sort 2) (cond same [] (AtNode n l.0 a b colour ∷ [])) ≡ true
      one n l a b colour true = refl
      one n l a b colour false = refl

      each : (n : ℕ) (j : Join) → list_all (is_sort 2) (join_elements names g courses orders n j) ≡ true
      each n j =
          one n j.line (line_end g courses orders n j.e j.line) (line_end g courses orders n j.f j.line) (colour_of names j.line)
          (are_one (line_end g courses orders n j.e j.line) (line_end g courses orders n j.f j.line))

  markers_are : list_all (is_sort 3) (all_markers style g courses) ≡ true
  markers_are = all_flat (is_sort 3) (λ n. marker style g courses n (kind_at g.kinds n)) (range_with_len 0 (length g.kinds)) (λ n. each n (kind_at g.kinds n))
    where
      each : (n : ℕ) (kind : NodeKind) → list_all (is_sort 3) (marker style g courses n kind) ≡ true
      each n (Station s) = refl
      each n Junction = refl

  pub markers_of : all_markers style g courses ≡ map (marker_at style g courses) (stations_of g)
  markers_of =
      one_each (λ n. is_station (kind_at g.kinds n)) (marker_at style g courses) (λ n. marker style g courses n (kind_at g.kinds n)) (range_with_len 0 (length g.kinds))
      (λ n. each n (kind_at g.kinds n))
    where
      each : (n : ℕ) (kind : NodeKind) → marker style g courses n kind ≡ cond (is_station kind) (marker_at style g courses n ∷ []) []
      each n (Station s) = refl
      each n Junction = refl

  pub labels_of : all_labels style names g courses ≡ map (label_at style names g courses) (stations_of g)
  labels_of =
      one_each (λ n. is_station (kind_at g.kinds n)) (label_at style names g courses) (λ n. label style names g courses n (kind_at g.kinds n)) (range_with_len 0 (length g.kinds))
      (λ n. by n (kind_at g.kinds n) refl)
    where
      by : (n : ℕ) (kind : NodeKind) → kind_at g.kinds n ≡ kind
          → label style names g courses n (kind_at g.kinds n) ≡ cond (is_station (kind_at g.kinds n)) (label_at style names g courses n ∷ []) []
      by n (Station s) e =
          ap (label style names g courses n) e
          ∙ sym (ap (λ (k : NodeKind). cond (is_station k) (Label (beside style.gap (courses.centre n) (radius_in style g n)) (station_name names (station_of k)) ∷ []) []) e)
      by n Junction e =
          ap (label style names g courses n) e
          ∙ sym (ap (λ (k : NodeKind). cond (is_station k) (Label (beside style.gap (courses.centre n) (radius_in style g n)) (station_name names (station_of k)) ∷ []) []) e)

  pub labels_are : list_all is_label (all_labels style names g courses) ≡ true
  labels_are = all_flat is_label (λ n. label style names g courses n (kind_at g.kinds n)) (range_with_len 0 (length g.kinds)) (λ n. each n (kind_at g.kinds n))
    where
      each : (n : ℕ) (kind : NodeKind) → list_all is_label (label style names g courses n kind) ≡ true
      each n (Station s) = refl
      each n Junction = refl

pub placed_are : (names : Names) (g : GraphParts) (spots : List (Option Corner)) → list_all is_label (placed_labels names g spots) ≡ true
placed_are names g spots = all_flat is_label (λ n. placed_label names (kind_at g.kinds n) (spot_at spots n)) (range_with_len 0 (length g.kinds)) (λ n. each (kind_at g.kinds n) (spot_at spots n))
  where
    each : (kind : NodeKind) (spot : Option Corner) → list_all is_label (placed_label names kind spot) ≡ true
    each (Station s) (Some spot) = refl
    each (Station s) None = refl
    each Junction spot = refl

-- ---- the whole picture

labels_by : (labels : List Element) → list_all is_label labels ≡ true → list_all (is_sort 4) labels ≡ true
labels_by [] all = refl
labels_by (e ∷ labels) all = let parts = and_parts (is_label e) (list_all is_label labels) all in and_from _ _ (sym (label_by e) ∙ parts.0) (labels_by labels parts.1)

module _ (style : Style) (names : Names) (g : GraphParts) (courses : Courses) (orders : List (List LineId)) (frame : Bounds) (labels : List Element) (are : list_all is_label labels ≡ true) where
  abbrev lines : List Element
  lines = all_lines names g courses orders

  abbrev joins : List Element
  joins = all_joins names g courses orders

  abbrev markers : List Element
  markers = all_markers style g courses

  -- what a filter keeps of the picture, by its parts
  kept : (p : Element → Bool) (a b c d : List Element) → p (Head frame) ≡ false → filter p lines ≡ a → filter p joins ≡ b → filter p markers ≡ c → filter p (labels ++ Tail ∷ []) ≡ d
      → filter p (elements_with style names g courses orders frame labels) ≡ a ++ (b ++ (c ++ d))
  kept p a b c d head e f h k =
      ap (λ (t : Bool). cond t (Head frame ∷ filter p (lines ++ (joins ++ (markers ++ (labels ++ Tail ∷ []))))) (filter p (lines ++ (joins ++ (markers ++ (labels ++ Tail ∷ [])))))) head
      ∙ filter-append p lines (joins ++ (markers ++ (labels ++ Tail ∷ []))) ∙ ap (λ xs. xs ++ filter p (joins ++ (markers ++ (labels ++ Tail ∷ [])))) e
      ∙ ap (λ xs. a ++ xs) (filter-append p joins (markers ++ (labels ++ Tail ∷ [])) ∙ ap (λ xs. xs ++ filter p (markers ++ (labels ++ Tail ∷ []))) f
      ∙ ap (λ xs. b ++ xs) (filter-append p markers (labels ++ Tail ∷ []) ∙ ap (λ xs. xs ++ filter p (labels ++ Tail ∷ [])) h ∙ ap (λ xs. c ++ xs) k))

  pub circles_are : filter is_marker (elements_with style names g courses orders frame labels) ≡ map (marker_at style g courses) (stations_of g)
  circles_are =
      kept is_marker [] [] markers [] refl (no_marker 1 refl lines (lines_are style names g courses orders)) (no_marker 2 refl joins (joins_are style names g courses orders))
      (kept_all is_marker markers (markers_by markers (markers_are style names g courses orders)))
      (filter-append is_marker labels (Tail ∷ []) ∙ ap (λ xs. xs ++ []) (no_marker 4 refl labels (labels_by labels are)))
      ∙ none_more markers ∙ markers_of style names g courses orders
    where
      markers_by : (xs : List Element) → list_all (is_sort 3) xs ≡ true → list_all is_marker xs ≡ true
      markers_by [] all = refl
      markers_by (e ∷ xs) all = let parts = and_parts (is_sort 3 e) (list_all (is_sort 3) xs) all in and_from _ _ (marker_by e ∙ parts.0) (markers_by xs parts.1)

  pub names_are : filter is_label (elements_with style names g courses orders frame labels) ≡ labels
  names_are =
      kept is_label [] [] [] labels refl (no_label 1 refl lines (lines_are style names g courses orders)) (no_label 2 refl joins (joins_are style names g courses orders))
      (no_label 3 refl markers (markers_are style names g courses orders))
      (filter-append is_label labels (Tail ∷ []) ∙ ap (λ xs. xs ++ []) (kept_all is_label labels are) ∙ none_more labels)

  -- the paths of a line on a segment are among the lines
  paths_in_lines : (s : ℕ) (l : LineId) → count_by (is_path_of s l) (elements_with style names g courses orders frame labels) ≡ count_by (is_path_of s l) lines
  paths_in_lines s l =
      let q = is_path_of s l in
      let first = count_append q lines (joins ++ (markers ++ (labels ++ Tail ∷ []))) in
      let second = count_append q joins (markers ++ (labels ++ Tail ∷ [])) in
      let third = count_append q markers (labels ++ Tail ∷ []) in
      let fourth = count_append q labels (Tail ∷ []) in
      omega (
        arith,
        first,
        second,
        third,
        fourth,
        no_path s l 2 refl joins (joins_are style names g courses orders),
        no_path s l 3 refl markers (markers_are style names g courses orders),
        no_path s l 4 refl labels (labels_by labels are),
      )

-- ---- the lines of one segment

-- a number that is at most another, and not the same, is below it
above : (k s : ℕ) → k ≤ s → (k == s) ≡ false → k + 1 ≤ s
above k s low apart = omega (arith, low, eqb-false k s apart)

-- so many places of an order have the line
own_paths : (names : Names) (courses : Courses) (s n i : ℕ) (l : LineId) (order : List LineId)
    → count_by (is_path_of s l) (line_elements names courses s n i order) ≡ count_by (λ (a : LineId). a.0 == l.0) order
own_paths names courses s n i l [] = refl
own_paths names courses s n i l (a ∷ order) =
    let path : Element = OnSegment s a.0 (courses.path s (gauge n i)) (colour_of names a) (name_of names a) in
    let one : ◌≡◌ {A = ℕ} (cond (is_path_of s l path) 1 0) (cond (a.0 == l.0) 1 0) = ap (λ (b : Bool). cond {A = ℕ} (b && a.0 == l.0) 1 0) (eq-eqb s s refl) in
    omega (
      arith,
      count_cons (is_path_of s l) path (line_elements names courses s n (i + 1) order),
      count_cons (λ (b : LineId). b.0 == l.0) a order,
      one,
      own_paths names courses s n (i + 1) l order,
    )

-- another segment has none of its paths
other_paths : (names : Names) (courses : Courses) (s t n i : ℕ) (l : LineId) (order : List LineId) → (t == s) ≡ false
    → count_by (is_path_of s l) (line_elements names courses t n i order) ≡ 0
other_paths names courses s t n i l [] apart = refl
other_paths names courses s t n i l (a ∷ order) apart =
    let path : Element = OnSegment t a.0 (courses.path t (gauge n i)) (colour_of names a) (name_of names a) in
    let none : ◌≡◌ {A = ℕ} (cond (is_path_of s l path) 1 0) 0 = ap (λ (b : Bool). cond {A = ℕ} (b && a.0 == l.0) 1 0) apart in
    omega (arith, count_cons (is_path_of s l) path (line_elements names courses t n (i + 1) order), none, other_paths names courses s t n (i + 1) l order apart)

module _ (names : Names) (courses : Courses) (orders : List (List LineId)) (s : ℕ) (l : LineId) where
  abbrev paths_from : ℕ → ℕ → ℕ
  paths_from k n = count_by (is_path_of s l) (flat_map (segment_elements names courses orders) (range_with_len k n))

  -- segments from a later number on
  later_paths : (k n : ℕ) → s < k → paths_from k n ≡ 0
  later_paths k zero below = refl
  later_paths k (suc n) below =
      let whole = count_append (is_path_of s l) (segment_elements names courses orders k) (flat_map (segment_elements names courses orders) (range_with_len (k + 1) n)) in
      let here = other_paths names courses s k (length (order_at orders k)) 0 l (order_at orders k) (false_from_ne_true (k == s) (λ h. omega (arith, eqb-true k s h, below))) in
      omega (arith, whole, here, later_paths (k + 1) n (omega (arith, below)))

  paths_counted : (k n : ℕ) → k ≤ s → s < k + n → paths_from k n ≡ count_by (λ (a : LineId). a.0 == l.0) (order_at orders s)
  paths_counted k zero low high = absurd (omega (arith, low, high))
  paths_counted k (suc n) low high = by (k == s) refl (λ more high. paths_counted (k + 1) n more high)
    where
      whole : paths_from k (suc n) ≡ count_by (is_path_of s l) (segment_elements names courses orders k) + paths_from (k + 1) n
      whole = count_append (is_path_of s l) (segment_elements names courses orders k) (flat_map (segment_elements names courses orders) (range_with_len (k + 1) n))

      by : (b : Bool) → (k == s) ≡ b → (k + 1 ≤ s → s < k + 1 + n → paths_from (k + 1) n ≡ count_by (λ (a : LineId). a.0 == l.0) (order_at orders s))
          → paths_from k (suc n) ≡ count_by (λ (a : LineId). a.0 == l.0) (order_at orders s)
      by true e rest =
          let same : k ≡ s = eqb-true k s e in
          let here : count_by (is_path_of s l) (segment_elements names courses orders k) ≡ count_by (λ (a : LineId). a.0 == l.0) (order_at orders s) =
          ap (λ (t : ℕ). count_by (is_path_of s l) (segment_elements names courses orders t)) same ∙ own_paths names courses s (length (order_at orders s)) 0 l (order_at orders s) in
          omega (arith, whole, here, later_paths (k + 1) n (omega (arith, same)))
      by false e rest =
          let here = other_paths names courses s k (length (order_at orders k)) 0 l (order_at orders k) e in
          omega (arith, whole, here, rest (above k s low e) (omega (arith, high)))

pub one_path_each : (style : Style) (names : Names) (g : GraphParts) (courses : Courses) (orders : List (List LineId)) (frame : Bounds) (labels : List Element) (s : ℕ) (l : LineId)
    → list_all is_label labels ≡ true → s < length g.ends
    → count_by (is_path_of s l) (elements_with style names g courses orders frame labels) ≡ count_by (λ (a : LineId). a.0 == l.0) (order_at orders s)
one_path_each style names g courses orders frame labels s l are known =
    paths_in_lines style names g courses orders frame labels are s l ∙ paths_counted names courses orders s l 0 (length g.ends) (omega arith) (omega (arith, known))

-- ---- the path at a place

line_there : (names : Names) (courses : Courses) (s n k i : ℕ) (l : LineId) (order : List LineId) → slice_get order i ≡ Some l
    → Contains (line_elements names courses s n k order) (OnSegment s l.0 (courses.path s (gauge n (k + i))) (colour_of names l) (name_of names l))
line_there names courses s n k i l [] e = cc
line_there names courses s n k zero l (a ∷ order) e =
    let same : a ≡ l = cc in
    let here : k ≡ k + 0 = omega arith in
    subst (λ (b : LineId). Contains (line_elements names courses s n k (a ∷ order)) (OnSegment s b.0 (courses.path s (gauge n (k + 0))) (colour_of names b) (name_of names b))) same
    (subst (λ (j : ℕ). Contains (line_elements names courses s n k (a ∷ order)) (OnSegment s a.0 (courses.path s (gauge n j)) (colour_of names a) (name_of names a))) here
    (0, omega arith, refl))
line_there names courses s n k (suc i) l (a ∷ order) e =
    let later : k + 1 + i ≡ k + suc i = omega arith in
    let rest = line_there names courses s n (k + 1) i l order e in
    subst (λ (j : ℕ). Contains (line_elements names courses s n k (a ∷ order)) (OnSegment s l.0 (courses.path s (gauge n j)) (colour_of names l) (name_of names l))) later
    (suc rest.0, omega (arith, rest.1), rest.2)

flat_there : (f : ℕ → List Element) (e : Element) (s k n : ℕ) → k ≤ s → s < k + n → Contains (f s) e → Contains (flat_map f (range_with_len k n)) e
flat_there f e s k zero low high here = absurd (omega (arith, low, high))
flat_there f e s k (suc n) low high here = by (k == s) refl (λ more high. flat_there f e s (k + 1) n more high here)
  where
    by : (b : Bool) → (k == s) ≡ b → (k + 1 ≤ s → s < k + 1 + n → Contains (flat_map f (range_with_len (k + 1) n)) e) → Contains (flat_map f (range_with_len k (suc n))) e
    by true h rest = Contains-append_left (f k) (flat_map f (range_with_len (k + 1) n)) e (subst (λ (t : ℕ). Contains (f t) e) (sym (eqb-true k s h)) here)
    by false h rest = Contains-append_right (f k) (flat_map f (range_with_len (k + 1) n)) e (rest (above k s low h) (omega (arith, high)))

pub path_there : (style : Style) (names : Names) (g : GraphParts) (courses : Courses) (orders : List (List LineId)) (frame : Bounds) (labels : List Element) (s i : ℕ) (l : LineId)
    → s < length g.ends → slice_get (order_at orders s) i ≡ Some l
    → Contains (elements_with style names g courses orders frame labels)
    (OnSegment s l.0 (courses.path s (gauge (length (order_at orders s)) i)) (colour_of names l) (name_of names l))
path_there style names g courses orders frame labels s i l known e =
    let path : Element = OnSegment s l.0 (courses.path s (gauge (length (order_at orders s)) i)) (colour_of names l) (name_of names l) in
    let rest : List Element = all_joins names g courses orders ++ (all_markers style g courses ++ (labels ++ Tail ∷ [])) in
    let place = Contains-append_left (all_lines names g courses orders) rest path
    (flat_there (segment_elements names courses orders) path s 0 (length g.ends) (omega arith) (omega (arith, known))
    (subst (λ (j : ℕ). Contains (segment_elements names courses orders s) (OnSegment s l.0 (courses.path s (gauge (length (order_at orders s)) j)) (colour_of names l) (name_of names l)))
    (none_before i) (line_there names courses s (length (order_at orders s)) 0 i l (order_at orders s) e))) in
    (suc place.0, omega (arith, place.1), place.2)
  where
    none_before : (n : ℕ) → 0 + n ≡ n
    none_before n = omega arith
