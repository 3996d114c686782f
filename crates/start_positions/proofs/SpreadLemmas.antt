-- Even places: ranks by counting, and what spreading keeps.
use Rattle.std.proofs.Common.{◌≡◌, ◌≢◌, refl, sym, ◌∙◌, ap, ap₂, subst, ℕ, zero, suc, ◌+◌, ◌-◌, ◌*◌, ◌/◌, ◌<◌, ◌≤◌, ◌⊎◌, inl, inr, Bool, true, false, cond, eqb, ltb, leb, ℤ, pos, ◌-ℤ◌, ◌≤ℤ◌, unsigned_abs, List, [], ◌∷◌, ◌++◌, length, map, drop, get_or, append_assoc, append-nil, arith}
use Rattle.std.specs.List.{count_by, Contains, AllByRecursion}
use Rattle.std.specs.List.Sorted.{IsPartitionPoint, IsPermutation}
use Rattle.std.proofs.lemmas.Bool.{cases_eq, eq-eqb, ne_eqb, le-leb, le-ltb, lt-ltb, leb-true, ltb-true}
use Rattle.std.proofs.lemmas.Int.{ints}
use Rattle.std.proofs.lemmas.List.{drop_all, drop_more, get_or-map, length-map}
use Rattle.std.proofs.lemmas.List.Elements.{Contains-get_or}
use Rattle.std.proofs.lemmas.List.Sums.{count_by-le-length, sum_by-cons}
use Rattle.std.proofs.lemmas.List.Sorted.{length_permutation, sum_by-IsPermutation, Contains-permutation}
use Rattle.std.proofs.lemmas.Nat.{le-div}
use Rattle.std.proofs.Math.Nat.{add-mul, div-le_of_le-mul, div-mul-le_self, div-zero, mul-div_cancel_left, mul-le-mul_left, mul-le-mul_right}
use Rattle.map_base.specs.declared.point.Point.{Point}
use Rattle.start_positions.specs.declared.cells.Extents.{Extents}
use Rattle.start_positions.specs.declared.placing.Offset.{Offset}
use Rattle.start_positions.specs.declared.spreading.Place.{Place}
use Rattle.start_positions.specs.Cells.{coordinate, height_of, least_number, offset_of, offsets_of, width_of, AreExtents, IsOffset}
use Rattle.start_positions.specs.Nodes.{coordinate_at}
use Rattle.start_positions.specs.Spreads.{below, even_place, offset_along, offsets_along, part_way, place_among, place_by, places_of, spread_along, spread_offsets, spread_place, upto}
use Rattle.start_positions.proofs.GridLemmas.{least_of_all, offsets_within}
use Rattle.start_positions.proofs.OpenPoints.{at_index}

-- ---- counting

count_cons : {X : Type 0} (p : X → Bool) (x : X) (xs : List X) → count_by p (x ∷ xs) ≡ cond (p x) 1 0 + count_by p xs
count_cons p x xs = sum_by-cons (λ y. cond (p y) 1 0) x xs

count_yes : {X : Type 0} (p : X → Bool) (x : X) (xs : List X) → p x ≡ true → count_by p (x ∷ xs) ≡ 1 + count_by p xs
count_yes p x xs e = count_cons p x xs ∙ ap (λ t. cond t 1 0 + count_by p xs) e

count_no : {X : Type 0} (p : X → Bool) (x : X) (xs : List X) → p x ≡ false → count_by p (x ∷ xs) ≡ count_by p xs
count_no p x xs e = count_cons p x xs ∙ ap (λ t. cond t 1 0 + count_by p xs) e ∙ omega arith

count_more : {X : Type 0} (p : X → Bool) (x : X) (xs : List X) → (count_by p xs ≤ count_by p (x ∷ xs)) × (count_by p (x ∷ xs) ≤ 1 + count_by p xs)
count_more p x xs = by_test (p x) refl
  where
    by_test : (t : Bool) → p x ≡ t → (count_by p xs ≤ count_by p (x ∷ xs)) × (count_by p (x ∷ xs) ≤ 1 + count_by p xs)
    by_test true e = (omega (arith, count_yes p x xs e), omega (arith, count_yes p x xs e))
    by_test false e = (omega (arith, count_no p x xs e), omega (arith, count_no p x xs e))

-- one passes, so some do
some_pass : {X : Type 0} (p : X → Bool) (xs : List X) (k : ℕ) (d : X) → k < length xs → p (get_or xs k d) ≡ true → 0 < count_by p xs
some_pass p [] k d h e = absurd (omega arith)
some_pass p (x ∷ xs) zero d h e = omega (arith, count_yes p x xs e)
some_pass p (x ∷ xs) (suc k) d h e =
    let rest = some_pass p xs k d (omega arith) e in
    omega (arith, (count_more p x xs).0)

-- one fails, so not all pass
some_fail : {X : Type 0} (p : X → Bool) (xs : List X) (k : ℕ) (d : X) → k < length xs → p (get_or xs k d) ≡ false → count_by p xs < length xs
some_fail p [] k d h e = absurd (omega arith)
some_fail p (x ∷ xs) zero d h e = omega (arith, count_no p x xs e, count_by-le-length p xs)
some_fail p (x ∷ xs) (suc k) d h e =
    let rest = some_fail p xs k d (omega arith) e in
    omega (arith, (count_more p x xs).1)

-- those before the point where passing ends are those that pass
pub counted : {X : Type 0} (p : X → Bool) (xs : List X) (i : ℕ) → i ≤ length xs → IsPartitionPoint (λ y. p y ≡ true) (λ y. p y ≡ false) xs i → count_by p xs ≡ i
counted p [] i h part = omega arith
counted p (x ∷ xs) zero h part =
    let first : p x ≡ false = part.1 0 x (omega arith) (omega arith) in
    count_no p x xs first ∙ counted p xs 0 (omega arith) ((λ k d low high. absurd (omega arith)), λ k d low high. part.1 (suc k) d (omega arith) (omega arith))
counted p (x ∷ xs) (suc i) h part =
    let first : p x ≡ true = part.0 0 x (omega arith) (omega arith) in
    let rest = counted p xs i (omega arith) ((λ k d low high. part.0 (suc k) d (omega arith) (omega arith)), λ k d low high. part.1 (suc k) d (omega arith) (omega arith)) in
    count_yes p x xs first ∙ omega (arith, rest)

-- what passes a weaker test is no fewer
count_weaker : {X : Type 0} (p q : X → Bool) (xs : List X) → ((x : X) → p x ≡ true → q x ≡ true) → count_by p xs ≤ count_by q xs
count_weaker p q [] weaker = omega arith
count_weaker p q (x ∷ xs) weaker = by_test (p x) refl (count_weaker p q xs weaker)
  where
    by_test : (t : Bool) → p x ≡ t → count_by p xs ≤ count_by q xs → count_by p (x ∷ xs) ≤ count_by q (x ∷ xs)
    by_test true e rest = omega (arith, count_yes p x xs e, count_yes q x xs (weaker x e))
    by_test false e rest = omega (arith, count_no p x xs e, (count_more q x xs).0)

-- ---- ranks

pub below_fewer : (ats : List ℕ) (at : ℕ) → Contains ats at → below ats at < length ats
below_fewer ats at (k, h, e) = some_fail (λ a. ltb a at) ats k at h (ap (λ a. ltb a at) e ∙ le-ltb at at (omega arith))

pub upto_some : (ats : List ℕ) (at : ℕ) → Contains ats at → 0 < upto ats at
upto_some ats at (k, h, e) = some_pass (λ a. leb a at) ats k at h (ap (λ a. leb a at) e ∙ le-leb at at (omega arith))

below_rises : (ats : List ℕ) (a b : ℕ) → a ≤ b → below ats a ≤ below ats b
below_rises ats a b h = count_weaker (λ x. ltb x a) (λ x. ltb x b) ats (λ x e. lt-ltb x b (let l : x < a = ltb-true x a e in omega arith))

upto_rises : (ats : List ℕ) (a b : ℕ) → a ≤ b → upto ats a ≤ upto ats b
upto_rises ats a b h = count_weaker (λ x. leb x a) (λ x. leb x b) ats (λ x e. le-leb x b (let l : x ≤ a = leb-true x a e in omega arith))

-- ranks don't depend on the order of the numbers
pub even_anyhow : (extent : ℕ) (xs ys : List ℕ) (at : ℕ) → IsPermutation xs ys → length ys ≡ length xs → even_place extent ys at ≡ even_place extent xs at
even_anyhow extent xs ys at same long =
    ap (λ n. cond (eqb n 1) at ((below ys at + upto ys at - 1) * extent / (2 * (n - 1)))) long
    ∙ ap (λ m. cond (eqb (length xs) 1) at ((m + upto ys at - 1) * extent / (2 * (length xs - 1)))) (sum_by-IsPermutation (λ y. cond (ltb y at) 1 0) xs ys same)
    ∙ ap (λ m. cond (eqb (length xs) 1) at ((below xs at + m - 1) * extent / (2 * (length xs - 1)))) (sum_by-IsPermutation (λ y. cond (leb y at) 1 0) xs ys same)

-- ---- even places

div_rises : (a b k : ℕ) → a ≤ b → a / k ≤ b / k
div_rises a b zero h = omega (arith, div-zero a, div-zero b)
div_rises a b (suc k) h = le-div (a / suc k) b (suc k) (omega arith) (let least : a / suc k * suc k ≤ a = div-mul-le_self a (suc k) in omega arith)

pub even_of_one : (extent : ℕ) (ats : List ℕ) (at : ℕ) → length ats ≡ 1 → even_place extent ats at ≡ at
even_of_one extent ats at one = ap (λ t. cond t at ((below ats at + upto ats at - 1) * extent / (2 * (length ats - 1)))) (eq-eqb (length ats) 1 one)

pub even_of_more : (extent : ℕ) (ats : List ℕ) (at : ℕ) → length ats ≢ 1 → even_place extent ats at ≡ (below ats at + upto ats at - 1) * extent / (2 * (length ats - 1))
even_of_more extent ats at more = ap (λ t. cond t at ((below ats at + upto ats at - 1) * extent / (2 * (length ats - 1)))) (ne_eqb (length ats) 1 more)

-- the quotient of ranks is within the extent
pub ranks_within : (extent low high count : ℕ) → low < count → high ≤ count → count ≢ 1 → (low + high - 1) * extent / (2 * (count - 1)) ≤ extent
ranks_within extent low high count less most more =
    div-le_of_le-mul (2 * (count - 1)) (mul-le-mul_right extent (let h : low + high - 1 ≤ 2 * (count - 1) = omega arith in h))

even_within : (extent : ℕ) (ats : List ℕ) (at : ℕ) → Contains ats at → at ≤ extent → even_place extent ats at ≤ extent
even_within extent ats at among h = by_count (cases_eq (length ats) 1)
  where
    by_count : (length ats ≡ 1) ⊎ (length ats ≢ 1) → even_place extent ats at ≤ extent
    by_count (inl one) = omega (arith, even_of_one extent ats at one)
    by_count (inr more) =
        omega (arith, even_of_more extent ats at more, ranks_within extent (below ats at) (upto ats at) (length ats) (below_fewer ats at among) (count_by-le-length (λ a. leb a at) ats) more)

even_rises : (extent : ℕ) (ats : List ℕ) (a b : ℕ) → a ≤ b → even_place extent ats a ≤ even_place extent ats b
even_rises extent ats a b h = by_count (cases_eq (length ats) 1)
  where
    by_count : (length ats ≡ 1) ⊎ (length ats ≢ 1) → even_place extent ats a ≤ even_place extent ats b
    by_count (inl one) = omega (arith, even_of_one extent ats a one, even_of_one extent ats b one)
    by_count (inr more) =
        let ranks : below ats a + upto ats a - 1 ≤ below ats b + upto ats b - 1 = omega (arith, below_rises ats a b h, upto_rises ats a b h) in
        let quotients = div_rises ((below ats a + upto ats a - 1) * extent) ((below ats b + upto ats b - 1) * extent) (2 * (length ats - 1)) (mul-le-mul_right extent ranks) in
        omega (arith, even_of_more extent ats a more, even_of_more extent ats b more)

-- the even place by what was counted
pub even_found : (extent : ℕ) (ats : List ℕ) (at low high count place : ℕ) → low ≡ below ats at → high ≡ upto ats at → count ≡ length ats → count ≢ 1
    → place ≡ (low + high - 1) * extent / (2 * (count - 1)) → place ≡ even_place extent ats at
even_found extent ats at low high count place few many each more is =
    is ∙ ap (λ n. (n + high - 1) * extent / (2 * (count - 1))) few ∙ ap (λ n. (below ats at + n - 1) * extent / (2 * (count - 1))) many
    ∙ ap (λ n. (below ats at + upto ats at - 1) * extent / (2 * (n - 1))) each
    ∙ sym (even_of_more extent ats at (λ one. more (each ∙ one)))

-- a part of an extent fits where the extent does
pub part_fits : (parts extent all product divisor : ℕ) → parts ≤ all → extent < 4294967296 → product ≡ parts * extent → divisor ≡ all → product / divisor < 4294967296
part_fits parts extent all product divisor few small is same =
    let within : parts * extent / all ≤ extent = div-le_of_le-mul all (mul-le-mul_right extent few) in
    let quotient : product / divisor ≡ parts * extent / all = ap (λ n. n / divisor) is ∙ ap (λ n. parts * extent / n) same in
    omega arith

-- ---- part of the way

both : (p e : ℕ) → p ≤ 100 → (100 - p) * e + p * e ≡ 100 * e
both p e h =
    let split : (100 - p) + p ≡ 100 = omega arith in
    sym (add-mul (100 - p) p e) ∙ ap (λ n. n * e) split

pub way_sum : (extent percent from to : ℕ) → percent ≤ 100 → from ≤ extent → to ≤ extent → (100 - percent) * from + percent * to ≤ 100 * extent
way_sum extent percent from to h f t =
    let rest : (100 - percent) * from ≤ (100 - percent) * extent = mul-le-mul_left (100 - percent) f in
    let way : percent * to ≤ percent * extent = mul-le-mul_left percent t in
    omega (arith, both percent extent h)

way_within : (extent percent from to : ℕ) → percent ≤ 100 → from ≤ extent → to ≤ extent → part_way percent from to ≤ extent
way_within extent percent from to h f t = div-le_of_le-mul 100 (way_sum extent percent from to h f t)

-- the sum fits, and so does the part of the way
pub sum_fits : (percent from to rest way : ℕ) → percent ≤ 100 → from < 4294967296 → to < 4294967296 → rest ≡ (100 - percent) * from → way ≡ percent * to
    → (rest + way < 18446744073709551616) × ((rest + way) / 100 < 4294967296)
sum_fits percent from to rest way h f t a b =
    let few : (100 - percent) * from + percent * to ≤ 100 * 4294967295 = way_sum 4294967295 percent from to h (omega arith) (omega arith) in
    let sum : rest + way ≤ 100 * 4294967295 = omega arith in
    let quotient : (rest + way) / 100 ≤ 4294967295 = div-le_of_le-mul 100 sum in
    (omega arith, omega arith)

part_way_rises : (percent from to from' to' : ℕ) → from ≤ from' → to ≤ to' → part_way percent from to ≤ part_way percent from' to'
part_way_rises percent from to from' to' f t =
    let rest : (100 - percent) * from ≤ (100 - percent) * from' = mul-le-mul_left (100 - percent) f in
    let way : percent * to ≤ percent * to' = mul-le-mul_left percent t in
    div_rises ((100 - percent) * from + percent * to) ((100 - percent) * from' + percent * to') 100 (omega arith)

no_way : (from to : ℕ) → part_way 0 from to ≡ from
no_way from to = ap (λ n. n / 100) (let sum : (100 - 0) * from + 0 * to ≡ 100 * from = omega arith in sum) ∙ mul-div_cancel_left from (omega arith)

-- ---- of all nodes

-- a number is among those of all offsets
pub along_among : (os : List Offset) (east : Bool) (o : Offset) → Contains os o → Contains (offsets_along east os) (offset_along east o)
along_among os east o (k, h, e) =
    (k, omega (arith, length-map os (offset_along east)), get_or-map (offset_along east) os k o (offset_along east o) h ∙ ap (offset_along east) e)

-- what holds at each place holds of all
pub from_each : {X : Type 0} (P : X → Type 0) (xs : List X) → ((k : ℕ) (d : X) → k < length xs → P (get_or xs k d)) → AllByRecursion P xs
from_each P [] each = tt
from_each P (x ∷ xs) each = (each 0 x (omega arith), from_each P xs (λ k d h. each (suc k) d (omega arith)))

-- what holds of each, after a map
pub of_mapped : {X Y : Type 0} (f : X → Y) (P : X → Type 0) (Q : Y → Type 0) (xs : List X) → ((x : X) → P x → Q (f x)) → AllByRecursion P xs → AllByRecursion Q (map f xs)
of_mapped f P Q [] keeps all = tt
of_mapped f P Q (x ∷ xs) keeps all = (keeps x all.0, of_mapped f P Q xs keeps all.1)

-- a node among all lies within the extents
abbrev IsNode : List Point → Offset → Type 0
IsNode ps o = Contains (offsets_of ps) o × IsOffset ps o

nodes_all : (ps : List Point) → AllByRecursion (IsNode ps) (offsets_of ps)
nodes_all ps =
    from_each (IsNode ps) (offsets_of ps)
    (λ k d h. (Contains-get_or (offsets_of ps) k d h, at_index (IsOffset ps) (offsets_of ps) k d (offsets_within ps) h))

abbrev place_in : List Point → Offset → Place
place_in ps o = place_among (width_of ps) (height_of ps) (offsets_of ps) o

put_within : (ps : List Point) (percent : ℕ) → percent ≤ 100 → (o : Offset) → IsNode ps o → IsOffset ps (spread_place percent (place_in ps o))
put_within ps percent h o node = record {
  east = way_within (width_of ps) percent o.east (place_in ps o).even.east h node.1.east
      (even_within (width_of ps) (offsets_along true (offsets_of ps)) o.east (along_among (offsets_of ps) true o node.0) node.1.east);
  north = way_within (height_of ps) percent o.north (place_in ps o).even.north h node.1.north
      (even_within (height_of ps) (offsets_along false (offsets_of ps)) o.north (along_among (offsets_of ps) false o node.0) node.1.north);
}

-- nodes are put within the extents
pub spread_within : (ps : List Point) (percent : ℕ) → percent ≤ 100 → AllByRecursion (IsOffset ps) (spread_offsets ps percent)
spread_within ps percent h =
    of_mapped (spread_place percent) (λ p. IsOffset ps (spread_place percent p)) (IsOffset ps) (places_of ps) (λ p within. within)
    (of_mapped (place_in ps) (IsNode ps) (λ p. IsOffset ps (spread_place percent p)) (offsets_of ps) (put_within ps percent h) (nodes_all ps))

pub spread_each : (ps : List Point) (percent : ℕ) → length (spread_offsets ps percent) ≡ length ps
spread_each ps percent = length-map (places_of ps) (spread_place percent) ∙ length-map (offsets_of ps) (place_in ps) ∙ length-map ps (offset_of ps)

-- places by what the extents and the offsets are
pub places_are : (ps : List Point) (e : Extents) (os : List Offset) → AreExtents ps e → os ≡ offsets_of ps → map (place_among e.width e.height os) os ≡ places_of ps
places_are ps e os are all =
    ap (λ (xs : List Offset). map (place_among e.width e.height xs) xs) all
    ∙ ap₂ (λ (w h : ℕ). map (place_among w h (offsets_of ps)) (offsets_of ps)) are.width are.height

-- the same place, in whichever order the numbers on both axes are
pub place_anyhow : (width height : ℕ) (os : List Offset) (easts norths : List ℕ) (o : Offset) → IsPermutation (offsets_along true os) easts → IsPermutation (offsets_along false os) norths
    → place_by width height easts norths o ≡ place_among width height os o
place_anyhow width height os easts norths o east north =
    ap (λ (e : ℕ). let p : Place = record { at = o; even = record { east = e; north = even_place height norths o.north } } in p)
    (even_anyhow width (offsets_along true os) easts o.east east (length_permutation (offsets_along true os) easts east))
    ∙ ap (λ (n : ℕ). let p : Place = record { at = o; even = record { east = even_place width (offsets_along true os) o.east; north = n } } in p)
    (even_anyhow height (offsets_along false os) norths o.north north (length_permutation (offsets_along false os) norths north))

-- there are as many numbers on an axis as offsets, and those of each are among them
pub along_few : (os : List Offset) (east : Bool) (ats : List ℕ) → IsPermutation (offsets_along east os) ats → length ats ≡ length os
along_few os east ats same = length_permutation (offsets_along east os) ats same ∙ length-map os (offset_along east)

pub along_here : (os : List Offset) (east : Bool) (ats : List ℕ) (i : ℕ) (d : Offset) → IsPermutation (offsets_along east os) ats → i < length os → Contains ats (offset_along east (get_or os i d))
along_here os east ats i d same h =
    Contains-permutation (offsets_along east os) ats (offset_along east (get_or os i d)) same (along_among os east (get_or os i d) (Contains-get_or os i d h))

-- one more of a list that is mapped
pub map_more : {X Y : Type 0} (f : X → Y) (xs : List X) (i : ℕ) (d : X) (done : List Y) → i < length xs
    → (done ++ f (get_or xs i d) ∷ []) ++ map f (drop (i + 1) xs) ≡ done ++ map f (drop i xs)
map_more f xs i d done h =
    append_assoc done (f (get_or xs i d) ∷ []) (map f (drop (i + 1) xs)) ∙ ap (λ (ys : List _). done ++ map f ys) (sym (drop_more xs i d h))

pub map_ends : {X Y : Type 0} (f : X → Y) (xs : List X) (i : ℕ) (done : List Y) → length xs ≤ i → done ++ map f (drop i xs) ≡ map f xs → done ≡ map f xs
map_ends f xs i done h e = sym (append-nil done) ∙ ap (λ (ys : List _). done ++ map f ys) (sym (drop_all i xs h)) ∙ e

-- ---- the law

-- how far a node lies
lies : (ps : List Point) (n : ℕ) (east : Bool) (p : Point) → offset_along east (offset_of ps p) ≡ unsigned_abs (coordinate east p -ℤ least_number (map (coordinate east) ps))
lies ps n true p = refl
lies ps n false p = refl

-- who lies no farther lies no farther above the least
lies_rise : (low a b : ℤ) → low ≤ℤ a → a ≤ℤ b → unsigned_abs (a -ℤ low) ≤ unsigned_abs (b -ℤ low)
lies_rise low a b h k = omega (arith, ints)

-- where a node is put, by where it lies
put_along : (ps : List Point) (percent : ℕ) (east : Bool) (o : Offset) → offset_along east (spread_place percent (place_in ps o))
    ≡ part_way percent (offset_along east o) (even_place (cond east (width_of ps) (height_of ps)) (offsets_along east (offsets_of ps)) (offset_along east o))
put_along ps percent true o = refl
put_along ps percent false o = refl

put_at : (ps : List Point) (percent : ℕ) (east : Bool) (n : ℕ) (p : Point) → n < length ps
    → spread_along ps percent east n ≡ offset_along east (spread_place percent (place_in ps (offset_of ps (get_or ps n p))))
put_at ps percent east n p h =
    get_or-map (offset_along east) (spread_offsets ps percent) n (spread_place percent (place_in ps (offset_of ps p))) 0 (omega (arith, spread_each ps percent))
    ∙ ap (offset_along east)
    (get_or-map (spread_place percent) (places_of ps) n (place_in ps (offset_of ps p)) (spread_place percent (place_in ps (offset_of ps p))) (omega (arith, length-map (offsets_of ps) (place_in ps), length-map ps (offset_of ps)))
    ∙ ap (spread_place percent)
    (get_or-map (place_in ps) (offsets_of ps) n (offset_of ps p) (place_in ps (offset_of ps p)) (omega (arith, length-map ps (offset_of ps)))
    ∙ ap (place_in ps) (get_or-map (offset_of ps) ps n p (offset_of ps p) h)))

pub sides_kept : (ps : List Point) (percent : ℕ) (east : Bool) (n m : ℕ) → percent ≤ 100 → n < length ps → m < length ps → coordinate_at ps n east ≤ℤ coordinate_at ps m east
    → spread_along ps percent east n ≤ spread_along ps percent east m
sides_kept ps percent east n m within h k less =
    let p : Point = get_or ps n origin in
    let q : Point = get_or ps m origin in
    let at_p : coordinate_at ps n east ≡ coordinate east p = get_or-map (coordinate east) ps n origin (pos 0) h in
    let at_q : coordinate_at ps m east ≡ coordinate east q = get_or-map (coordinate east) ps m origin (pos 0) k in
    let sides : coordinate east p ≤ℤ coordinate east q = subst (λ (z : ℤ). z ≤ℤ coordinate east q) at_p (subst (λ (z : ℤ). coordinate_at ps n east ≤ℤ z) at_q less) in
    let low : least_number (map (coordinate east) ps) ≤ℤ coordinate east p =
    subst (λ (z : ℤ). least_number (map (coordinate east) ps) ≤ℤ z) at_p
    (at_index (λ z. least_number (map (coordinate east) ps) ≤ℤ z) (map (coordinate east) ps) n (pos 0) (least_of_all (map (coordinate east) ps)) (omega (arith, length-map ps (coordinate east)))) in
    let lower : offset_along east (offset_of ps p) ≤ offset_along east (offset_of ps q) =
    subst (λ (v : ℕ). v ≤ offset_along east (offset_of ps q)) (sym (lies ps n east p))
    (subst (λ (v : ℕ). unsigned_abs (coordinate east p -ℤ least_number (map (coordinate east) ps)) ≤ v) (sym (lies ps m east q))
    (lies_rise (least_number (map (coordinate east) ps)) (coordinate east p) (coordinate east q) low sides)) in
    let put =
    part_way_rises percent (offset_along east (offset_of ps p))
    (even_place (cond east (width_of ps) (height_of ps)) (offsets_along east (offsets_of ps)) (offset_along east (offset_of ps p)))
    (offset_along east (offset_of ps q))
    (even_place (cond east (width_of ps) (height_of ps)) (offsets_along east (offsets_of ps)) (offset_along east (offset_of ps q)))
    lower (even_rises (cond east (width_of ps) (height_of ps)) (offsets_along east (offsets_of ps)) (offset_along east (offset_of ps p)) (offset_along east (offset_of ps q)) lower) in
    omega (arith, put_at ps percent east n origin h, put_at ps percent east m origin k, put_along ps percent east (offset_of ps p), put_along ps percent east (offset_of ps q))
  where
    origin : Point
    origin = record { x = pos 0; y = pos 0 }

-- no part of the way
stays : (ps : List Point) (os all : List Offset) → map (spread_place 0) (map (place_among (width_of ps) (height_of ps) all) os) ≡ os
stays ps [] all = refl
stays ps (o ∷ os) all = ap₂ (λ (x : Offset) (xs : List Offset). x ∷ xs) (here o) (stays ps os all)
  where
    here : (o : Offset) → spread_place 0 (place_among (width_of ps) (height_of ps) all o) ≡ o
    here o =
        ap₂ (λ (e n : ℕ). let v : Offset = record { east = e; north = n } in v) (no_way o.east (place_among (width_of ps) (height_of ps) all o).even.east)
        (no_way o.north (place_among (width_of ps) (height_of ps) all o).even.north)

pub not_spread : (ps : List Point) → spread_offsets ps 0 ≡ offsets_of ps
not_spread ps = stays ps (offsets_of ps) (offsets_of ps)
