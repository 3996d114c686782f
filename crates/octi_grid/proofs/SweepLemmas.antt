-- A sweep over ports tells whether they are clockwise.
use Rattle.std.proofs.Common.{◌≡◌, ℕ, zero, suc, ◌+◌, ◌<◌, ◌≤◌, Bool, true, false, cond, ltb, ◌&&◌, List, [], ◌∷◌, length, get_or, map, drop, take, Option, Some, None, slice_get, sym, refl, ap, ◌∙◌, arith}
use Rattle.std.proofs.lemmas.List.{drop_more, length-take}
use Rattle.std.specs.List.{cons_option, filter_map, zip}
use Rattle.map_base.specs.declared.ids.NodeId.{NodeId}
use Rattle.map_base.specs.declared.ids.SegId.{SegId}
use Rattle.octi_grid.specs.declared.dir.Dir.{Dir}
use Rattle.octi_grid.specs.declared.ports.Sweep.{Sweep}
use Rattle.octi_grid.specs.Costs.{clockwise_from}
use Rattle.octi_grid.specs.Legal.{are_clockwise, are_rising, legs_of, port_at, port_of, port_where}
use Rattle.octi_grid.specs.Walks.{PlainWalk}
use Rattle.octi_grid.specs.Sweeps.{goes_on, sweep_past, sweeps}

-- nothing is swept yet
abbrev pub no_sweep : Sweep
no_sweep = record { first = None; furthest = 0 }

sweeps_rising : (first : Dir) (low : ℕ) (ds : List Dir) → sweeps ds (record { first = Some first; furthest = low }) ≡ are_rising low (map (clockwise_from first) ds)
sweeps_rising first low [] = refl
sweeps_rising first low (d ∷ ds) = by_test (ltb low (clockwise_from first d)) (sweeps_rising first (clockwise_from first d) ds)
  where
    by_test : (b : Bool) → sweeps ds (record { first = Some first; furthest = clockwise_from first d }) ≡ are_rising (clockwise_from first d) (map (clockwise_from first) ds)
        → goes_on (sweeps ds) (cond b (Some (record { first = Some first; furthest = clockwise_from first d })) None) ≡ (b && are_rising (clockwise_from first d) (map (clockwise_from first) ds))
    by_test true e = e
    by_test false e = refl

pub sweeps_clockwise : (ds : List Dir) → sweeps ds no_sweep ≡ are_clockwise ds
sweeps_clockwise [] = refl
sweeps_clockwise (d ∷ ds) = sweeps_rising d 0 ds

-- a sweep over the ports of a round, one segment on
pub sweeps_more : {X : Type 0} (port : X → Option Dir) (xs : List X) (i : ℕ) (x : X) (s : Sweep) → i < length xs
    → sweeps (filter_map port (drop i xs)) s ≡ goes_on (sweeps (filter_map port (drop (i + 1) xs))) (sweep_past s (port (get_or xs i x)))
sweeps_more port xs i x s h = ap (λ v. sweeps (filter_map port v) s) (drop_more xs i x h) ∙ by_port (port (get_or xs i x))
  where
    by_port : (o : Option Dir) → sweeps (cons_option o (filter_map port (drop (i + 1) xs))) s ≡ goes_on (sweeps (filter_map port (drop (i + 1) xs))) (sweep_past s o)
    by_port None = refl
    by_port (Some d) = refl

-- look-ups in parts of lists, and in pairs of lists
pub get_or_got : {X : Type 0} (xs : List X) (i : ℕ) (x d : X) → slice_get xs i ≡ Some x → get_or xs i d ≡ x
get_or_got [] i x d e = cc
get_or_got (y ∷ ys) zero x d e = cc
get_or_got (y ∷ ys) (suc i) x d e = get_or_got ys i x d e

pub got_below : {X : Type 0} (xs : List X) (i : ℕ) (x : X) → slice_get xs i ≡ Some x → i < length xs
got_below [] i x e = cc
got_below (y ∷ ys) zero x e = omega arith
got_below (y ∷ ys) (suc i) x e = let below = got_below ys i x e in omega arith

pub got_from : {X : Type 0} (xs : List X) (i : ℕ) (x : X) → i < length xs → x ≡ get_or xs i x → slice_get xs i ≡ Some x
got_from [] i x h e = absurd (omega arith)
got_from (y ∷ ys) zero x h e = ap (λ v. Some v) (sym e)
got_from (y ∷ ys) (suc i) x h e = got_from ys i x (omega arith) e

pub got_past : {X : Type 0} (xs : List X) (i : ℕ) → length xs ≤ i → slice_get xs i ≡ None
got_past [] i h = refl
got_past (y ∷ ys) zero h = absurd (omega arith)
got_past (y ∷ ys) (suc i) h = got_past ys i (omega arith)

pub got_taken : {X : Type 0} (xs : List X) (n i : ℕ) → i < n → slice_get (take n xs) i ≡ slice_get xs i
got_taken xs zero i h = absurd (omega arith)
got_taken [] (suc n) i h = refl
got_taken (x ∷ xs) (suc n) zero h = refl
got_taken (x ∷ xs) (suc n) (suc i) h = got_taken xs n i (omega arith)

pub got_zip : {X Y : Type 0} (xs : List X) (ys : List Y) (i : ℕ) (x : X) (y : Y) → slice_get xs i ≡ Some x → slice_get ys i ≡ Some y → slice_get (zip xs ys) i ≡ Some (x, y)
got_zip [] ys i x y e f = cc
got_zip (v ∷ vs) [] i x y e f = cc
got_zip {X} {Y} (v ∷ vs) (w ∷ ws) zero x y e f =
    let first : v ≡ x = cc in
    let second : w ≡ y = cc in
    ap (λ (a : X). let o : Option (X × Y) = Some (a, w) in o) first ∙ ap (λ (b : Y). let o : Option (X × Y) = Some (x, b) in o) second
got_zip (v ∷ vs) (w ∷ ws) (suc i) x y e f = got_zip vs ws i x y e f

-- the port of a segment whose walk is one of the first
pub port_of-got : (ends : List (NodeId × NodeId)) (walks : List PlainWalk) (count n : ℕ) (s : SegId) (e : NodeId × NodeId) (w : PlainWalk) → s.0 < count → slice_get ends s.0 ≡ Some e → slice_get walks s.0 ≡ Some w
    → port_of (take count (legs_of ends walks)) n s ≡ port_at n (e, w)
port_of-got ends walks count n s e w h f g =
    ap (port_where n) (got_taken (zip ends walks) count s.0 h ∙ got_zip ends walks s.0 e w f g)

pub port_of-none : (ends : List (NodeId × NodeId)) (walks : List PlainWalk) (count n : ℕ) (s : SegId) → count ≤ s.0 → port_of (take count (legs_of ends walks)) n s ≡ None
port_of-none ends walks count n s h =
    let few : length (take count (zip ends walks)) ≤ s.0 = omega (arith, length-take count (zip ends walks)) in
    ap (port_where n) (got_past (take count (zip ends walks)) s.0 few)
