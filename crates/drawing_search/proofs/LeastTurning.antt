-- The bounds of a run are the least over all ports that its ends may have.
use Rattle.std.proofs.Common.{◌≡◌, refl, sym, ◌∙◌, ap, ℕ, ◌+◌, ◌*◌, ◌<◌, Bool, true, false, cond, eqb, min, List, [], ◌∷◌, ◌++◌, length, filter, fold, map, get_or, Option, Some, None, arith, ap₂, ◌≤◌, ◌⊎◌, inl, inr, replicate}
use Rattle.drawing_search.proofs.Common.{allowed_dirs, bit_at, cases_lt, directions, end_of, fill_by_all, first_seg_of}
use Rattle.drawing_search.proofs.Common.{flat_map, fold-append, free_nodes, get_or-map-range_with_len, get_or-replicate}
use Rattle.drawing_search.proofs.Common.{get_or_past, last_seg_of, least_beside, least_by, length-map-range_with_len}
use Rattle.drawing_search.proofs.Common.{never, number_of, overs_by, ports_for, range_with_len, reverse_of, slice_index}
use Rattle.drawing_search.proofs.Common.{turn_price, turns_at_least, turns_by, with_first_by, with_last_by}
use Rattle.drawing_search.proofs.Common.{with_walk_by, AreOvers, Chain, Dir, GraphParts, IsLeastOf, IsSmallLeast}
use Rattle.drawing_search.proofs.Common.{LeastTurns, Scale, Sketch}
use Rattle.drawing_search.proofs.PutBack.{same_list}

-- a walk that is taken into account
by_walk : (l : LeastTurns) (first last : Dir) (overs way : ℕ) → way < 9 → slice_index (with_walk_by l first last overs).by way ≡ min (slice_index l.by way) (overs + l.per_turn * turns_at_least first last way)
by_walk l first last overs way few = get_or-map-range_with_len (λ k. min (slice_index l.by k) (overs + l.per_turn * turns_at_least first last k)) 0 9 way way 0 few (omega arith)

-- what a walk adds that comes by a port, if that is allowed
abbrev value_if : Dir → ℕ → ℕ → ℕ → Dir → Option ℕ → List ℕ
value_if first here price way e None = []
value_if first here price way e (Some there) = (here + there + price * turns_at_least first (reverse_of e) way) ∷ []

module _ (first : Dir) (here : ℕ) (to : Dir → Option ℕ) where
  abbrev last_more : LeastTurns → Dir → LeastTurns
  last_more m e = with_last_by m first here e (to e)

  same_price : (l : LeastTurns) (es : List Dir) → ((fold last_more l es).per_turn ≡ l.per_turn) × ((fold last_more l es).free_turns ≡ l.free_turns)
  same_price l [] = (refl, refl)
  same_price l (e ∷ es) = by_port (to e) (λ m. same_price m es)
    where
      by_port : (o : Option ℕ) → ((m : LeastTurns) → ((fold last_more m es).per_turn ≡ m.per_turn) × ((fold last_more m es).free_turns ≡ m.free_turns))
          → ((fold last_more (with_last_by l first here e o) es).per_turn ≡ l.per_turn) × ((fold last_more (with_last_by l first here e o) es).free_turns ≡ l.free_turns)
      by_port None rest = rest l
      by_port (Some there) rest = rest (with_walk_by l first (reverse_of e) (here + there))

  last_values : (l : LeastTurns) (way : ℕ) → way < 9 → (es : List Dir) → slice_index (fold last_more l es).by way ≡ fold min (slice_index l.by way) (flat_map (λ e. value_if first here l.per_turn way e (to e)) es)
  last_values l way few [] = refl
  last_values l way few (e ∷ es) = by_port (to e) (λ m. last_values m way few es)
    where
      by_port : (o : Option ℕ) → ((m : LeastTurns) → slice_index (fold last_more m es).by way ≡ fold min (slice_index m.by way) (flat_map (λ f. value_if first here m.per_turn way f (to f)) es))
          → slice_index (fold last_more (with_last_by l first here e o) es).by way ≡ fold min (slice_index l.by way) (value_if first here l.per_turn way e o ++ flat_map (λ f. value_if first here l.per_turn way f (to f)) es)
      by_port None rest = rest l
      by_port (Some there) rest =
          rest (with_walk_by l first (reverse_of e) (here + there))
          ∙ ap (λ n. fold min n (flat_map (λ f. value_if first here l.per_turn way f (to f)) es)) (by_walk l first (reverse_of e) (here + there) way few)

-- ports are allowed or not
module _ (scale : Scale) (graph : GraphParts) (k : Sketch) (c : Chain) where
  abbrev from_over : Dir → Option ℕ
  from_over d = overs_by scale graph k c.from.0 (first_seg_of c.steps) d

  abbrev to_over : Dir → Option ℕ
  to_over e = overs_by scale graph k (end_of c).0 (last_seg_of c) e

  abbrev price : ℕ
  price = turn_price scale graph c.steps

  -- the values of all ports by which a walk may come
  allowed_last : (d : Dir) (way : ℕ) (es : List Dir)
      → flat_map (λ e. value_if d (scale.overs * turns_by graph k c.from.0 (first_seg_of c.steps) d) price way e (to_over e)) es
      ≡ map (least_by scale graph k c way d) (filter (λ e. eqb (bit_at (ports_for graph k (end_of c).0 (last_seg_of c)) (number_of e)) 1) es)
  allowed_last d way [] = refl
  allowed_last d way (e ∷ es) = by_test (eqb (bit_at (ports_for graph k (end_of c).0 (last_seg_of c)) (number_of e)) 1) (allowed_last d way es)
    where
      kept : List Dir
      kept = filter (λ f. eqb (bit_at (ports_for graph k (end_of c).0 (last_seg_of c)) (number_of f)) 1) es

      by_test : (b : Bool) → flat_map (λ f. value_if d (scale.overs * turns_by graph k c.from.0 (first_seg_of c.steps) d) price way f (to_over f)) es ≡ map (least_by scale graph k c way d) kept
          → value_if d (scale.overs * turns_by graph k c.from.0 (first_seg_of c.steps) d) price way e (cond b (Some (scale.overs * turns_by graph k (end_of c).0 (last_seg_of c) e)) None)
          ++ flat_map (λ f. value_if d (scale.overs * turns_by graph k c.from.0 (first_seg_of c.steps) d) price way f (to_over f)) es
          ≡ map (least_by scale graph k c way d) (cond b (e ∷ kept) kept)
      by_test true rest = ap (λ (ns : List ℕ). least_by scale graph k c way d e ∷ ns) rest
      by_test false rest = rest

  abbrev all_last : ℕ → Dir → List ℕ
  all_last way d = map (least_by scale graph k c way d) (allowed_dirs graph k (end_of c).0 (last_seg_of c))

  first_values : (l : LeastTurns) (way : ℕ) (ds : List Dir) → way < 9 → l.per_turn ≡ price
      → (slice_index (fold (λ (m : LeastTurns) (d : Dir). with_first_by m d (from_over d) (map to_over directions)) l ds).by way
      ≡ fold min (slice_index l.by way) (flat_map (all_last way) (filter (λ d. eqb (bit_at (ports_for graph k c.from.0 (first_seg_of c.steps)) (number_of d)) 1) ds)))
      × ((fold (λ (m : LeastTurns) (d : Dir). with_first_by m d (from_over d) (map to_over directions)) l ds).per_turn ≡ l.per_turn)
      × ((fold (λ (m : LeastTurns) (d : Dir). with_first_by m d (from_over d) (map to_over directions)) l ds).free_turns ≡ l.free_turns)
  first_values l way [] few same = (refl, refl, refl)
  first_values l way (d ∷ ds) few same = by_test (λ m price_is. first_values m way ds few price_is) (eqb (bit_at (ports_for graph k c.from.0 (first_seg_of c.steps)) (number_of d)) 1)
    where
      all : LeastTurns → LeastTurns
      all m = fold (λ (x : LeastTurns) (e : Dir). with_first_by x e (from_over e) (map to_over directions)) m ds

      kept : List Dir
      kept = filter (λ e. eqb (bit_at (ports_for graph k c.from.0 (first_seg_of c.steps)) (number_of e)) 1) ds

      here : ℕ
      here = scale.overs * turns_by graph k c.from.0 (first_seg_of c.steps) d

      next : LeastTurns
      next = with_first_by l d (Some here) (map to_over directions)

      next_price : (next.per_turn ≡ l.per_turn) × (next.free_turns ≡ l.free_turns)
      next_price = same_price d here to_over l directions

      next_value : slice_index next.by way ≡ fold min (slice_index l.by way) (all_last way d)
      next_value =
          last_values d here to_over l way few directions
          ∙ ap (λ p. fold min (slice_index l.by way) (flat_map (λ e. value_if d here p way e (to_over e)) directions)) same
          ∙ ap (fold min (slice_index l.by way)) (allowed_last d way directions)

      Rest : Type 0
      Rest = (m : LeastTurns) → m.per_turn ≡ price
          → (slice_index (all m).by way ≡ fold min (slice_index m.by way) (flat_map (all_last way) kept)) × ((all m).per_turn ≡ m.per_turn) × ((all m).free_turns ≡ m.free_turns)

      by_test : Rest → (b : Bool)
          → (slice_index (all (with_first_by l d (cond b (Some here) None) (map to_over directions))).by way ≡ fold min (slice_index l.by way) (flat_map (all_last way) (cond b (d ∷ kept) kept)))
          × ((all (with_first_by l d (cond b (Some here) None) (map to_over directions))).per_turn ≡ l.per_turn)
          × ((all (with_first_by l d (cond b (Some here) None) (map to_over directions))).free_turns ≡ l.free_turns)
      by_test next_values false = next_values l same
      by_test next_values true =
          let rest = next_values next (next_price.0 ∙ same) in (
            rest.0
                ∙ ap (λ n. fold min n (flat_map (all_last way) kept)) next_value
                ∙ sym (fold-append min (slice_index l.by way) (all_last way d) (flat_map (all_last way) kept)),
            rest.1 ∙ next_price.0,
            rest.2 ∙ next_price.1,
          )

  -- so all bounds are those of the run
  pub least_of_all : (l new : LeastTurns) (from to : List (Option ℕ)) → AreOvers scale graph k c.from.0 (first_seg_of c.steps) from → AreOvers scale graph k (end_of c).0 (last_seg_of c) to
      → ((way : ℕ) → way < 9 → slice_index l.by way ≡ never) → l.per_turn ≡ turn_price scale graph c.steps → l.free_turns ≡ 4 * free_nodes scale graph c.steps
      → new ≡ fold (λ (m : LeastTurns) (d : Dir). with_first_by m d (get_or from (number_of d) None) to) l directions → length new.by ≡ 9
      → IsLeastOf scale graph k c new
  least_of_all l new from to are_from are_to all_never price_is free_is is each = record {
    by = same_list 0 new.by (map (least_beside scale graph k c) (range_with_len 0 9)) (each ∙ sym (length-map-range_with_len (least_beside scale graph k c) 0 9)) (λ way below. value way (omega (arith, below, length-map-range_with_len (least_beside scale graph k c) 0 9)));
    price = ap (λ (m : LeastTurns). m.per_turn) there ∙ (first_values l 0 directions (omega arith) price_is).1 ∙ price_is;
    free = ap (λ (m : LeastTurns). m.free_turns) there ∙ (first_values l 0 directions (omega arith) price_is).2 ∙ free_is;
  }
    where
      there : new ≡ fold (λ (m : LeastTurns) (d : Dir). with_first_by m d (from_over d) (map to_over directions)) l directions
      there = is ∙ ap₂ (λ (os ps : List (Option ℕ)). fold (λ (m : LeastTurns) (d : Dir). with_first_by m d (get_or os (number_of d) None) ps) l directions) are_from are_to

      value : (way : ℕ) → way < 9 → get_or new.by way 0 ≡ get_or (map (least_beside scale graph k c) (range_with_len 0 9)) way 0
      value way few =
          ap (λ (m : LeastTurns). slice_index m.by way) there
          ∙ (first_values l way directions few price_is).0
          ∙ ap (λ n. fold min n (flat_map (all_last way) (allowed_dirs graph k c.from.0 (first_seg_of c.steps)))) (all_never way few)
          ∙ sym (get_or-map-range_with_len (least_beside scale graph k c) 0 9 way way 0 few (omega arith))

-- ---- bounds of a run as they are made: one walk more, and one way more in each walk

abbrev pub least_of : List ℕ → ℕ → ℕ → LeastTurns
least_of by price free = record { by = by; per_turn = price; free_turns = free }

-- a walk more was taken into account, way by way
pub walk_made : (l new : LeastTurns) (first last : Dir) (overs : ℕ) → length new.by ≡ 9 → ((k : ℕ) → k < 9 → get_or new.by k 0 ≡ min (get_or l.by k 0) (overs + l.per_turn * turns_at_least first last k)) → new.per_turn ≡ l.per_turn → new.free_turns ≡ l.free_turns
    → new ≡ with_walk_by l first last overs
walk_made l new first last overs each by price free =
    λ i. record { by = fill_by_all (λ k. min (get_or l.by k 0) (overs + l.per_turn * turns_at_least first last k)) new.by 9 0 each by i; per_turn = price i; free_turns = free i }

-- and all stay small
pub walk_small : (l : LeastTurns) (first last : Dir) (overs : ℕ) → IsSmallLeast l → IsSmallLeast (with_walk_by l first last overs)
walk_small l first last overs small = record {
  each = length-map-range_with_len (λ k. min (get_or l.by k 0) (overs + l.per_turn * turns_at_least first last k)) 0 9;
  by = λ k. at k (cases_lt k 9);
  price = small.price;
  free = small.free;
}
  where
    at : (k : ℕ) → (k < 9) ⊎ (9 ≤ k) → get_or (map (λ j. min (get_or l.by j 0) (overs + l.per_turn * turns_at_least first last j)) (range_with_len 0 9)) k 0 ≤ 1125899906842624
    at k (inl few) =
        let is = get_or-map-range_with_len (λ j. min (get_or l.by j 0) (overs + l.per_turn * turns_at_least first last j)) 0 9 k k 0 few (omega arith) in
        omega (arith, is, small.by k)
    at k (inr past) =
        let is = get_or_past (map (λ j. min (get_or l.by j 0) (overs + l.per_turn * turns_at_least first last j)) (range_with_len 0 9)) k 0
        (omega (arith, past, length-map-range_with_len (λ j. min (get_or l.by j 0) (overs + l.per_turn * turns_at_least first last j)) 0 9)) in
        omega (arith, is)

-- bounds before any walk was looked at
pub never_small : (price free : ℕ) → price ≤ 101 → free ≤ 80000 → IsSmallLeast (least_of (replicate 9 1125899906842624) price free)
never_small price free few most = record { each = refl; by = λ k. at k (cases_lt k 9); price = few; free = most }
  where
    at : (k : ℕ) → (k < 9) ⊎ (9 ≤ k) → get_or (replicate 9 1125899906842624) k 0 ≤ 1125899906842624
    at k (inl less) = let is = get_or-replicate {A = ℕ} 9 k 1125899906842624 0 less in omega (arith, is)
    at k (inr past) = let is = get_or_past {X = ℕ} (replicate 9 1125899906842624) k 0 past in omega (arith, is)
