-- Runs that are laid one after another add no less than their bounds say, also those that were made beside fewer walks.
use Rattle.std.proofs.Common.{◌≡◌, refl, sym, ◌∙◌, ap, subst, ℕ, ◌+◌, ◌-◌, ◌/◌, ◌<◌, ◌≤◌, Bool, true, false, cond, eqb, min, List, [], ◌∷◌, length, fold, map, get_or, Option, Some, None, ◌⊎◌, inl, inr, arith, length-set, get_or-set_same, ◌%◌, nat_le}
use Rattle.line_chains.specs.Chains.{ends_of}
use Rattle.walk_search.specs.Reaching.{reach_of}
use Rattle.segment_router.proofs.ClockLemmas.{bit_told}
use Rattle.segment_router.proofs.RouteLemmas.{in_filter, route_parts, IsRoute}
use Rattle.run_laying.proofs.RunFacts.{IsOff}
use Rattle.drawing_search.proofs.Common.{after, allowed_dirs, allows, and_from, and_parts, bit_at, board_of}
use Rattle.drawing_search.proofs.Common.{board_under, cases_eq, cost_of, directions, distance_to, end_after, end_at}
use Rattle.drawing_search.proofs.Common.{end_below, end_of, end_point, eq-eqb, eqb-true, first_leads, first_seg_of}
use Rattle.drawing_search.proofs.Common.{flat_map, from_flat_map, gains_at_least, gaps_of, gaps_to, in_round}
use Rattle.drawing_search.proofs.Common.{inner_nodes, is_allowed, is_standing, laid, last_seg, last_seg_of, le-leb}
use Rattle.drawing_search.proofs.Common.{leads_from, leads_to, least_beside, least_by, leb-true, list_all}
use Rattle.drawing_search.proofs.Common.{mul-le-mul_left, never, nowhere, number_of, number_small, pairs_at}
use Rattle.drawing_search.proofs.Common.{point_of_node, port_at_node, port_by, ports_for, run_gain, same_walk}
use Rattle.drawing_search.proofs.Common.{sketch_weight, slice_index, split_end, stands_below, stops_from, straight_way}
use Rattle.drawing_search.proofs.Common.{sum_by, sum_by-cons, true≢false, turn_by, turn_over, turned_over, turns_by}
use Rattle.drawing_search.proofs.Common.{walk_in, with_piece, with_pieces, with_port, with_stop, AreSteps, Chain}
use Rattle.drawing_search.proofs.Common.{ChainStep, Dir, GraphParts, GridPoint, HaveBounds, In, IsBoundOf, IsClearFor}
use Rattle.drawing_search.proofs.Common.{IsConsistent, IsCut, IsEndOf, IsLaidOn, IsLegalSketch, IsRun, IsSameOrNone}
use Rattle.drawing_search.proofs.Common.{LeastTurns, NodeId, PlainWalk, Scale, SegId, Sketch, Stop}
use Rattle.drawing_search.proofs.Gained.{leads_where, run_gained, same_point}
use Rattle.drawing_search.proofs.RunBounds.{fold_least, least_allowed, run_no_less, run_within}
use Rattle.drawing_search.proofs.Takable.{on_or_off, from_map}

-- there is room in all gaps
abbrev has_room : List (ℕ × ℕ) → Bool
has_room gaps = list_all (λ (g : ℕ × ℕ). nat_le g.1 g.0) gaps

-- from one port over another to a third, not more than once round
over_numbers : (a b c : ℕ) → a < 8 → b < 8 → c < 8 → (b + 7 - a) % 8 + 1 + ((c + 7 - b) % 8 + 1) ≤ 8 → (c + 7 - a) % 8 + 1 ≡ (b + 7 - a) % 8 + 1 + ((c + 7 - b) % 8 + 1)
over_numbers a b c h k l less = omega arith

over : (f g e : Dir) → distance_to f g + distance_to g e ≤ 8 → distance_to f e ≡ distance_to f g + distance_to g e
over f g e less = over_numbers (number_of f) (number_of g) (number_of e) (omega (arith, number_small f)) (omega (arith, number_small g)) (omega (arith, number_small e)) less

-- the first of gaps may be one that is made of two
joined : (g : ℕ × ℕ) (rest : List (ℕ × ℕ)) (a b m n : ℕ) → g.0 ≡ a + b → g.1 ≡ m + n → m ≤ a → has_room ((b, n) ∷ rest) ≡ true → (has_room (g ∷ rest) ≡ true) × (turned_over (g ∷ rest) ≡ a + turned_over ((b, n) ∷ rest))
joined g rest a b m n far wide first room =
    let parts = and_parts (nat_le n b) (has_room rest) room in
    let second : n ≤ b = leb-true n b parts.0 in
    (and_from (nat_le g.1 g.0) (has_room rest) (le-leb g.1 g.0 (omega (arith, far, wide, first, second))) parts.1, omega (arith, far))

-- places of stops lie from one number on, and not past another
abbrev AreFrom : ℕ → ℕ → List Stop → Type 0
AreFrom low high [] = Unit {0}
AreFrom low high (s ∷ ss) = (low ≤ s.0) × (s.0 ≤ high) × AreFrom (s.0 + 1) high ss

-- a stop is left out between two others
left_out : (count : ℕ) (first s t : Stop) (rest : List Stop) → s.0 ≤ t.0 → t.0 ≤ count → AreFrom (t.0 + 1) count rest → nat_le (t.0 - s.0) (distance_to s.1 t.1) ≡ true → distance_to s.1 t.1 + turned_over (gaps_to count first t rest) ≤ 8
    → has_room (gaps_to count first t rest) ≡ true
    → (has_room (gaps_to count first s rest) ≡ true) × (turned_over (gaps_to count first s rest) ≡ distance_to s.1 t.1 + turned_over (gaps_to count first t rest))
left_out count first s t [] order within places near less room =
    joined (distance_to s.1 first.1, first.0 + count - s.0) [] (distance_to s.1 t.1) (distance_to t.1 first.1) (t.0 - s.0) (first.0 + count - t.0) (over s.1 t.1 first.1 (omega (arith, less))) (omega (arith, order, within))
    (leb-true (t.0 - s.0) (distance_to s.1 t.1) near) room
left_out count first s t (u ∷ us) order within places near less room =
    joined (distance_to s.1 u.1, u.0 - s.0) (gaps_to count first u us) (distance_to s.1 t.1) (distance_to t.1 u.1) (t.0 - s.0) (u.0 - t.0) (over s.1 t.1 u.1 (omega (arith, less))) (omega (arith, order, places.0))
    (leb-true (t.0 - s.0) (distance_to s.1 t.1) near) room

-- the first stop is left out
begun_later : (count : ℕ) (first t x : Stop) (rest : List Stop) → first.0 ≤ t.0 → x.0 ≤ count → AreFrom (x.0 + 1) count rest → nat_le (t.0 - first.0) (distance_to first.1 t.1) ≡ true → distance_to first.1 t.1 + turned_over (gaps_to count first x rest) ≤ 8
    → has_room (gaps_to count first x rest) ≡ true
    → (has_room (gaps_to count t x rest) ≡ true) × (turned_over (gaps_to count t x rest) ≡ distance_to first.1 t.1 + turned_over (gaps_to count first x rest))
begun_later count first t x [] order within places near less room =
    let parts = and_parts (nat_le (first.0 + count - x.0) (distance_to x.1 first.1)) true room in
    let enough : first.0 + count - x.0 ≤ distance_to x.1 first.1 = leb-true (first.0 + count - x.0) (distance_to x.1 first.1) parts.0 in
    let other : t.0 - first.0 ≤ distance_to first.1 t.1 = leb-true (t.0 - first.0) (distance_to first.1 t.1) near in
    let far = over x.1 first.1 t.1 (omega (arith, less)) in
    (and_from (nat_le (t.0 + count - x.0) (distance_to x.1 t.1)) true (le-leb (t.0 + count - x.0) (distance_to x.1 t.1) (omega (arith, far, enough, other, order, within))) refl, omega (arith, far))
begun_later count first t x (u ∷ us) order within places near less room =
    let parts = and_parts (nat_le (u.0 - x.0) (distance_to x.1 u.1)) (has_room (gaps_to count first u us)) room in
    let rest = begun_later count first t u us order places.1 places.2 near (omega (arith, less)) parts.1 in
    (and_from (nat_le (u.0 - x.0) (distance_to x.1 u.1)) (has_room (gaps_to count t u us)) parts.0 rest.0, omega (arith, rest.1))

-- ---- fewer ports

stops_places : (f : SegId → Option Dir) (round : List SegId) (i high : ℕ) → i + length round ≤ high → AreFrom i high (stops_from i f round)
stops_places f [] i high h = tt
stops_places f (x ∷ xs) i high h = by_port (stops_places f xs (i + 1) high (omega (arith, h))) (f x)
  where
    lower : (low next high : ℕ) (ss : List Stop) → low ≤ next → AreFrom next high ss → AreFrom low high ss
    lower low next high [] order places = tt
    lower low next high (s ∷ ss) order places = (omega (arith, order, places.0), places.1, places.2)

    by_port : AreFrom (i + 1) high (stops_from (i + 1) f xs) → (o : Option Dir) → AreFrom i high (with_stop i o (stops_from (i + 1) f xs))
    by_port rest None = lower i (i + 1) high (stops_from (i + 1) f xs) (omega arith) rest
    by_port rest (Some d) = (omega arith, omega (arith, h), rest)

module _ (f h : SegId → Option Dir) (same : (s : SegId) → IsSameOrNone (f s) (h s)) (count : ℕ) where
  -- behind a stop that is there
  fewer_behind : (round : List SegId) (i : ℕ) (first s : Stop) → s.0 < i → i + length round ≤ count → turned_over (gaps_to count first s (stops_from i h round)) ≤ 8 → has_room (gaps_to count first s (stops_from i h round)) ≡ true
      → (has_room (gaps_to count first s (stops_from i f round)) ≡ true) × (turned_over (gaps_to count first s (stops_from i f round)) ≡ turned_over (gaps_to count first s (stops_from i h round)))
  fewer_behind [] i first s before within less room = (room, refl)
  fewer_behind (x ∷ xs) i first s before within less room = by_ports (λ t less_t room_t earlier. fewer_behind xs (i + 1) first t earlier (omega (arith, within)) less_t room_t) (f x) (h x) (same x) less room
    where
      behind_f : List Stop
      behind_f = stops_from (i + 1) f xs

      behind_h : List Stop
      behind_h = stops_from (i + 1) h xs

      Rest : Type 0
      Rest = (t : Stop) → turned_over (gaps_to count first t behind_h) ≤ 8 → has_room (gaps_to count first t behind_h) ≡ true → t.0 < i + 1
          → (has_room (gaps_to count first t behind_f) ≡ true) × (turned_over (gaps_to count first t behind_f) ≡ turned_over (gaps_to count first t behind_h))

      by_ports : Rest → (o p : Option Dir) → IsSameOrNone o p → turned_over (gaps_to count first s (with_stop i p behind_h)) ≤ 8 → has_room (gaps_to count first s (with_stop i p behind_h)) ≡ true
          → (has_room (gaps_to count first s (with_stop i o behind_f)) ≡ true) × (turned_over (gaps_to count first s (with_stop i o behind_f)) ≡ turned_over (gaps_to count first s (with_stop i p behind_h)))
      by_ports behind None None e less room = behind s less room (omega (arith, before))
      by_ports behind (Some d) None (inl e) less room = cc
      by_ports behind (Some d) None (inr e) less room = cc
      by_ports behind None (Some g) e less room =
          let parts = and_parts (nat_le (i - s.0) (distance_to s.1 g)) (has_room (gaps_to count first (i, g) behind_h)) room in
          let rest = behind (i, g) (omega (arith, less)) parts.1 (omega arith) in
          let out = left_out count first s (i, g) behind_f (omega (arith, before)) (omega (arith, within)) (stops_places f xs (i + 1) count (omega (arith, within))) parts.0 (omega (arith, less, rest.1)) rest.0 in
          (out.0, omega (arith, out.1, rest.1))
      by_ports behind (Some d) (Some g) (inl e) less room = cc
      by_ports behind (Some d) (Some g) (inr e) less room =
          let one : d ≡ g = cc in
          let parts = and_parts (nat_le (i - s.0) (distance_to s.1 g)) (has_room (gaps_to count first (i, g) behind_h)) room in
          let rest = behind (i, g) (omega (arith, less)) parts.1 (omega arith) in
          subst (λ (a : Dir). (has_room (gaps_to count first s ((i, a) ∷ behind_f)) ≡ true) × (turned_over (gaps_to count first s ((i, a) ∷ behind_f)) ≡ turned_over (gaps_to count first s ((i, g) ∷ behind_h)))) (sym one)
          (and_from (nat_le (i - s.0) (distance_to s.1 g)) (has_room (gaps_to count first (i, g) behind_f)) parts.0 rest.0, omega (arith, rest.1))

  -- there is a stop where there is one of fewer
  no_fewer : (round : List SegId) (i : ℕ) → 0 < length (stops_from i f round) → 0 < length (stops_from i h round)
  no_fewer [] i some = some
  no_fewer (x ∷ xs) i some = by_ports (λ more. no_fewer xs (i + 1) more) (f x) (h x) (same x) some
    where
      by_ports : (0 < length (stops_from (i + 1) f xs) → 0 < length (stops_from (i + 1) h xs)) → (o p : Option Dir) → IsSameOrNone o p → 0 < length (with_stop i o (stops_from (i + 1) f xs)) → 0 < length (with_stop i p (stops_from (i + 1) h xs))
      by_ports rest None None e some = rest some
      by_ports rest None (Some g) e some = omega arith
      by_ports rest (Some d) None (inl e) some = cc
      by_ports rest (Some d) None (inr e) some = cc
      by_ports rest (Some d) (Some g) e some = omega arith

  -- all round
  fewer : (round : List SegId) (i : ℕ) → i + length round ≤ count → 0 < length (stops_from i f round) → turned_over (gaps_of count (stops_from i h round)) ≡ 8 → has_room (gaps_of count (stops_from i h round)) ≡ true
      → (has_room (gaps_of count (stops_from i f round)) ≡ true) × (turned_over (gaps_of count (stops_from i f round)) ≡ 8)
  fewer [] i within some round_is room = absurd (omega (arith, some))
  fewer (x ∷ xs) i within some round_is room = by_ports (λ more is_round has. fewer xs (i + 1) (omega (arith, within)) more is_round has) (f x) (h x) (same x) some round_is room
    where
      -- the first one is left out
      without_first : (g : Dir) (ss : List Stop) → AreFrom (i + 1) count ss → turned_over (gaps_of count ((i, g) ∷ ss)) ≡ 8 → has_room (gaps_of count ((i, g) ∷ ss)) ≡ true → 0 < length ss → (has_room (gaps_of count ss) ≡ true) × (turned_over (gaps_of count ss) ≡ 8)
      without_first g [] places is room some = absurd (omega (arith, some))
      without_first g (t ∷ ts) places is room some =
          let parts = and_parts (nat_le (t.0 - i) (distance_to g t.1)) (has_room (gaps_to count (i, g) t ts)) room in
          let later = begun_later count (i, g) t t ts (omega (arith, places.0)) places.1 places.2 parts.0 (omega (arith, is)) parts.1 in
          (later.0, omega (arith, later.1, is))

      Rest : Type 0
      Rest = 0 < length (stops_from (i + 1) f xs) → turned_over (gaps_of count (stops_from (i + 1) h xs)) ≡ 8 → has_room (gaps_of count (stops_from (i + 1) h xs)) ≡ true
          → (has_room (gaps_of count (stops_from (i + 1) f xs)) ≡ true) × (turned_over (gaps_of count (stops_from (i + 1) f xs)) ≡ 8)

      by_ports : Rest → (o p : Option Dir) → IsSameOrNone o p → 0 < length (with_stop i o (stops_from (i + 1) f xs)) → turned_over (gaps_of count (with_stop i p (stops_from (i + 1) h xs))) ≡ 8 → has_room (gaps_of count (with_stop i p (stops_from (i + 1) h xs))) ≡ true
          → (has_room (gaps_of count (with_stop i o (stops_from (i + 1) f xs))) ≡ true) × (turned_over (gaps_of count (with_stop i o (stops_from (i + 1) f xs))) ≡ 8)
      by_ports rest None None e some is room = rest some is room
      by_ports rest (Some d) None (inl e) some is room = cc
      by_ports rest (Some d) None (inr e) some is room = cc
      by_ports rest None (Some g) e some is room =
          let later = without_first g (stops_from (i + 1) h xs) (stops_places h xs (i + 1) count (omega (arith, within))) is room (no_fewer xs (i + 1) some) in
          rest some later.1 later.0
      by_ports rest (Some d) (Some g) (inl e) some is room = cc
      by_ports rest (Some d) (Some g) (inr e) some is room =
          let one : d ≡ g = cc in
          let behind = fewer_behind xs (i + 1) (i, g) (i, g) (omega arith) (omega (arith, within)) (omega (arith, is)) room in
          subst (λ (a : Dir). (has_room (gaps_of count ((i, a) ∷ stops_from (i + 1) f xs)) ≡ true) × (turned_over (gaps_of count ((i, a) ∷ stops_from (i + 1) f xs)) ≡ 8)) (sym one) (behind.0, behind.1 ∙ is)

-- a port that is allowed beside some others is so beside fewer of them
pub allowed_fewer : (f h : SegId → Option Dir) (round : List SegId) (s : SegId) (d : Dir) → ((t : SegId) → IsSameOrNone (f t) (h t)) → 0 < length (stops_from 0 (with_port s d f) round) → is_allowed round h s d ≡ true → is_allowed round f s d ≡ true
allowed_fewer f h round s d same some e =
    let parts = and_parts (eqb (turned_over (gaps_of (length round) (stops_from 0 (with_port s d h) round))) 8) (has_room (gaps_of (length round) (stops_from 0 (with_port s d h) round))) e in
    let less = fewer (with_port s d f) (with_port s d h) ports (length round) round 0 (omega arith) some (eqb-true (turned_over (gaps_of (length round) (stops_from 0 (with_port s d h) round))) 8 parts.0) parts.1 in
    and_from (eqb (turned_over (gaps_of (length round) (stops_from 0 (with_port s d f) round))) 8) (has_room (gaps_of (length round) (stops_from 0 (with_port s d f) round))) (eq-eqb (turned_over (gaps_of (length round) (stops_from 0 (with_port s d f) round))) 8 less.1) less.0
  where
    ports : (t : SegId) → IsSameOrNone (with_port s d f t) (with_port s d h t)
    ports t = by_test (eqb s.0 t.0)
      where
        by_test : (b : Bool) → IsSameOrNone (cond b (Some d) (f t)) (cond b (Some d) (h t))
        by_test true = inr refl
        by_test false = same t

-- ---- runs that are laid one after another add no less than their bounds say, also those that were made beside
-- fewer walks

-- a drawing has the walks of another, and more of them
abbrev pub HasMore : Sketch → Sketch → Type 0
HasMore k j = (t : SegId) → (walk_in k t ≡ None) ⊎ (walk_in k t ≡ walk_in j t)

module _ (graph : GraphParts) (k j : Sketch) (more : HasMore k j) where
  more_ports : (n : ℕ) (t : SegId) → IsSameOrNone (port_at_node graph (board_under k) n t) (port_at_node graph (board_under j) n t)
  more_ports n t = by_walk (more t)
    where
      by_walk : (walk_in k t ≡ None) ⊎ (walk_in k t ≡ walk_in j t) → IsSameOrNone (port_by (ends_of graph t) n (walk_in k t)) (port_by (ends_of graph t) n (walk_in j t))
      by_walk (inl e) = inl (ap (port_by (ends_of graph t) n) e)
      by_walk (inr e) = inr (ap (port_by (ends_of graph t) n) e)

  more_over : (d : Dir) (o p : Option Dir) → IsSameOrNone o p → turn_over (Some d) o ≤ turn_over (Some d) p
  more_over d o p (inl e) = subst (λ (q : Option Dir). turn_over (Some d) q ≤ turn_over (Some d) p) (sym e) (omega arith)
  more_over d o p (inr e) = subst (λ (q : Option Dir). turn_over (Some d) q ≤ turn_over (Some d) p) (sym e) (omega arith)

  more_turn : (n : ℕ) (s : SegId) (d : Dir) (pair : SegId × SegId) → turn_by graph k n s d pair ≤ turn_by graph j n s d pair
  more_turn n s d pair = by_tests (eqb pair.0.0 s.0) (eqb pair.1.0 s.0)
    where
      by_tests : (a b : Bool) → cond a (turn_over (Some d) (port_at_node graph (board_under k) n pair.1)) (cond b (turn_over (Some d) (port_at_node graph (board_under k) n pair.0)) 0)
          ≤ cond a (turn_over (Some d) (port_at_node graph (board_under j) n pair.1)) (cond b (turn_over (Some d) (port_at_node graph (board_under j) n pair.0)) 0)
      by_tests true b = more_over d (port_at_node graph (board_under k) n pair.1) (port_at_node graph (board_under j) n pair.1) (more_ports n pair.1)
      by_tests false true = more_over d (port_at_node graph (board_under k) n pair.0) (port_at_node graph (board_under j) n pair.0) (more_ports n pair.0)
      by_tests false false = omega arith

  more_turns : (n : ℕ) (s : SegId) (d : Dir) → turns_by graph k n s d ≤ turns_by graph j n s d
  more_turns n s d = summed (pairs_at graph n)
    where
      summed : (ps : List (SegId × SegId)) → sum_by (turn_by graph k n s d) ps ≤ sum_by (turn_by graph j n s d) ps
      summed [] = omega arith
      summed (p ∷ ps) = omega (arith, summed ps, more_turn n s d p, sum_by-cons (turn_by graph k n s d) p ps, sum_by-cons (turn_by graph j n s d) p ps)

  some_stop : (round : List SegId) (s : SegId) (d : Dir) (f : SegId → Option Dir) (i : ℕ) → In s round → 0 < length (stops_from i (with_port s d f) round)
  some_stop [] s d f i m = absurd m
  some_stop (x ∷ xs) s d f i (inl e) =
      subst (λ (o : Option Dir). 0 < length (with_stop i o (stops_from (i + 1) (with_port s d f) xs))) (sym (ap (λ b. cond b (Some d) (f x)) (eq-eqb s.0 x.0 (ap (λ (t : SegId). t.0) e)))) (omega arith)
  some_stop (x ∷ xs) s d f i (inr m) = by_port (some_stop xs s d f (i + 1) m) (with_port s d f x)
    where
      by_port : 0 < length (stops_from (i + 1) (with_port s d f) xs) → (o : Option Dir) → 0 < length (with_stop i o (stops_from (i + 1) (with_port s d f) xs))
      by_port rest None = rest
      by_port rest (Some e) = omega arith

  -- a port that is allowed beside more walks is so beside fewer
  pub allowed_still : (n : ℕ) (s : SegId) (d : Dir) → In s (get_or graph.rounds n []) → allows (ports_for graph j n s) (Some d) ≡ true → allows (ports_for graph k n s) (Some d) ≡ true
  allowed_still n s d on e =
      let round = get_or graph.rounds n [] in
      let f = port_at_node graph (board_under k) n in
      let g = port_at_node graph (board_under j) n in
      bit_told (is_allowed round f s) d ∙ allowed_fewer f g round s d (more_ports n) (some_stop round s d f 0 on) (sym (bit_told (is_allowed round g s) d) ∙ e)

  least_more : (low : ℕ) (xs : List ℕ) (a : ℕ) → a ≤ low → ((x : ℕ) → In x xs → a ≤ x) → a ≤ fold min low xs
  least_more low [] a h each = h
  least_more low (x ∷ xs) a h each = least_more (min low x) xs a (omega (arith, h, each x (inl refl))) (λ y i. each y (inr i))

  pub bound_still : IsConsistent graph → (scale : Scale) (c : Chain) (way : ℕ) → In (first_seg_of c.steps) (get_or graph.rounds c.from.0 []) → In (last_seg_of c) (get_or graph.rounds (end_of c).0 []) → least_beside scale graph k c way ≤ least_beside scale graph j c way
  bound_still fit scale c way from_on to_on =
      least_more never (flat_map (λ d. map (least_by scale graph j c way d) (allowed_dirs graph j (end_of c).0 (last_seg_of c))) (allowed_dirs graph j c.from.0 (first_seg_of c.steps))) (least_beside scale graph k c way)
      (fold_least never (flat_map (λ d. map (least_by scale graph k c way d) (allowed_dirs graph k (end_of c).0 (last_seg_of c))) (allowed_dirs graph k c.from.0 (first_seg_of c.steps)))) each
    where
      of_ports : (d e : Dir) → allows (ports_for graph j c.from.0 (first_seg_of c.steps)) (Some d) ≡ true → allows (ports_for graph j (end_of c).0 (last_seg_of c)) (Some e) ≡ true → least_beside scale graph k c way ≤ least_by scale graph j c way d e
      of_ports d e leaves arrives =
          omega (arith, least_allowed scale graph k c way d e (allowed_still c.from.0 (first_seg_of c.steps) d from_on leaves) (allowed_still (end_of c).0 (last_seg_of c) e to_on arrives), mul-le-mul_left scale.overs (more_turns c.from.0 (first_seg_of c.steps) d), mul-le-mul_left scale.overs (more_turns (end_of c).0 (last_seg_of c) e))

      each : (x : ℕ) → In x (flat_map (λ d. map (least_by scale graph j c way d) (allowed_dirs graph j (end_of c).0 (last_seg_of c))) (allowed_dirs graph j c.from.0 (first_seg_of c.steps))) → least_beside scale graph k c way ≤ x
      each x i =
          let found = from_flat_map (λ d. map (least_by scale graph j c way d) (allowed_dirs graph j (end_of c).0 (last_seg_of c))) (allowed_dirs graph j c.from.0 (first_seg_of c.steps)) x i in
          let other = from_map (least_by scale graph j c way found.0) (allowed_dirs graph j (end_of c).0 (last_seg_of c)) x found.2 in
          let leaves = in_filter (λ d. eqb (bit_at (ports_for graph j c.from.0 (first_seg_of c.steps)) (number_of d)) 1) directions found.0 found.1 in
          let arrives = in_filter (λ d. eqb (bit_at (ports_for graph j (end_of c).0 (last_seg_of c)) (number_of d)) 1) directions other.0 other.1 in
          subst (λ n. least_beside scale graph k c way ≤ n) (sym other.2) (of_ports found.0 other.0 leaves.0 arrives.0)

-- the end of a run stays where it was
end_there : (graph : GraphParts) (n : NodeId) (ts : List ChainStep) (vs : List PlainWalk) (k : Sketch) (w : PlainWalk) → length vs ≡ length ts → IsCut w vs → (end_after n ts).0 < length k.points → point_of_node (with_pieces graph n ts vs k) (end_after n ts).0 ≡ end_point w
end_there graph n [] [] k w each cut below = absurd cut
end_there graph n [] (v ∷ vs) k w each cut below = absurd (omega (arith, each))
end_there graph n (t ∷ ts) [] k w each cut below = absurd cut
end_there graph n (t ∷ []) (v ∷ x ∷ xs) k w each cut below = absurd (omega (arith, each))
end_there graph n (t ∷ u ∷ us) (v ∷ []) k w each cut below = absurd (omega (arith, each))
end_there graph n (t ∷ []) (v ∷ []) k w each cut below = get_or-set_same k.points t.to.0 (end_point v) nowhere below ∙ ap end_point cut.0
end_there graph n (t ∷ u ∷ us) (v ∷ x ∷ xs) k w each cut below =
    end_there graph t.to (u ∷ us) (x ∷ xs) (with_piece graph n t v k) cut.0 (omega (arith, each)) cut.2 (omega (arith, below, length-set k.points t.to.0 (end_point v))) ∙ sym (split_end w v cut.0 cut.1)

-- the first and the last segment of a run end where it does
pub first_end : (graph : GraphParts) (n : NodeId) (ts : List ChainStep) → AreSteps graph n ts → 0 < length ts → ((first_seg_of ts).0 < length graph.ends) × IsEndOf graph (first_seg_of ts) n.0
first_end graph n [] steps some = absurd (omega (arith, some))
first_end graph n (t ∷ ts) steps some = let on = first_leads graph n t ts steps in (on.0, leads_from graph n t on.1)

pub last_end : (graph : GraphParts) (s : SegId) (n : NodeId) (ts : List ChainStep) → AreSteps graph n ts → 0 < length ts → ((last_seg s ts).0 < length graph.ends) × IsEndOf graph (last_seg s ts) (end_after n ts).0
last_end graph s n [] steps some = absurd (omega (arith, some))
last_end graph s n (t ∷ []) steps some = (steps.0, leads_to graph n t steps.1)
last_end graph s n (t ∷ u ∷ us) steps some = last_end graph t.seg t.to (u ∷ us) steps.3 (omega arith)

same_ends : (graph : GraphParts) (c : Chain) (k : Sketch) (pieces : List PlainWalk) → IsClearFor k c → point_of_node (with_pieces graph c.from c.steps pieces k) (end_of c).0 ≡ point_of_node k (end_of c).0 → (m : ℕ) → is_standing k m ≡ true
    → point_of_node (with_pieces graph c.from c.steps pieces k) m ≡ point_of_node k m
same_ends graph c k pieces clear there m stands = by_end (cases_eq m (end_of c).0)
  where
    by_end : (m ≡ (end_of c).0) ⊎ (m ≡ (end_of c).0 → ⊥) → point_of_node (with_pieces graph c.from c.steps pieces k) m ≡ point_of_node k m
    by_end (inl e) = ap (point_of_node (with_pieces graph c.from c.steps pieces k)) e ∙ there ∙ ap (point_of_node k) (sym e)
    by_end (inr other) = same_point graph c.from c.steps pieces k m off
      where
        off : (q : ChainStep) → In q c.steps → q.to.0 ≡ m → ⊥
        off q i e = by_place (leads_where c.from c.steps q i)
          where
            by_place : (q.to.0 ≡ (end_of c).0) ⊎ ((p : NodeId) × In p (inner_nodes c.steps) × (p.0 ≡ q.to.0)) → ⊥
            by_place (inl a) = other (sym e ∙ a)
            by_place (inr (p, j, f)) = true≢false (sym stands ∙ ap (is_standing k) (sym e ∙ sym f) ∙ clear.inner p j)

-- so a node that stood stays where it was
pub same_standing_points : (graph : GraphParts) (c : Chain) (k mid : Sketch) → IsLegalSketch graph k → IsClearFor k c → (on : IsLaidOn graph c k mid) → (m : ℕ) → is_standing k m ≡ true
    → point_of_node (with_pieces graph c.from c.steps on.pieces k) m ≡ point_of_node k m
same_standing_points graph c k mid h clear on m stands =
    same_ends graph c k on.pieces clear (end_there graph c.from c.steps on.pieces k on.walk on.each on.cut (omega (arith, stands_below graph k h (end_of c).0 clear.end, h.points_each)) ∙ on.free.end) m stands

module _ (graph : GraphParts) (fit : IsConsistent graph) (scale : Scale) (first : List GridPoint) where
  -- what a run that was laid adds
  pub record IsGained (c : Chain) (k new : Sketch) (l : LeastTurns) (walk : PlainWalk) : Type 0 where
    pub weight : sketch_weight scale graph first new ≡ sketch_weight scale graph first k + run_gain scale graph first new c
    pub no_less : reach_of (point_of_node k c.from.0) (point_of_node k (end_of c).0) + slice_index l.by (straight_way (point_of_node k c.from.0) (point_of_node k (end_of c).0)) ≤ run_gain scale graph first new c
    pub within : (may : ℕ) → run_gain scale graph first new c ≤ may
        → cost_of walk
        ≤ cond (eqb l.per_turn 0) (may - slice_index l.by (straight_way (point_of_node k c.from.0) (point_of_node k (end_of c).0)) + l.free_turns)
        (may - slice_index l.by (straight_way (point_of_node k c.from.0) (point_of_node k (end_of c).0)) + slice_index l.by (straight_way (point_of_node k c.from.0) (point_of_node k (end_of c).0)) / l.per_turn)

  pub gained : (c : Chain) (k new : Sketch) (l : LeastTurns) → IsLegalSketch graph k → IsRun graph c → IsClearFor k c → IsBoundOf scale graph k c l → (on : IsLaidOn graph c k new) → IsGained c k new l on.walk
  gained c k new l h run clear bound on =
      subst (λ (j : Sketch). IsGained c k j l on.walk) on.is
      (record {
        weight = run_gained graph fit k h c run clear on.pieces on.each there scale first;
        no_less = run_no_less graph fit k h c run clear on.pieces on.each there scale first on.walk on.cut some on.free.start on.free.end r.leaves r.arrives l bound;
        within = run_within graph fit k h c run clear on.pieces on.each there scale first on.walk on.cut some on.free.start on.free.end r.leaves r.arrives l bound;
      })
    where
      r : IsRoute (board_of k) (end_at graph (board_under k) (first_seg_of c.steps) c.from.0) (end_at graph (board_under k) (last_seg_of c) (end_of c).0) on.walk
      r = route_parts (board_of k) (end_at graph (board_under k) (first_seg_of c.steps) c.from.0) (end_at graph (board_under k) (last_seg_of c) (end_of c).0) on.walk on.route

      there : point_of_node (with_pieces graph c.from c.steps on.pieces k) (end_of c).0 ≡ point_of_node k (end_of c).0
      there = end_there graph c.from c.steps on.pieces k on.walk on.each on.cut (omega (arith, stands_below graph k h (end_of c).0 clear.end, h.points_each)) ∙ on.free.end

      some : 0 < length on.walk.steps
      some = steps_some on.walk (λ e. run.apart (h.own c.from.0 (end_of c).0 clear.from clear.end (sym on.free.start ∙ e ∙ on.free.end)))
        where
          steps_some : (w : PlainWalk) → (w.start ≡ end_point w → ⊥) → 0 < length w.steps
          steps_some w f = by_steps w.steps refl
            where
              by_steps : (ds : List Dir) → w.steps ≡ ds → 0 < length w.steps
              by_steps [] e = absurd (f (sym (ap (after w.start) e)))
              by_steps (d ∷ ds) e = omega (arith, ap length e)

  -- ---- runs one after another

  pub bounds_still : (k j : Sketch) → HasMore k j → (cs : List Chain) (ls : List LeastTurns) → ((c : Chain) → In c cs → IsRun graph c) → HaveBounds scale graph k cs ls → HaveBounds scale graph j cs ls
  bounds_still k j more [] ls runs have = tt
  bounds_still k j more (c ∷ cs) [] runs have = have
  bounds_still k j more (c ∷ cs) (l ∷ ls) runs have = (
    record {
      by = λ way few. omega (arith, have.0.by way few, bound_still graph k j more fit scale c way (in_first_round run) (in_last_round run));
      price = have.0.price;
      free = have.0.free;
    },
    bounds_still k j more cs ls (λ d i. runs d (inr i)) have.1,
  )
    where
      run : IsRun graph c
      run = runs c (inl refl)

      in_first_round : IsRun graph c → In (first_seg_of c.steps) (get_or graph.rounds c.from.0 [])
      in_first_round r = let at = first_end graph c.from c.steps r.steps r.some in in_round graph fit (first_seg_of c.steps) c.from.0 at.0 (end_below graph fit (first_seg_of c.steps) c.from.0 at.0 at.1) at.1

      in_last_round : IsRun graph c → In (last_seg_of c) (get_or graph.rounds (end_of c).0 [])
      in_last_round r = let at = last_end graph (first_seg_of c.steps) c.from c.steps r.steps r.some in in_round graph fit (last_seg_of c) (end_of c).0 at.0 (end_below graph fit (last_seg_of c) (end_of c).0 at.0 at.1) at.1

  has_more : (n : NodeId) (ts : List ChainStep) (vs : List PlainWalk) (k : Sketch) → ((q : ChainStep) → In q ts → walk_in k q.seg ≡ None) → HasMore k (with_pieces graph n ts vs k)
  has_more n ts vs k none t = by_run (on_or_off ts t)
    where
      by_run : ((q : ChainStep) × In q ts × (q.seg.0 ≡ t.0)) ⊎ IsOff ts t → (walk_in k t ≡ None) ⊎ (walk_in k t ≡ walk_in (with_pieces graph n ts vs k) t)
      by_run (inl (q, i, e)) = inl (ap (λ m. get_or k.walks m None) (sym e) ∙ none q i)
      by_run (inr off) = inr (sym (same_walk graph n ts vs k t off))

  pub same_gains : (f g : NodeId → GridPoint) (cs : List Chain) (ls : List LeastTurns) → ((c : Chain) → In c cs → (f c.from ≡ g c.from) × (f (end_of c) ≡ g (end_of c))) → gains_at_least f cs ls ≡ gains_at_least g cs ls
  same_gains f g [] ls same = refl
  same_gains f g (c ∷ cs) [] same = refl
  same_gains f g (c ∷ cs) (l ∷ ls) same =
      let here = same c (inl refl) in
      λ i. reach_of (here.0 i) (here.1 i) + slice_index l.by (straight_way (here.0 i) (here.1 i)) + same_gains f g cs ls (λ d j. same d (inr j)) i

  -- what one run leaves for the others
  pub more_walks : (c : Chain) (k mid : Sketch) → IsClearFor k c → IsLaidOn graph c k mid → HasMore k mid
  more_walks c k mid clear on = subst (HasMore k) on.is (has_more c.from c.steps on.pieces k clear.walks)

  pub gains_stay : (c : Chain) (k mid : Sketch) → IsLegalSketch graph k → IsClearFor k c → IsLaidOn graph c k mid → (cs : List Chain) (ls : List LeastTurns) → ((d : Chain) → In d cs → IsClearFor k d)
      → gains_at_least (λ (n : NodeId). point_of_node mid n.0) cs ls ≡ gains_at_least (λ (n : NodeId). point_of_node k n.0) cs ls
  gains_stay c k mid h clear on cs ls others =
      same_gains (λ (n : NodeId). point_of_node mid n.0) (λ (n : NodeId). point_of_node k n.0) cs ls
      (λ d i. (ap (λ (j : Sketch). point_of_node j d.from.0) (sym on.is) ∙ same_ends graph c k on.pieces clear there d.from.0 (others d i).from, ap (λ (j : Sketch). point_of_node j (end_of d).0) (sym on.is) ∙ same_ends graph c k on.pieces clear there (end_of d).0 (others d i).end))
    where
      there : point_of_node (with_pieces graph c.from c.steps on.pieces k) (end_of c).0 ≡ point_of_node k (end_of c).0
      there = end_there graph c.from c.steps on.pieces k on.walk on.each on.cut (omega (arith, stands_below graph k h (end_of c).0 clear.end, h.points_each)) ∙ on.free.end
