-- The bound of a complete prefix is what it costs.
use Rattle.std.proofs.Common.{◌≡◌, ℕ, zero, suc, ◌<◌, ◌==◌, ◌||◌, ◌&&◌, not, Bool, true, false, cond, List, [], ◌∷◌, ◌++◌, length, refl, sym, ◌∙◌, ap, arith, inl, inr, eq-eqb, Some, None}
use Rattle.std.specs.List.{All, Contains, filter, sum_by}
use Rattle.std.proofs.lemmas.Bool.{ltb-false}
use Rattle.std.proofs.lemmas.List.Sums.{sum_by-cons}
use Rattle.map_base.specs.declared.ids.SegId.{SegId}
use Rattle.map_base.specs.declared.ids.LineId.{LineId}
use Rattle.graph_core.specs.Consistent.{AreRising}
use Rattle.order_model.specs.declared.term.Term.{Term}
use Rattle.order_model.specs.declared.term.Term.TheVariants.{Side, Link, Apart}
use Rattle.order_model.specs.Problems.{lines_on, IsTerm}
use Rattle.order_model.specs.Costs.{are_neighbours, same_answer, term_cost, cost_of}
use Rattle.order_model.specs.PartTerms.{is_in, is_of, part_terms, plain_terms}
use Rattle.order_model.specs.Places.{has_line}
use Rattle.order_model.specs.Prefixes.{is_placed}
use Rattle.order_model.specs.Looks.{is_decided, neighbours_on}
use Rattle.order_model.specs.Parts.{IsRisingPart}
use Rattle.order_model.proofs.Lines.{both_true, has_permutation}
use Rattle.order_model.proofs.PrefixLemmas.{few_apart}
use Rattle.order_bound.specs.Decided.{apart_cost, decided_cost, decided_sum}
use Rattle.order_bound.specs.declared.pairs.Pair.{Pair}
use Rattle.order_bound.specs.declared.pairs.OpenLink.{OpenLink}
use Rattle.order_bound.specs.Pairs.{pair_of, is_pair, pairs_of, is_open_on, open_segments, open_link, open_links, kept, kept_links}
use Rattle.order_bound.specs.Bounds.{pair_bound, bound_of}
use Rattle.order_bound.proofs.Lists.{Among}
use Rattle.order_bound.proofs.Parts.{part_of_problem}
use Rattle.order_bound.proofs.Sound.{all_in}
use Rattle.part_bounds.specs.PartStates.{IsWell}
use Rattle.order_search.specs.Left.{is_open, first_open}
use Rattle.order_search.proofs.Rooms.{none_in}
use Rattle.order_search.proofs.Permuted.{apart_order}
use Rattle.order_model.proofs.TableLemmas.{has_contained}

-- what is placed on the part: every line
abbrev IsWhole : List (List LineId) → List SegId → List (List LineId) → Type 0
IsWhole segs part placed = (s : SegId) → is_in part s ≡ true → (a : LineId) → is_placed (lines_on placed s) a ≡ has_line (lines_on segs s) a

whole : (segs : List (List LineId)) (part : List SegId) (placed : List (List LineId)) → All (λ (s : SegId). s.0 < length segs) part → IsWell segs placed
    → first_open segs part placed ≡ None → IsWhole segs part placed
whole segs part placed known ok shut s h a =
    let s_known : s.0 < length segs = all_in (λ (s : SegId). s.0 < length segs) part s known h in
    let lines = ok.lines s.0 s_known in
    let few = few_apart (lines_on placed s) (lines_on segs s) lines.apart lines.known in
    let open_not = ltb-false (length (lines_on placed s)) (length (lines_on segs s)) (none_in (is_open segs placed) part s shut h) in
    sym (has_permutation (lines_on segs s) (lines_on placed s) a (apart_order (lines_on placed s) (lines_on segs s) lines.apart lines.known (omega (arith, few, open_not))))

module _ (segs : List (List LineId)) (part : List SegId) (placed : List (List LineId)) (all : IsWhole segs part placed) where
  placed_there : (s : SegId) (a : LineId) → is_in part s ≡ true → Contains (lines_on segs s) a → is_placed (lines_on placed s) a ≡ true
  placed_there s a h on = all s h a ∙ has_contained (lines_on segs s) a on

  decided_there : (s : SegId) (a b : LineId) → is_in part s ≡ true → Contains (lines_on segs s) a → is_decided placed s a b ≡ true
  decided_there s a b h on = ap (λ x. x || is_placed (lines_on placed s) b) (placed_there s a h on)

  settled_there : (s : SegId) (a b : LineId) → is_in part s ≡ true → Contains (lines_on segs s) a → Contains (lines_on segs s) b
      → neighbours_on (lines_on segs s) (lines_on placed s) a b ≡ Some (are_neighbours (lines_on placed s) a b)
  settled_there s a b h on_a on_b = rw (placed_there s a h on_a, placed_there s b h on_b) refl

  -- a term is decided
  decided_is : (t : Term) → IsTerm segs t → is_of part t ≡ true → decided_cost segs placed t ≡ term_cost placed t
  decided_is (Side seg first second w) ok of =
      let in_part = both_true (is_in part seg) (is_in part seg) of in
      ap (λ x. cond x (term_cost placed (Side seg first second w)) 0) (decided_there seg first second in_part.0 ok.first_on)
  decided_is (Link seg other flip a b w) ok of =
      let in_part = both_true (is_in part seg) (is_in part other) of in
      ap (λ x. cond (x && is_decided placed other a b) (term_cost placed (Link seg other flip a b w)) 0) (decided_there seg a b in_part.0 ok.a_on)
      ∙ ap (λ x. cond x (term_cost placed (Link seg other flip a b w)) 0) (decided_there other a b in_part.1 ok.a_on_other)
  decided_is (Apart seg other a b w) ok of =
      let in_part = both_true (is_in part seg) (is_in part other) of in
      ap (λ x. apart_cost w x (neighbours_on (lines_on segs other) (lines_on placed other) a b)) (settled_there seg a b in_part.0 ok.a_on ok.b_on)
      ∙ ap (apart_cost w (Some (are_neighbours (lines_on placed seg) a b))) (settled_there other a b in_part.1 ok.a_on_other ok.b_on_other)
      ∙ turned (same_answer (are_neighbours (lines_on placed seg) a b) (are_neighbours (lines_on placed other) a b))
    where
      turned : (x : Bool) → cond x 0 w ≡ cond (not x) w 0
      turned true = refl
      turned false = refl

  decided_all : (terms : List (ℕ × Term)) → ((t : ℕ × Term) → Among t terms → IsTerm segs t.1) → ((t : ℕ × Term) → Among t terms → is_of part t.1 ≡ true)
      → decided_sum segs placed terms ≡ cost_of (plain_terms terms) placed
  decided_all [] fit inside = refl
  decided_all (t ∷ terms) fit inside =
      let here = decided_is t.1 (fit t (inl refl)) (inside t (inl refl)) in
      let rest = decided_all terms (λ u m. fit u (inr m)) (λ u m. inside u (inr m)) in
      omega (arith, here, rest, sum_by-cons (λ (u : ℕ × Term). decided_cost segs placed u.1) t terms, sum_by-cons (term_cost placed) t.1 (plain_terms terms))

  -- nothing is open
  shut_on : (p : Pair) (s : SegId) → is_in part s ≡ true → is_open_on segs placed p s ≡ false
  shut_on p s h = rw (all s h p.lesser, all s h p.greater) (never (has_line (lines_on segs s) p.lesser) (has_line (lines_on segs s) p.greater))
    where
      never : (x y : Bool) → ((x && y) && not (x || y)) ≡ false
      never true true = refl
      never true false = refl
      never false y = refl

  none_open : (p : Pair) (some : List SegId) → ((s : SegId) → is_in some s ≡ true → is_in part s ≡ true) → filter (is_open_on segs placed p) some ≡ []
  none_open p [] within = refl
  none_open p (s ∷ some) within = rw (shut_on p s (within s (here s some))) (none_open p some (λ u h. within u (later s u some h)))
    where
      here : (s : SegId) (some : List SegId) → is_in (s ∷ some) s ≡ true
      here s some = rw (eq-eqb s.0 s.0 refl) refl

      later : (s u : SegId) (some : List SegId) → is_in some u ≡ true → is_in (s ∷ some) u ≡ true
      later s u some h = by_test (s.0 == u.0)
        where
          by_test : (b : Bool) → (b || is_in some u) ≡ true
          by_test true = refl
          by_test false = h

  no_link : (p : Pair) (k : ℕ) (t : Term) → IsTerm segs t → is_of part t ≡ true → open_link placed p k t ≡ []
  no_link p k (Side seg first second w) ok of = refl
  no_link p k (Apart seg other a b w) ok of = refl
  no_link p k (Link seg other flip a b w) ok of =
      let in_part = both_true (is_in part seg) (is_in part other) of in
      let one : OpenLink = record { number = k; seg = seg; other = other; flip = flip; weight = w } in
      ap (λ x. cond (is_pair p (pair_of a b) && not (x || is_decided placed other a b)) (one ∷ []) []) (decided_there seg a b in_part.0 ok.a_on)
      ∙ nothing (is_pair p (pair_of a b)) (one ∷ [])
    where
      nothing : (x : Bool) (l : List OpenLink) → cond (x && false) l [] ≡ []
      nothing true l = refl
      nothing false l = refl

  no_links : (p : Pair) (terms : List (ℕ × Term)) → ((t : ℕ × Term) → Among t terms → IsTerm segs t.1) → ((t : ℕ × Term) → Among t terms → is_of part t.1 ≡ true)
      → open_links placed p terms ≡ []
  no_links p [] fit inside = refl
  no_links p (t ∷ terms) fit inside =
      ap (λ l. l ++ open_links placed p terms) (no_link p t.0 t.1 (fit t (inl refl)) (inside t (inl refl)))
      ∙ no_links p terms (λ u m. fit u (inr m)) (λ u m. inside u (inr m))

  no_bound : (terms : List (ℕ × Term)) → ((t : ℕ × Term) → Among t terms → IsTerm segs t.1) → ((t : ℕ × Term) → Among t terms → is_of part t.1 ≡ true)
      → (p : Pair) → pair_bound segs placed part terms p ≡ 0
  no_bound terms fit inside p =
      let shut : open_segments segs placed part p ≡ [] = none_open p part (λ s h. h) in
      let links : kept_links placed p terms ≡ [] = ap (kept (λ s. s)) (no_links p terms fit inside) in
      rw (shut, links) refl

  no_bounds : (terms : List (ℕ × Term)) → ((p : Pair) → pair_bound segs placed part terms p ≡ 0) → (pairs : List Pair) → sum_by (pair_bound segs placed part terms) pairs ≡ 0
  no_bounds terms each [] = refl
  no_bounds terms each (p ∷ pairs) = omega (arith, each p, no_bounds terms each pairs, sum_by-cons (pair_bound segs placed part terms) p pairs)

pub complete_bound : (segs : List (List LineId)) (terms : List Term) (part : List SegId) (placed : List (List LineId)) → All AreRising segs → All (IsTerm segs) terms → IsRisingPart part
    → All (λ (s : SegId). s.0 < length segs) part → IsWell segs placed → first_open segs part placed ≡ None
    → bound_of segs part (part_terms terms part) placed ≡ cost_of (plain_terms (part_terms terms part)) placed
complete_bound segs terms part placed rising fit part_rises known ok shut =
    let all = whole segs part placed known ok shut in
    let of = part_of_problem segs terms part rising fit part_rises in
    let decided = decided_all segs part placed all (part_terms terms part) of.known of.inside in
    let none = no_bounds segs part placed all (part_terms terms part) (no_bound segs part placed all (part_terms terms part) of.known of.inside) (pairs_of (part_terms terms part)) in
    omega (arith, decided, none)
