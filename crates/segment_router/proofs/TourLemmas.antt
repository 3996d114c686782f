-- A tour of stops tells whether they are spaced.
use Rattle.std.proofs.Common.{◌≡◌, ℕ, ◌+◌, ◌-◌, ◌<◌, ◌≤◌, Bool, true, false, cond, eqb, leb, ◌&&◌, List, [], ◌∷◌, length, get_or, drop, Option, Some, None, sym, refl, ap, subst, ◌∙◌, arith, ◌⊎◌, inl, inr}
use Rattle.std.proofs.lemmas.Bool.{cases_Bool, and_left, and_parts, ne_eqb, leb-false, leb-true}
use Rattle.std.proofs.lemmas.List.{drop_more}
use Rattle.std.specs.Prelude.{IfSome}
use Rattle.std.specs.List.{list_all}
use Rattle.octi_grid.specs.declared.dir.Dir.{Dir}
use Rattle.map_base.specs.declared.ids.SegId.{SegId}
use Rattle.segment_router.specs.declared.ports.Stop.{Stop as PlaceAndPort}
use Rattle.segment_router.specs.declared.ports.Tour.{Tour}
use Rattle.segment_router.specs.Ports.{are_spaced, distance_to, gaps_to, stops_from, turned_over, with_stop, Stop}
use Rattle.segment_router.specs.Tours.{as_tour, ends_well, may_end_well, stop_of, tour_on, tour_past}

-- the gaps' test, by its sum and the test of each
abbrev well : ℕ → List (ℕ × ℕ) → Bool
well turned gaps = eqb (turned + turned_over gaps) 8 && list_all (λ (g : ℕ × ℕ). leb g.1 g.0) gaps

begins : (count : ℕ) (s : Stop) (rest : List Stop) → are_spaced count (s ∷ rest) ≡ well 0 (gaps_to count s s rest)
begins count s rest =
    let none : turned_over (gaps_to count s s rest) ≡ 0 + turned_over (gaps_to count s s rest) = omega arith in
    ap (λ n. eqb n 8 && list_all (λ (g : ℕ × ℕ). leb g.1 g.0) (gaps_to count s s rest)) none

goes_on : (turned gap places : ℕ) (gaps : List (ℕ × ℕ)) → leb places gap ≡ true → well turned ((gap, places) ∷ gaps) ≡ well (turned + gap) gaps
goes_on turned gap places gaps room =
    let more : turned + (gap + turned_over gaps) ≡ turned + gap + turned_over gaps = omega arith in
    ap (λ n. eqb n 8 && (leb places gap && list_all (λ (g : ℕ × ℕ). leb g.1 g.0) gaps)) more
    ∙ ap (λ b. eqb (turned + gap + turned_over gaps) 8 && (b && list_all (λ (g : ℕ × ℕ). leb g.1 g.0) gaps)) room

no_room : (turned gap places : ℕ) (gaps : List (ℕ × ℕ)) → leb places gap ≡ false → well turned ((gap, places) ∷ gaps) ≡ false
no_room turned gap places gaps room =
    ap (λ b. eqb (turned + (gap + turned_over gaps)) 8 && (b && list_all (λ (g : ℕ × ℕ). leb g.1 g.0) gaps)) room
    ∙ and_false (eqb (turned + (gap + turned_over gaps)) 8)
  where
    and_false : (b : Bool) → (b && false) ≡ false
    and_false true = refl
    and_false false = refl

too_far : (turned gap places : ℕ) (gaps : List (ℕ × ℕ)) → leb (turned + gap) 8 ≡ false → well turned ((gap, places) ∷ gaps) ≡ false
too_far turned gap places gaps far =
    let over : 8 < turned + gap = leb-false _ _ far in
    and_left _ _ (ne_eqb (turned + (gap + turned_over gaps)) 8 (λ e. omega arith))

-- one stop more of a tour
stop_more : (count : ℕ) (t : Tour) (s : PlaceAndPort) (rest : List Stop) → ends_well count (Some t) (stop_of s ∷ rest) ≡ may_end_well count rest (as_tour (tour_past t s))
stop_more count t s rest = by_room (cases_Bool (leb (s.place - t.last.place) (distance_to t.last.port s.port))) (cases_Bool (leb (t.turned + distance_to t.last.port s.port) 8))
  where
    by_room : (leb (s.place - t.last.place) (distance_to t.last.port s.port) ≡ true) ⊎ (leb (s.place - t.last.place) (distance_to t.last.port s.port) ≡ false)
        → (leb (t.turned + distance_to t.last.port s.port) 8 ≡ true) ⊎ (leb (t.turned + distance_to t.last.port s.port) 8 ≡ false)
        → ends_well count (Some t) (stop_of s ∷ rest) ≡ may_end_well count rest (as_tour (tour_past t s))
    by_room (inl room) (inl once) =
        goes_on t.turned (distance_to t.last.port s.port) (s.place - t.last.place) (gaps_to count (stop_of t.first) (stop_of s) rest) room
        ∙ sym (ap (λ b. may_end_well count rest (as_tour (cond (b && leb (t.turned + distance_to t.last.port s.port) 8) (Some (record { first = t.first; last = s; turned = t.turned + distance_to t.last.port s.port })) None))) room
        ∙ ap (λ b. may_end_well count rest (as_tour (cond b (Some (record { first = t.first; last = s; turned = t.turned + distance_to t.last.port s.port })) None))) once)
    by_room (inl room) (inr far) =
        too_far t.turned (distance_to t.last.port s.port) (s.place - t.last.place) (gaps_to count (stop_of t.first) (stop_of s) rest) far
        ∙ sym (ap (λ b. may_end_well count rest (as_tour (cond (b && leb (t.turned + distance_to t.last.port s.port) 8) (Some (record { first = t.first; last = s; turned = t.turned + distance_to t.last.port s.port })) None))) room
        ∙ ap (λ b. may_end_well count rest (as_tour (cond b (Some (record { first = t.first; last = s; turned = t.turned + distance_to t.last.port s.port })) None))) far)
    by_room (inr none) far =
        no_room t.turned (distance_to t.last.port s.port) (s.place - t.last.place) (gaps_to count (stop_of t.first) (stop_of s) rest) none
        ∙ sym (ap (λ b. may_end_well count rest (as_tour (cond (b && leb (t.turned + distance_to t.last.port s.port) 8) (Some (record { first = t.first; last = s; turned = t.turned + distance_to t.last.port s.port })) None))) none)

-- one segment more of a round
pub tour_more : (count : ℕ) (port_of : SegId → Option Dir) (round : List SegId) (i : ℕ) (d : SegId) (tour : Option Tour) → i < length round
    → ends_well count tour (stops_from i port_of (drop i round)) ≡ may_end_well count (stops_from (i + 1) port_of (drop (i + 1) round)) (tour_on tour i (port_of (get_or round i d)))
tour_more count port_of round i d tour h =
    ap (λ v. ends_well count tour (stops_from i port_of v)) (drop_more round i d h) ∙ by_port tour (port_of (get_or round i d))
  where
    by_port : (tour : Option Tour) (o : Option Dir) → ends_well count tour (with_stop i o (stops_from (i + 1) port_of (drop (i + 1) round))) ≡ may_end_well count (stops_from (i + 1) port_of (drop (i + 1) round)) (tour_on tour i o)
    by_port tour None = refl
    by_port None (Some port) = begins count (i, port) (stops_from (i + 1) port_of (drop (i + 1) round))
    by_port (Some t) (Some port) = stop_more count t (record { place = i; port = port }) (stops_from (i + 1) port_of (drop (i + 1) round))

-- the end of a tour
pub tour_closes : (count : ℕ) (t : Tour) → ends_well count (Some t) [] ≡ (leb (t.first.place + count - t.last.place) (distance_to t.last.port t.first.port) && eqb (t.turned + distance_to t.last.port t.first.port) 8)
tour_closes count t =
    let none : t.turned + (distance_to t.last.port t.first.port + 0) ≡ t.turned + distance_to t.last.port t.first.port = omega arith in
    ap (λ n. eqb n 8 && (leb (t.first.place + count - t.last.place) (distance_to t.last.port t.first.port) && true)) none
    ∙ turned_round (eqb (t.turned + distance_to t.last.port t.first.port) 8) (leb (t.first.place + count - t.last.place) (distance_to t.last.port t.first.port))
  where
    turned_round : (a b : Bool) → (a && (b && true)) ≡ (b && a)
    turned_round true true = refl
    turned_round true false = refl
    turned_round false true = refl
    turned_round false false = refl

-- a tour that has gone no more than once round, over places of a round
pub record IsWithinTour (count : ℕ) (t : Tour) : Type 0 where
  pub turned : t.turned ≤ 8
  pub first : t.first.place ≤ count
  pub last : t.last.place ≤ count

within_chosen : (count : ℕ) (t : Tour) (s : PlaceAndPort) (next : Option Tour) → s.place ≤ count → IsWithinTour count t → as_tour (tour_past t s) ≡ Some next → IfSome next (IsWithinTour count)
within_chosen count t s next h fit e = elim (cases_Bool (leb (s.place - t.last.place) (distance_to t.last.port s.port) && leb (t.turned + distance_to t.last.port s.port) 8)) [
  | inl room ↦ (let is : Some (let o : Option Tour = Some (record { first = t.first; last = s; turned = t.turned + distance_to t.last.port s.port }) in o) ≡ Some next =
      sym (ap (λ b. as_tour (cond b (Some (record { first = t.first; last = s; turned = t.turned + distance_to t.last.port s.port })) None)) room) ∙ e in
      let same : (let o : Option Tour = Some (record { first = t.first; last = s; turned = t.turned + distance_to t.last.port s.port }) in o) ≡ next = cc in
      subst (λ (o : Option Tour). IfSome o (IsWithinTour count)) same (record { turned = leb-true _ _ (and_parts _ _ room).1; first = fit.first; last = h }))
  | inr none ↦ (let is : (let o : Option (Option Tour) = None in o) ≡ Some next = sym (ap (λ b. as_tour (cond b (Some (record { first = t.first; last = s; turned = t.turned + distance_to t.last.port s.port })) None)) none) ∙ e in
      cc)
]

-- a tour stays within the round
pub within_more : (count : ℕ) (tour : Option Tour) (i : ℕ) (o : Option Dir) (next : Option Tour) → i < count → IfSome tour (IsWithinTour count) → tour_on tour i o ≡ Some next → IfSome next (IsWithinTour count)
within_more count tour i None next h fit e = let same : tour ≡ next = cc in subst (λ (v : Option Tour). IfSome v (IsWithinTour count)) same fit
within_more count None i (Some port) next h fit e =
    let same : (let v : Option Tour = Some (record { first = record { place = i; port = port }; last = record { place = i; port = port }; turned = 0 }) in v) ≡ next = cc in
    subst (λ (v : Option Tour). IfSome v (IsWithinTour count)) same (record { turned = omega arith; first = omega arith; last = omega arith })
within_more count (Some t) i (Some port) next h fit e = within_chosen count t (record { place = i; port = port }) next (omega arith) fit e

-- what a tour of a round says of its turn so far
pub within_turned : (count : ℕ) (tour : Option Tour) → IfSome tour (IsWithinTour count) → IfSome tour (λ (t : Tour). t.turned ≤ 8)
within_turned count None fit = fit
within_turned count (Some t) fit = fit.turned
