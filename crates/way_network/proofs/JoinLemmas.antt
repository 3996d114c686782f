-- The joins that crossings in order make.
use Rattle.std.proofs.Common.{◌≡◌, ℕ, ◌+◌, ◌-◌, ◌<◌, ◌≤◌, ◌⊎◌, inl, inr, Bool, true, false, cond, eqb, ltb, ◌&&◌, ◌||◌, List, [], ◌∷◌, ◌++◌, length, get_or, map, filter, take, drop, refl, sym, ◌∙◌, ap, arith}
use Rattle.std.specs.List.{All, list_any, range_with_len}
use Rattle.std.specs.List.Sorted.{IsNonDecreasingBy, IsPartitionPoint, IsStrictlyIncreasing, IsStrictlySortedBy}
use Rattle.std.specs.declared.cmp.Ordering.{Ordering}
use Rattle.std.specs.declared.cmp.Ordering.TheVariants.{Less}
use Rattle.std.specs.Ordering.{nat_cmp, ordering_then}
use Rattle.std.proofs.lemmas.Bool.{cases_lt, eq-eqb, eqb-true}
use Rattle.std.proofs.lemmas.Bool.Decides.{nat_tests}
use Rattle.std.proofs.lemmas.List.{length-map, get_or-map, map_more, map-append, take_more}
use Rattle.std.proofs.lemmas.List.Elements.{All-contains, All-filter, All-head, All-tail, All-weaker, filter_passes, filter-append}
use Rattle.std.proofs.lemmas.List.Folds.{Any-from_list_any, list_any_at, list_any_none}
use Rattle.std.proofs.lemmas.List.Kept.{IsStrictlySortedBy-filter}
use Rattle.std.proofs.lemmas.Map.Keys.{Less-from_sorted}
use Rattle.graph_core.specs.declared.parts.Join.{Join}
use Rattle.track_net.proofs.Lists.{list_any-filter}
use Rattle.way_network.specs.declared.way.Passage.{Passage}
use Rattle.way_network.specs.declared.joins.Crossing.{Crossing}
use Rattle.way_network.specs.Joins.{join_of, joins, joins_at, joins_from, joins_of_pair, leads}
use Rattle.way_network.specs.Uses.{AreThose, has_number}
use Rattle.way_network.specs.Crossings.{crossing_of, is_crossing, crosses, joins_between, joins_over, joins_among, IsWithin, crossing_order, is_there, AreInOrder, is_at, join_at, is_passage_at}
use Rattle.way_network.proofs.Parts.{by_parts, filter_between, flat_map-agree, list_any-agree, list_any-filtered, list_any-mapped, map-flat_map}
use Rattle.way_network.proofs.RisingLists.{those_are_filter}

abbrev nothing : Crossing
nothing = record { at = 0; e = 0; f = 0; line = 0 }

-- What the order says of the numbers.

first_up : (a b : ℕ) (r : Ordering) → ordering_then (nat_cmp a b) r ≡ Less → a ≤ b
first_up a b r h = grind (arith, nat_tests)

then_less : (a b : ℕ) (r : Ordering) → a ≡ b → ordering_then (nat_cmp a b) r ≡ Less → r ≡ Less
then_less a b r e h = grind (arith, nat_tests)

last_up : (a b : ℕ) → nat_cmp a b ≡ Less → a < b
last_up a b h = grind (arith, nat_tests)

at_up : (x y : Crossing) → crossing_order x y ≡ Less → x.at ≤ y.at
at_up x y h = first_up x.at y.at (ordering_then (nat_cmp x.e y.e) (ordering_then (nat_cmp x.f y.f) (nat_cmp x.line y.line))) h

e_up : (x y : Crossing) → x.at ≡ y.at → crossing_order x y ≡ Less → x.e ≤ y.e
e_up x y a h =
    first_up x.e y.e (ordering_then (nat_cmp x.f y.f) (nat_cmp x.line y.line))
    (then_less x.at y.at (ordering_then (nat_cmp x.e y.e) (ordering_then (nat_cmp x.f y.f) (nat_cmp x.line y.line))) a h)

f_up : (x y : Crossing) → x.at ≡ y.at → x.e ≡ y.e → crossing_order x y ≡ Less → x.f ≤ y.f
f_up x y a b h =
    first_up x.f y.f (nat_cmp x.line y.line)
    (then_less x.e y.e (ordering_then (nat_cmp x.f y.f) (nat_cmp x.line y.line)) b
    (then_less x.at y.at (ordering_then (nat_cmp x.e y.e) (ordering_then (nat_cmp x.f y.f) (nat_cmp x.line y.line))) a h))

line_up : (x y : Crossing) → x.at ≡ y.at → x.e ≡ y.e → x.f ≡ y.f → crossing_order x y ≡ Less → x.line < y.line
line_up x y a b c h =
    last_up x.line y.line
    (then_less x.f y.f (nat_cmp x.line y.line) c
    (then_less x.e y.e (ordering_then (nat_cmp x.f y.f) (nat_cmp x.line y.line)) b
    (then_less x.at y.at (ordering_then (nat_cmp x.e y.e) (ordering_then (nat_cmp x.f y.f) (nat_cmp x.line y.line))) a h)))

-- in a list in order whose elements are alike, a number never falls
never_falls : (number : Crossing → ℕ) (Alike : Crossing → Type 0) → ((x y : Crossing) → Alike x → Alike y → crossing_order x y ≡ Less → number x ≤ number y) → (xs : List Crossing)
    → IsStrictlySortedBy crossing_order xs → All Alike xs → IsNonDecreasingBy number xs
never_falls number Alike up xs sorted alike i j d le l = by (cases_lt i j)
  where
    by : (i < j) ⊎ (j ≤ i) → number (get_or xs i d) ≤ number (get_or xs j d)
    by (inl h) = up (get_or xs i d) (get_or xs j d) (alike i d (omega (arith, h, l))) (alike j d l) (Less-from_sorted crossing_order xs i j d sorted h l)
    by (inr h) =
        let same : i ≡ j = omega (arith, le, h) in
        omega (arith, ap (λ (k : ℕ). number (get_or xs k d)) same)

both_hold : {X : Type 0} (P Q : X → Type 0) (xs : List X) → All P xs → All Q xs → All (λ x. P x × Q x) xs
both_hold P Q xs p q k d l = (p k d l, q k d l)

-- A part by points.

pub at_rises : (crossings sorted : List Crossing) → AreInOrder crossings sorted → IsNonDecreasingBy (λ x. x.at) sorted
at_rises crossings sorted o = never_falls (λ (x : Crossing). x.at) (λ _. Unit {0}) (λ x y _ _ h. at_up x y h) sorted o.rises (λ k d l. tt)

pub part_at : (sorted : List Crossing) (p low high : ℕ) → low ≤ length sorted → high ≤ length sorted
    → IsPartitionPoint (λ (x : Crossing). ltb x.at p ≡ true) (λ x. ltb x.at p ≡ false) sorted low
    → IsPartitionPoint (λ (x : Crossing). ltb x.at (p + 1) ≡ true) (λ x. ltb x.at (p + 1) ≡ false) sorted high
    → (low ≤ high) × (take (high - low) (drop low sorted) ≡ filter (is_at p) sorted)
part_at sorted p low high in_low in_high from to = (
  rise,
  filter_between (is_at p) sorted low high rise in_high (λ k d l. before (get_or sorted k d).at p (from.0 k d (omega arith) l))
      (λ k d g l. within (get_or sorted k d).at p (from.1 k d g (omega (arith, l, in_high))) (to.0 k d (omega arith) l)) (λ k d g l. after (get_or sorted k d).at p (to.1 k d g l)),
)
  where
    before : (a p : ℕ) → ltb a p ≡ true → eqb a p ≡ false
    before a p h = grind (arith, nat_tests)

    within : (a p : ℕ) → ltb a p ≡ false → ltb a (p + 1) ≡ true → eqb a p ≡ true
    within a p h g = grind (arith, nat_tests)

    after : (a p : ℕ) → ltb a (p + 1) ≡ false → eqb a p ≡ false
    after a p h = grind (arith, nat_tests)

    never : (a p : ℕ) → ltb a p ≡ true → ltb a (p + 1) ≡ false → ⊥
    never a p h g = grind (arith, nat_tests)

    rise : low ≤ high
    rise = by (cases_lt high low)
      where
        by : (high < low) ⊎ (low ≤ high) → low ≤ high
        by (inl l) = absurd (never (get_or sorted high nothing).at p (from.0 high nothing (omega arith) l) (to.1 high nothing (omega arith) (omega (arith, l, in_low))))
        by (inr le) = le

-- The joins at a point.

joined : (a b e f s : ℕ) → ((eqb a e && eqb b f) || (eqb a f && eqb b e)) ≡ true → a < s → b < s → (e < s) × (f < s)
joined a b e f s h l m = (one a b e f s h l m, two a b e f s h l m)
  where
    one : (a b e f s : ℕ) → ((eqb a e && eqb b f) || (eqb a f && eqb b e)) ≡ true → a < s → b < s → e < s
    one a b e f s h l m = grind (arith, nat_tests)

    two : (a b e f s : ℕ) → ((eqb a e && eqb b f) || (eqb a f && eqb b e)) ≡ true → a < s → b < s → f < s
    two a b e f s h l m = grind (arith, nat_tests)

both_true : (a b : Bool) → (a && b) ≡ true → (a ≡ true) × (b ≡ true)
both_true true b e = (refl, e)
both_true false b e = absurd cc

all_true : {a b c d : Bool} → a ≡ true → b ≡ true → c ≡ true → d ≡ true → (a && (b && (c && d))) ≡ true
all_true p q r s = λ i. p i && (q i && (r i && s i))

module _ (crossings sorted : List Crossing) (o : AreInOrder crossings sorted) (segments lines : ℕ) (all : All (IsWithin segments lines) crossings) where
  known : All (λ (x : Crossing). (x.e < segments) × (x.f < segments)) sorted
  known k d l =
      let x = get_or sorted k d in
      let there : is_there x.at x.e x.f x.line x ≡ true = all_true (eq-eqb x.at x.at refl) (eq-eqb x.e x.e refl) (eq-eqb x.f x.f refl) (eq-eqb x.line x.line refl) in
      let some : list_any (is_there x.at x.e x.f x.line) sorted ≡ true = list_any_at (is_there x.at x.e x.f x.line) sorted k d l there in
      let found = Any-from_list_any (is_crossing x.at x.e x.f x.line) crossings (sym (o.same x.at x.e x.f x.line (o.lesser k d l)) ∙ some) in
      let y = found.1 in
      let one = both_true (eqb y.line x.line) (eqb y.at x.at && ((eqb y.e x.e && eqb y.f x.f) || (eqb y.e x.f && eqb y.f x.e))) found.4 in
      let two = both_true (eqb y.at x.at) ((eqb y.e x.e && eqb y.f x.f) || (eqb y.e x.f && eqb y.f x.e)) one.1 in
      let in_range : IsWithin segments lines y = All-contains (IsWithin segments lines) crossings y all (found.0, found.2, found.3) in
      joined y.e y.f x.e x.f segments two.1 in_range.e in_range.f

  module _ (p : ℕ) where
    abbrev here : List Crossing
    here = filter (is_at p) sorted

    here_at : All (λ (x : Crossing). x.at ≡ p) here
    here_at = All-weaker (λ (x : Crossing). is_at p x ≡ true) (λ (x : Crossing). x.at ≡ p) (λ x h. eqb-true x.at p h) here (filter_passes (is_at p) sorted)

    here_rises : IsStrictlySortedBy crossing_order here
    here_rises = IsStrictlySortedBy-filter crossing_order (is_at p) sorted o.rises

    e_rises : IsNonDecreasingBy (λ x. x.e) here
    e_rises = never_falls (λ (x : Crossing). x.e) (λ (x : Crossing). x.at ≡ p) (λ x y a b h. e_up x y (a ∙ sym b) h) here here_rises here_at

    module _ (e : ℕ) where
      abbrev from_e : List Crossing
      from_e = filter (λ x. eqb x.e e) here

      from_e_at : All (λ (x : Crossing). (x.at ≡ p) × (x.e ≡ e)) from_e
      from_e_at =
          both_hold (λ (x : Crossing). x.at ≡ p) (λ (x : Crossing). x.e ≡ e) from_e (All-filter (λ (x : Crossing). eqb x.e e) (λ (x : Crossing). x.at ≡ p) here here_at)
          (All-weaker (λ (x : Crossing). eqb x.e e ≡ true) (λ (x : Crossing). x.e ≡ e) (λ x h. eqb-true x.e e h) from_e (filter_passes (λ (x : Crossing). eqb x.e e) here))

      from_e_rises : IsStrictlySortedBy crossing_order from_e
      from_e_rises = IsStrictlySortedBy-filter crossing_order (λ (x : Crossing). eqb x.e e) here here_rises

      f_rises : IsNonDecreasingBy (λ x. x.f) from_e
      f_rises =
          never_falls (λ (x : Crossing). x.f) (λ (x : Crossing). (x.at ≡ p) × (x.e ≡ e)) (λ x y a b h. f_up x y (a.0 ∙ sym b.0) (a.1 ∙ sym b.1) h) from_e from_e_rises from_e_at

      module _ (f : ℕ) where
        abbrev both : List Crossing
        both = filter (λ x. eqb x.f f) from_e

        both_at : All (λ (x : Crossing). ((x.at ≡ p) × (x.e ≡ e)) × (x.f ≡ f)) both
        both_at =
            both_hold (λ (x : Crossing). (x.at ≡ p) × (x.e ≡ e)) (λ (x : Crossing). x.f ≡ f) both
            (All-filter (λ (x : Crossing). eqb x.f f) (λ (x : Crossing). (x.at ≡ p) × (x.e ≡ e)) from_e from_e_at)
            (All-weaker (λ (x : Crossing). eqb x.f f ≡ true) (λ (x : Crossing). x.f ≡ f) (λ x h. eqb-true x.f f h) both (filter_passes (λ (x : Crossing). eqb x.f f) from_e))

        both_rises : IsStrictlySortedBy crossing_order both
        both_rises = IsStrictlySortedBy-filter crossing_order (λ (x : Crossing). eqb x.f f) from_e from_e_rises

        abbrev numbers : List ℕ
        numbers = map (λ (x : Crossing). x.line) both

        numbers_rise : IsStrictlyIncreasing numbers
        numbers_rise k l =
            let within : k + 1 < length both = omega (arith, l, length-map both (λ (x : Crossing). x.line)) in
            let x = get_or both k nothing in
            let y = get_or both (k + 1) nothing in
            let a = both_at k nothing (omega (arith, within)) in
            let b = both_at (k + 1) nothing within in
            let up : x.line < y.line =
            line_up x y (a.0.0 ∙ sym b.0.0) (a.0.1 ∙ sym b.0.1) (a.1 ∙ sym b.1) (Less-from_sorted crossing_order both k (k + 1) nothing both_rises (omega arith) within) in
            omega (
              arith,
              up,
              get_or-map (λ (x : Crossing). x.line) both k nothing 0 (omega (arith, within)),
              get_or-map (λ (x : Crossing). x.line) both (k + 1) nothing 0 within,
            )

        has_lines : (k : ℕ) → has_number numbers k ≡ list_any (is_there p e f k) sorted
        has_lines k =
            list_any-mapped (λ (n : ℕ). eqb k n) (λ (x : Crossing). x.line) both
            ∙ list_any-filtered (λ (x : Crossing). eqb k x.line) (λ (x : Crossing). eqb x.f f) from_e
            ∙ list_any-filtered (λ (x : Crossing). eqb x.f f && eqb k x.line) (λ (x : Crossing). eqb x.e e) here
            ∙ list_any-filtered (λ (x : Crossing). eqb x.e e && (eqb x.f f && eqb k x.line)) (is_at p) sorted
            ∙ list_any-agree (λ (x : Crossing). eqb x.at p && (eqb x.e e && (eqb x.f f && eqb k x.line))) (is_there p e f k)
            (λ x. ap (λ (b : Bool). eqb x.at p && (eqb x.e e && (eqb x.f f && b))) (turned k x.line)) sorted
          where
            turned : (a b : ℕ) → eqb a b ≡ eqb b a
            turned a b = grind (arith, nat_tests)

        no_line : (k : ℕ) → lines ≤ k → crosses crossings p e f k ≡ false
        no_line k h =
            list_any_none (is_crossing p e f k) crossings
            (All-weaker (IsWithin segments lines) (λ (x : Crossing). is_crossing p e f k x ≡ false)
            (λ x w. ap (λ (b : Bool). b && (eqb x.at p && ((eqb x.e e && eqb x.f f) || (eqb x.e f && eqb x.f e)))) (apart x.line k lines w.line h)) crossings all)
          where
            apart : (a k n : ℕ) → a < n → n ≤ k → eqb a k ≡ false
            apart a k n l h = grind (arith, nat_tests)

        as_joins : (xs : List Crossing) → All (λ (x : Crossing). ((x.at ≡ p) × (x.e ≡ e)) × (x.f ≡ f)) xs → map join_at xs ≡ map (join_of e f) (map (λ (x : Crossing). x.line) xs)
        as_joins [] held = refl
        as_joins (x ∷ xs) held =
            let P : Crossing → Type 0 = λ x. ((x.at ≡ p) × (x.e ≡ e)) × (x.f ≡ f) in
            let a = All-head P x xs held in
            ap (λ (n : ℕ). join_of n x.f x.line ∷ map join_at xs) a.0.1 ∙ ap (λ (n : ℕ). join_of e n x.line ∷ map join_at xs) a.1
            ∙ ap (λ (js : List Join). join_of e f x.line ∷ js) (as_joins xs (All-tail P x xs held))

        where_lesser : e < f → map join_at both ≡ joins_between crossings lines p e f
        where_lesser below =
            let those : AreThose (crosses crossings p e f) numbers = record { rises = numbers_rise; each = λ k. has_lines k ∙ o.same p e f k below } in
            as_joins both both_at ∙ ap (map (join_of e f)) (those_are_filter (crosses crossings p e f) lines numbers those no_line)

        empty : (xs : List Crossing) → All (λ (x : Crossing). ((x.at ≡ p) × (x.e ≡ e)) × (x.f ≡ f)) xs → All (λ (x : Crossing). x.e < x.f) xs → f ≤ e → map join_at xs ≡ []
        empty [] held less h = refl
        empty (x ∷ xs) held less h =
            let a = held 0 x (omega arith) in
            let l = less 0 x (omega arith) in
            absurd (omega (arith, a.0.1, a.1, l, h))

        both_joins : map join_at both ≡ cond (ltb e f) (joins_between crossings lines p e f) []
        both_joins = by (cases_lt e f)
          where
            low : (a b : ℕ) → a < b → ltb a b ≡ true
            low a b l = grind (arith, nat_tests)

            high : (a b : ℕ) → b ≤ a → ltb a b ≡ false
            high a b l = grind (arith, nat_tests)

            lesser : All (λ (x : Crossing). x.e < x.f) both
            lesser =
                All-filter (λ (x : Crossing). eqb x.f f) (λ (x : Crossing). x.e < x.f) from_e
                (All-filter (λ (x : Crossing). eqb x.e e) (λ (x : Crossing). x.e < x.f) here (All-filter (is_at p) (λ (x : Crossing). x.e < x.f) sorted o.lesser))

            by : (e < f) ⊎ (f ≤ e) → map join_at both ≡ cond (ltb e f) (joins_between crossings lines p e f) []
            by (inl l) = where_lesser l ∙ sym (ap (λ (b : Bool). cond b (joins_between crossings lines p e f) []) (low e f l))
            by (inr l) = empty both both_at lesser l ∙ sym (ap (λ (b : Bool). cond b (joins_between crossings lines p e f) []) (high e f l))

      over_joins : map join_at from_e ≡ joins_over crossings segments lines p e
      over_joins =
          ap (map join_at)
          (by_parts (λ (x : Crossing). x.f) from_e segments f_rises
          (All-filter (λ (x : Crossing). eqb x.e e) (λ (x : Crossing). x.f < segments) here
          (All-filter (is_at p) (λ (x : Crossing). x.f < segments) sorted (All-weaker (λ (x : Crossing). (x.e < segments) × (x.f < segments)) (λ (x : Crossing). x.f < segments) (λ x w. w.1) sorted known))))
          ∙ map-flat_map join_at (λ f. filter (λ x. eqb x.f f) from_e) (range_with_len 0 segments)
          ∙ flat_map-agree (λ f. map join_at (filter (λ x. eqb x.f f) from_e)) (λ f. cond (ltb e f) (joins_between crossings lines p e f) []) (λ f. both_joins f) (range_with_len 0 segments)

    pub joins_are : map join_at (filter (is_at p) sorted) ≡ joins_among crossings segments lines p
    joins_are =
        ap (map join_at)
        (by_parts (λ (x : Crossing). x.e) here segments e_rises
        (All-filter (is_at p) (λ (x : Crossing). x.e < segments) sorted (All-weaker (λ (x : Crossing). (x.e < segments) × (x.f < segments)) (λ (x : Crossing). x.e < segments) (λ x w. w.0) sorted known)))
        ∙ map-flat_map join_at (λ e. filter (λ x. eqb x.e e) here) (range_with_len 0 segments)
        ∙ flat_map-agree (λ e. map join_at (filter (λ x. eqb x.e e) here)) (joins_over crossings segments lines p) (λ e. over_joins e) (range_with_len 0 segments)

pub joins_more : {Y : Type 0} (f : ℕ → Y) (points : List ℕ) (k d : ℕ) (before after : List Y) (joins : Y) → k < length points → before ≡ map f (take k points) → joins ≡ f (get_or points k d)
    → after ≡ before ++ joins ∷ [] → after ≡ map f (take (k + 1) points)
joins_more {Y} f points k d before after joins l so_far is more =
    more ∙ ap (λ (js : List Y). js ++ joins ∷ []) so_far ∙ ap (λ (j : Y). map f (take k points) ++ j ∷ []) is ∙ sym (map_more f points k d l)

-- Crossings that stand for passages.

module _ (chains : List (List ℕ)) (passages : List Passage) where
  -- those at some points alone do for these points
  crosses_where : (nodes : List ℕ) (p e f line : ℕ) → has_number nodes p ≡ true
      → crosses (map (crossing_of chains) (filter (is_passage_at nodes) passages)) p e f line ≡ joins chains passages p e f line
  crosses_where nodes p e f line node =
      list_any-mapped (is_crossing p e f line) (crossing_of chains) (filter (is_passage_at nodes) passages)
      ∙ list_any-filter (λ (x : Passage). is_crossing p e f line (crossing_of chains x)) (is_passage_at nodes)
      (λ x h.
      let one = both_true (eqb x.line.0 line) (eqb x.at p && leads chains e f x) h in
      let two = both_true (eqb x.at p) (leads chains e f x) one.1 in
      ap (has_number nodes) (eqb-true x.at p two.0) ∙ node)
      passages

  filter-agree : (t u : ℕ → Bool) → ((k : ℕ) → t k ≡ u k) → (xs : List ℕ) → filter t xs ≡ filter u xs
  filter-agree t u same [] = refl
  filter-agree t u same (x ∷ xs) = ap (λ (b : Bool). cond b (x ∷ filter t xs) (filter t xs)) (same x) ∙ ap (λ (ys : List ℕ). cond (u x) (x ∷ ys) ys) (filter-agree t u same xs)

  pub joins_told : (nodes : List ℕ) (lines p : ℕ) → has_number nodes p ≡ true
      → joins_among (map (crossing_of chains) (filter (is_passage_at nodes) passages)) (length chains) lines p ≡ joins_at chains passages lines p
  joins_told nodes lines p node =
      flat_map-agree (joins_over (map (crossing_of chains) (filter (is_passage_at nodes) passages)) (length chains) lines p) (joins_from chains passages lines p)
      (λ e. flat_map-agree (λ f. cond (ltb e f) (joins_between (map (crossing_of chains) (filter (is_passage_at nodes) passages)) lines p e f) [])
      (λ f. cond (ltb e f) (joins_of_pair chains passages lines p e f) [])
      (λ f. ap (λ (js : List Join). cond (ltb e f) js [])
      (ap (map (join_of e f))
      (filter-agree (crosses (map (crossing_of chains) (filter (is_passage_at nodes) passages)) p e f) (joins chains passages p e f) (λ line. crosses_where nodes p e f line node) (range_with_len 0 lines))))
      (range_with_len 0 (length chains)))
      (range_with_len 0 (length chains))

-- one more passage
pub passage_more : (chains : List (List ℕ)) (nodes : List ℕ) (passages : List Passage) (k : ℕ) (d : Passage) (before after : List Crossing) → k < length passages
    → before ≡ map (crossing_of chains) (filter (is_passage_at nodes) (take k passages)) → after ≡ before ++ map (crossing_of chains) (filter (is_passage_at nodes) (get_or passages k d ∷ []))
    → after ≡ map (crossing_of chains) (filter (is_passage_at nodes) (take (k + 1) passages))
passage_more chains nodes passages k d before after l so_far more =
    let h : List Passage → List Crossing = λ xs. map (crossing_of chains) (filter (is_passage_at nodes) xs) in
    more ∙ ap (λ (xs : List Crossing). xs ++ h (get_or passages k d ∷ [])) so_far
    ∙ sym
    (ap h (take_more passages k d l) ∙ ap (map (crossing_of chains)) (filter-append (is_passage_at nodes) (take k passages) (get_or passages k d ∷ []))
    ∙ map-append (crossing_of chains) (filter (is_passage_at nodes) (take k passages)) (filter (is_passage_at nodes) (get_or passages k d ∷ [])))
