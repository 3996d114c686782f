-- A dual tree that is accepted for a part is accepted for the same part under other numbers of segments and terms.
use Rattle.std.proofs.Common.{◌≡◌, ◌≢◌, ℕ, ◌+◌, ◌*◌, ◌/◌, ◌^◌, ◌==◌, nat_le, ℤ, pos, Bool, true, false, ◌&&◌, not, cond, List, [], ◌∷◌, length, map, filter, sum_by, refl, sym, ◌∙◌, ap, true≢false, Option, Some, None, inl, inr}
use Rattle.std.proofs.Math.Path.{fun_ext}
use Rattle.std.specs.List.{list_any, AllByRecursion}
use Rattle.std.proofs.lemmas.Bool.{and_from, and_parts, or_left, or_right}
use Rattle.std.proofs.lemmas.List.Sums.{sum_by-cons}
use Rattle.std.specs.Prelude.{unsigned_abs}
use Rattle.map_base.specs.declared.ids.SegId.{SegId}
use Rattle.map_base.specs.declared.ids.LineId.{LineId}
use Rattle.order_values.specs.PriceLists.{AreRisingPrices, price_at}
use Rattle.order_values.specs.DualTrees.{PlainDual, fork, stop, fork_depth, stops_of}
use Rattle.order_model.specs.declared.term.Term.{Term}
use Rattle.order_model.specs.declared.term.Term.TheVariants.{Side, Link, Apart}
use Rattle.order_model.specs.Problems.{lines_on}
use Rattle.order_model.specs.Places.{has_line}
use Rattle.order_model.specs.PartTerms.{is_in, is_of}
use Rattle.order_model.specs.Questions.{Question, question}
use Rattle.order_model.proofs.Lines.{either_true}
use Rattle.least_orders.specs.Arrangements.{kept_orders}
use Rattle.least_orders.specs.LeastOrders.{least_value}
use Rattle.order_proof.specs.Trees.{AreNotZero, IsDualTree}
use Rattle.order_search.specs.ByItself.{prices_by}
use Rattle.dual_ascent.specs.Shown.{IsListed}
use Rattle.kept_trees.specs.Renumbered.{dual_by}
use Rattle.dual_bound.specs.declared.settled.SettledPair.{SettledPair}
use Rattle.dual_bound.specs.Settled.{settled_on, with_pair}
use Rattle.dual_bound.specs.Shares.{thousand, term_share, share_of}
use Rattle.dual_bound.specs.Values.{least_share, plus, value_of, allows, are_allowed}
use Rattle.dual_bound.specs.Accepting.{is_narrow, shows, is_stopped, is_fork, after_line, first_of, failing_below, steps_on, load_of, most_load, is_light, failing}

abbrev Named : Type 0
Named = ℕ × Term

-- a term on other segments
abbrev pub moved_term : (SegId → SegId) → Term → Term
moved_term f (Side seg first second w) = Side (f seg) first second w
moved_term f (Link seg other flip a b w) = Link (f seg) (f other) flip a b w
moved_term f (Apart seg other a b w) = Apart (f seg) (f other) a b w

-- terms with other numbers on other segments
abbrev pub moved_terms : (SegId → SegId) → (ℕ → ℕ) → List Named → List Named
moved_terms f g terms = map (λ (q : Named). (g q.0, moved_term f q.1)) terms

-- settled pairs on other segments
abbrev moved_pairs : (SegId → SegId) → List SettledPair → List SettledPair
moved_pairs f settled = map (λ (p : SettledPair). record { seg = f p.seg; first = p.first; second = p.second }) settled

-- a number that some term has
abbrev pub has_number : List Named → ℕ → Bool
has_number terms k = list_any (λ (q : Named). q.0 == k) terms

-- the segments of a part, and the numbers of its terms, are told apart by their new numbers, and keep their lines
pub record AreRenamed (f : SegId → SegId) (g : ℕ → ℕ) (segs others : List (List LineId)) (part : List SegId) (terms : List Named) : Type 0 where
  pub lines : (s : SegId) → is_in part s ≡ true → lines_on others (f s) ≡ lines_on segs s
  pub apart : (s t : SegId) → is_in part s ≡ true → is_in part t ≡ true → ((f s).0 == (f t).0) ≡ (s.0 == t.0)
  pub numbers : (i j : ℕ) → has_number terms i ≡ true → has_number terms j ≡ true → (g i == g j) ≡ (i == j)
  pub within : AllByRecursion (λ (q : Named). is_of part q.1 ≡ true) terms

module _ (f : SegId → SegId) (g : ℕ → ℕ) (segs others : List (List LineId)) (part : List SegId) (terms : List Named) (same : AreRenamed f g segs others part terms) where
  -- ---- shares

  moved_share : (p : ℤ) (s : SegId) (order : List LineId) (t : Term) → is_in part s ≡ true → is_of part t ≡ true
      → term_share p (f s) order (moved_term f t) ≡ term_share p s order t
  moved_share p s order (Side seg first second w) on of =
      rw (same.apart seg s (and_parts (is_in part seg) (is_in part seg) of).0 on) refl
  moved_share p s order (Link seg other flip a b w) on of =
      let both = and_parts (is_in part seg) (is_in part other) of in
      rw (same.apart other s both.1 on, same.apart seg s both.0 on) refl
  moved_share p s order (Apart seg other a b w) on of =
      let both = and_parts (is_in part seg) (is_in part other) of in
      rw (same.apart other s both.1 on, same.apart seg s both.0 on) refl

  -- what is to be known of each of some terms
  abbrev AreKnown : List Named → Type 0
  AreKnown ts = AllByRecursion (λ (q : Named). (is_of part q.1 ≡ true) × (has_number terms q.0 ≡ true)) ts

  -- prices by which each of some terms has the price that it had
  abbrev AreSamePrices : (ℕ → ℤ) → (ℕ → ℤ) → List Named → Type 0
  AreSamePrices price other ts = AllByRecursion (λ (q : Named). other (g q.0) ≡ price q.0) ts

  moved_shares : (price other : ℕ → ℤ) (s : SegId) (order : List LineId) (ts : List Named) → is_in part s ≡ true
      → AreKnown ts → AreSamePrices price other ts
      → share_of (moved_terms f g ts) other (f s) order ≡ share_of ts price s order
  moved_shares price other s order [] on known prices = refl
  moved_shares price other s order (q ∷ ts) on known prices =
      let later = moved_shares price other s order ts on known.1 prices.1 in
      rw (prices.0, moved_share (price q.0) s order q.1 on known.0.0, later) refl

  -- ---- prices

  abbrev AreKnownPrices : List (ℕ × ℤ) → Type 0
  AreKnownPrices prices = AllByRecursion (λ (q : ℕ × ℤ). has_number terms q.0 ≡ true) prices

  moved_price : (prices : List (ℕ × ℤ)) (k : ℕ) → AreKnownPrices prices → has_number terms k ≡ true
      → price_at (prices_by g prices) (g k) ≡ price_at prices k
  moved_price [] k known of = refl
  moved_price (q ∷ prices) k known of = rw (same.numbers q.0 k known.0 of, moved_price prices k known.1 of) refl

  same_prices : (prices : List (ℕ × ℤ)) (ts : List Named) → AreKnownPrices prices → AreKnown ts
      → AreSamePrices (price_at prices) (price_at (prices_by g prices)) ts
  same_prices prices [] known all = tt
  same_prices prices (q ∷ ts) known all = (moved_price prices q.0 known all.0.1, same_prices prices ts known all.1)

  -- ---- values

  abbrev AreSettledIn : List SettledPair → Type 0
  AreSettledIn settled = AllByRecursion (λ (p : SettledPair). is_in part p.seg ≡ true) settled

  abbrev AreIn : List SegId → Type 0
  AreIn some = AllByRecursion (λ (s : SegId). is_in part s ≡ true) some

  abbrev pair_lines : SettledPair → LineId × LineId
  pair_lines p = (p.first, p.second)

  moved_settled : (settled : List SettledPair) (s : SegId) → AreSettledIn settled → is_in part s ≡ true
      → settled_on (moved_pairs f settled) (f s) ≡ settled_on settled s
  moved_settled [] s in_part on = refl
  moved_settled (p ∷ settled) s in_part on =
      ap (λ (b : Bool). map pair_lines (cond b (record { seg = f p.seg; first = p.first; second = p.second } ∷ rest_moved) rest_moved)) (same.apart p.seg s in_part.0 on)
      ∙ by (p.seg.0 == s.0) (moved_settled settled s in_part.1 on)
    where
      rest_moved : List SettledPair
      rest_moved = filter (λ (q : SettledPair). q.seg.0 == (f s).0) (moved_pairs f settled)

      rest : List SettledPair
      rest = filter (λ (q : SettledPair). q.seg.0 == s.0) settled

      by : (b : Bool) → map pair_lines rest_moved ≡ map pair_lines rest
          → map pair_lines (cond b (record { seg = f p.seg; first = p.first; second = p.second } ∷ rest_moved) rest_moved) ≡ map pair_lines (cond b (p ∷ rest) rest)
      by true later = ap (λ (ls : List (LineId × LineId)). (p.first, p.second) ∷ ls) later
      by false later = later

  moved_least : (price other : ℕ → ℤ) (settled : List SettledPair) (s : SegId) → is_in part s ≡ true → AreKnown terms
      → AreSamePrices price other terms → AreSettledIn settled
      → least_share others (moved_terms f g terms) other (moved_pairs f settled) (f s) ≡ least_share segs terms price settled s
  moved_least price other settled s on known prices in_part =
      let shares : (λ (order : List LineId). share_of (moved_terms f g terms) other (f s) order) ≡ (λ (order : List LineId). share_of terms price s order) =
      fun_ext (λ order. moved_shares price other s order terms on known prices) in
      ap (λ (share : List LineId → ℤ). least_value share (kept_orders (settled_on (moved_pairs f settled) (f s)) (lines_on others (f s)))) shares
      ∙ ap (λ (pairs : List (LineId × LineId)). least_value (share_of terms price s) (kept_orders pairs (lines_on others (f s)))) (moved_settled settled s in_part on)
      ∙ ap (λ (lines : List LineId). least_value (share_of terms price s) (kept_orders (settled_on settled s) lines)) (same.lines s on)

  moved_value : (price other : ℕ → ℤ) (settled : List SettledPair) (some : List SegId) → AreIn some → AreKnown terms
      → AreSamePrices price other terms → AreSettledIn settled
      → value_of others (moved_terms f g terms) other (moved_pairs f settled) (map f some) ≡ value_of segs terms price settled some
  moved_value price other settled [] on known prices in_part = refl
  moved_value price other settled (s ∷ some) on known prices in_part =
      ap (λ (v : Option ℤ). plus v (value_of others (moved_terms f g terms) other (moved_pairs f settled) (map f some))) (moved_least price other settled s on.0 known prices in_part)
      ∙ ap (plus (least_share segs terms price settled s)) (moved_value price other settled some on.1 known prices in_part)

  -- ---- what holds of a stop and of a fork

  moved_allows : (q : ℕ × ℤ) (t : Named) → has_number terms q.0 ≡ true → has_number terms t.0 ≡ true
      → allows (g q.0, q.1) (g t.0, moved_term f t.1) ≡ allows q t
  moved_allows q (k, Side seg first second w) known of = refl
  moved_allows q (k, Link seg other flip a b w) known of = ap (λ (c : Bool). c && nat_le (unsigned_abs q.1) (thousand * w)) (same.numbers k q.0 of known)
  moved_allows q (k, Apart seg other a b w) known of = ap (λ (c : Bool). c && nat_le (unsigned_abs q.1) (thousand * w)) (same.numbers k q.0 of known)

  moved_any : (q : ℕ × ℤ) (ts : List Named) → has_number terms q.0 ≡ true → AreKnown ts
      → list_any (allows (g q.0, q.1)) (moved_terms f g ts) ≡ list_any (allows q) ts
  moved_any q [] known all = refl
  moved_any q (t ∷ ts) known all = rw (moved_allows q t known all.0.1, moved_any q ts known all.1) refl

  moved_allowed : (prices : List (ℕ × ℤ)) → AreKnownPrices prices → AreKnown terms
      → are_allowed (moved_terms f g terms) (prices_by g prices) ≡ are_allowed terms prices
  moved_allowed [] known all = refl
  moved_allowed (q ∷ prices) known all = rw (moved_any q terms known.0 all, moved_allowed prices known.1 all) refl

  -- the terms of allowed prices are known
  allows_number : (q : ℕ × ℤ) (t : Named) → allows q t ≡ true → (t.0 == q.0) ≡ true
  allows_number q (k, Side seg first second w) h = absurd (true≢false (sym h))
  allows_number q (k, Link seg other flip a b w) h = (and_parts (k == q.0) (nat_le (unsigned_abs q.1) (thousand * w)) h).0
  allows_number q (k, Apart seg other a b w) h = (and_parts (k == q.0) (nat_le (unsigned_abs q.1) (thousand * w)) h).0

  any_number : (q : ℕ × ℤ) (ts : List Named) → list_any (allows q) ts ≡ true → has_number ts q.0 ≡ true
  any_number q [] h = h
  any_number q (t ∷ ts) h = elim (either_true (allows q t) (list_any (allows q) ts) h) [
    | inl here ↦ or_left (t.0 == q.0) (has_number ts q.0) (allows_number q t here)
    | inr later ↦ or_right (t.0 == q.0) (has_number ts q.0) (any_number q ts later)
  ]

  known_prices : (prices : List (ℕ × ℤ)) → are_allowed terms prices ≡ true → AreKnownPrices prices
  known_prices [] h = tt
  known_prices (q ∷ prices) h =
      let both = and_parts (list_any (allows q) terms) (are_allowed terms prices) h in
      (any_number q terms both.0, known_prices prices both.1)

  moved_narrow : (some : List SegId) → AreIn some → is_narrow others (map f some) ≡ is_narrow segs some
  moved_narrow [] on = refl
  moved_narrow (s ∷ some) on = rw (same.lines s on.0, moved_narrow some on.1) refl

  moved_in : (some : List SegId) (s : SegId) → AreIn some → is_in part s ≡ true
      → is_in (map f some) (f s) ≡ is_in some s
  moved_in [] s on in_part = refl
  moved_in (t ∷ some) s on in_part = rw (same.apart t s on.0 in_part, moved_in some s on.1 in_part) refl

  module _ (target : ℕ) (all : AreIn part) (known : AreKnown terms) where
    abbrev Q : Question
    Q = question segs part terms target

    abbrev R : Question
    R = question others (map f part) (moved_terms f g terms) target

    stop_holds : (settled : List SettledPair) (prices : List (ℕ × ℤ)) → AreSettledIn settled
        → is_stopped Q settled prices ≡ true → is_stopped R (moved_pairs f settled) (prices_by g prices) ≡ true
    stop_holds settled prices in_part h =
        let value : Option ℤ = value_of segs terms (price_at prices) settled part in
        let both = and_parts (are_allowed terms prices) (is_narrow segs part && shows target value) h in
        let rest = and_parts (is_narrow segs part) (shows target value) both.1 in
        let of = known_prices prices both.0 in
        let there = moved_value (price_at prices) (price_at (prices_by g prices)) settled part all known
        (same_prices prices terms of known) in_part in
        and_from _ _ (moved_allowed prices of known ∙ both.0)
        (and_from _ _ (moved_narrow part all ∙ rest.0) (ap (shows target) there ∙ rest.1))

    fork_in : (s : SegId) (a b : LineId) → is_fork Q s a b ≡ true → is_in part s ≡ true
    fork_in s a b h = (and_parts (is_in part s) (has_line (lines_on segs s) a && (has_line (lines_on segs s) b && not (a.0 == b.0))) h).0

    fork_holds : (s : SegId) (a b : LineId) → is_fork Q s a b ≡ true → is_fork R (f s) a b ≡ true
    fork_holds s a b h =
        let on = fork_in s a b h in rw (moved_in part s all on, same.lines s on) h

    some_way : (ls : List LineId) → Some ls ≡ None → ⊥
    some_way ls h = cc

    chosen : (b : Bool) (o : Option (List LineId)) → cond b o (Some []) ≡ None → (b ≡ true) × (o ≡ None)
    chosen true o h = (refl, h)
    chosen false o h = absurd (some_way [] h)

    taken : (b : Bool) (o : Option (List LineId)) → b ≡ true → o ≡ None → cond b o (Some []) ≡ None
    taken true o h e = e
    taken false o h e = absurd (true≢false (sym h))

    none_of : (a : LineId) (o other : Option (List LineId)) → first_of (after_line a o) other ≡ None
        → (o ≡ None) × (other ≡ None)
    none_of a None other h = (refl, h)
    none_of a (Some ls) other h = absurd (some_way (a ∷ ls) h)

    none_after : (a : LineId) (o : Option (List LineId)) → after_line a o ≡ None → o ≡ None
    none_after a None h = refl
    none_after a (Some ls) h = absurd (some_way (a ∷ ls) h)

    none_both : (a b : LineId) (o other : Option (List LineId)) → o ≡ None → other ≡ None
        → first_of (after_line a o) (after_line b other) ≡ None
    none_both a b o other e h = rw (e, h) refl

    none_below : (tree : PlainDual) (settled : List SettledPair) → AreSettledIn settled
        → failing_below Q settled tree ≡ None
        → failing_below R (moved_pairs f settled) (dual_by f g tree) ≡ None
    none_below (stop prices) settled in_part h =
        let is = chosen (is_stopped Q settled prices) None h in
        taken (is_stopped R (moved_pairs f settled) (prices_by g prices)) None (stop_holds settled prices in_part is.0) refl
    none_below (fork s a b first second) settled in_part h =
        let one : Option (List LineId) = failing_below Q (with_pair s a b settled) first in
        let two : Option (List LineId) = failing_below Q (with_pair s b a settled) second in
        let is = chosen (is_fork Q s a b) (first_of (after_line a one) (after_line b two)) h in
        let on = fork_in s a b is.0 in
        let parts = none_of a one (after_line b two) is.1 in
        taken (is_fork R (f s) a b)
        (first_of (after_line a (failing_below R (with_pair (f s) a b (moved_pairs f settled)) (dual_by f g first))) (after_line b (failing_below R (with_pair (f s) b a (moved_pairs f settled)) (dual_by f g second))))
        (fork_holds s a b is.0)
        (none_both a b (failing_below R (with_pair (f s) a b (moved_pairs f settled)) (dual_by f g first)) (failing_below R (with_pair (f s) b a (moved_pairs f settled)) (dual_by f g second))
        (none_below first (with_pair s a b settled) (on, in_part) parts.0)
        (none_below second (with_pair s b a settled) (on, in_part) (none_after b two parts.1)))

    -- the load stays

    moved_stops : (tree : PlainDual) → stops_of (dual_by f g tree) ≡ stops_of tree
    moved_stops (fork s a b first second) = rw (moved_stops first, moved_stops second) refl
    moved_stops (stop prices) = refl

    moved_steps : (some : List SegId) → AreIn some → sum_by (steps_on others) (map f some) ≡ sum_by (steps_on segs) some
    moved_steps [] on = refl
    moved_steps (s ∷ some) on =
        sum_by-cons (steps_on others) (f s) (map f some)
        ∙ ap (λ (lines : List LineId). length lines * length lines * 2 ^ length lines + sum_by (steps_on others) (map f some)) (same.lines s on.0)
        ∙ ap (λ (n : ℕ). steps_on segs s + n) (moved_steps some on.1)
        ∙ sym (sum_by-cons (steps_on segs) s some)

    moved_light : (tree : PlainDual) → is_light R (dual_by f g tree) ≡ is_light Q tree
    moved_light tree =
        ap (λ (n : ℕ). nat_le (n * load_of others (map f part)) most_load) (moved_stops tree)
        ∙ ap (λ (n : ℕ). nat_le (stops_of tree * ((n + 999999) / 1000000)) most_load) (moved_steps part all)

    pub accepted_moved : (tree : PlainDual) → failing Q tree ≡ None → failing R (dual_by f g tree) ≡ None
    accepted_moved tree h =
        let is = chosen (is_light Q tree) (failing_below Q [] tree) h in
        taken (is_light R (dual_by f g tree)) (failing_below R [] (dual_by f g tree)) (moved_light tree ∙ is.0) (none_below tree [] tt is.1)

    -- where the new numbers of terms rise as the old ones did, they rise at each stop

    abbrev KeepRising : Type 0
    KeepRising = (prices : List (ℕ × ℤ)) → AreKnownPrices prices → AreRisingPrices prices → AreRisingPrices (prices_by g prices)

    not_zero : (prices : List (ℕ × ℤ)) → AllByRecursion (λ (q : ℕ × ℤ). q.1 ≢ pos 0) prices
        → AreNotZero (prices_by g prices)
    not_zero [] h = tt
    not_zero (q ∷ prices) h = (h.0, not_zero prices h.1)

    listed_below : KeepRising → (tree : PlainDual) (settled : List SettledPair) → failing_below Q settled tree ≡ None
        → IsListed tree → IsDualTree (dual_by f g tree)
    listed_below rise (stop prices) settled h listed =
        let is = chosen (is_stopped Q settled prices) None h in
        let both = and_parts (are_allowed terms prices) (is_narrow segs part && shows target (value_of segs terms (price_at prices) settled part)) is.0 in
        (rise prices (known_prices prices both.0) listed.0, not_zero prices listed.1)
    listed_below rise (fork s a b first second) settled h listed =
        let one : Option (List LineId) = failing_below Q (with_pair s a b settled) first in
        let two : Option (List LineId) = failing_below Q (with_pair s b a settled) second in
        let is = chosen (is_fork Q s a b) (first_of (after_line a one) (after_line b two)) h in
        let parts = none_of a one (after_line b two) is.1 in (
          listed_below rise first (with_pair s a b settled) parts.0 listed.0,
          listed_below rise second (with_pair s b a settled) (none_after b two parts.1) listed.1,
        )

    pub listed_moved : KeepRising → (tree : PlainDual) → failing Q tree ≡ None → IsListed tree
        → IsDualTree (dual_by f g tree)
    listed_moved rise tree h listed = listed_below rise tree [] (chosen (is_light Q tree) (failing_below Q [] tree) h).1 listed

-- new numbers change no depth
pub moved_depth : (f : SegId → SegId) (g : ℕ → ℕ) (tree : PlainDual) → fork_depth (dual_by f g tree) ≡ fork_depth tree
moved_depth f g (fork s a b first second) = rw (moved_depth f g first, moved_depth f g second) refl
moved_depth f g (stop prices) = refl
