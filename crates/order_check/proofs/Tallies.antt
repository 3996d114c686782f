-- The tally of a part's terms, once those that a placing may change are taken off or put on, and where lines are placed.
use Rattle.std.proofs.Common.{◌≡◌, ℕ, ◌+◌, ◌-◌, ◌*◌, ◌<◌, ◌≤◌, ◌++◌, append-nil, Bool, true, false, cond, List, [], length, map, set, get_or, refl, sym, ◌∙◌, ap, arith, Some, None}
use Rattle.std.specs.Prelude.{ℤ, pos, ◌+ℤ◌, unsigned_abs, position}
use Rattle.std.specs.List.{sum_by, Contains}
use Rattle.std.proofs.lemmas.Int.{ints}
use Rattle.map_base.specs.declared.ids.SegId.{SegId}
use Rattle.map_base.specs.declared.ids.LineId.{LineId}
use Rattle.order_model.specs.declared.term.Term.{Term}
use Rattle.order_model.specs.Problems.{lines_on, IsTerm}
use Rattle.order_model.specs.Prefixes.{is_placed, with_line, ArePlacedLines}
use Rattle.order_bound.specs.Decided.{decided_cost, decided_sum}
use Rattle.whole_sums.specs.Sums.{int_sum}
use Rattle.whole_sums.proofs.Sums.{int_sum_equal, int_sum_pos}
use Rattle.order_check.specs.declared.slot.PartTerm.{PartTerm}
use Rattle.order_check.specs.declared.slot.SlotCost.{SlotCost}
use Rattle.order_check.specs.declared.slot.Charges.{Charges}
use Rattle.order_check.specs.declared.slot.Sums.{Sums}
use Rattle.order_check.specs.declared.spot.Spot.{Spot}
use Rattle.order_check.specs.declared.spot.SpotTerm.{SpotTerm}
use Rattle.order_check.specs.declared.placing.Placing.{Placing}
use Rattle.order_check.specs.declared.picking.Pick.{Pick}
use Rattle.order_check.specs.declared.asked.Asked.{Asked}
use Rattle.order_check.specs.Asking.{IsAsked}
use Rattle.order_check.specs.Slots.{plain_term, cost_at, charge_on}
use Rattle.order_check.specs.Charging.{no_part_term}
use Rattle.order_check.specs.Spots.{is_spot, term_lists, terms_at}
use Rattle.order_check.specs.Placings.{placing_of, picked_of, changes, picked_terms, changed_terms}
use Rattle.order_check.specs.Counting.{added_by, decided_of, shifted, least_sum, AreSmallCosts, AreThose, ArePicked, IsTally, IsTallyWithout}
use Rattle.order_check.proofs.SignedSums.{sums_by_place}
use Rattle.order_check.proofs.Charging.{decided_is}
use Rattle.order_check.proofs.Closing.{table_fits, table_few}
use Rattle.order_check.proofs.Counting.{counted_by, beside_by, decided_by, decided_beside, terms_small, sums_parted, decided_parts, decided_table, small_decided, changed_are, picked_of_spot}
use Rattle.order_check.proofs.Leasts.{same_least}
use Rattle.order_check.proofs.SpotLists.{listed_at, listed_none}
use Rattle.order_check.proofs.Placings.{same_charges}

-- what picked terms cost where they are decided
those_decided : (picks : Term → Bool) (asked : Asked) (some : List PartTerm) (placed : List (List LineId)) → AreThose picks asked some
    → sum_by (decided_of asked.problem.now.segs placed) some ≡ sum_by (decided_by picks asked.problem.now.segs placed) asked.table.now.terms.items
those_decided picks asked some placed those =
    let segs : List (List LineId) = asked.problem.now.segs in
    let table : List PartTerm = asked.table.now.terms.items in
    let whole = those.sums (λ t. pos (decided_of segs placed t)) in
    let same = int_sum_equal (λ (t : PartTerm). cond (picks t.term) (pos (decided_of segs placed t)) (pos 0)) (λ (t : PartTerm). pos (decided_by picks segs placed t)) table (λ t. by_test t (picks t.term)) in
    omega (arith, ints, whole ∙ same, int_sum_pos (decided_of segs placed) some, int_sum_pos (decided_by picks segs placed) table)
  where
    by_test : (t : PartTerm) (b : Bool) → cond b (pos (decided_of asked.problem.now.segs placed t)) (pos 0) ≡ pos (cond b (decided_of asked.problem.now.segs placed t) 0)
    by_test t true = refl
    by_test t false = refl

-- The tally stays small.

pub tally_small : (asked : Asked) (placed : List (List LineId)) (sums : Sums) (costs : List SlotCost) → IsAsked asked → IsTally asked placed sums costs → AreSmallCosts costs
tally_small asked placed sums costs ok tally k x below =
    rw (tally.slots k below x) (omega (arith, terms_small asked.problem.now.segs placed asked.table.now.terms.items k x (table_fits asked ok), table_few asked ok))

-- a number that is small with another one that is
less_small : (a b c : ℤ) (m n : ℕ) → a +ℤ b ≡ c → unsigned_abs b ≤ m → unsigned_abs c ≤ n → unsigned_abs a ≤ m + n
less_small a b c m n e p q = omega (arith, ints, e, p, q)

pub without_small : (some : List PartTerm) (asked : Asked) (placed : List (List LineId)) (sums : Sums) (costs : List SlotCost) → IsAsked asked → ArePicked asked some
    → IsTallyWithout some asked placed sums costs → (k : ℕ) (x : Bool) → k < length costs → unsigned_abs (cost_at costs k x) ≤ 8192000000000
without_small some asked placed sums costs ok picked tally k x below =
    let segs : List (List LineId) = asked.problem.now.segs in
    let table : List PartTerm = asked.table.now.terms.items in
    let most = less_small (cost_at costs k x) (int_sum (added_by segs placed k x) some) (int_sum (added_by segs placed k x) table) (256000 * length some) (256000 * length table) (tally.slots k below x)
    (terms_small segs placed some k x picked.1.fits) (terms_small segs placed table k x (table_fits asked ok)) in
    omega (arith, most, picked.1.few, table_few asked ok)

pub without_decided : (some : List PartTerm) (asked : Asked) (placed : List (List LineId)) (sums : Sums) (costs : List SlotCost) → IsAsked asked → IsTallyWithout some asked placed sums costs
    → sums.decided ≤ 1024000000000
without_decided some asked placed sums costs ok tally =
    omega (
      arith,
      tally.decided,
      decided_table asked.problem.now.segs placed asked.table.now.terms.items,
      small_decided asked.problem.now.segs placed asked.table.now.terms.items (table_fits asked ok),
      table_few asked ok,
    )

-- Terms are taken off or put on.

-- what counting does to a table
abbrev pub AreShifted : List PartTerm → Asked → List (List LineId) → Bool → List SlotCost → List SlotCost → Type 0
AreShifted some asked placed off old new = (k : ℕ) → k < length old → (x : Bool)
    → cost_at new k x ≡ shifted off (cost_at old k x) (int_sum (added_by asked.problem.now.segs placed k x) some)

-- what some terms cost is no more than what all do
pub picked_decided : (asked : Asked) (some : List PartTerm) (placed : List (List LineId)) → ArePicked asked some
    → sum_by (decided_of asked.problem.now.segs placed) some ≤ decided_sum asked.problem.now.segs placed (map plain_term asked.table.now.terms.items)
picked_decided asked some placed picked =
    let segs : List (List LineId) = asked.problem.now.segs in
    let table : List PartTerm = asked.table.now.terms.items in
    omega (arith, decided_parts picked.0 segs placed table, those_decided picked.0 asked some placed picked.1)

pub taken_off : (some : List PartTerm) (asked : Asked) (placed : List (List LineId)) (sums removed left : Sums) (old new : List SlotCost) → ArePicked asked some → IsTally asked placed sums old
    → length new ≡ length old → removed.decided ≡ sum_by (decided_of asked.problem.now.segs placed) some → AreShifted some asked placed true old new
    → left.decided ≡ sums.decided - removed.decided → left.least ≡ least_sum new → IsTallyWithout some asked placed left new
taken_off some asked placed sums removed left old new picked tally each count shift is least = record {
  decided = omega (arith, is, count, tally.decided, picked_decided asked some placed picked);
  slots = λ k below x.
      (let under : k < length old = omega (arith, below, each) in
      let before = tally.slots k under x in
      let after = shift k under x in
      omega (arith, ints, before, after));
  least = least;
}

pub put_back : (some : List PartTerm) (asked : Asked) (placed : List (List LineId)) (sums added all : Sums) (old new : List SlotCost) → IsTallyWithout some asked placed sums old
    → length new ≡ length old → added.decided ≡ sum_by (decided_of asked.problem.now.segs placed) some → AreShifted some asked placed false old new
    → all.decided ≡ sums.decided + added.decided → all.least ≡ least_sum new → IsTally asked placed all new
put_back some asked placed sums added all old new tally each count shift is least = record {
  decided = omega (arith, is, count, tally.decided);
  slots = λ k below x.
      (let under : k < length old = omega (arith, below, each) in
      let before = tally.slots k under x in
      let after = shift k under x in
      omega (arith, ints, before, after));
  least = least;
}

-- the tally of a prefix, where the table has other costs that are the same
pub tally_stays : (asked : Asked) (placed : List (List LineId)) (sums : Sums) (old new : List SlotCost) → IsTally asked placed sums old → length new ≡ length old
    → ((k : ℕ) → k < length old → (x : Bool) → cost_at new k x ≡ cost_at old k x) → IsTally asked placed sums new
tally_stays asked placed sums old new tally each same = record {
  decided = tally.decided;
  slots = λ k below x. (let under : k < length old = omega (arith, below, each) in same k under x ∙ tally.slots k under x);
  least = tally.least ∙ sym (same_least new old each (λ k below x. same k (omega (arith, below, each)) x));
}

-- The tally of all terms, counted over an empty table.
pub tally_first : (asked : Asked) (placed : List (List LineId)) (sums : Sums) (clear costs : List SlotCost) → length costs ≡ length clear → ((k : ℕ) (x : Bool) → cost_at clear k x ≡ pos 0)
    → sums.decided ≡ sum_by (decided_of asked.problem.now.segs placed) asked.table.now.terms.items → sums.least ≡ least_sum costs
    → AreShifted asked.table.now.terms.items asked placed false clear costs → IsTally asked placed sums costs
tally_first asked placed sums clear costs each none decided least shift = record {
  decided = decided ∙ sym (decided_table asked.problem.now.segs placed asked.table.now.terms.items);
  slots = λ k below x. shift k (omega (arith, below, each)) x ∙ from_none (cost_at clear k x) (int_sum (added_by asked.problem.now.segs placed k x) asked.table.now.terms.items) (none k x);
  least = least;
}
  where
    from_none : (a v : ℤ) → a ≡ pos 0 → a +ℤ v ≡ v
    from_none a v e = omega (arith, ints, e)

-- Terms are picked spot by spot.

-- the terms that a spot lists
pub spot_list : (asked : Asked) (ok : IsAsked asked) (u : Spot) (k : ℕ) (list : List SpotTerm) → position (is_spot u) asked.table.now.spots.spots.keys ≡ Some k
    → list ≡ get_or (term_lists asked.table.now.spots.lists.items) k [] → list ≡ terms_at u 0 asked.table.now.terms.items
spot_list asked ok u k list found is =
    is ∙ sym (listed_at asked.table.now.spots.spots.keys (term_lists asked.table.now.spots.lists.items) u k ok.spots.each found) ∙ ok.spots.at u

-- a spot that lists none
pub spot_none : (asked : Asked) (ok : IsAsked asked) (u : Spot) → position (is_spot u) asked.table.now.spots.spots.keys ≡ None
    → terms_at u 0 asked.table.now.terms.items ≡ []
spot_none asked ok u none = sym (ok.spots.at u) ∙ listed_none asked.table.now.spots.spots.keys (term_lists asked.table.now.spots.lists.items) u ok.spots.each none

-- what a pick picks there, and where a spot lists none
pub picked_at_spot : (asked : Asked) (c : Pick) (lines placed : List LineId) (old list : List PartTerm) (some : List SpotTerm) → some ≡ terms_at c.spot 0 asked.table.now.terms.items
    → list ≡ old ++ picked_of c lines placed asked.table.now.terms.items some → list ≡ old ++ picked_terms c lines placed asked.table.now.terms.items
picked_at_spot asked c lines placed old list some listed added =
    added ∙ ap (λ l. old ++ picked_of c lines placed asked.table.now.terms.items l) listed ∙ ap (λ l. old ++ l) (picked_of_spot c lines placed asked.table.now.terms.items)

pub picked_nowhere : (asked : Asked) (c : Pick) (lines placed : List LineId) (old : List PartTerm) → IsAsked asked → position (is_spot c.spot) asked.table.now.spots.spots.keys ≡ None
    → old ≡ old ++ picked_terms c lines placed asked.table.now.terms.items
picked_nowhere asked c lines placed old ok none =
    picked_at_spot asked c lines placed old old [] (sym (spot_none asked ok c.spot none)) (sym (append-nil old))

-- Lines are placed on one segment.

module _ (s : SegId) (a : LineId) (asked : Asked) (placed after : List (List LineId)) (ok : IsAsked asked) (below : s.0 < length placed)
    (fits : ArePlacedLines (lines_on asked.problem.now.segs s) (lines_on placed s)) (on : Contains (lines_on asked.problem.now.segs s) a) (free : is_placed (lines_on placed s) a ≡ false)
    (is : after ≡ set placed s.0 (with_line (lines_on asked.problem.now.segs s) (lines_on placed s) a)) where
  abbrev pub segs : List (List LineId)
  segs = asked.problem.now.segs

  abbrev pub table : List PartTerm
  table = asked.table.now.terms.items

  abbrev pub changed : Term → Bool
  changed = changes (placing_of asked.problem.now.segs placed s a) (lines_on asked.problem.now.segs s) (lines_on placed s)

  -- what is not changed adds and costs the same once the line is placed
  beside_same : (t : PartTerm) → IsTerm asked.problem.now.segs t.term → (k : ℕ) (x : Bool) → beside_by changed segs placed k x t ≡ beside_by changed segs after k x t
  beside_same t term k x = by_test (changed t.term) refl
    where
      by_test : (b : Bool) → changed t.term ≡ b → cond b (pos 0) (added_by asked.problem.now.segs placed k x t) ≡ cond b (pos 0) (added_by asked.problem.now.segs after k x t)
      by_test true e = refl
      by_test false e =
          ap (λ (c : Charges). charge_on c.here k x +ℤ charge_on c.there k x)
          (sym (same_charges asked.problem.now.segs placed after s a t.term t.here t.there (pos 0) below fits on free is term e))

  decided_same : (t : PartTerm) → IsTerm asked.problem.now.segs t.term → decided_beside changed segs placed t ≡ decided_beside changed segs after t
  decided_same t term = by_test (changed t.term) refl
    where
      by_test : (b : Bool) → changed t.term ≡ b → cond b 0 (decided_cost asked.problem.now.segs placed t.term) ≡ cond b 0 (decided_cost asked.problem.now.segs after t.term)
      by_test true e = refl
      by_test false e =
          sym (decided_is asked.problem.now.segs placed t.term t.here t.there (pos 0))
          ∙ ap (λ (c : Charges). c.decided) (sym (same_charges asked.problem.now.segs placed after s a t.term t.here t.there (pos 0) below fits on free is term e))
          ∙ decided_is asked.problem.now.segs after t.term t.here t.there (pos 0)

  sums_same : (k : ℕ) (x : Bool) → int_sum (beside_by changed segs placed k x) table ≡ int_sum (beside_by changed segs after k x) table
  sums_same k x =
      sums_by_place (beside_by changed segs placed k x) (beside_by changed segs after k x) table table no_part_term no_part_term refl
      (λ i h. beside_same (get_or table i no_part_term) (table_fits asked ok i no_part_term h) k x)

  decided_all : sum_by (decided_beside changed segs placed) table ≡ sum_by (decided_beside changed segs after) table
  decided_all =
      let whole = sums_by_place (λ t. pos (decided_beside changed segs placed t)) (λ t. pos (decided_beside changed segs after t)) table table no_part_term no_part_term refl
      (λ i h. ap pos (decided_same (get_or table i no_part_term) (table_fits asked ok i no_part_term h))) in
      omega (arith, ints, whole, int_sum_pos (decided_beside changed segs placed) table, int_sum_pos (decided_beside changed segs after) table)

  -- the tally of the others stays where the line is placed
  pub without_placed : (some : List PartTerm) (sums : Sums) (costs : List SlotCost) → AreThose changed asked some → IsTallyWithout some asked placed sums costs → IsTallyWithout some asked after sums costs
  without_placed some sums costs those tally = record {
    decided = omega (arith, tally.decided, decided_all, decided_parts changed segs placed table, decided_parts changed segs after table, those_decided changed asked some placed those, those_decided changed asked some after those);
    slots = λ k under x.
        (let parts = sums_parted changed segs placed table k x in
        let parts_after = sums_parted changed segs after table k x in
        let picked : int_sum (added_by segs placed k x) some ≡ int_sum (counted_by changed segs placed k x) table = those.sums (added_by segs placed k x) in
        let picked_after : int_sum (added_by segs after k x) some ≡ int_sum (counted_by changed segs after k x) table = those.sums (added_by segs after k x) in
        omega (arith, ints, tally.slots k under x, sums_same k x, parts, parts_after, picked, picked_after));
    least = tally.least;
  }

  -- and where it is taken back
  pub without_back : (some : List PartTerm) (sums : Sums) (costs : List SlotCost) → AreThose changed asked some → IsTallyWithout some asked after sums costs → IsTallyWithout some asked placed sums costs
  without_back some sums costs those tally = record {
    decided = omega (arith, tally.decided, decided_all, decided_parts changed segs placed table, decided_parts changed segs after table, those_decided changed asked some placed those, those_decided changed asked some after those);
    slots = λ k under x.
        (let parts = sums_parted changed segs placed table k x in
        let parts_after = sums_parted changed segs after table k x in
        let picked : int_sum (added_by segs placed k x) some ≡ int_sum (counted_by changed segs placed k x) table = those.sums (added_by segs placed k x) in
        let picked_after : int_sum (added_by segs after k x) some ≡ int_sum (counted_by changed segs after k x) table = those.sums (added_by segs after k x) in
        omega (arith, ints, tally.slots k under x, sums_same k x, parts, parts_after, picked, picked_after));
    least = tally.least;
  }

-- the terms that are picked for a placing are those that it may change
pub case_those : (asked : Asked) (placed : List (List LineId)) (s : SegId) (a : LineId) (p : Placing) (some items : List PartTerm) → IsAsked asked → p ≡ placing_of asked.problem.now.segs placed s a
    → items ≡ changed_terms p (lines_on asked.problem.now.segs p.seg) (lines_on placed p.seg) asked.table.now.terms.items → some ≡ items
    → AreThose (changes (placing_of asked.problem.now.segs placed s a) (lines_on asked.problem.now.segs s) (lines_on placed s)) asked some
case_those asked placed s a p some items ok made picked same =
    changed_are (placing_of asked.problem.now.segs placed s a) (lines_on asked.problem.now.segs s) (lines_on placed s) asked some (table_fits asked ok) (table_few asked ok)
    (same ∙ picked ∙ ap (λ (q : Placing). changed_terms q (lines_on asked.problem.now.segs q.seg) (lines_on placed q.seg) asked.table.now.terms.items) made)
