-- Prices are spread over the tally, and taken off again.
use Rattle.std.proofs.Common.{◌≡◌, ℕ, ◌<◌, ◌≤◌, Bool, true, false, List, length, take, sym, ◌∙◌, ap, subst, arith}
use Rattle.std.specs.Prelude.{ℤ, pos, ◌+ℤ◌, int_le, unsigned_abs}
use Rattle.std.proofs.lemmas.Int.{ints}
use Rattle.std.proofs.lemmas.List.{take_all}
use Rattle.map_base.specs.declared.ids.LineId.{LineId}
use Rattle.order_bound.specs.Accepting.{is_closed}
use Rattle.whole_sums.specs.Sums.{int_sum}
use Rattle.order_check.specs.declared.slot.PartTerm.{PartTerm}
use Rattle.order_check.specs.declared.slot.SlotCost.{SlotCost}
use Rattle.order_check.specs.declared.slot.Sums.{Sums}
use Rattle.order_check.specs.declared.asked.Asked.{Asked}
use Rattle.order_check.specs.Asking.{question_of, IsAsked, HasTable}
use Rattle.order_check.specs.Slots.{cost_at}
use Rattle.order_check.specs.Counting.{shifted, least_sum, IsTally}
use Rattle.order_check.specs.Pricing.{price_on, ArePriced, AreSmallPrices}
use Rattle.order_check.proofs.Closing.{closed_by_costs}
use Rattle.order_check.proofs.Counting.{shifted_small}
use Rattle.order_check.proofs.Tallies.{tally_small, tally_stays}

-- what prices do to a table
abbrev pub ArePricesOn : List PartTerm → List (ℕ × ℤ) → Bool → List SlotCost → List SlotCost → Type 0
ArePricesOn table prices off old new = (k : ℕ) → k < length old → (x : Bool) → cost_at new k x ≡ shifted off (cost_at old k x) (int_sum (price_on table k x) prices)

-- the same of the terms and prices as they are read
pub read_on : (read items : List PartTerm) (list prices : List (ℕ × ℤ)) (off : Bool) (old new : List SlotCost) → read ≡ items → list ≡ prices → ArePricesOn read list off old new
    → ArePricesOn items prices off old new
read_on read items list prices off old new terms qs on = subst (λ ts. ArePricesOn ts prices off old new) terms (subst (λ l. ArePricesOn read l off old new) qs on)

pub read_priced : (segs placed : List (List LineId)) (read items : List PartTerm) (list prices : List (ℕ × ℤ)) → read ≡ items → list ≡ prices → ArePriced segs placed read list
    → ArePriced segs placed items prices
read_priced segs placed read items list prices terms qs priced = subst (λ ts. ArePriced segs placed ts prices) terms (subst (λ l. ArePriced segs placed read l) qs priced)

pub read_small : (read items : List PartTerm) (list prices : List (ℕ × ℤ)) → read ≡ items → list ≡ prices → AreSmallPrices read list (length list) → (k : ℕ) (x : Bool)
    → unsigned_abs (int_sum (price_on items k x) prices) ≤ 2048000000000
read_small read items list prices terms qs small k x =
    let all : take (length list) list ≡ list = take_all (length list) list (omega arith) in
    subst (λ ts. unsigned_abs (int_sum (price_on ts k x) prices) ≤ 2048000000000) terms
    (subst (λ l. unsigned_abs (int_sum (price_on read k x) l) ≤ 2048000000000) (all ∙ qs) (small.sums (length list) (omega arith) k x))

-- the table stays small
pub spread_small : (asked : Asked) (placed : List (List LineId)) (sums : Sums) (prices : List (ℕ × ℤ)) (old new : List SlotCost) → IsAsked asked → IsTally asked placed sums old
    → ((k : ℕ) (x : Bool) → unsigned_abs (int_sum (price_on asked.table.now.terms.items k x) prices) ≤ 2048000000000) → length new ≡ length old → ArePricesOn asked.table.now.terms.items prices false old new
    → (k : ℕ) (x : Bool) → k < length new → unsigned_abs (cost_at new k x) ≤ 3072000000000
spread_small asked placed sums prices old new ok tally small each on k x below =
    let under : k < length old = omega (arith, below, each) in
    let most = shifted_small false (cost_at old k x) (int_sum (price_on asked.table.now.terms.items k x) prices) 1024000000000 2048000000000 (tally_small asked placed sums old ok tally k x under) (small k x) in
    rw (on k under x) (omega (arith, most))

-- what the table comes to is the value of the prices
pub closed_by_prices : (asked : Asked) (placed : List (List LineId)) (sums : Sums) (prices : List (ℕ × ℤ)) (old new : List SlotCost) (least : ℤ) → IsAsked asked → IsTally asked placed sums old
    → HasTable asked old → ArePriced asked.problem.now.segs placed asked.table.now.terms.items prices → length new ≡ length old → ArePricesOn asked.table.now.terms.items prices false old new
    → least ≡ least_sum new → int_le (pos asked.target) (pos sums.decided +ℤ least) ≡ is_closed (question_of asked) placed prices
closed_by_prices asked placed sums prices old new least ok tally table priced each on is =
    closed_by_costs asked placed prices priced.prices new sums.decided least ok priced.spread.allowed priced.spread.told (omega (arith, each, table))
    (λ k below x. (let under : k < length old = omega (arith, below, each) in
    on k under x ∙ ap (λ v. v +ℤ int_sum (price_on asked.table.now.terms.items k x) prices) (tally.slots k under x) ∙ sym (priced.slots k x)))
    tally.decided is

-- once they are taken off again, the tally is what it was
pub restored : (asked : Asked) (placed : List (List LineId)) (sums : Sums) (prices : List (ℕ × ℤ)) (old mid new : List SlotCost) → IsTally asked placed sums old → length mid ≡ length old
    → length new ≡ length mid → ArePricesOn asked.table.now.terms.items prices false old mid → ArePricesOn asked.table.now.terms.items prices true mid new → IsTally asked placed sums new
restored asked placed sums prices old mid new tally each each_too on off =
    tally_stays asked placed sums old new tally (omega (arith, each, each_too)) (λ k below x.
    back (cost_at old k x) (cost_at mid k x) (cost_at new k x) (int_sum (price_on asked.table.now.terms.items k x) prices) (on k below x) (off k (omega (arith, below, each)) x))
  where
    back : (a b c v : ℤ) → b ≡ shifted false a v → c ≡ shifted true b v → c ≡ a
    back a b c v p q = omega (arith, ints, p, q)
