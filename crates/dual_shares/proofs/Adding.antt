-- What terms add to the rows of a segment.
use Rattle.std.proofs.Common.{◌≡◌, ℕ, ◌*◌, ◌==◌, ◌||◌, ◌&&◌, Bool, true, false, cond, List, [], ◌∷◌, length, get_or, refl, ap, subst, arith, true≢false}
use Rattle.std.specs.Prelude.{ℤ, pos, ◌+ℤ◌, ◌-ℤ◌}
use Rattle.std.proofs.lemmas.Int.{ints}
use Rattle.map_base.specs.declared.ids.SegId.{SegId}
use Rattle.map_base.specs.declared.ids.LineId.{LineId}
use Rattle.order_model.specs.declared.term.Term.{Term}
use Rattle.order_model.specs.declared.term.Term.TheVariants.{Side, Link, Apart}
use Rattle.order_model.specs.Costs.{are_these}
use Rattle.order_model.specs.PartTerms.{no_term, terms_by_number}
use Rattle.whole_sums.specs.Sums.{int_sum}
use Rattle.least_orders.specs.OrderCosts.{PairCosts, no_costs, cost_before, cost_beside}
use Rattle.least_orders.specs.Rows.{line_at, named, entry}
use Rattle.dual_bound.specs.Shares.{thousand}
use Rattle.dual_bound.specs.ShareCosts.{costs_where, link_costs, term_costs}
use Rattle.dual_shares.specs.Groups.{is_on, numbers_on}
use Rattle.dual_shares.specs.RowSteps.{HaveAdded, IsAddedBefore, IsAddedBeside}

-- nothing is added
more_of_nothing : (v : ℤ) → v ≡ v +ℤ pos 0
more_of_nothing v = omega (arith, ints)

pub nothing_before : (lines : List LineId) (costs : PairCosts) (row : List ℤ) → IsAddedBefore lines (costs_where false costs) row row
nothing_before lines costs row i j here there = more_of_nothing (entry (length lines) row (line_at i) (line_at j))

pub nothing_beside : (lines : List LineId) (costs : PairCosts) (row : List ℤ) → IsAddedBeside lines (costs_where false costs) row row
nothing_beside lines costs row i j here there = more_of_nothing (entry (length lines) row (line_at i) (line_at j))

-- costs that no neighbour has, and costs that no order has

flat_where : (so : Bool) (costs : PairCosts) (u v : LineId) → costs.beside u v ≡ pos 0 → (costs_where so costs).beside u v ≡ pos 0
flat_where true costs u v h = h
flat_where false costs u v h = refl

link_flat : (flip : Bool) (a b : LineId) (p : ℤ) (u v : LineId) → (link_costs flip a b p).beside u v ≡ pos 0
link_flat true a b p u v = refl
link_flat false a b p u v = refl

still : (v w : ℤ) → w ≡ pos 0 → v ≡ v +ℤ w
still v w h = omega (arith, ints, h)

less_nothing : (v w : ℤ) → v ≡ pos 0 → w ≡ pos 0 → v -ℤ w ≡ pos 0
less_nothing v w h k = omega (arith, ints, h, k)

-- A Side.

pub side_added : (lines : List LineId) (p : ℤ) (s seg : SegId) (first second : LineId) (w : ℕ) (before_old before_new beside : List ℤ)
    → IsAddedBefore lines (costs_where (seg.0 == s.0) (cost_before second first (pos (thousand * w)))) before_old before_new
    → HaveAdded lines (term_costs p s (Side seg first second w)) before_old beside before_new beside
side_added lines p s seg first second w before_old before_new beside h = record {
  before_added = h;
  beside_added = λ i j here there. still (entry (length lines) beside (line_at i) (line_at j)) ((costs_where (seg.0 == s.0) (cost_before second first (pos (thousand * w)))).beside (named lines (line_at i)) (named lines (line_at j)))
      (flat_where (seg.0 == s.0) (cost_before second first (pos (thousand * w))) (named lines (line_at i)) (named lines (line_at j)) refl);
}

-- A Link, at its other end and then at its first.

turned_before : (so : Bool) (a b : LineId) (p : ℤ) (u v : LineId) → (costs_where so (cost_before b a (pos 0 -ℤ p))).before u v ≡ pos 0 -ℤ (costs_where so (cost_before b a p)).before u v
turned_before false a b p u v = refl
turned_before true a b p u v = by_test (u.0 == b.0 && v.0 == a.0)
  where
    by_test : (t : Bool) → cond t (pos 0 -ℤ p) (pos 0) ≡ pos 0 -ℤ cond t p (pos 0)
    by_test true = refl
    by_test false = refl

two_steps : (x y z c d e : ℤ) → y ≡ x +ℤ c → z ≡ y +ℤ d → d ≡ pos 0 -ℤ e → z ≡ x +ℤ (c -ℤ e)
two_steps x y z c d e f g h = omega (arith, ints, f, g, h)

pub link_added : (lines : List LineId) (p : ℤ) (s seg other : SegId) (flip : Bool) (a b : LineId) (w : ℕ) (before_old between before_new beside : List ℤ)
    → IsAddedBefore lines (costs_where (other.0 == s.0) (link_costs flip a b p)) before_old between
    → IsAddedBefore lines (costs_where (seg.0 == s.0) (cost_before b a (pos 0 -ℤ p))) between before_new
    → HaveAdded lines (term_costs p s (Link seg other flip a b w)) before_old beside before_new beside
link_added lines p s seg other flip a b w before_old between before_new beside h g = record {
  before_added = λ i j here there. two_steps (entry (length lines) before_old (line_at i) (line_at j)) (entry (length lines) between (line_at i) (line_at j)) (entry (length lines) before_new (line_at i) (line_at j))
      ((costs_where (other.0 == s.0) (link_costs flip a b p)).before (named lines (line_at i)) (named lines (line_at j)))
      ((costs_where (seg.0 == s.0) (cost_before b a (pos 0 -ℤ p))).before (named lines (line_at i)) (named lines (line_at j)))
      ((costs_where (seg.0 == s.0) (cost_before b a p)).before (named lines (line_at i)) (named lines (line_at j)))
      (h i j here there) (g i j here there) (turned_before (seg.0 == s.0) a b p (named lines (line_at i)) (named lines (line_at j)));
  beside_added = λ i j here there. still (entry (length lines) beside (line_at i) (line_at j))
      ((costs_where (other.0 == s.0) (link_costs flip a b p)).beside (named lines (line_at i)) (named lines (line_at j)) -ℤ (costs_where (seg.0 == s.0) (cost_before b a p)).beside (named lines (line_at i)) (named lines (line_at j)))
      (less_nothing ((costs_where (other.0 == s.0) (link_costs flip a b p)).beside (named lines (line_at i)) (named lines (line_at j))) ((costs_where (seg.0 == s.0) (cost_before b a p)).beside (named lines (line_at i)) (named lines (line_at j)))
      (flat_where (other.0 == s.0) (link_costs flip a b p) (named lines (line_at i)) (named lines (line_at j)) (link_flat flip a b p (named lines (line_at i)) (named lines (line_at j))))
      (flat_where (seg.0 == s.0) (cost_before b a p) (named lines (line_at i)) (named lines (line_at j)) refl));
}

-- An Apart, likewise.

flat_before : (so : Bool) (costs : PairCosts) (u v : LineId) → costs.before u v ≡ pos 0 → (costs_where so costs).before u v ≡ pos 0
flat_before true costs u v h = h
flat_before false costs u v h = refl

turned_beside : (so : Bool) (a b : LineId) (p : ℤ) (u v : LineId) → (costs_where so (cost_beside a b (pos 0 -ℤ p))).beside u v ≡ pos 0 -ℤ (costs_where so (cost_beside a b p)).beside u v
turned_beside false a b p u v = refl
turned_beside true a b p u v = by_test (are_these u v a b)
  where
    by_test : (t : Bool) → cond t (pos 0 -ℤ p) (pos 0) ≡ pos 0 -ℤ cond t p (pos 0)
    by_test true = refl
    by_test false = refl

pub apart_added : (lines : List LineId) (p : ℤ) (s seg other : SegId) (a b : LineId) (w : ℕ) (before beside_old between beside_new : List ℤ)
    → IsAddedBeside lines (costs_where (other.0 == s.0) (cost_beside a b p)) beside_old between
    → IsAddedBeside lines (costs_where (seg.0 == s.0) (cost_beside a b (pos 0 -ℤ p))) between beside_new
    → HaveAdded lines (term_costs p s (Apart seg other a b w)) before beside_old before beside_new
apart_added lines p s seg other a b w before beside_old between beside_new h g = record {
  before_added = λ i j here there. still (entry (length lines) before (line_at i) (line_at j))
      ((costs_where (other.0 == s.0) (cost_beside a b p)).before (named lines (line_at i)) (named lines (line_at j)) -ℤ (costs_where (seg.0 == s.0) (cost_beside a b p)).before (named lines (line_at i)) (named lines (line_at j)))
      (less_nothing ((costs_where (other.0 == s.0) (cost_beside a b p)).before (named lines (line_at i)) (named lines (line_at j))) ((costs_where (seg.0 == s.0) (cost_beside a b p)).before (named lines (line_at i)) (named lines (line_at j)))
      (flat_before (other.0 == s.0) (cost_beside a b p) (named lines (line_at i)) (named lines (line_at j)) refl)
      (flat_before (seg.0 == s.0) (cost_beside a b p) (named lines (line_at i)) (named lines (line_at j)) refl));
  beside_added = λ i j here there. two_steps (entry (length lines) beside_old (line_at i) (line_at j)) (entry (length lines) between (line_at i) (line_at j)) (entry (length lines) beside_new (line_at i) (line_at j))
      ((costs_where (other.0 == s.0) (cost_beside a b p)).beside (named lines (line_at i)) (named lines (line_at j)))
      ((costs_where (seg.0 == s.0) (cost_beside a b (pos 0 -ℤ p))).beside (named lines (line_at i)) (named lines (line_at j)))
      ((costs_where (seg.0 == s.0) (cost_beside a b p)).beside (named lines (line_at i)) (named lines (line_at j)))
      (h i j here there) (g i j here there) (turned_beside (seg.0 == s.0) a b p (named lines (line_at i)) (named lines (line_at j)));
}

-- Terms that are not on a segment make nothing cost anything there.

where_off : (so : Bool) (costs : PairCosts) → so ≡ false → costs_where so costs ≡ no_costs
where_off true costs h = absurd (true≢false h)
where_off false costs h = refl

off : (a b : Bool) → (a || b) ≡ false → (a ≡ false) × (b ≡ false)
off true b h = absurd (true≢false h)
off false b h = (refl, h)

pub off_costs : (p : ℤ) (s : SegId) (t : Term) (u v : LineId) → is_on s t ≡ false → ((term_costs p s t).before u v ≡ pos 0) × ((term_costs p s t).beside u v ≡ pos 0)
off_costs p s (Side seg first second w) u v h =
    let is = where_off (seg.0 == s.0) (cost_before second first (pos (thousand * w))) (off (seg.0 == s.0) (seg.0 == s.0) h).0 in
    (ap (λ c. c.before u v) is, ap (λ c. c.beside u v) is)
off_costs p s (Link seg other flip a b w) u v h =
    let one = where_off (other.0 == s.0) (link_costs flip a b p) (off (seg.0 == s.0) (other.0 == s.0) h).1 in
    let two = where_off (seg.0 == s.0) (cost_before b a p) (off (seg.0 == s.0) (other.0 == s.0) h).0 in (
      less_nothing ((costs_where (other.0 == s.0) (link_costs flip a b p)).before u v) ((costs_where (seg.0 == s.0) (cost_before b a p)).before u v) (ap (λ c. c.before u v) one) (ap (λ c. c.before u v) two),
      less_nothing ((costs_where (other.0 == s.0) (link_costs flip a b p)).beside u v) ((costs_where (seg.0 == s.0) (cost_before b a p)).beside u v) (ap (λ c. c.beside u v) one) (ap (λ c. c.beside u v) two),
    )
off_costs p s (Apart seg other a b w) u v h =
    let one = where_off (other.0 == s.0) (cost_beside a b p) (off (seg.0 == s.0) (other.0 == s.0) h).1 in
    let two = where_off (seg.0 == s.0) (cost_beside a b p) (off (seg.0 == s.0) (other.0 == s.0) h).0 in (
      less_nothing ((costs_where (other.0 == s.0) (cost_beside a b p)).before u v) ((costs_where (seg.0 == s.0) (cost_beside a b p)).before u v) (ap (λ c. c.before u v) one) (ap (λ c. c.before u v) two),
      less_nothing ((costs_where (other.0 == s.0) (cost_beside a b p)).beside u v) ((costs_where (seg.0 == s.0) (cost_beside a b p)).beside u v) (ap (λ c. c.beside u v) one) (ap (λ c. c.beside u v) two),
    )

pub sum_on : (f : ℕ × Term → ℤ) (terms : List Term) (s : SegId) (numbers : List ℕ) → ((t : ℕ × Term) → is_on s t.1 ≡ false → f t ≡ pos 0)
    → int_sum f (terms_by_number terms (numbers_on terms numbers s)) ≡ int_sum f (terms_by_number terms numbers)
sum_on f terms s [] h = refl
sum_on f terms s (n ∷ numbers) h = by_test (is_on s (get_or terms n no_term)) refl (sum_on f terms s numbers h)
  where
    by_test : (b : Bool) → is_on s (get_or terms n no_term) ≡ b → int_sum f (terms_by_number terms (numbers_on terms numbers s)) ≡ int_sum f (terms_by_number terms numbers)
        → int_sum f (terms_by_number terms (cond b (n ∷ numbers_on terms numbers s) (numbers_on terms numbers s))) ≡ f (n, get_or terms n no_term) +ℤ int_sum f (terms_by_number terms numbers)
    by_test true e rest = ap (λ v. f (n, get_or terms n no_term) +ℤ v) rest
    by_test false e rest = let none = h (n, get_or terms n no_term) e in omega (arith, ints, rest, none)

-- what two lines cost by their order alone, or as neighbours alone
pub before_alone : (lines : List LineId) (first second : LineId) (amount : ℤ) (before_old before_new beside : List ℤ) → IsAddedBefore lines (cost_before first second amount) before_old before_new
    → HaveAdded lines (cost_before first second amount) before_old beside before_new beside
before_alone lines first second amount before_old before_new beside h = record { before_added = h; beside_added = λ i j here there. more_of_nothing (entry (length lines) beside (line_at i) (line_at j)) }

pub beside_alone : (lines : List LineId) (a b : LineId) (amount : ℤ) (before beside_old beside_new : List ℤ) → IsAddedBeside lines (cost_beside a b amount) beside_old beside_new
    → HaveAdded lines (cost_beside a b amount) before beside_old before beside_new
beside_alone lines a b amount before beside_old beside_new h = record { before_added = λ i j here there. more_of_nothing (entry (length lines) before (line_at i) (line_at j)); beside_added = h }

-- the same lines and costs, as they are read
pub before_read : (read lines : List LineId) (c d : PairCosts) (old new : List ℤ) → read ≡ lines → c ≡ d → IsAddedBefore read c old new → IsAddedBefore lines d old new
before_read read lines c d old new e f h = subst (λ l. IsAddedBefore l d old new) e (subst (λ x. IsAddedBefore read x old new) f h)

pub beside_read : (read lines : List LineId) (c d : PairCosts) (old new : List ℤ) → read ≡ lines → c ≡ d → IsAddedBeside read c old new → IsAddedBeside lines d old new
beside_read read lines c d old new e f h = subst (λ l. IsAddedBeside l d old new) e (subst (λ x. IsAddedBeside read x old new) f h)
