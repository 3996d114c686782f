-- What known costs of paths to goals may conclude.
use Rattle.std.proofs.Common.{◌≡◌, ℕ, ◌+◌, ◌≤◌, List, [], ◌∷◌, Option, Some, arith}
use Rattle.least_path.specs.Orders.{AtMost}
use Rattle.least_path.proofs.Costs.{known_at_most, AtMost-le}
use Rattle.state_search.specs.Goals.{Space, PathTo, IsSpace}

-- where each goal within the limit is known to cost no more than it costs to end there, and each step from a known
-- state within it is followed by a known cost of the state that it comes from, no path within it costs less than what
-- is known
pub least_when_closed : (w : Space) → IsSpace w → (limit : ℕ) (known : ℕ → Option ℕ) →
    ((a k : ℕ) → k + w.ahead a ≤ limit → w.goal a ≡ Some k → AtMost (known a) k) →
    ((a s l c d : ℕ) → w.step a l s c → known s ≡ Some d → d + w.ahead s ≤ limit → AtMost (known a) (c + d)) →
    (a : ℕ) (labels : List ℕ) (k : ℕ) → k + w.ahead a ≤ limit → PathTo w a labels k → AtMost (known a) k
least_when_closed w space limit known goals closed a [] k within p = goals a k within p
least_when_closed w space limit known goals closed a (l ∷ ls) k within p =
    let s = p.0 in
    let c = p.1 in
    let r = p.2 in
    let sum : k ≡ c + r = p.5 in
    let slow : w.ahead s ≤ w.ahead a + c = space.consistent a l s c p.3 in
    let later : AtMost (known s) r = least_when_closed w space limit known goals closed s ls r (omega arith) p.4 in
    let found = known_at_most (known s) r later in
    let d = found.0 in
    let below : d ≤ r = found.2 in
    AtMost-le (known a) (c + d) k (omega arith) (closed a s l c d p.3 found.1 (omega arith))
