-- What stands at a node: the pairs that are settled on the way to it, and the shares that are known.
use Rattle.std.specs.Prelude.{◌≡◌, ℕ, ◌<◌, ◌==◌, ◌⊎◌, true, List, length, All, slice_index_or, Option, Some, None}
use Rattle.std.specs.Prelude.{ℤ, pos}
use Rattle.map_base.specs.declared.ids.SegId.{SegId}
use Rattle.order_model.specs.PartTerms.{no_term}
use Rattle.order_values.specs.PriceLists.{price_at, AreRisingPrices}
use Rattle.dual_bound.specs.declared.settled.SettledPair.{SettledPair}
use Rattle.dual_bound.specs.Values.{least_share}
use Rattle.dual_shares.specs.Groups.{is_on}
use Rattle.dual_check.specs.declared.asked.Asked.{Asked}
use Rattle.dual_check.specs.declared.node.KnownShare.{KnownShare}
use Rattle.dual_check.specs.declared.node.KnownShare.TheVariants.{Unknown, NoOrder, Least}
use Rattle.dual_check.specs.declared.node.Node.{Node}
use Rattle.dual_check.specs.Asking.{question_of}
use Rattle.dual_check.specs.Prices.{AreSmallPrices}
use Rattle.dual_check.specs.Settling.{pairs_of, IsPairOn}

-- what is known of a least share is so
abbrev pub IsSo : KnownShare → Option ℤ → Type 0
IsSo Unknown share = Unit {0}
IsSo NoOrder share = share ≡ None
IsSo (Least v) share = share ≡ Some v

-- what is known of the segment at a place
abbrev pub known_at : List KnownShare → ℕ → KnownShare
known_at shares k = slice_index_or shares k Unknown

-- the segment at a place of a part
abbrev pub segment_at : List SegId → ℕ → SegId
segment_at part k = slice_index_or part k (record { 0 = 0 })

-- its least share under prices, of the orders that keep the settled pairs
abbrev pub share_at : Asked → List SettledPair → List (ℕ × ℤ) → ℕ → Option ℤ
share_at asked settled prices k = least_share asked.problem.now.segs (question_of asked).terms (price_at prices) (pairs_of settled) (segment_at asked.part.now k)

-- rising prices on terms of the problem, none too great
pub record ArePrices (asked : Asked) (prices : List (ℕ × ℤ)) : Type 0 where
  pub rising : AreRisingPrices prices
  pub small : AreSmallPrices prices
  pub known : All (λ (q : ℕ × ℤ). q.0 < length asked.problem.now.terms) prices

-- the settled pairs are of lines of their segments, and what is known of the least shares is so
pub record IsNode (asked : Asked) (node : Node) : Type 0 where
  pub pairs : All (IsPairOn asked.problem.now.segs) node.settled.items
  pub prices : ArePrices asked node.prices.items
  pub each : length node.shares.items ≡ length asked.part.now
  pub known : (k : ℕ) → k < length asked.part.now → IsSo (known_at node.shares.items k) (share_at asked node.settled.items node.prices.items k)

-- pairs and prices are as before
pub record AreAsBefore (old new : Node) : Type 0 where
  pub settled : new.settled.items ≡ old.settled.items
  pub prices : new.prices.items ≡ old.prices.items

-- nothing is known that was not known before
abbrev pub Forgets : List KnownShare → List KnownShare → Type 0
Forgets old new = (k : ℕ) → (known_at new k ≡ known_at old k) ⊎ (known_at new k ≡ Unknown)

-- nothing is known of the segment
abbrev pub IsForgotten : List SegId → SegId → List KnownShare → Type 0
IsForgotten part s shares = (k : ℕ) → k < length part → ((segment_at part k).0 == s.0) ≡ true → known_at shares k ≡ Unknown

-- nor of those of a term
abbrev pub IsTermForgotten : Asked → ℕ → List KnownShare → Type 0
IsTermForgotten asked n shares = (k : ℕ) → k < length asked.part.now
    → is_on (segment_at asked.part.now k) (slice_index_or asked.problem.now.terms n no_term) ≡ true → known_at shares k ≡ Unknown

-- what is known is of segments with no term that has one of these prices
abbrev pub ArePricedOff : Asked → List (ℕ × ℤ) → List KnownShare → Type 0
ArePricedOff asked prices shares = (k : ℕ) → k < length asked.part.now
    → (known_at shares k ≡ Unknown)
    ⊎ ((n : ℕ) → is_on (segment_at asked.part.now k) (slice_index_or asked.problem.now.terms n no_term) ≡ true → price_at prices n ≡ pos 0)
