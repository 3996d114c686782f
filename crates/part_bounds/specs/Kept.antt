-- What the pairs of a part are kept with while lines are placed.
use Rattle.std.specs.Prelude.{◌≡◌, ℕ, ◌<◌, ◌≤◌, ◌==◌, Bool, true, false, ◌&&◌, List, length, sum_by, All, if◌then◌else◌, slice_index_or}
use Rattle.std.specs.Prelude.{ℤ, pos}
use Rattle.std.specs.List.{list_any}
use Rattle.map_base.specs.declared.ids.SegId.{SegId}
use Rattle.map_base.specs.declared.ids.LineId.{LineId}
use Rattle.order_model.specs.declared.problem.ProblemParts.{ProblemParts}
use Rattle.order_model.specs.declared.term.Term.{Term}
use Rattle.order_model.specs.PartTerms.{is_in, part_terms, part_numbers}
use Rattle.order_model.specs.Parts.{IsRisingPart}
use Rattle.order_model.specs.Prefixes.{Placement, IsPrefixOf}
use Rattle.order_bound.specs.CanonicalPrices.{pair_prices, price_among}
use Rattle.part_bounds.specs.declared.changes.Change.{Change}
use Rattle.pair_bounds.specs.declared.one_pair.Room.{Room}
use Rattle.part_bounds.specs.declared.pair_terms.PairTerms.{PairTerms}
use Rattle.part_bounds.specs.Changes.{is_new_pair, is_changed}
use Rattle.part_bounds.specs.PairGroups.{Group, KnowsOwn, groups_of, groups_in, terms_in, no_group, share_of, IsGroup}
use Rattle.pair_bounds.specs.PriceNotes.{price_noted}
use Rattle.pair_bounds.specs.Slots.{HasRoom}
use Rattle.part_bounds.specs.declared.aparts.Aparts.{Aparts}
use Rattle.part_bounds.specs.declared.kept_pairs.KeptPairs.{KeptPairs}
use Rattle.part_bounds.specs.Settled.{AreSettled}
use Rattle.order_model.specs.Problems.{IsTerm}

-- one of these terms has this number
abbrev pub has_number : List (ℕ × Term) → ℕ → Bool
has_number terms k = list_any (λ (t : ℕ × Term). t.0 == k) terms

-- prices, but none on these terms
abbrev pub cleared : List (ℕ × Term) → (ℕ → ℤ) → ℕ → ℤ
cleared terms price k = if has_number terms k then pos 0 else price k

-- a placing decides the pair on a segment where it has a term
abbrev pub is_changed_pair : Change → PairTerms → Bool
is_changed_pair c e = is_new_pair c e.pair && is_in e.segs.items c.seg

-- of the first so many pairs each that a placing changes is marked as stale, as are those that were
pub record AreMarked (c : Change) (pairs : List PairTerms) (count : ℕ) (before after : List Bool) : Type 0 where
  pub each : length after ≡ length before
  pub still : (k : ℕ) → slice_index_or after k true ≡ false → slice_index_or before k true ≡ false
  pub marked : (k : ℕ) (e : PairTerms) → k < count → k < length pairs → e ≡ slice_index_or pairs k e → slice_index_or after k true ≡ false → is_changed_pair c e ≡ false

-- each term of a pair has its canonical price
abbrev pub IsNoted : List (List LineId) → List (List LineId) → List SegId → (ℕ → ℤ) → Group → Type 0
IsNoted segs placed part price g = All (λ (t : ℕ × Term). price t.0 ≡ price_among (pair_prices segs placed part g.1 g.0) t.0) g.1

-- so have the terms of all pairs that are not stale
abbrev pub AreNoted : List (List LineId) → List (List LineId) → List SegId → (ℕ → ℤ) → List Group → List Bool → Type 0
AreNoted segs placed part price groups stale =
    (k : ℕ) → k < length groups → slice_index_or stale k true ≡ false → IsNoted segs placed part price (slice_index_or groups k no_group)

-- each pair that is not stale has its share
abbrev pub AreShared : List (List LineId) → List (List LineId) → List SegId → List ℕ → List Group → List Bool → Type 0
AreShared segs placed part shares groups stale =
    (k : ℕ) → k < length groups → slice_index_or stale k true ≡ false
    → slice_index_or shares k 0 ≡ share_of segs part placed (slice_index_or groups k no_group)

-- each pair that a placing leaves has its share
abbrev pub AreLeft : Change → List (List LineId) → List (List LineId) → List SegId → List ℕ → List Group → Type 0
AreLeft c segs placed part shares groups =
    (k : ℕ) → k < length groups → is_changed c (slice_index_or groups k no_group) ≡ false
    → slice_index_or shares k 0 ≡ share_of segs part placed (slice_index_or groups k no_group)

-- there is room for each of these pairs
abbrev pub HasRoomFor : List SegId → List Group → Room → Type 0
HasRoomFor part groups room = All (λ (g : Group). HasRoom (length part) (terms_in g) room) groups

-- the pairs of a part of a problem, each with its terms, and with its segments
pub record ArePairsOf (problem : ProblemParts) (part : List SegId) (pairs : List PairTerms) : Type 0 where
  pub known : All (λ (s : SegId). s.0 < length problem.segs) part
  pub rises : IsRisingPart part
  pub grouped : groups_in pairs ≡ groups_of (part_terms problem.terms part)
  pub groups : All (IsGroup problem.segs part) (groups_in pairs)
  pub few : sum_by terms_in (groups_in pairs) ≤ 4000000
  pub own : All (KnowsOwn part) pairs

-- the share and the prices of each of these pairs that is not stale are those of the placed lines
pub record AreKept (problem : ProblemParts) (part : List SegId) (placed : List (List LineId)) (pairs : List PairTerms) (kept : KeptPairs) : Type 0 where
  pub each : length kept.stale.items ≡ length pairs
  pub shares_each : length kept.shares.items ≡ length pairs
  pub enough : length kept.noted.prices.items ≡ length problem.terms
  pub noted_are : AreNoted problem.segs placed part (price_noted kept.noted.prices.items) (groups_in pairs) kept.stale.items
  pub shares_are : AreShared problem.segs placed part kept.shares.items (groups_in pairs) kept.stale.items

-- a part with the lines placed so far: the numbers of its terms, its pairs with what is kept of them, and its Aparts
pub record IsKeptUp (problem : ProblemParts) (part : List SegId) (numbers : List ℕ) (prefix : Placement) (pairs : List PairTerms) (kept : KeptPairs) (room : Room) (aparts : Aparts) : Type 0 where
  pub fits : IsPrefixOf problem.segs prefix
  pub table : ArePairsOf problem part pairs
  pub numbers_are : numbers ≡ part_numbers problem.terms part
  pub has_room : HasRoomFor part (groups_in pairs) room
  pub known_terms : All (λ (t : ℕ × Term). IsTerm problem.segs t.1) (part_terms problem.terms part)
  pub few_terms : length (part_terms problem.terms part) ≤ 4000000
  pub settled : AreSettled problem.segs prefix.placed (part_terms problem.terms part) aparts
  pub kept_are : AreKept problem part prefix.placed pairs kept
