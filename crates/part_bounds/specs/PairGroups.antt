-- The terms of a part by the pair of their lines.
use Rattle.std.specs.Prelude.{◌≡◌, ℕ, ◌+◌, ◌<◌, ◌≤◌, ◌==◌, Bool, true, ◌||◌, List, [], ◌∷◌, ◌++◌, length, filter, map, All, if◌then◌else◌, slice_index_or, slice_set}
use Rattle.map_base.specs.declared.ids.SegId.{SegId}
use Rattle.map_base.specs.declared.ids.LineId.{LineId}
use Rattle.order_model.specs.declared.term.Term.{Term}
use Rattle.order_model.specs.Problems.{IsTerm}
use Rattle.order_model.specs.PartTerms.{is_of}
use Rattle.order_model.specs.Costs.{seg_of, other_of}
use Rattle.std.specs.List.{list_any}
use Rattle.order_bound.specs.declared.pairs.Pair.{Pair}
use Rattle.order_bound.specs.Pairs.{is_pair, has_pair, pair_in, pairs_of}
use Rattle.order_bound.specs.Bounds.{pair_bound}
use Rattle.part_bounds.specs.declared.pair_terms.PairTerms.{PairTerms}
use Rattle.pair_bounds.specs.Counted.{counted_sum}

-- a pair with terms
abbrev pub Group : Type 0
Group = Pair × List (ℕ × Term)

-- the terms of a pair
abbrev pub terms_of_pair : Pair → List (ℕ × Term) → List (ℕ × Term)
terms_of_pair p terms = filter (λ (t : ℕ × Term). is_pair p (pair_in t.1)) terms

-- a pair with its terms
abbrev pub group_of : List (ℕ × Term) → Pair → Group
group_of terms p = (p, terms_of_pair p terms)

-- the pairs of terms, each once, each with its terms
abbrev pub groups_of : List (ℕ × Term) → List Group
groups_of terms = map (group_of terms) (pairs_of terms)

-- pairs with terms as they lie in memory
abbrev pub group_in : PairTerms → Group
group_in e = (e.pair, e.terms.items)

abbrev pub groups_in : List PairTerms → List Group
groups_in groups = map group_in groups

-- how many terms a group has
abbrev pub terms_in : Group → ℕ
terms_in g = length g.1

-- the pairs alone
abbrev pub pair_on : PairTerms → Pair
pair_on e = e.pair

-- what stands for a group that there is not
abbrev pub no_group : Group
no_group = (record { lesser = record { 0 = 0 }; greater = record { 0 = 0 } }, [])

-- once a pair is noted
abbrev pub with_pair : Pair → List Group → List Group
with_pair p groups = if has_pair (map (λ (g : Group). g.0) groups) p then groups else groups ++ (p, []) ∷ []

-- one term more in the group at a place
abbrev pub with_term_at : ℕ → ℕ × Term → List Group → List Group
with_term_at k t groups = slice_set groups k ((slice_index_or groups k no_group).0, (slice_index_or groups k no_group).1 ++ t ∷ [])

-- what a pair adds to the bound beside its Aparts: its decided terms, and the least that it costs on the part where it is open
abbrev pub share_of : List (List LineId) → List SegId → List (List LineId) → Group → ℕ
share_of segs part placed g = counted_sum segs placed g.1 + pair_bound segs placed part g.1 g.0

-- the term has an end on the segment
abbrev pub is_end : SegId → Term → Bool
is_end s t = (seg_of t).0 == s.0 || (other_of t).0 == s.0

-- one of the terms has
abbrev pub meets : List (ℕ × Term) → SegId → Bool
meets terms s = list_any (λ (t : ℕ × Term). is_end s t.1) terms

-- the segments of a part on which one of these terms has an end
abbrev pub own_segments : List SegId → List (ℕ × Term) → List SegId
own_segments part terms = filter (meets terms) part

-- a pair knows those of its terms
abbrev pub KnowsOwn : List SegId → PairTerms → Type 0
KnowsOwn part e = e.segs.items ≡ own_segments part e.terms.items

-- terms of the problem, on segments of the part, all of one pair
pub record IsGroup (segs : List (List LineId)) (part : List SegId) (g : Group) : Type 0 where
  pub known : All (λ (t : ℕ × Term). IsTerm segs t.1) g.1
  pub inside : All (λ (t : ℕ × Term). is_of part t.1 ≡ true) g.1
  pub mine : All (λ (t : ℕ × Term). g.0 ≡ pair_in t.1) g.1
  pub few : length g.1 ≤ 4000000
