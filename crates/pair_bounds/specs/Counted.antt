-- What a prefix decides of Sides and Links, and of Aparts.
use Rattle.std.specs.Prelude.{ℕ, List, sum_by}
use Rattle.map_base.specs.declared.ids.LineId.{LineId}
use Rattle.order_model.specs.declared.term.Term.{Term}
use Rattle.order_model.specs.declared.term.Term.TheVariants.{Side, Link, Apart}
use Rattle.order_bound.specs.Decided.{decided_cost}

-- what a Side or a Link costs that the prefix decides, and nothing for an Apart
abbrev pub counted_cost : List (List LineId) → List (List LineId) → Term → ℕ
counted_cost segs placed (Side seg first second w) = decided_cost segs placed (Side seg first second w)
counted_cost segs placed (Link seg other flip a b w) = decided_cost segs placed (Link seg other flip a b w)
counted_cost segs placed (Apart seg other a b w) = 0

-- what an Apart costs that is settled, and nothing for other terms
abbrev pub settled_cost : List (List LineId) → List (List LineId) → Term → ℕ
settled_cost segs placed (Side seg first second w) = 0
settled_cost segs placed (Link seg other flip a b w) = 0
settled_cost segs placed (Apart seg other a b w) = decided_cost segs placed (Apart seg other a b w)

-- the sums over terms behind their numbers
abbrev pub counted_sum : List (List LineId) → List (List LineId) → List (ℕ × Term) → ℕ
counted_sum segs placed terms = sum_by (λ (t : ℕ × Term). counted_cost segs placed t.1) terms

abbrev pub settled_sum : List (List LineId) → List (List LineId) → List (ℕ × Term) → ℕ
settled_sum segs placed terms = sum_by (λ (t : ℕ × Term). settled_cost segs placed t.1) terms
