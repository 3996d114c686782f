-- What the decided terms of a prefix cost.
use Rattle.std.specs.Prelude.{ℕ, Bool, ◌&&◌, List, sum_by, Option, Some, None, if◌then◌else◌}
use Rattle.map_base.specs.declared.ids.LineId.{LineId}
use Rattle.order_model.specs.declared.term.Term.{Term}
use Rattle.order_model.specs.declared.term.Term.TheVariants.{Side, Link, Apart}
use Rattle.order_model.specs.Problems.{lines_on}
use Rattle.order_model.specs.Costs.{same_answer, term_cost}
use Rattle.order_model.specs.Looks.{is_decided, neighbours_on}

-- what an Apart costs where both answers are settled
abbrev pub apart_cost : ℕ → Option Bool → Option Bool → ℕ
apart_cost w None there = 0
apart_cost w (Some here) None = 0
apart_cost w (Some here) (Some there) = if same_answer here there then 0 else w

-- what a term costs that the prefix decides, else 0: a Side where its lines are decided, a Link where they are on both
-- segments, an Apart where it is settled on both whether its lines are neighbours
abbrev pub decided_cost : List (List LineId) → List (List LineId) → Term → ℕ
decided_cost segs placed (Side seg first second w) = if is_decided placed seg first second then term_cost placed (Side seg first second w) else 0
decided_cost segs placed (Link seg other flip a b w) =
    if is_decided placed seg a b && is_decided placed other a b then term_cost placed (Link seg other flip a b w) else 0
decided_cost segs placed (Apart seg other a b w) =
    apart_cost w (neighbours_on (lines_on segs seg) (lines_on placed seg) a b) (neighbours_on (lines_on segs other) (lines_on placed other) a b)

-- the sum of the decided terms
abbrev pub decided_sum : List (List LineId) → List (List LineId) → List (ℕ × Term) → ℕ
decided_sum segs placed terms = sum_by (λ (t : ℕ × Term). decided_cost segs placed t.1) terms
