-- Which trees of settled pairs show that no orders cost less than a target.
use Rattle.std.specs.Prelude.{ℕ, ◌+◌, ◌*◌, ◌/◌, ◌^◌, ◌==◌, nat_le, nat_lt, Bool, true, false, ◌&&◌, not, List, [], ◌∷◌, length, sum_by, if◌then◌else◌, Option, Some, None}
use Rattle.std.specs.Prelude.{ℤ, pos, ◌-ℤ◌, ◌*ℤ◌, int_lt}
use Rattle.std.specs.List.{list_all}
use Rattle.map_base.specs.declared.ids.SegId.{SegId}
use Rattle.map_base.specs.declared.ids.LineId.{LineId}
use Rattle.order_values.specs.PriceLists.{price_at}
use Rattle.order_values.specs.DualTrees.{PlainDual, fork, stop, stops_of}
use Rattle.order_model.specs.Problems.{lines_on}
use Rattle.order_model.specs.Places.{has_line}
use Rattle.order_model.specs.PartTerms.{is_in}
use Rattle.order_model.specs.Questions.{Question}
use Rattle.dual_bound.specs.declared.settled.SettledPair.{SettledPair}
use Rattle.dual_bound.specs.Settled.{with_pair}
use Rattle.dual_bound.specs.Shares.{thousand}
use Rattle.dual_bound.specs.Values.{value_of, are_allowed}

-- how many lines a segment may have whose orders are gone through
abbrev pub most_lines : ℕ
most_lines = 16

-- no segment of the part has more
abbrev pub is_narrow : List (List LineId) → List SegId → Bool
is_narrow segs part = list_all (λ (s : SegId). nat_le (length (lines_on segs s)) most_lines) part

-- a value shows a target where it is more than 1000 times one less: what is whole and at least a thousandth of the value
-- is then at least the target. What is above every number shows every target
abbrev pub shows : ℕ → Option ℤ → Bool
shows target None = true
shows target (Some v) = int_lt (pos thousand *ℤ (pos target -ℤ pos 1)) v

-- a stop holds where its prices are allowed, no segment is too wide, and their value shows the target
abbrev pub is_stopped : Question → List SettledPair → List (ℕ × ℤ) → Bool
is_stopped q settled prices =
    are_allowed q.terms prices && (is_narrow q.segs q.part && shows q.target (value_of q.segs q.terms (price_at prices) settled q.part))

-- a fork holds where its segment is of the part, and its lines are two different ones of it
abbrev pub is_fork : Question → SegId → LineId → LineId → Bool
is_fork q s a b = is_in q.part s && (has_line (lines_on q.segs s) a && (has_line (lines_on q.segs s) b && not (a.0 == b.0)))

-- a tree is accepted for settled pairs where each of its nodes holds, those of the first tree of a fork with its pair
-- settled besides, those of the second with the pair the other way round
abbrev pub accepts : Question → List SettledPair → PlainDual → Bool
accepts q settled (fork s a b first second) =
    is_fork q s a b && (accepts q (with_pair s a b settled) first && accepts q (with_pair s b a settled) second)
accepts q settled (stop prices) = is_stopped q settled prices

-- one line more on the way
abbrev pub after_line : LineId → Option (List LineId) → Option (List LineId)
after_line a None = None
after_line a (Some way) = Some (a ∷ way)

-- the first of two, where there is one
abbrev pub first_of : Option (List LineId) → Option (List LineId) → Option (List LineId)
first_of None other = other
first_of (Some way) other = Some way

-- the way to the first node, in the order of the text, that does not hold: the first line of each fork whose first tree
-- it goes into, and the second of each whose second tree
abbrev pub failing_below : Question → List SettledPair → PlainDual → Option (List LineId)
failing_below q settled (fork s a b first second) =
    if is_fork q s a b then first_of (after_line a (failing_below q (with_pair s a b settled) first)) (after_line b (failing_below q (with_pair s b a settled) second))
    else Some []
failing_below q settled (stop prices) = if is_stopped q settled prices then None else Some []

-- how many steps the least share of a segment takes
abbrev pub steps_on : List (List LineId) → SegId → ℕ
steps_on segs s = length (lines_on segs s) * length (lines_on segs s) * 2 ^ length (lines_on segs s)

-- the load of a part: a millionth of the steps on all its segments, rounded up
abbrev pub load_of : List (List LineId) → List SegId → ℕ
load_of segs part = (sum_by (steps_on segs) part + 999999) / 1000000

-- how great the load of all stops of a tree may be
abbrev pub most_load : ℕ
most_load = 100000

abbrev pub is_light : Question → PlainDual → Bool
is_light q tree = nat_le (stops_of tree * load_of q.segs q.part) most_load

-- the way to the first node that fails: the first of all where the tree has too many stops for the part's load
abbrev pub failing : Question → PlainDual → Option (List LineId)
failing q tree = if is_light q tree then failing_below q [] tree else Some []
