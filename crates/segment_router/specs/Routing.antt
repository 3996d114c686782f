-- What comes of a graph: its drawing, or why it has none.
use Rattle.std.specs.Prelude.{ℕ, ◌≡◌, ◌<◌, ◌≤◌, nat_le, Bool, ◌&&◌, List, [], ◌∷◌, map, filter, Option, Some, None, Result, Ok, Err}
use Rattle.std.specs.List.{flat_map}
use Rattle.map_base.specs.declared.ids.SegId.{SegId}
use Rattle.map_base.specs.declared.limit.Limit.{Limit}
use Rattle.map_method.specs.declared.drawing_plan.DrawingPlan.{DrawingPlan}
use Rattle.map_method.specs.declared.spread.Spread.{Spread}
use Rattle.map_method.specs.declared.spread.Spread.TheVariants.{Percent, Auto}
use Rattle.graph_core.specs.declared.parts.GraphParts.{GraphParts}
use Rattle.octi_grid.specs.Walks.{PlainWalk}
use Rattle.segment_router.specs.declared.fault.RouteFault.{RouteFault}
use Rattle.segment_router.specs.declared.fault.RouteFault.TheVariants as fault
use Rattle.segment_router.specs.declared.attempts.Attempt.{Attempt}
use Rattle.start_positions.specs.Cells.{limit_of}
use Rattle.start_positions.specs.Spreads.{spread_offsets}
use Rattle.start_positions.specs.Homes.{placing_at}
use Rattle.segment_router.specs.Routes.{routes_from}

-- the routes of an attempt
abbrev pub routes_at : GraphParts → ℕ → Attempt → Result (List PlainWalk) SegId
routes_at graph cell a = routes_from graph (placing_at graph cell a.fineness (spread_offsets graph.places a.percent))

-- the first of two that is a drawing, and else why the second is none
abbrev pub or_else : Result (List PlainWalk) SegId → Result (List PlainWalk) SegId → Result (List PlainWalk) SegId
or_else (Ok walks) other = Ok walks
or_else (Err s) other = other

-- What comes of attempts, one after another, where this came of those before them: the drawing of the first that gives
-- every segment a walk; where none does, the segment that has none at the last.
abbrev pub first_drawn : GraphParts → ℕ → Result (List PlainWalk) SegId → List Attempt → Result (List PlainWalk) SegId
first_drawn graph cell before [] = before
first_drawn graph cell before (a ∷ rest) = or_else before (first_drawn graph cell (routes_at graph cell a) rest)

-- nothing is attempted yet
abbrev pub nothing_drawn : Result (List PlainWalk) SegId
nothing_drawn = Err (record { 0 = 0 })

-- how many percent of the way to their even places nodes are put, one after another on each grid
abbrev pub percents_of : Spread → List ℕ
percents_of (Percent percent) = percent ∷ []
percents_of Auto = 0 ∷ 10 ∷ 20 ∷ 30 ∷ 40 ∷ 50 ∷ 60 ∷ 70 ∷ 80 ∷ 90 ∷ 100 ∷ []

-- a grid is as fine as the coarsest or finer, and as coarse as the finest or coarser
abbrev pub is_between : ℕ → ℕ → ℕ → Bool
is_between coarsest finest fineness = nat_le coarsest fineness && nat_le fineness finest

-- how fine the grids are, from the coarsest to the finest
abbrev pub grids_between : ℕ → ℕ → List ℕ
grids_between coarsest finest = filter (is_between coarsest finest) (1 ∷ 2 ∷ 4 ∷ 8 ∷ 16 ∷ [])

-- the attempts on a grid
abbrev pub attempts_on : List ℕ → ℕ → List Attempt
attempts_on percents fineness = map (λ percent. record { fineness = fineness; percent = percent }) percents

-- all attempts: each spread on a grid before the next grid
abbrev pub attempts_of : DrawingPlan → List Attempt
attempts_of plan = flat_map (attempts_on (percents_of plan.spread)) (grids_between plan.coarsest plan.finest)

-- an attempt at a drawing: its fineness is from 1 to 16, and nodes are put at most the whole way
pub record IsAttempt (a : Attempt) : Type 0 where
  pub some : 0 < a.fineness
  pub fine : a.fineness ≤ 16
  pub within : a.percent ≤ 100

-- no route is a fault
abbrev pub as_outcome : Result (List PlainWalk) SegId → Result (List PlainWalk) RouteFault
as_outcome (Ok walks) = Ok walks
as_outcome (Err s) = Err (fault.NoRoute s)

-- a limit comes before all else
abbrev pub outcome_under : Option Limit → Result (List PlainWalk) SegId → Result (List PlainWalk) RouteFault
outcome_under (Some limit) drawn = Err (fault.Limit limit)
outcome_under None drawn = as_outcome drawn

-- what comes of these attempts, after a test of the cell
abbrev pub outcome_of : GraphParts → ℕ → List Attempt → Result (List PlainWalk) RouteFault
outcome_of graph cell attempts = outcome_under (limit_of graph.places cell) (first_drawn graph cell nothing_drawn attempts)

-- What comes of a graph by a plan: a limit of its cells; or the drawing of the first attempt that gives every segment a
-- walk; or no route, where none does.
abbrev pub route_outcome : GraphParts → DrawingPlan → Result (List PlainWalk) RouteFault
route_outcome graph plan = outcome_of graph plan.cell (attempts_of plan)

-- a fault has its cause; want of memory is free
abbrev pub HasCause : Result (List PlainWalk) RouteFault → RouteFault → Type 0
HasCause outcome (fault.NoRoute s) = outcome ≡ Err (fault.NoRoute s)
HasCause outcome (fault.Limit l) = outcome ≡ Err (fault.Limit l)
HasCause outcome fault.NoMemory = Unit {0}
