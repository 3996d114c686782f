-- A search under way, as its definition tells it.
use Rattle.std.specs.Prelude.{◌≡◌, ℕ, ◌≤◌, zero, suc, Bool, true, false, List, length, All, Option, Some, None}
use Rattle.std.specs.Prelude.{ℤ}
use Rattle.map_base.specs.declared.ids.LineId.{LineId}
use Rattle.order_model.specs.declared.problem.ProblemParts.{ProblemParts}
use Rattle.order_model.specs.Costs.{AreOrders}
use Rattle.dual_bound.specs.declared.settled.SettledPair.{SettledPair}
use Rattle.dual_bound.specs.Settled.{with_pair}
use Rattle.dual_bound.specs.Accepting.{most_load}
use Rattle.dual_ascent.specs.Averages.{ArePairs}
use Rattle.dual_ascent.specs.DualSteps.{AreWithin}
use Rattle.dual_ascent.specs.OpenPairs.{OpenPair, ahead, behind}
use Rattle.dual_ascent.specs.Rounds as rounds
use Rattle.dual_ascent.specs.Walks as walks
use Rattle.dual_rounds.specs.Ranges.{IsDirection, IsAverage, averages_of}
use Rattle.dual_orders.specs.NextPairs.{IsForkAt}
use Rattle.dual_orders.specs.Parts.{IsPart}
use Rattle.dual_orders.specs.SettledPairs.{IsPairOn}
use Rattle.dual_orders.specs.Solvers.{HasRoomFor}
use Rattle.dual_orders.specs.Values.{incumbent_of, IsIncumbent}
use Rattle.kept_trees.specs.declared.under_way.Search.{Search}
use Rattle.kept_trees.specs.declared.under_way.Progress.{Progress}
use Rattle.kept_trees.specs.declared.ascent.Ascent.{Ascent}
use Rattle.kept_trees.specs.declared.ascent.LowerBound.{LowerBound}
use Rattle.kept_trees.specs.declared.rounds.Stage.{Stage}
use Rattle.kept_trees.specs.declared.rounds.Stage.TheVariants.{Going, Over, Spent}
use Rattle.kept_trees.specs.declared.walk.NodeEnd.{NodeEnd}
use Rattle.kept_trees.specs.declared.walk.NodeEnd.TheVariants.{Stop as Stop', Fork as Fork'}
use Rattle.kept_trees.specs.declared.walked.WalkedTree.{WalkedTree}
use Rattle.kept_trees.specs.declared.walked.WalkedTree.TheVariants.{Forked', Stopped}

-- what is searched, and within what budget
abbrev pub search_of : Search → rounds.Search
search_of search = record { problem = search.part.problem.now; budget = search.budget }

-- how far it has come
abbrev pub progress_of : Progress → walks.Progress
progress_of now = record { incumbent = incumbent_of now.incumbent; branches = now.branches }

-- the rounds of a node
abbrev pub ascent_of : Progress → Ascent → rounds.Ascent
ascent_of now a = record {
  round = a.round;
  prices = a.prices.items;
  directions = a.directions.items;
  averages = averages_of a.averages.items;
  step = a.step;
  stale = a.stale;
  bound = record { value = a.value; prices = a.kept.items };
  incumbent = incumbent_of now.incumbent;
  branches = now.branches;
}

abbrev pub bound_of : LowerBound → rounds.LowerBound
bound_of b = record { value = b.value; prices = b.prices.items }

-- the part can be searched, within a budget that a check takes
pub record IsSearch (search : Search) : Type 0 where
  pub part : IsPart search.part
  pub budget : search.budget ≤ most_load

-- it has an incumbent and room to work in, and has counted no more than its budget
pub record IsUnderWay (search : Search) (now : Progress) : Type 0 where
  pub incumbent : IsIncumbent search.part.problem.now now.incumbent
  pub trial : AreOrders search.part.problem.now.segs now.trial.items
  pub room : HasRoomFor search.part.problem.now now.solver
  pub within : now.branches ≤ search.budget

-- the rounds of a node of a part: their numbers are in range
pub record IsAscent (p : ProblemParts) (a : Ascent) : Type 0 where
  pub prices : AreWithin p.terms a.prices.items
  pub kept : AreWithin p.terms a.kept.items
  pub directions : All IsDirection a.directions.items
  pub each : length a.directions.items ≡ length p.terms
  pub averages : All (All IsAverage) (averages_of a.averages.items)
  pub pairs : ArePairs p (averages_of a.averages.items)
  pub each_segment : length a.averages.items ≡ length p.segs
  pub step : a.step ≤ 1000
  pub stale : a.stale ≤ 20

-- whether they go on
abbrev pub StageIs : Stage → rounds.Ascent → rounds.Stage → Type 0
StageIs Going a s = s ≡ rounds.going a
StageIs Over a s = s ≡ rounds.over a
StageIs Spent a s = s ≡ rounds.spent a

abbrev pub IsGoing : Stage → Type 0
IsGoing Going = Unit {0}
IsGoing Over = ⊥
IsGoing Spent = ⊥

-- what comes in a round behind a value that does not show the incumbent's cost
abbrev pub moved : rounds.Search → List SettledPair → List (List LineId) → ℤ → rounds.Ascent → rounds.Stage
moved q settled orders value a =
    rounds.onward (rounds.onward (rounds.onward (rounds.directed q orders a) (rounds.rounded q settled)) rounds.shrunk)
    (rounds.stepped q value)

-- they are over, or go on
abbrev pub IsOverWhere : Bool → rounds.Ascent → rounds.Stage → Type 0
IsOverWhere true a s = s ≡ rounds.over a
IsOverWhere false a s = s ≡ rounds.going a

-- what was walked, as the definition tells it: nothing where it can't come to its end
abbrev pub plain_walked : WalkedTree → walks.WalkedTree
plain_walked (Forked' value prices seg a b p first q second) = walks.forked value prices seg a b (plain_walked first)
    (plain_walked second)
plain_walked (Stopped prices) = walks.stopped prices

abbrev pub WalkIs : Option WalkedTree → walks.Progress → walks.Walked → Type 0
WalkIs None now w = w ≡ walks.cut now
WalkIs (Some tree) now w = w ≡ walks.whole (plain_walked tree) now

-- what becomes of a node after its rounds, whatever lies below it: it is a stop, or a fork at a pair, where nothing changes
abbrev pub EndIs : ProblemParts → List SettledPair → rounds.Ascent → walks.Progress → NodeEnd → Type 0
EndIs p settled a now (Stop' tree) = (below : Option walks.Below)
    → walks.at_node p below settled a ≡ walks.whole (plain_walked tree) now
EndIs p settled a now (Fork' pair) = (now ≡ walks.progress a) × (c : OpenPair) × IsForkAt c pair
    × ((below : Option walks.Below) → walks.at_node p below settled a ≡ walks.at_pair below c settled a)

-- what lies below a node, with room for so many forks
abbrev pub below : rounds.Search → ℕ → Option walks.Below
below q zero = None
below q (suc room) = Some (walks.walked q room 200)

-- a fork at a pair
abbrev pub fork_from : Option walks.Below → OpenPair → rounds.LowerBound → List SettledPair → walks.Progress
    → walks.Walked
fork_from None c bound settled now = walks.cut now
fork_from (Some f) c bound settled now = walks.after_first f c bound settled
    (f (with_pair c.seg (ahead c) (behind c) settled) bound.prices now)

abbrev pub fork_at : rounds.Search → ℕ → OpenPair → rounds.LowerBound → List SettledPair → walks.Progress → walks.Walked
fork_at q room c bound settled now = fork_from (below q room) c bound settled now

-- the branch nodes that a walk counts in all
abbrev pub counted : walks.Walked → ℕ
counted (walks.whole tree now) = now.branches
counted (walks.cut now) = now.branches

-- the pair of a fork is of two lines of a segment
abbrev pub IsForkOn : List (List LineId) → NodeEnd → Type 0
IsForkOn segs (Stop' tree) = Unit {0}
IsForkOn segs (Fork' pair) = IsPairOn segs pair
