-- What the tables of a feed tell: each number is one that a line may have, and each line on a segment has one.
use Rattle.std.proofs.Common.{◌≡◌, ◌∙◌, ap, sym, subst, ℕ, ◌<◌, ◌^◌, Bool, true, false, cond, List, [], ◌∷◌, length, get_or, arith, All, Ok}
use Rattle.std.specs.Prelude.{bytes_eq}
use Rattle.std.proofs.lemmas.List.{length-map}
use Rattle.std.proofs.lemmas.List.Elements.{All-head, All-tail, All-map}
use Rattle.map_base.specs.declared.ids.LineId.{LineId}
use Rattle.map_base.specs.Settings.{Choices, IsImportance}
use Rattle.transit_feed.specs.declared.line.Line.{Line}
use Rattle.transit_feed.specs.Feeds.{Feed}
use Rattle.graph_core.specs.declared.parts.GraphParts.{GraphParts}
use Rattle.line_graph.specs.Outcome.{graph_outcome}
use Rattle.line_graph.proofs.FeedLines.{lines_of_feed}
use Rattle.svg_writer.specs.declared.names.Names.{Names}
use Rattle.graph_maps.specs.Subjects.{told_by, AreListed}
use Rattle.map_engine.specs.Tables.{importance_among, importance_by, names_by, subject_of}

-- the number of a pair
abbrev HasNumber : List ℕ × ℕ → Type 0
HasNumber p = IsImportance p.1

among_in_range : (pairs : List (List ℕ × ℕ)) (id : List ℕ) → All HasNumber pairs
    → IsImportance (importance_among pairs id)
among_in_range [] id all = (omega arith, omega arith)
among_in_range (p ∷ pairs) id all = by_test (bytes_eq p.0 id) (All-head HasNumber p pairs all)
    (among_in_range pairs id (All-tail HasNumber p pairs all))
  where
    by_test : (b : Bool) → IsImportance p.1 → IsImportance (importance_among pairs id)
        → IsImportance (cond b p.1 (importance_among pairs id))
    by_test true here rest = here
    by_test false here rest = rest

module _ (feed : Feed) (choices : Choices) where
  abbrev number : Line → ℕ
  number l = importance_among choices.importance l.id

  pub numbers_in : All HasNumber choices.importance → All IsImportance (importance_by feed choices)
  numbers_in all = All-map IsImportance number feed.lines
      (λ k d h. among_in_range choices.importance (get_or feed.lines k d).id all)

  pub few_in : length feed.lines < 2 ^ 32 → length (importance_by feed choices) < 2 ^ 32
  few_in few = omega (arith, few, length-map feed.lines number)

  pub listed_in : (graph : GraphParts) → graph_outcome choices.near feed ≡ Ok graph
      → AreListed (importance_by feed choices) graph
  listed_in graph made = subst (λ (n : ℕ). All (All (λ (a : LineId). a.0 < n)) graph.lines)
      (sym (length-map feed.lines number)) (lines_of_feed choices.near feed graph made)

  pub subject_is : (names : Names) (numbers : List ℕ) → names ≡ names_by feed → numbers ≡ importance_by feed choices
      → told_by names numbers ≡ subject_of feed choices
  subject_is names numbers named are = ap (λ (ns : Names). told_by ns numbers) named ∙ ap (told_by (names_by feed)) are
