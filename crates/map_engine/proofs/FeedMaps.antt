-- What comes of a feed is what comes of its line graph.
use Rattle.std.proofs.Common.{◌≡◌, ◌∙◌, ap, ℕ, List, Result, Ok}
use Rattle.map_base.specs.declared.limit.Limit.{Limit}
use Rattle.map_base.specs.declared.limit_fault.LimitFault.{LimitFault}
use Rattle.map_base.specs.declared.limit_fault.LimitFault.TheVariants as limit
use Rattle.map_base.specs.Faults as limits
use Rattle.map_base.specs.Settings.{Choices}
use Rattle.map_method.specs.Methods.{MethodChoices}
use Rattle.map_method.specs.declared.claim.Claim.{Claim}
use Rattle.transit_feed.specs.Feeds.{Feed}
use Rattle.graph_core.specs.declared.parts.GraphParts.{GraphParts}
use Rattle.line_graph.specs.Outcome.{graph_outcome}
use Rattle.line_graph.specs.Rides.{KeepsLines}
use Rattle.kept_trees.specs.OwnTrees.{HeldPart}
use Rattle.map_faults.specs.declared.fault.MakeFault.{MakeFault}
use Rattle.map_faults.specs.Faults.{of_limit}
use Rattle.graph_maps.specs.declared.checked.Proved.{Proved}
use Rattle.graph_maps.specs.Problems.{Drawn, drawn_on}
use Rattle.graph_maps.specs.Making.{MapBytes, if_solved, made_on, plan_of, solved_map, solved_of, HasCause}
use Rattle.graph_maps.specs.Improving.{ImprovedBytes, improved_map, improved_on, IsImprovedOn}
use Rattle.graph_maps.specs.Keeping.{finished_in, finished_on, left_on, missing_branches}
use Rattle.graph_maps.specs.Readings.{certificate_in}
use Rattle.graph_maps.specs.Checking.{pictured}
use Rattle.graph_maps.specs.Labelling.{IsLabelledOn}
use Rattle.graph_maps.specs.Promises.{IsCertifiedOn, IsMadeOn}
use Rattle.graph_maps.proofs.Shown.{certified_shows}
use Rattle.map_engine.specs.Tables.{importance_by, subject_of}
use Rattle.map_engine.specs.Making.{drawn_outcome, make_outcome, over_graph}
use Rattle.map_engine.specs.Improving.{improve_outcome, IsImprovedMap}
use Rattle.map_engine.specs.Keeping.{finished_parts, branches_left}
use Rattle.map_engine.specs.Checking.{checked_on}
use Rattle.map_engine.specs.Labelling.{IsLabelledMap}
use Rattle.map_engine.specs.Promises.{IsCertified, IsMade, ShowsLineGraph}

-- a line graph that is refused refuses the drawing
pub not_built : (feed : Feed) (choices : Choices) (method : MethodChoices) (stop : LimitFault)
    → limits.HasCause (graph_outcome choices.near feed) stop
    → HasCause (drawn_outcome feed choices method) (of_limit stop)
not_built feed choices method (limit.Limit l) h = ap
    (over_graph (λ graph. drawn_on (importance_by feed choices) choices method graph)) h
not_built feed choices method limit.NoMemory h = tt

module _ (feed : Feed) (choices : Choices) (graph : GraphParts)
    (of_feed : graph_outcome choices.near feed ≡ Ok graph) where
  pub drawn_is : (method : MethodChoices)
      → drawn_outcome feed choices method ≡ drawn_on (importance_by feed choices) choices method graph
  drawn_is method = ap (over_graph (λ g. drawn_on (importance_by feed choices) choices method g)) of_feed

  pub made_is : (method : MethodChoices) → make_outcome feed choices method
      ≡ made_on (subject_of feed choices) choices method graph
  made_is method = ap (λ (o : Result Drawn MakeFault). if_solved (solved_map (subject_of feed choices))
      (solved_of choices method o)) (drawn_is method)

  pub improved_is : (method : MethodChoices) (moves : ℕ)
      → improve_outcome feed choices method moves ≡ improved_on (subject_of feed choices) choices method moves graph
  improved_is method moves = ap (λ (o : Result Drawn MakeFault). if_solved
      (improved_map (subject_of feed choices) moves) (solved_of choices method o)) (drawn_is method)

  pub finished_is : (method : MethodChoices)
      → finished_parts feed choices method ≡ finished_on (importance_by feed choices) choices method graph
  finished_is method = ap (finished_in (plan_of choices method)) (drawn_is method)

  pub left_is : (held : List HeldPart) (method : MethodChoices)
      → branches_left held feed choices method ≡ left_on held (importance_by feed choices) choices method graph
  left_is held method = ap (missing_branches held (plan_of choices method)) (drawn_is method)

  -- What holds of a map of the line graph holds of one of the feed, where the graph keeps its lines.
  module _ (kept : KeepsLines choices.near feed graph) where
    abbrev pub certified_of : (claim : Claim) (svg bytes : List ℕ) (proved : Proved)
        → IsCertifiedOn (subject_of feed choices) choices claim graph svg bytes proved
        → IsCertified feed choices claim svg bytes proved
    certified_of claim svg bytes proved is = record {
      certificate = is.certificate;
      written = is.written;
      graph = graph;
      of_feed = of_feed;
      kept = kept;
      shows = is.shows;
    }

    pub shown_of : (claim : Claim) (svg bytes : List ℕ) (proved : Proved)
        → IsCertifiedOn (subject_of feed choices) choices claim graph svg bytes proved
        → ShowsLineGraph feed choices claim svg proved
    shown_of claim svg bytes proved is = record {
      graph = graph;
      of_feed = of_feed;
      kept = kept;
      shows = certified_shows (subject_of feed choices) choices claim graph is.certificate svg proved is.shows;
    }

    pub made_of : (claim : Claim) (made : MapBytes) → IsMadeOn (subject_of feed choices) choices claim graph made
        → IsMade feed choices claim made
    made_of claim made is = record {
      proved = is.proved;
      certified = certified_of claim made.svg made.certificate is.proved is.certified;
      accepted = ap (λ (o : Result GraphParts Limit). pictured made.svg
          (checked_on feed choices claim (certificate_in made.certificate) o)) of_feed ∙ is.accepted;
    }

    pub improved_of : (method : MethodChoices) (moves : ℕ) (improved : ImprovedBytes)
        → IsImprovedOn (subject_of feed choices) choices method graph moves improved
        → IsImprovedMap feed choices method moves improved
    improved_of method moves improved is = record {
      made = made_of method.claim improved.map is.made;
      no_heavier = is.no_heavier;
      solved = is.solved;
      of_feed = ap (solved_of choices method) (drawn_is method) ∙ is.of_graph;
      to_the_end = is.to_the_end;
    }

    pub labelled_of : (claim : Claim) (map bytes : List ℕ)
        → IsLabelledOn (subject_of feed choices) choices claim graph map bytes
        → IsLabelledMap feed choices claim map bytes
    labelled_of claim map bytes is = record {
      picture = is.picture;
      proved = is.proved;
      certified = certified_of claim is.picture bytes is.proved is.certified;
      labelled = is.labelled;
    }
