-- Which lines call at stations.
use Rattle.std.proofs.Common.{◌≡◌, ℕ, Bool, true, false, List, [], ◌∷◌, None, refl}
use Rattle.map_base.specs.declared.ids.StationId.{StationId}
use Rattle.graph_core.specs.declared.parts.NodeKind.TheVariants.{Station, Junction}
use Rattle.transit_feed.specs.declared.line.Line.{Line}
use Rattle.transit_feed.specs.declared.pattern.Pattern.{Pattern}
use Rattle.transit_feed.specs.Feeds.{Feed}
use Rattle.line_calls.specs.Calls.{line_numbered, node_callers}

abbrev line : Bool → Line
line hidden = record { id = []; name = []; colour = []; hidden = hidden }

abbrev pattern : ℕ → List StationId → Pattern
pattern of stops = record { line = record { 0 = of }; stops = stops; shape = None }

abbrev station : ℕ → StationId
station n = record { 0 = n }

-- a slow line, an express that passes a station, and a line that is hidden
abbrev feed : Feed
feed = record {
  stations = [];
  lines = line false ∷ line false ∷ line true ∷ [];
  patterns = pattern 1 (station 2 ∷ station 0 ∷ []) ∷ pattern 0 (station 0 ∷ station 1 ∷ []) ∷ pattern 0 (station 1 ∷ station 2 ∷ []) ∷ pattern 2 (station 0 ∷ station 1 ∷ []) ∷ [];
  shapes = [];
}

express_passes :
    node_callers feed (Station (station 0) ∷ Station (station 1) ∷ Junction ∷ Station (station 2) ∷ [])
    ≡ (line_numbered 0 ∷ line_numbered 1 ∷ []) ∷ (line_numbered 0 ∷ []) ∷ [] ∷ (line_numbered 0 ∷ line_numbered 1 ∷ []) ∷ []
express_passes = refl
