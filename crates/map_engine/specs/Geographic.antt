-- The geographic map, by a certificate.
use Rattle.std.specs.Prelude.{◌≡◌, ℕ, List, [], Result, Ok, Err}
use Rattle.map_base.specs.declared.point.Point.{Point}
use Rattle.map_base.specs.declared.limit.Limit.{Limit}
use Rattle.map_base.specs.Settings.{Choices}
use Rattle.transit_feed.specs.Feeds.{Feed}
use Rattle.graph_core.specs.declared.parts.GraphParts.{GraphParts}
use Rattle.line_graph.specs.SegmentLines.{lines_outcome}
use Rattle.geo_map.specs.GeoMap.{geographic_text}
use Rattle.cert_file.specs.Plain.{PlainCertificate}
use Rattle.map_engine.specs.Tables.{names_by}
use Rattle.map_engine.specs.Promises.{IsCertified}
use Rattle.graph_maps.specs.declared.checked.Proved.{Proved}
use Rattle.map_method.specs.declared.claim.Claim.{Claim}

-- the orders of a certificate as a map over the courses of segments
abbrev pub geographic_by : Feed → GraphParts → List (List Point) → PlainCertificate → List ℕ
geographic_by feed graph lines c = geographic_text (names_by feed) graph lines c.orders

-- the courses of a feed's segments, none where the graph is over a limit
abbrev pub lines_or_none : Result (List (List Point)) Limit → List (List Point)
lines_or_none (Ok lines) = lines
lines_or_none (Err limit) = []

abbrev pub lines_by : Choices → Feed → List (List Point)
lines_by choices feed = lines_or_none (lines_outcome choices.near feed)

-- A geographic map, by a certificate, whoever made that: the certificate certifies the picture that is due, as `check`
-- does, so of its line orders this is proved; and the map shows these orders along the courses of the feed's segments.
pub record IsGeographicMap (feed : Feed) (choices : Choices) (claim : Claim) (map bytes : List ℕ) : Type 0 where
  pub picture : List ℕ
  pub proved : Proved
  pub certified : IsCertified feed choices claim picture bytes proved
  pub lines : List (List Point)
  pub of_feed : lines_outcome choices.near feed ≡ Ok lines
  pub drawn : map ≡ geographic_by feed certified.graph lines certified.certificate
