-- The poster, by a certificate.
use Rattle.std.specs.Prelude.{◌≡◌, ℕ, List, Result, Ok, Err}
use Rattle.map_base.specs.declared.limit.Limit.{Limit}
use Rattle.map_base.specs.Settings.{Choices}
use Rattle.transit_feed.specs.Feeds.{Feed}
use Rattle.graph_core.specs.declared.parts.GraphParts.{GraphParts}
use Rattle.line_graph.specs.Outcome.{graph_outcome}
use Rattle.line_calls.specs.Calls.{node_callers}
use Rattle.poster_rules.specs.Posters.{poster_text}
use Rattle.cert_file.specs.Plain.{PlainCertificate}
use Rattle.map_faults.specs.declared.fault.CheckFault.{CheckFault}
use Rattle.map_faults.specs.declared.fault.CheckFault.TheVariants as fault
use Rattle.map_engine.specs.Tables.{names_by}
use Rattle.map_engine.specs.Promises.{IsCertified}
use Rattle.map_engine.specs.Labelling.{pictured_items}
use Rattle.graph_maps.specs.declared.checked.Proved.{Proved}
use Rattle.map_method.specs.declared.claim.Claim.{Claim}

-- the walks and the orders of a certificate as a poster, with the lines that call at each node
abbrev pub postered_by : Feed → GraphParts → PlainCertificate → List ℕ
postered_by feed graph c = poster_text (names_by feed) graph c.walks c.orders (node_callers feed graph.kinds)

-- this poster, or why the certificate is not accepted
abbrev pub postered_items : Feed → Choices → Claim → GraphParts → Result PlainCertificate ℕ → Result (List ℕ) CheckFault
postered_items feed choices claim graph read = pictured_items (postered_by feed graph) feed choices claim graph read

abbrev pub poster_on : Feed → Choices → Claim → Result PlainCertificate ℕ → Result GraphParts Limit
    → Result (List ℕ) CheckFault
poster_on feed choices claim read (Err limit) = Err (fault.Limit limit)
poster_on feed choices claim read (Ok graph) = postered_items feed choices claim graph read

-- The poster, by what the certificate's text is read as; or the limit that is met, or the item refused first.
abbrev pub poster_outcome : Feed → Choices → Claim → Result PlainCertificate ℕ → Result (List ℕ) CheckFault
poster_outcome feed choices claim read = poster_on feed choices claim read (graph_outcome choices.near feed)

-- A poster, by a certificate, whoever made that: the certificate certifies the picture that is due, as `check` does, so
-- its walks are a legal drawing of exactly the feed's line graph, with line orders of which this is proved; and the
-- poster shows these walks and orders, with its stations marked at the lines that call there.
pub record IsPoster (feed : Feed) (choices : Choices) (claim : Claim) (map bytes : List ℕ) : Type 0 where
  pub picture : List ℕ
  pub proved : Proved
  pub certified : IsCertified feed choices claim picture bytes proved
  pub postered : map ≡ postered_by feed certified.graph certified.certificate
