-- Pictures that are drawn of an accepted certificate, and the map with its names.
use Rattle.std.specs.Prelude.{◌≡◌, ℕ, List, Result}
use Rattle.map_base.specs.Settings.{Choices}
use Rattle.transit_feed.specs.Feeds.{Feed}
use Rattle.graph_core.specs.declared.parts.GraphParts.{GraphParts}
use Rattle.label_place.specs.Labelled.{labelled_text}
use Rattle.cert_file.specs.Plain.{PlainCertificate}
use Rattle.map_faults.specs.declared.fault.CheckFault.{CheckFault}
use Rattle.map_engine.specs.Tables.{importance_by, names_by}
use Rattle.graph_maps.specs.Checking.{accepted_text}
use Rattle.graph_maps.specs.declared.checked.Proved.{Proved}
use Rattle.map_method.specs.declared.claim.Claim.{Claim}
use Rattle.map_engine.specs.Promises.{IsCertified}

-- A picture of a certificate: all items of the certificate are checked but the picture that is due; a text that is no
-- certificate's is refused where its first wrong line begins.
abbrev pub pictured_items : (PlainCertificate → List ℕ) → Feed → Choices → Claim → GraphParts
    → Result PlainCertificate ℕ → Result (List ℕ) CheckFault
pictured_items draw feed choices claim graph read = accepted_text draw
    (importance_by feed choices) choices claim graph read

-- the walks and the orders of a certificate as a map with its names at free places
abbrev pub labelled_by : Feed → GraphParts → PlainCertificate → List ℕ
labelled_by feed graph c = labelled_text (names_by feed) graph c.walks c.orders

-- A map with its names, by a certificate, whoever made that: the certificate certifies the picture that is due, as
-- `check` does, so its walks are a legal drawing of exactly the feed's line graph, with line orders of which this is
-- proved; and the map shows these walks and orders, with the names at free places.
pub record IsLabelledMap (feed : Feed) (choices : Choices) (claim : Claim) (map bytes : List ℕ) : Type 0 where
  pub picture : List ℕ
  pub proved : Proved
  pub certified : IsCertified feed choices claim picture bytes proved
  pub labelled : map ≡ labelled_by feed certified.graph certified.certificate
