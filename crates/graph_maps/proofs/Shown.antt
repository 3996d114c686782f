-- What is certified is shown.
use Rattle.std.proofs.Common.{ℕ, List}
use Rattle.map_base.specs.Settings.{Choices}
use Rattle.map_method.specs.declared.claim.Claim.{Claim}
use Rattle.graph_core.specs.declared.parts.GraphParts.{GraphParts}
use Rattle.graph_maps.specs.Subjects.{Subject}
use Rattle.graph_maps.specs.declared.checked.Proved.{Proved}
use Rattle.cert_file.specs.Plain.{PlainCertificate}
use Rattle.graph_maps.specs.Promises.{ShowsCertified, ShowsGraph}

-- a map that is certified shows exactly the line graph, with what is proved of its line orders
pub certified_shows : (subject : Subject) (choices : Choices) (claim : Claim) (graph : GraphParts)
    (certificate : PlainCertificate) (svg : List ℕ) (proved : Proved)
    → ShowsCertified subject choices claim graph certificate svg proved → ShowsGraph subject choices claim graph svg proved
certified_shows subject choices claim graph certificate svg proved shows = record {
  walks = certificate.walks;
  orders = certificate.orders;
  shown = shows.shown;
  bounded = shows.bounded;
  claimed = shows.claimed;
}
