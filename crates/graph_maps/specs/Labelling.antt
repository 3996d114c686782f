-- The map with its names, by a certificate.
use Rattle.std.specs.Prelude.{◌≡◌, ℕ, List, Result}
use Rattle.map_base.specs.Settings.{Choices}
use Rattle.map_method.specs.declared.claim.Claim.{Claim}
use Rattle.graph_core.specs.declared.parts.GraphParts.{GraphParts}
use Rattle.svg_writer.specs.declared.names.Names.{Names}
use Rattle.label_place.specs.Labelled.{labelled_text}
use Rattle.cert_file.specs.Plain.{PlainCertificate}
use Rattle.map_faults.specs.declared.fault.CheckFault.{CheckFault}
use Rattle.graph_maps.specs.Subjects.{Subject}
use Rattle.graph_maps.specs.declared.checked.Proved.{Proved}
use Rattle.graph_maps.specs.Checking.{AcceptedMap, accepted_text, held_by}
use Rattle.graph_maps.specs.Promises.{IsCertifiedOn}

-- walks and orders as a map with its names at free places
abbrev pub labelled_of : Names → GraphParts → AcceptedMap → List ℕ
labelled_of names graph a = labelled_text names graph a.walks a.orders

-- the map with its names, where the certificate is accepted
abbrev pub labelled_on : Subject → Choices → Claim → GraphParts → Result PlainCertificate ℕ → Result (List ℕ) CheckFault
labelled_on subject choices claim graph read =
    accepted_text (λ c. labelled_of subject.names graph (held_by c)) subject.importance choices claim graph read

-- A map of a line graph with its names, by a certificate, whoever made that: the certificate certifies the picture that
-- is due, as `check_from` does, so its walks are a legal drawing of exactly this graph, with line orders of which this
-- is proved; and the map shows these walks and orders, with the names at free places.
pub record IsLabelledOn (subject : Subject) (choices : Choices) (claim : Claim) (graph : GraphParts)
    (map bytes : List ℕ) : Type 0 where
  pub picture : List ℕ
  pub proved : Proved
  pub certified : IsCertifiedOn subject choices claim graph picture bytes proved
  pub labelled : map ≡ labelled_of subject.names graph (held_by certified.certificate)
