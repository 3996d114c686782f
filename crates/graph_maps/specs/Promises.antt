-- What a map promises, whoever made it.
use Rattle.std.specs.Prelude.{◌≡◌, ℕ, List, length, true, Ok}
use Rattle.map_base.specs.declared.ids.LineId.{LineId}
use Rattle.map_base.specs.Settings.{Choices}
use Rattle.graph_maps.specs.Subjects.{Subject}
use Rattle.graph_core.specs.declared.parts.GraphParts.{GraphParts}
use Rattle.octi_grid.specs.Walks.{PlainWalk}
use Rattle.octi_grid.specs.Legal.{legal}
use Rattle.map_method.specs.declared.claim.Claim.{Claim}
use Rattle.map_method.specs.declared.claim.Claim.TheVariants.{Best, Bound}
use Rattle.order_model.specs.Costs.{cost_of, AreOrders}
use Rattle.order_check.specs.LowerBounds.{IsLowerBound}
use Rattle.graph_maps.specs.declared.checked.Proved.{Proved}
use Rattle.svg_writer.specs.Picture.{picture_text}
use Rattle.cert_file.specs.Plain.{PlainCertificate}
use Rattle.cert_file.specs.Readers.{IsTextOf}
use Rattle.graph_maps.specs.Problems.{problem_of}
use Rattle.graph_maps.specs.Making.{MapBytes}
use Rattle.graph_maps.specs.Readings.{certificate_in}
use Rattle.graph_maps.specs.Checking.{AcceptedMap, check_on}

-- a picture of this line graph: a legal drawing with a walk for each segment, in which the lines of each segment stand
-- in some order
pub record IsPictureOf (subject : Subject) (graph : GraphParts) (walks : List PlainWalk) (orders : List (List LineId))
    (svg : List ℕ) : Type 0 where
  pub each : length walks ≡ length graph.ends
  pub legal : legal graph walks ≡ true
  pub ordered : AreOrders graph.lines orders
  pub picture : svg ≡ picture_text subject.names graph walks orders

-- the orders cost so much, and no line orders of the graph cost less than the bound; so they are best where the bound
-- is what they cost
pub record AreBounded (importance : List ℕ) (choices : Choices) (graph : GraphParts) (orders : List (List LineId))
    (proved : Proved) : Type 0 where
  pub costs : cost_of (problem_of importance choices graph).terms orders ≡ proved.cost
  pub bound : IsLowerBound graph.lines (problem_of importance choices graph).terms proved.bound

-- where best orders are claimed, the bound is what they cost
abbrev pub IsClaimed : Claim → Proved → Type 0
IsClaimed Best proved = proved.bound ≡ proved.cost
IsClaimed Bound proved = Unit {0}

-- the map shows exactly this line graph: a legal drawing of it, with line orders of which this is proved
pub record ShowsGraph (subject : Subject) (choices : Choices) (claim : Claim) (graph : GraphParts) (svg : List ℕ)
    (proved : Proved) : Type 0 where
  pub walks : List PlainWalk
  pub orders : List (List LineId)
  pub shown : IsPictureOf subject graph walks orders svg
  pub bounded : AreBounded subject.importance choices graph orders proved
  pub claimed : IsClaimed claim proved

-- the map shows exactly this line graph, with the walks and the orders of this certificate
pub record ShowsCertified (subject : Subject) (choices : Choices) (claim : Claim) (graph : GraphParts)
    (certificate : PlainCertificate) (svg : List ℕ) (proved : Proved) : Type 0 where
  pub shown : IsPictureOf subject graph certificate.walks certificate.orders svg
  pub bounded : AreBounded subject.importance choices graph certificate.orders proved
  pub claimed : IsClaimed claim proved

-- A map of a line graph that is certified by a certificate, whoever made the two: the bytes are a certificate's text;
-- its walks are a legal drawing of the graph, and the map is the picture of it; its orders are orders of the segments,
-- they cost so much, and none cost less than the bound, which is this cost where best orders are claimed. This is what
-- a yes means.
pub record IsCertifiedOn (subject : Subject) (choices : Choices) (claim : Claim) (graph : GraphParts)
    (svg bytes : List ℕ) (proved : Proved) : Type 0 where
  pub certificate : PlainCertificate
  pub written : IsTextOf certificate bytes
  pub shows : ShowsCertified subject choices claim graph certificate svg proved

-- What an accepted certificate shows, before any picture: its walks are a legal drawing of the graph, and its orders
-- are orders of the segments of which this is proved.
pub record ShowsAccepted (importance : List ℕ) (choices : Choices) (claim : Claim) (graph : GraphParts)
    (certificate : PlainCertificate) (a : AcceptedMap) : Type 0 where
  pub walks : a.walks ≡ certificate.walks
  pub orders : a.orders ≡ certificate.orders
  pub each : length certificate.walks ≡ length graph.ends
  pub legal : legal graph certificate.walks ≡ true
  pub ordered : AreOrders graph.lines certificate.orders
  pub bounded : AreBounded importance choices graph certificate.orders a.proved
  pub claimed : IsClaimed claim a.proved

pub record IsAcceptedOn (importance : List ℕ) (choices : Choices) (claim : Claim) (graph : GraphParts) (bytes : List ℕ)
    (a : AcceptedMap) : Type 0 where
  pub certificate : PlainCertificate
  pub written : IsTextOf certificate bytes
  pub shows : ShowsAccepted importance choices claim graph certificate a

-- What is made keeps the promise: the map is certified by its certificate, so it shows exactly the line graph and no
-- line orders cost less than the bound; and the check says yes to the two, with this cost and bound.
pub record IsMadeOn (subject : Subject) (choices : Choices) (claim : Claim) (graph : GraphParts)
    (made : MapBytes) : Type 0 where
  pub proved : Proved
  pub certified : IsCertifiedOn subject choices claim graph made.svg made.certificate proved
  pub accepted : check_on subject choices claim graph made.svg (certificate_in made.certificate) ≡ Ok proved
