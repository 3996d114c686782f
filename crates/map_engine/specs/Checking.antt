-- The check of a map of a feed and its certificate: the first item that is refused, or what is proved of its orders.
use Rattle.std.specs.Prelude.{ℕ, List, Result, Ok, Err}
use Rattle.map_base.specs.declared.limit.Limit.{Limit}
use Rattle.map_base.specs.Settings.{Choices}
use Rattle.map_method.specs.declared.claim.Claim.{Claim}
use Rattle.transit_feed.specs.Feeds.{Feed}
use Rattle.graph_core.specs.declared.parts.GraphParts.{GraphParts}
use Rattle.line_graph.specs.Outcome.{graph_outcome}
use Rattle.cert_file.specs.Plain.{PlainCertificate}
use Rattle.map_faults.specs.declared.fault.CheckFault.{CheckFault}
use Rattle.map_faults.specs.declared.fault.CheckFault.TheVariants as fault
use Rattle.graph_maps.specs.declared.checked.Proved.{Proved}
use Rattle.graph_maps.specs.Checking.{PlainChecked, certificate_on, pictured}
use Rattle.map_engine.specs.Tables.{subject_of}

-- every item but the picture, by the line graph of the feed
abbrev pub checked_text : Feed → Choices → Claim → GraphParts → Result PlainCertificate ℕ
    → Result PlainChecked CheckFault
checked_text feed choices claim graph read = certificate_on (subject_of feed choices) choices claim graph read

abbrev pub checked_on : Feed → Choices → Claim → Result PlainCertificate ℕ → Result GraphParts Limit
    → Result PlainChecked CheckFault
checked_on feed choices claim read (Err limit) = Err (fault.Limit limit)
checked_on feed choices claim read (Ok graph) = checked_text feed choices claim graph read

-- Every item but the picture, by what the certificate's text is read as: what is proved of its orders and the picture
-- that is due, or the limit that is met or the item refused first.
abbrev pub certificate_outcome : Feed → Choices → Claim → Result PlainCertificate ℕ → Result PlainChecked CheckFault
certificate_outcome feed choices claim read = checked_on feed choices claim read (graph_outcome choices.near feed)

-- what is proved of a map that is accepted with its certificate, or the limit that is met or the item refused first
abbrev pub check_outcome : Feed → Choices → Claim → List ℕ → Result PlainCertificate ℕ → Result Proved CheckFault
check_outcome feed choices claim svg read = pictured svg (certificate_outcome feed choices claim read)
