-- The poster of what is made.
use Rattle.std.proofs.Common.{◌≡◌, ◌∙◌, ap, sym, refl, ℕ, List, Result, Ok, Err}
use Rattle.map_base.specs.declared.limit.Limit.{Limit}
use Rattle.map_base.specs.Settings.{Choices}
use Rattle.map_method.specs.declared.claim.Claim.{Claim}
use Rattle.transit_feed.specs.Feeds.{Feed}
use Rattle.graph_core.specs.declared.parts.GraphParts.{GraphParts}
use Rattle.cert_file.specs.Plain.{PlainCertificate}
use Rattle.map_faults.specs.declared.fault.CheckFault.{CheckFault}
use Rattle.graph_maps.specs.declared.checked.Proved.{Proved}
use Rattle.graph_maps.specs.Making.{MapBytes}
use Rattle.graph_maps.specs.Readings.{certificate_in}
use Rattle.graph_maps.specs.Checking.{PlainChecked, due_of, held_by, pictured}
use Rattle.graph_maps.proofs.Accepted.{made_of, text_made}
use Rattle.map_engine.specs.Tables.{importance_by, names_by}
use Rattle.map_engine.specs.Checking.{checked_on, checked_text}
use Rattle.map_engine.specs.Postering.{poster_on, poster_outcome, postered_by, postered_items, IsPoster}
use Rattle.map_engine.specs.Promises.{IsMade}

module _ (feed : Feed) (choices : Choices) (claim : Claim) (graph : GraphParts) (svg : List ℕ) (c : PlainCertificate)
    (proved : Proved) where
  -- what is due of a certificate
  abbrev due : PlainCertificate → PlainChecked
  due read = due_of (names_by feed) graph (held_by read)

  -- the poster of this one, whatever the check finds
  abbrev poster : PlainChecked → List ℕ
  poster found = postered_by feed graph c

  given : (r : Result PlainChecked CheckFault) → pictured svg r ≡ Ok proved
      → made_of poster r ≡ Ok (postered_by feed graph c)
  given (Ok found) passed = refl
  given (Err stop) passed = cc

  -- where the map is accepted the poster is that of the certificate
  poster_there : (read : Result PlainCertificate ℕ) → read ≡ Ok c
      → pictured svg (checked_text feed choices claim graph read) ≡ Ok proved
      → postered_items feed choices claim graph read ≡ Ok (postered_by feed graph c)
  poster_there read is passed = ap (postered_items feed choices claim graph) is
      ∙ text_made poster (importance_by feed choices) choices claim graph due (Ok c)
      ∙ given (checked_text feed choices claim graph (Ok c))
      (sym (ap (λ (r : Result PlainCertificate ℕ). pictured svg (checked_text feed choices claim graph r)) is) ∙ passed)

-- the poster of what is made, by what its certificate is read as
pub made_poster : (feed : Feed) (choices : Choices) (claim : Claim) (made : MapBytes)
    (is : IsMade feed choices claim made) → certificate_in made.certificate ≡ Ok is.certified.certificate
    → (poster : List ℕ) × (poster_outcome feed choices claim (certificate_in made.certificate) ≡ Ok poster)
    × IsPoster feed choices claim poster made.certificate
made_poster feed choices claim made is read =
    let graph = is.certified.graph in
    let text = certificate_in made.certificate in
    let passed = sym (ap (λ (o : Result GraphParts Limit). pictured made.svg (checked_on feed choices claim text o))
    is.certified.of_feed) ∙ is.accepted in (
      postered_by feed graph is.certified.certificate,
      ap (poster_on feed choices claim text) is.certified.of_feed
          ∙ poster_there feed choices claim graph made.svg is.certified.certificate is.proved text read passed,
      record { picture = made.svg; proved = is.proved; certified = is.certified; postered = refl },
    )
