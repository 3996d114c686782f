-- What is given of a certificate that is accepted.
use Rattle.std.proofs.Common.{◌≡◌, ◌∙◌, ap, refl, ℕ, List, Option, Some, None, Result, Ok, Err, IfOk}
use Rattle.map_base.specs.declared.ids.LineId.{LineId}
use Rattle.map_base.specs.declared.limit.Limit.{Limit}
use Rattle.map_base.specs.Settings.{Choices}
use Rattle.map_method.specs.declared.claim.Claim.{Claim}
use Rattle.graph_core.specs.declared.parts.GraphParts.{GraphParts}
use Rattle.octi_grid.specs.Walks.{PlainWalk}
use Rattle.order_model.specs.declared.problem.ProblemParts.{ProblemParts}
use Rattle.svg_writer.specs.Picture.{picture_text}
use Rattle.cert_file.specs.Plain.{PlainCertificate}
use Rattle.cert_file.specs.Readers.{IsTextOf}
use Rattle.map_faults.specs.declared.fault.CheckItem.{CheckItem}
use Rattle.map_faults.specs.declared.fault.CheckFault.{CheckFault}
use Rattle.map_faults.specs.declared.fault.CheckFault.TheVariants as fault
use Rattle.graph_maps.specs.Subjects.{Subject}
use Rattle.graph_maps.specs.declared.checked.CheckedMap.{CheckedMap}
use Rattle.graph_maps.specs.Problems.{problem_within}
use Rattle.graph_maps.specs.Checking.{AcceptedMap, accepted_items, accepted_map, accepted_orders, accepted_text, cost_item, graph_item, importance_item, order_item, proof_item, unless_refused, walk_item, HasCause}
use Rattle.graph_maps.specs.Labelling.{labelled_of, IsLabelledOn}
use Rattle.graph_maps.specs.Promises.{IsAcceptedOn, IsCertifiedOn, ShowsAccepted}

-- what is made of what is given
abbrev pub made_of : {A B : Type 0} → (A → B) → Result A CheckFault → Result B CheckFault
made_of f (Ok a) = Ok (f a)
made_of f (Err stop) = Err stop

-- an item stops both alike
unless_made : {A B : Type 0} (f : A → B) (o : Option CheckItem) {before : Result B CheckFault}
    (next : Result A CheckFault) → before ≡ made_of f next → unless_refused o before ≡ made_of f (unless_refused o next)
unless_made f None next is = is
unless_made f (Some i) next is = refl

orders_made : {A B : Type 0} (f : A → B) (claim : Claim) (c : PlainCertificate) (given : A)
    (o : Result ProblemParts Limit) → accepted_orders claim c (f given) o ≡ made_of f (accepted_orders claim c given o)
orders_made f claim c given (Err limit) = refl
orders_made {A} f claim c given (Ok p) =
    let done : Result A CheckFault = Ok given in
    let proof = proof_item claim p c.orders c.proof in
    unless_made f (cost_item p c.orders c.cost) (unless_refused proof done) (unless_made f proof done refl)

module _ {A B : Type 0} (f : A → B) (importance : List ℕ) (choices : Choices) (claim : Claim) (graph : GraphParts) where
  items_made : (c : PlainCertificate) (given : A) → accepted_items importance choices claim graph c (f given)
      ≡ made_of f (accepted_items importance choices claim graph c given)
  items_made c given =
      let counts = graph_item importance graph c in
      let pairs = importance_item importance graph c in
      let walks = walk_item graph c in
      let orders = order_item graph c in
      let last : Result A CheckFault = accepted_orders claim c given (problem_within importance choices graph) in
      unless_made f counts (unless_refused pairs (unless_refused walks (unless_refused orders last)))
      (unless_made f pairs (unless_refused walks (unless_refused orders last))
      (unless_made f walks (unless_refused orders last)
      (unless_made f orders last (orders_made f claim c given (problem_within importance choices graph)))))

  module _ (gives : PlainCertificate → A) where
    -- what is made of what a certificate gives is given where the certificate is accepted
    pub text_made : (read : Result PlainCertificate ℕ)
        → accepted_text (λ c. f (gives c)) importance choices claim graph read
        ≡ made_of f (accepted_text gives importance choices claim graph read)
    text_made (Err at) = refl
    text_made (Ok c) = items_made c (gives c)

    pub accepted_made : (read : Result PlainCertificate ℕ) (a : A)
        → accepted_text gives importance choices claim graph read ≡ Ok a
        → accepted_text (λ c. f (gives c)) importance choices claim graph read ≡ Ok (f a)
    accepted_made read a is = text_made read ∙ ap (made_of f) is

    -- and refused as the certificate is
    pub refused_made : (read : Result PlainCertificate ℕ) (e : CheckFault)
        → HasCause (accepted_text gives importance choices claim graph read) e
        → HasCause (accepted_text (λ c. f (gives c)) importance choices claim graph read) e
    refused_made read fault.NoMemory is = tt
    refused_made read e is = text_made read ∙ ap (made_of f) is

-- what is shown of a certificate is shown of its text
pub accepted_by : (importance : List ℕ) (choices : Choices) (claim : Claim) (graph : GraphParts) (c : PlainCertificate)
    (bytes : List ℕ) (result : Result CheckedMap CheckFault) → IsTextOf c bytes
    → IfOk result (λ checked. ShowsAccepted importance choices claim graph c (accepted_map checked))
    → IfOk result (λ checked. IsAcceptedOn importance choices claim graph bytes (accepted_map checked))
accepted_by importance choices claim graph c bytes
    (Ok checked) written shows = record { certificate = c; written = written; shows = shows }
accepted_by importance choices claim graph c bytes (Err stop) written shows = tt

module _ (subject : Subject) (choices : Choices) (claim : Claim) (graph : GraphParts) (bytes : List ℕ) (a : AcceptedMap)
    (is : IsAcceptedOn subject.importance choices claim graph bytes a) where
  -- the picture that is due is certified
  abbrev pub certified_by : (svg : List ℕ) → svg ≡ picture_text subject.names graph a.walks a.orders
      → IsCertifiedOn subject choices claim graph svg bytes a.proved
  certified_by svg due = record {
    certificate = is.certificate;
    written = is.written;
    shows = record {
      shown = record {
        each = is.shows.each;
        legal = is.shows.legal;
        ordered = is.shows.ordered;
        picture = due ∙ ap (λ (walks : List PlainWalk). picture_text subject.names graph walks a.orders) is.shows.walks
            ∙ ap (λ (orders : List (List LineId)). picture_text subject.names graph is.certificate.walks orders)
            is.shows.orders;
      };
      bounded = is.shows.bounded;
      claimed = is.shows.claimed;
    };
  }

  -- and the map with its names is one by this certificate
  pub labelled_by : (map : List ℕ) → map ≡ labelled_of subject.names graph a
      → IsLabelledOn subject choices claim graph map bytes
  labelled_by map drawn = record {
    picture = picture_text subject.names graph a.walks a.orders;
    proved = a.proved;
    certified = certified_by (picture_text subject.names graph a.walks a.orders) refl;
    labelled = drawn
        ∙ ap (λ (walks : List PlainWalk). labelled_of subject.names graph (record a { walks = walks })) is.shows.walks
        ∙ ap (λ (orders : List (List LineId)). labelled_of subject.names graph
        (record { walks = is.certificate.walks; orders = orders; proved = a.proved })) is.shows.orders;
  }
