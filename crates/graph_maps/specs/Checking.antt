-- The check of a map and its certificate: the first item that is refused, or what is proved of its orders.
use Rattle.std.specs.Prelude.{◌≡◌, ℕ, ◌+◌, ◌==◌, ◌&&◌, Bool, true, false, List, [], ◌∷◌, length, option_map, Option, Some, None, Result, Ok, Err, if◌then◌else◌}
use Rattle.std.specs.List.{list_all}
use Rattle.map_base.specs.declared.ids.SegId.{SegId}
use Rattle.map_base.specs.declared.ids.LineId.{LineId}
use Rattle.map_base.specs.declared.limit.Limit.{Limit}
use Rattle.map_base.specs.Settings.{Choices}
use Rattle.graph_maps.specs.Subjects.{Subject}
use Rattle.graph_core.specs.declared.parts.GraphParts.{GraphParts}
use Rattle.octi_grid.specs.declared.drawing.DrawWhy.{DrawWhy}
use Rattle.octi_grid.specs.Legal.{first_illegal}
use Rattle.octi_grid.specs.Walks.{PlainWalk}
use Rattle.order_model.specs.declared.problem.ProblemParts.{ProblemParts}
use Rattle.order_model.specs.Costs.{cost_of}
use Rattle.order_model.specs.Places.{has_line}
use Rattle.map_method.specs.declared.claim.Claim.{Claim}
use Rattle.map_method.specs.declared.claim.Claim.TheVariants.{Best, Bound}
use Rattle.order_check.specs.Verdict.{verdict, bound_refusal, targets}
use Rattle.order_proof.specs.Plain.{PlainProof}
use Rattle.svg_writer.specs.declared.names.Names.{Names}
use Rattle.svg_writer.specs.Picture.{picture_text}
use Rattle.cert_file.specs.Plain.{PlainCertificate}
use Rattle.map_faults.specs.declared.fault.CheckItem.{CheckItem}
use Rattle.map_faults.specs.declared.fault.CheckItem.TheVariants as item
use Rattle.map_faults.specs.declared.fault.CheckFault.{CheckFault}
use Rattle.map_faults.specs.declared.fault.CheckFault.TheVariants as fault
use Rattle.graph_maps.specs.declared.checked.Checked.{Checked}
use Rattle.graph_maps.specs.declared.checked.CheckedMap.{CheckedMap}
use Rattle.graph_maps.specs.declared.checked.Proved.{Proved}
use Rattle.graph_maps.specs.Problems.{problem_within}
use Rattle.graph_maps.specs.Certificates.{line_count, weighty_lines}

-- The items, each with the item that is refused, where it is.

-- an item that holds or is refused
abbrev pub refused_unless : Bool → CheckItem → Option CheckItem
refused_unless holds item = if holds then None else Some item

-- the counts are those of the line graph
abbrev pub graph_item : List ℕ → GraphParts → PlainCertificate → Option CheckItem
graph_item importance graph c = refused_unless
    (c.nodes == length graph.kinds && c.segs == length graph.ends && c.lines == line_count importance graph) item.Graph

-- the same lines with the same numbers
abbrev pub are_same_pairs : List (LineId × ℕ) → List (LineId × ℕ) → Bool
are_same_pairs [] [] = true
are_same_pairs [] (q ∷ others) = false
are_same_pairs (p ∷ pairs) [] = false
are_same_pairs (p ∷ pairs) (q ∷ others) = p.0.0 == q.0.0 && p.1 == q.1 && are_same_pairs pairs others

-- the important lines are those of the line graph
abbrev pub importance_item : List ℕ → GraphParts → PlainCertificate → Option CheckItem
importance_item importance graph c = refused_unless
    (are_same_pairs (weighty_lines importance graph) c.importance) item.Importance

-- the first walk that with its predecessors is not legal
abbrev pub walk_refused : SegId × DrawWhy → CheckItem
walk_refused bad = item.Walk bad.0 bad.1

abbrev pub walk_item : GraphParts → PlainCertificate → Option CheckItem
walk_item graph c = option_map walk_refused (first_illegal graph c.walks)

-- An order has as many lines as its segment, and each of them is one of the segment's. As no line stands twice in an
-- order of a certificate, it then is one of the segment's orders.
abbrev pub is_order : List LineId → List LineId → Bool
is_order lines order = length order == length lines && list_all (has_line lines) order

-- the first segment, from segment k on, whose order has not its lines
abbrev pub first_disorder : ℕ → List (List LineId) → List (List LineId) → Option SegId
first_disorder k [] orders = None
first_disorder k (lines ∷ segs) [] = Some (record { 0 = k })
first_disorder k (lines ∷ segs) (order ∷ orders) =
    if is_order lines order then first_disorder (k + 1) segs orders else Some (record { 0 = k })

abbrev pub order_item : GraphParts → PlainCertificate → Option CheckItem
order_item graph c = option_map item.Order (first_disorder 0 graph.lines c.orders)

-- the cost is that of the orders
abbrev pub cost_item : ProblemParts → List (List LineId) → ℕ → Option CheckItem
cost_item p orders cost = refused_unless (cost == cost_of p.terms orders) item.Cost

-- the first item of the proof that is refused: where best orders are claimed, the total of the targets is an item,
-- which has to be the cost of the orders
abbrev pub proof_item : Claim → ProblemParts → List (List LineId) → PlainProof → Option CheckItem
proof_item Best p orders proof = option_map item.Proof (verdict p orders proof)
proof_item Bound p orders proof = option_map item.Proof (bound_refusal p proof)

-- the place of the first byte that differs, or the lesser length where one is the beginning of the other
abbrev pub first_difference : List ℕ → List ℕ → Option ℕ
first_difference [] [] = None
first_difference [] (y ∷ ys) = Some 0
first_difference (x ∷ xs) [] = Some 0
first_difference (x ∷ xs) (y ∷ ys) = if x == y then option_map (λ at. 1 + at) (first_difference xs ys) else Some 0

-- the bytes are those of the picture
abbrev pub picture_item : List ℕ → List ℕ → Option CheckItem
picture_item picture svg = option_map item.Picture (first_difference picture svg)

-- The items in their order.

-- what comes next, unless an item is refused
abbrev pub unless_refused : {A : Type 0} → Option CheckItem → Result A CheckFault → Result A CheckFault
unless_refused None next = next
unless_refused (Some i) next = Err (fault.Refuted i)

-- what a certificate proves: what its orders cost, and the sum of its targets, which no orders cost less than
abbrev pub proved_by : PlainCertificate → Proved
proved_by c = record { cost = c.cost; bound = targets c.proof.parts }

-- what comes next, unless the cost of orders or the proof of their bound is refused
abbrev pub unless_costlier : {A : Type 0} → Claim → ProblemParts → List (List LineId) → ℕ → PlainProof
    → Result A CheckFault → Result A CheckFault
unless_costlier claim p orders cost proof next = unless_refused (cost_item p orders cost)
    (unless_refused (proof_item claim p orders proof) next)

-- cost and proof, by the problem of the line graph
abbrev pub accepted_orders : {A : Type 0} → Claim → PlainCertificate → A → Result ProblemParts Limit
    → Result A CheckFault
accepted_orders claim c given (Err limit) = Err (fault.Limit limit)
accepted_orders claim c given (Ok p) = unless_costlier claim p c.orders c.cost c.proof (Ok given)

-- walks and orders; then the terms are counted
abbrev pub accepted_walks : {A : Type 0} → List ℕ → Choices → Claim → GraphParts → PlainCertificate → A
    → Result A CheckFault
accepted_walks importance choices claim graph c given =
    unless_refused (walk_item graph c) (unless_refused (order_item graph c)
    (accepted_orders claim c given (problem_within importance choices graph)))

-- counts and importance come first
abbrev pub accepted_items : {A : Type 0} → List ℕ → Choices → Claim → GraphParts → PlainCertificate → A
    → Result A CheckFault
accepted_items importance choices claim graph c given =
    unless_refused (graph_item importance graph c)
    (unless_refused (importance_item importance graph c) (accepted_walks importance choices claim graph c given))

-- What is given of a certificate where each of its items is accepted, by what its text is read as; or the limit that is
-- met or the item that is refused first. A text that is no certificate's is refused where its first wrong line begins.
abbrev pub accepted_text : {A : Type 0} → (PlainCertificate → A) → List ℕ → Choices → Claim → GraphParts
    → Result PlainCertificate ℕ → Result A CheckFault
accepted_text gives importance choices claim graph (Err at) = Err (fault.Refuted (item.Text at))
accepted_text gives importance choices claim graph (Ok c) = accepted_items importance choices claim graph c (gives c)

-- what a certificate that is accepted holds: its walks, its line orders, and what is proved of these
pub record AcceptedMap : Type 0 where
  pub walks : List PlainWalk
  pub orders : List (List LineId)
  pub proved : Proved

abbrev pub accepted_map : CheckedMap → AcceptedMap
accepted_map checked = record { walks = checked.drawing.walks; orders = checked.orders.lists; proved = checked.proved }

abbrev pub held_by : PlainCertificate → AcceptedMap
held_by c = record { walks = c.walks; orders = c.orders; proved = proved_by c }

-- what is found of a certificate that is accepted: what is proved of its orders, and the picture that is due
pub record PlainChecked : Type 0 where
  pub proved : Proved
  pub svg : List ℕ

abbrev pub checked_bytes : Checked → PlainChecked
checked_bytes checked = record { proved = checked.proved; svg = checked.svg.items }

abbrev pub due_of : Names → GraphParts → AcceptedMap → PlainChecked
due_of names graph a = record { proved = a.proved; svg = picture_text names graph a.walks a.orders }

-- every item but the picture
abbrev pub certificate_on : Subject → Choices → Claim → GraphParts → Result PlainCertificate ℕ
    → Result PlainChecked CheckFault
certificate_on subject choices claim graph read =
    accepted_text (λ c. due_of subject.names graph (held_by c)) subject.importance choices claim graph read

-- last the picture
abbrev pub pictured : List ℕ → Result PlainChecked CheckFault → Result Proved CheckFault
pictured svg (Err stop) = Err stop
pictured svg (Ok checked) = unless_refused (picture_item checked.svg svg) (Ok checked.proved)

-- what is proved of a map of a line graph that is accepted with its certificate; or the limit that is met or the item
-- that is refused first
abbrev pub check_on : Subject → Choices → Claim → GraphParts → List ℕ → Result PlainCertificate ℕ
    → Result Proved CheckFault
check_on subject choices claim graph svg read = pictured svg (certificate_on subject choices claim graph read)

-- the fault is the one that comes by definition; want of memory is free
abbrev pub HasCause : {A : Type 0} → Result A CheckFault → CheckFault → Type 0
HasCause outcome fault.NoMemory = Unit {0}
HasCause outcome stop = outcome ≡ Err stop

-- what was answered, seen by view, is what comes by definition, unless memory ran out
abbrev pub Gives : {X Y : Type 0} → (X → Y) → Result X CheckFault → Result Y CheckFault → Type 0
Gives view (Ok x) outcome = outcome ≡ Ok (view x)
Gives view (Err e) outcome = HasCause outcome e
