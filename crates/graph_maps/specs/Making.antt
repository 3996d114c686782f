-- The map of a line graph and its certificate; or why there is none.
use Rattle.std.specs.Prelude.{◌≡◌, ℕ, List, Result, Ok, Err}
use Rattle.map_base.specs.Settings.{Choices}
use Rattle.map_method.specs.Methods.{MethodChoices}
use Rattle.graph_core.specs.declared.parts.GraphParts.{GraphParts}
use Rattle.graph_maps.specs.Subjects.{Subject}
use Rattle.kept_trees.specs.declared.plan.SearchPlan.{SearchPlan}
use Rattle.svg_writer.specs.Picture.{picture_text}
use Rattle.cert_file.specs.Text.{certificate_text}
use Rattle.map_faults.specs.declared.fault.MakeFault.{MakeFault}
use Rattle.map_faults.specs.declared.fault.MakeFault.TheVariants as fault
use Rattle.graph_maps.specs.declared.made.Made.{Made}
use Rattle.graph_maps.specs.Problems.{Drawn, drawn_on, untangled_problem}
use Rattle.graph_maps.specs.Moving.{after_moves}
use Rattle.graph_maps.specs.Solving.{SolvedPart, solve_outcome}
use Rattle.graph_maps.specs.Lifted.{lifted_by}
use Rattle.graph_maps.specs.Certificates.{certificate_of}

-- the bytes of a map and of its certificate
pub record MapBytes : Type 0 where
  pub svg : List ℕ
  pub certificate : List ℕ

-- the map and the certificate of a drawing with the solved parts of its untangled problem
abbrev pub map_of : Subject → Drawn → List SolvedPart → MapBytes
map_of subject drawn parts = record {
  svg = picture_text subject.names drawn.graph drawn.walks (lifted_by drawn.problem parts);
  certificate = certificate_text (certificate_of subject.importance drawn parts);
}

-- how the orders of parts are searched for
abbrev pub plan_of : Choices → MethodChoices → SearchPlan
plan_of choices method = record { search = method.search; claim = method.claim; budget = choices.budget }

-- a drawing with the solved parts of its untangled problem
pub record SolvedMap : Type 0 where
  pub drawn : Drawn
  pub parts : List SolvedPart

-- what comes of a drawing and the parts of its untangled problem: the drawing after at most so many moves, with the
-- parts
abbrev pub solved_with : ℕ → Drawn → Result (List SolvedPart) MakeFault → Result SolvedMap MakeFault
solved_with moves drawn (Ok parts) = Ok (record { drawn = after_moves moves drawn; parts = parts })
solved_with moves drawn (Err stop) = Err stop

-- what comes of the drawing of a line graph, where there is one: the drawing with the solved parts of its problem
abbrev pub solved_of : Choices → MethodChoices → Result Drawn MakeFault → Result SolvedMap MakeFault
solved_of choices method (Ok drawn) = solved_with method.moves drawn
    (solve_outcome (plan_of choices method) (untangled_problem drawn.problem))
solved_of choices method (Err stop) = Err stop

-- The drawing of a line graph and its line orders; or the first cause why there is none: a limit of cells, no route, a
-- limit of terms, or a part of the untangled problem that is over the limit of places or over the budget. It never is
-- want of memory. The moves follow the routes, and no order depends on them.
abbrev pub solved_on : List ℕ → Choices → MethodChoices → GraphParts → Result SolvedMap MakeFault
solved_on importance choices method graph = solved_of choices method (drawn_on importance choices method graph)

-- what is made of a drawing with its line orders, where they are there
abbrev pub if_solved : {A : Type 0} → (SolvedMap → A) → Result SolvedMap MakeFault → Result A MakeFault
if_solved makes (Ok solved) = Ok (makes solved)
if_solved makes (Err stop) = Err stop

-- the map and the certificate of a drawing with its line orders
abbrev pub solved_map : Subject → SolvedMap → MapBytes
solved_map subject solved = map_of subject solved.drawn solved.parts

-- The map of a line graph and its certificate; or the first cause why there is none.
abbrev pub made_on : Subject → Choices → MethodChoices → GraphParts → Result MapBytes MakeFault
made_on subject choices method graph = if_solved (solved_map subject)
    (solved_on subject.importance choices method graph)

-- the bytes of what was made
abbrev pub bytes_of : Made → MapBytes
bytes_of made = record { svg = made.svg.items; certificate = made.certificate.items }

-- the fault is the one that comes by definition; want of memory is free
abbrev pub HasCause : {A : Type 0} → Result A MakeFault → MakeFault → Type 0
HasCause outcome fault.NoMemory = Unit {0}
HasCause outcome stop = outcome ≡ Err stop

-- what was answered, seen by view, is what comes by definition, unless memory ran out
abbrev pub Gives : {X Y : Type 0} → (X → Y) → Result X MakeFault → Result Y MakeFault → Type 0
Gives view (Ok x) outcome = outcome ≡ Ok (view x)
Gives view (Err e) outcome = HasCause outcome e
