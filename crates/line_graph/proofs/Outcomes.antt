-- From what each step gives to the outcome of a feed.
use Rattle.std.proofs.Common.{◌≡◌, sym, ◌∙◌, ap, subst, ℕ, ◌<◌, ◌≤◌, ◌⊎◌, inl, inr, Bool, true, false, cond, leb, List, length, get_or, All, Option, Some, None, Result, Ok, Err, IfOk}
use Rattle.std.specs.List.{slice_get}
use Rattle.std.proofs.lemmas.List.Elements.{All-map}
use Rattle.std.proofs.lemmas.Option.{slice_get_cases}
use Rattle.map_base.specs.declared.ids.StationId.{StationId}
use Rattle.map_base.specs.declared.limit.Limit.{Limit}
use Rattle.map_base.specs.declared.limit.LimitKind.TheVariants.{NetPoints}
use Rattle.map_base.specs.declared.limit_fault.LimitFault.{LimitFault}
use Rattle.map_base.specs.declared.limit_fault.LimitFault.TheVariants as fault
use Rattle.map_base.specs.Faults.{HasCause}
use Rattle.transit_feed.specs.declared.station.Station.{Station}
use Rattle.transit_feed.specs.Feeds.{Feed}
use Rattle.graph_core.specs.declared.parts.GraphParts.{GraphParts}
use Rattle.track_net.specs.Nets.{NetParts}
use Rattle.track_net.specs.Faults.{HasCause as HasNetCause}
use Rattle.feed_courses.specs.declared.courses.Courses.{Courses}
use Rattle.feed_courses.specs.Outcome.{courses_outcome}
use Rattle.feed_courses.proofs.ServedStations.{are_known}
use Rattle.feed_courses.proofs.WholeLemmas.{within-next, above-limit}
use Rattle.way_network.specs.Graphs.{kind_of, kind_at, graph_over, graph_within}
use Rattle.way_network.specs.Segments.{nodes_of}
use Rattle.line_graph.specs.Outcome.{net_of_courses, network_of, all_passages, graph_over_net, graph_of_courses, graph_outcome}
use Rattle.line_graph.specs.Text.{IsKnown}
use Rattle.line_graph.specs.Rides.{KeepsCourses, AreKept, KeepsOutcome, KeepsLines}

-- ---- the net

-- a net of too many points is refused
pub net_refused : (near lines : ℕ) (all : Courses) (over : NetParts) (fault : LimitFault) → HasNetCause (length over.points) fault → HasCause (graph_over_net near lines all over) fault
net_refused near lines all over (fault.Limit limit) cause = above-limit NetPoints (length over.points) _ cause.1 ∙ sym (ap Err cause.0)
net_refused near lines all over fault.NoMemory cause = tt

-- else the outcome is that of the graph over it
pub net_fits : (near lines : ℕ) (all : Courses) (over : NetParts) → length over.points ≤ 100000 →
    graph_over_net near lines all over ≡ graph_within (graph_over all.stations over.points (network_of near lines all over) (all_passages near all over))
net_fits near lines all over few = within-next NetPoints (length over.points) _ few

-- ---- courses

-- courses that are refused refuse the graph
pub courses_refused : (near : ℕ) (feed : Feed) (fault : LimitFault) → HasCause (courses_outcome near feed) fault → HasCause (graph_outcome near feed) fault
courses_refused near feed (fault.Limit limit) cause = ap (graph_of_courses near (length feed.lines)) cause
courses_refused near feed fault.NoMemory cause = tt

-- else the outcome is that of the courses
pub outcome_is : (near lines : ℕ) (feed : Feed) (all : Courses) → lines ≡ length feed.lines → courses_outcome near feed ≡ Ok all → graph_outcome near feed ≡ graph_over_net near lines all (net_of_courses near all)
outcome_is near lines feed all count is =
    ap (graph_of_courses near (length feed.lines)) is ∙ sym (ap (λ (n : ℕ). graph_over_net near n all (net_of_courses near all)) count)

-- ---- stations

kind_known : (stations : List Station) (known : List StationId) (p : ℕ) → All (λ (s : StationId). s.0 < length stations) known → IsKnown stations (kind_at known p)
kind_known stations known p all = by_cases (slice_get_cases known p).1
  where
    by_cases : ((x : StationId) × (p < length known) × (slice_get known p ≡ Some x) × (get_or known p x ≡ x)) ⊎ ((length known ≤ p) × (slice_get known p ≡ None)) → IsKnown stations (kind_of (slice_get known p))
    by_cases (inl there) =
        subst (λ (o : Option StationId). IsKnown stations (kind_of o)) (sym there.2)
        (subst (λ (s : StationId). s.0 < length stations) there.3 (all p there.0 there.1))
    by_cases (inr past) = subst (λ (o : Option StationId). IsKnown stations (kind_of o)) (sym past.1) tt

pub passed : {A : Type 0} (b : Bool) (next : Result A Limit) (limit : Limit) (x : A) → cond b next (Err limit) ≡ Ok x → next ≡ Ok x
passed true next limit x e = e
passed false next limit x e = cc

abbrev pub outcome_with : GraphParts → Result GraphParts Limit
outcome_with parts = Ok parts

pub same_parts : (a b : GraphParts) → outcome_with a ≡ outcome_with b → a ≡ b
same_parts a b same = cc

-- the stations of a graph are those of the feed
pub stations_known : (near lines : ℕ) (feed : Feed) (all : Courses) (over : NetParts) (parts : GraphParts) → courses_outcome near feed ≡ Ok all → graph_over_net near lines all over ≡ Ok parts →
    All (IsKnown feed.stations) parts.kinds
stations_known near lines feed all over parts is_all is =
    let made : GraphParts = graph_over all.stations over.points (network_of near lines all over) (all_passages near all over) in
    let within = passed (leb (length over.points) 100000) _ _ parts is in
    let nodes = passed (leb (length made.kinds) 10000) _ _ parts within in
    let segments = passed (leb (length made.ends) 20000) _ _ parts nodes in
    let known = are_known near feed all is_all in
    subst (λ (g : GraphParts). All (IsKnown feed.stations) g.kinds) (same_parts made parts segments)
    (All-map (IsKnown feed.stations) (kind_at all.stations) (nodes_of (network_of near lines all over)) (λ k d below. kind_known feed.stations all.stations (get_or (nodes_of (network_of near lines all over)) k d) known))

pub known_where : (near lines : ℕ) (feed : Feed) (all : Courses) (over : NetParts) (result : Result GraphParts LimitFault) → courses_outcome near feed ≡ Ok all →
    IfOk result (λ parts. graph_over_net near lines all over ≡ Ok parts) → IfOk result (λ parts. All (IsKnown feed.stations) parts.kinds)
known_where near lines feed all over (Ok parts) is_all is = stations_known near lines feed all over parts is_all is
known_where near lines feed all over (Err fault) is_all is = tt

-- ---- no line is lost

keeps_lines : (near lines : ℕ) (feed : Feed) (all : Courses) (parts : GraphParts) → lines ≡ length feed.lines → courses_outcome near feed ≡ Ok all → graph_over_net near lines all (net_of_courses near all) ≡ Ok parts →
    AreKept near lines all (net_of_courses near all) → KeepsLines near feed parts
keeps_lines near lines feed all parts count is_all is kept =
    let over : NetParts = net_of_courses near all in
    let made : GraphParts = graph_over all.stations over.points (network_of near lines all over) (all_passages near all over) in
    let within = passed (leb (length over.points) 100000) _ _ parts is in
    let nodes = passed (leb (length made.kinds) 10000) _ _ parts within in
    let segments = passed (leb (length made.ends) 20000) _ _ parts nodes in
    subst (λ (r : Result Courses Limit). KeepsOutcome near (length feed.lines) r parts) (sym is_all)
    (subst (λ (n : ℕ). KeepsCourses near n all (net_of_courses near all) parts) count
    (subst (KeepsCourses near lines all (net_of_courses near all)) (same_parts made parts segments) kept))

-- so the graph in what is made keeps the lines
pub kept_where : {A : Type 0} (graph_in : A → GraphParts) (near lines : ℕ) (feed : Feed) (all : Courses)
    (result : Result A LimitFault) → lines ≡ length feed.lines → courses_outcome near feed ≡ Ok all →
    IfOk result (λ x. graph_over_net near lines all (net_of_courses near all) ≡ Ok (graph_in x)) →
    IfOk result (λ x. AreKept near lines all (net_of_courses near all)) →
    IfOk result (λ x. KeepsLines near feed (graph_in x))
kept_where graph_in near lines feed all (Ok x) count is_all is kept =
    keeps_lines near lines feed all (graph_in x) count is_all is kept
kept_where graph_in near lines feed all (Err fault) count is_all is kept = tt
