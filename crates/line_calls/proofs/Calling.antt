-- Lines that are found by a table are those that call.
use Rattle.std.proofs.Common.{◌≡◌, ℕ, ◌+◌, ◌<◌, ◌≤◌, ◌⊎◌, inl, inr, Bool, true, false, ◌&&◌, ◌==◌, List, [], ◌∷◌, ◌++◌, length, map, filter, get_or, take, refl, ap, sym, subst, ◌∙◌, arith, Some}
use Rattle.std.specs.Prelude.{All, slice_get, Vec}
use Rattle.std.specs.List.{list_any, range_with_len}
use Rattle.std.proofs.lemmas.Bool.{cases_lt, ne_eqb}
use Rattle.std.proofs.lemmas.List.{get_or_past, map-append, take_more}
use Rattle.std.proofs.lemmas.List.Elements.{All-weaker}
use Rattle.std.proofs.lemmas.Option.{get_or_from_slice_get}
use Rattle.map_base.specs.declared.ids.LineId.{LineId}
use Rattle.map_base.specs.declared.ids.StationId.{StationId}
use Rattle.graph_core.specs.declared.parts.NodeKind.{NodeKind}
use Rattle.graph_core.specs.declared.parts.NodeKind.TheVariants.{Station, Junction}
use Rattle.transit_feed.specs.declared.line.Line.{Line}
use Rattle.transit_feed.specs.declared.pattern.Pattern.{Pattern}
use Rattle.transit_feed.specs.Feeds.{Feed, IsFeed, IsPattern}
use Rattle.feed_courses.specs.Shown.{is_shown, serves}
use Rattle.line_calls.specs.Calls.{callers_at, calls, is_call, line_numbered, node_callers}
use Rattle.std.specs.Global.{Global}
use Rattle.line_calls.specs.Tables.{lists_in, callers_in, is_caller, is_of, no_pattern, numbers_at, pattern_at, AreByLine, IsTable}
use Rattle.line_calls.proofs.ListLemmas.{lists_count, any_filter, any_none, any_numbered, filter_none, filter_same}

-- ---- what patterns name

pub lines_known : (feed : Feed) → IsFeed feed → All (λ (p : Pattern). p.line.0 < length feed.lines) feed.patterns
lines_known feed fits = All-weaker (IsPattern feed) (λ (p : Pattern). p.line.0 < length feed.lines) (λ p h. h.line) feed.patterns fits.patterns

pub stops_known : (feed : Feed) → IsFeed feed → All (λ (p : Pattern). All (λ (s : StationId). s.0 < length feed.stations) p.stops) feed.patterns
stops_known feed fits = All-weaker (IsPattern feed) (λ (p : Pattern). All (λ (s : StationId). s.0 < length feed.stations) p.stops) (λ p h. h.stops) feed.patterns fits.patterns

-- ---- a line

and_assoc : (a b c : Bool) → ((a && b) && c) ≡ (a && (b && c))
and_assoc true b c = refl
and_assoc false b c = refl

pub caller_is : (feed : Feed) (lists : List (List ℕ)) (s line : ℕ) → AreByLine feed.lines feed.patterns (length feed.patterns) lists → line < length feed.lines → is_caller feed.patterns lists s line ≡ calls feed s line
caller_is feed lists s line h low =
    let ps = feed.patterns in
    ap (λ (ns : List ℕ). list_any (λ (k : ℕ). serves s (pattern_at ps k)) ns) (h.of line low)
    ∙ any_filter (λ (k : ℕ). serves s (pattern_at ps k)) (is_of feed.lines ps line) (range_with_len 0 (length ps))
    ∙ any_numbered (λ (p : Pattern). is_shown feed.lines p && is_call s line p) (λ (k : ℕ). is_of feed.lines ps line k && serves s (pattern_at ps k)) no_pattern ps 0
    (λ i within.
    let from : 0 + i ≡ i = omega arith in
    ap (λ (k : ℕ). is_of feed.lines ps line k && serves s (pattern_at ps k)) from ∙ and_assoc (is_shown feed.lines (pattern_at ps i)) ((pattern_at ps i).line.0 == line) (serves s (pattern_at ps i)))

-- ---- a station

-- none calls where no station of the feed is
none_beyond : (feed : Feed) → IsFeed feed → (s line : ℕ) → length feed.stations ≤ s → calls feed s line ≡ false
none_beyond feed fits s line high = any_none (λ (p : Pattern). is_shown feed.lines p && is_call s line p) no_pattern feed.patterns (λ k low. no_call (pattern_at feed.patterns k) (stops_known feed fits k no_pattern low))
  where
    none : StationId
    none = record { 0 = 0 }

    not_served : (p : Pattern) → All (λ (t : StationId). t.0 < length feed.stations) p.stops → serves s p ≡ false
    not_served p known =
        any_none (λ (t : StationId). t.0 == s) none p.stops
        (λ k low. ne_eqb (get_or p.stops k none).0 s (λ e. omega (arith, e, high, known k none low)))

    and_false : (a b : Bool) → (a && (b && false)) ≡ false
    and_false true true = refl
    and_false true false = refl
    and_false false b = refl

    no_call : (p : Pattern) → All (λ (t : StationId). t.0 < length feed.stations) p.stops → (is_shown feed.lines p && is_call s line p) ≡ false
    no_call p known = ap (λ (b : Bool). is_shown feed.lines p && ((p.line.0 == line) && b)) (not_served p known) ∙ and_false (is_shown feed.lines p) (p.line.0 == line)

station_is : (feed : Feed) → IsFeed feed → (lists table : List (List ℕ)) (s : ℕ) → AreByLine feed.lines feed.patterns (length feed.patterns) lists
    → IsTable (length feed.stations) (callers_in feed.patterns lists (length feed.lines)) table → get_or table s [] ≡ filter (calls feed s) (range_with_len 0 (length feed.lines))
station_is feed fits lists table s h k = by_place (cases_lt s (length feed.stations))
  where
    by_place : (s < length feed.stations) ⊎ (length feed.stations ≤ s) → get_or table s [] ≡ filter (calls feed s) (range_with_len 0 (length feed.lines))
    by_place (inl low) = k.at s low ∙ filter_same (is_caller feed.patterns lists s) (calls feed s) 0 (length feed.lines) (λ line from below. caller_is feed lists s line h (omega (arith, below)))
    by_place (inr high) = get_or_past table s [] (omega (arith, high, k.each)) ∙ sym (filter_none (calls feed s) 0 (length feed.lines) (λ line. none_beyond feed fits s line high))

kind_is : (feed : Feed) → IsFeed feed → (lists table : List (List ℕ)) (kind : NodeKind) → AreByLine feed.lines feed.patterns (length feed.patterns) lists
    → IsTable (length feed.stations) (callers_in feed.patterns lists (length feed.lines)) table → numbers_at table kind ≡ callers_at feed kind
kind_is feed fits lists table (Station s) h k = ap (map line_numbered) (station_is feed fits lists table s.0 h k)
kind_is feed fits lists table Junction h k = refl

-- ---- all nodes

pub nodes_are : (feed : Feed) → IsFeed feed → (lists table : List (List ℕ)) (kinds : List NodeKind) → AreByLine feed.lines feed.patterns (length feed.patterns) lists
    → IsTable (length feed.stations) (callers_in feed.patterns lists (length feed.lines)) table → map (numbers_at table) kinds ≡ node_callers feed kinds
nodes_are feed fits lists table [] h k = refl
nodes_are feed fits lists table (kind ∷ kinds) h k =
    ap (λ (ls : List LineId). ls ∷ map (numbers_at table) kinds) (kind_is feed fits lists table kind h k) ∙ ap (λ (rest : List (List LineId)). callers_at feed kind ∷ rest) (nodes_are feed fits lists table kinds h k)

-- one node more
pub one_kind_more : (table : List (List ℕ)) (kinds : List NodeKind) (n : ℕ) (kind : NodeKind) → n < length kinds → slice_get kinds n ≡ Some kind
    → map (numbers_at table) (take (n + 1) kinds) ≡ map (numbers_at table) (take n kinds) ++ numbers_at table kind ∷ []
one_kind_more table kinds n kind low e =
    ap (map (numbers_at table)) (take_more kinds n Junction low ∙ ap (λ (k : NodeKind). take n kinds ++ k ∷ []) (get_or_from_slice_get kinds n kind Junction e))
    ∙ map-append (numbers_at table) (take n kinds) (kind ∷ [])

-- what is found by the tables that are built is what is said
pub found_are : (feed : Feed) → IsFeed feed → (lines : List Line) (patterns again : List Pattern) (stations : ℕ) (by_line slice table table_slice : List (Vec ℕ Global)) (kinds : List NodeKind) (lists : List (List LineId))
    → lines ≡ feed.lines → patterns ≡ feed.patterns → again ≡ feed.patterns → stations ≡ length feed.stations → slice ≡ by_line → AreByLine lines patterns (length patterns) (lists_in by_line)
    → IsTable stations (callers_in again (lists_in slice) (length slice)) (lists_in table) → table_slice ≡ table → lists ≡ map (numbers_at (lists_in table_slice)) kinds → lists ≡ node_callers feed kinds
found_are feed fits lines patterns again stations by_line slice table table_slice kinds lists e1 e2 e3 e4 e5 given said e6 is =
    let h : AreByLine feed.lines feed.patterns (length feed.patterns) (lists_in by_line) =
    subst (λ (ls : List Line). AreByLine ls feed.patterns (length feed.patterns) (lists_in by_line)) e1 (subst (λ (ps : List Pattern). AreByLine lines ps (length ps) (lists_in by_line)) e2 given) in
    let count : length slice ≡ length feed.lines = ap length e5 ∙ sym (lists_count by_line) ∙ h.each in
    let k : IsTable (length feed.stations) (callers_in feed.patterns (lists_in by_line) (length feed.lines)) (lists_in table) =
    subst (λ (n : ℕ). IsTable n (callers_in feed.patterns (lists_in by_line) (length feed.lines)) (lists_in table)) e4
    (subst (λ (n : ℕ). IsTable stations (callers_in feed.patterns (lists_in by_line) n) (lists_in table)) count
    (subst (λ (ls : List (Vec ℕ Global)). IsTable stations (callers_in feed.patterns (lists_in ls) (length slice)) (lists_in table)) e5
    (subst (λ (ps : List Pattern). IsTable stations (callers_in ps (lists_in slice) (length slice)) (lists_in table)) e3 said))) in
    is ∙ ap (λ (t : List (Vec ℕ Global)). map (numbers_at (lists_in t)) kinds) e6 ∙ nodes_are feed fits (lists_in by_line) (lists_in table) kinds h k
