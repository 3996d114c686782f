-- Patterns of trips, one more at a time, and each once.
use Rattle.std.proofs.Common.{◌≡◌, ◌<◌, ℕ, zero, suc, ◌+◌, Bool, true, false, ◌&&◌, List, [], ◌∷◌, ◌++◌, Option, Some, None, option_to_list, nat_eq, refl, ap, sym, ◌∙◌, arith, take, drop, length, get_or, true≢false}
use Rattle.std.specs.List.{cons_option, dedup}
use Rattle.std.specs.List.Retain.{IsFiltered, DiffersFromLast}
use Rattle.std.proofs.lemmas.List.{take_all}
use Rattle.std.proofs.lemmas.List.Filters.{dedup_is}
use Rattle.std.proofs.lemmas.Bool.{and_parts}
use Rattle.std.proofs.lemmas.Bool.Decides.{nat_tests}
use Rattle.map_base.specs.declared.ids.LineId.{LineId}
use Rattle.map_base.specs.declared.ids.StationId.{StationId}
use Rattle.transit_feed.specs.declared.pattern.Pattern.{Pattern}
use Rattle.table_rows.specs.Firsts.{firsts, with_new, firsts_behind}
use Rattle.table_rows.proofs.FirstLemmas.{firsts_behind-none}
use Rattle.gtfs_tables.specs.Patterns.{is_same_station, apart, trip_pattern, trip_patterns, patterns_of, are_same_stations, is_same_shape, is_same_pattern}

-- stations without their immediate repeats are set apart
pub set_apart : (stations kept after : List StationId) → kept ≡ stations → IsFiltered (DiffersFromLast is_same_station) [] kept after → after ≡ apart stations
set_apart stations kept after same filtered = dedup_is is_same_station kept after filtered ∙ ap (dedup is_same_station) same

-- patterns seen, one part after another
behind-append : (seen patterns others : List Pattern) → firsts_behind is_same_pattern seen (patterns ++ others) ≡ firsts_behind is_same_pattern (firsts_behind is_same_pattern seen patterns) others
behind-append seen [] others = refl
behind-append seen (pattern ∷ patterns) others = behind-append (with_new is_same_pattern seen pattern) patterns others

cons_option-append : {A : Type 0} (x : Option A) (xs ys : List A) → cons_option x (xs ++ ys) ≡ cons_option x xs ++ ys
cons_option-append None xs ys = refl
cons_option-append (Some x) xs ys = refl

option_list : {A : Type 0} (x : Option A) → cons_option x [] ≡ option_to_list x
option_list None = refl
option_list (Some x) = refl

-- the patterns of one trip more
trip_patterns-more : (i : ℕ) (lines : List (Option ℕ)) (stations : List (List StationId)) (shapes : List (Option ℕ))
    → i < length lines → i < length stations → i < length shapes
    → trip_patterns (take (suc i) lines) (take (suc i) stations) (take (suc i) shapes)
    ≡ trip_patterns (take i lines) (take i stations) (take i shapes) ++ option_to_list (trip_pattern (get_or lines i None) (get_or stations i []) (get_or shapes i None))
trip_patterns-more i [] stations shapes l m n = absurd (omega (arith, l))
trip_patterns-more i (line ∷ lines) [] shapes l m n = absurd (omega (arith, m))
trip_patterns-more i (line ∷ lines) (s ∷ stations) [] l m n = absurd (omega (arith, n))
trip_patterns-more zero (line ∷ lines) (s ∷ stations) (shape ∷ shapes) l m n = option_list (trip_pattern line s shape)
trip_patterns-more (suc i) (line ∷ lines) (s ∷ stations) (shape ∷ shapes) l m n =
    ap (cons_option (trip_pattern line s shape)) (trip_patterns-more i lines stations shapes (omega (arith, l)) (omega (arith, m)) (omega (arith, n)))
    ∙ cons_option-append (trip_pattern line s shape) (trip_patterns (take i lines) (take i stations) (take i shapes)) (option_to_list (trip_pattern (get_or lines i None) (get_or stations i []) (get_or shapes i None)))

pub seen_more : (i : ℕ) (lines : List (Option ℕ)) (stations : List (List StationId)) (shapes : List (Option ℕ)) (seen : List Pattern)
    → i < length lines → i < length stations → i < length shapes
    → seen ≡ firsts_behind is_same_pattern [] (trip_patterns (take i lines) (take i stations) (take i shapes))
    → firsts_behind is_same_pattern seen (option_to_list (trip_pattern (get_or lines i None) (get_or stations i []) (get_or shapes i None)))
    ≡ firsts_behind is_same_pattern [] (trip_patterns (take (i + 1) lines) (take (i + 1) stations) (take (i + 1) shapes))
seen_more i lines stations shapes seen l m n same =
    let more : suc i ≡ i + 1 = omega arith in
    let last = option_to_list (trip_pattern (get_or lines i None) (get_or stations i []) (get_or shapes i None)) in
    ap (λ before. firsts_behind is_same_pattern before last) same
    ∙ sym (behind-append [] (trip_patterns (take i lines) (take i stations) (take i shapes)) last)
    ∙ sym (ap (firsts_behind is_same_pattern []) (trip_patterns-more i lines stations shapes l m n))
    ∙ ap (λ k. firsts_behind is_same_pattern [] (trip_patterns (take k lines) (take k stations) (take k shapes))) more

same_number : (m n : ℕ) → nat_eq m n ≡ true → m ≡ n
same_number m n same = grind (arith, nat_tests, same)

same_stations : (first second : List StationId) → are_same_stations first second ≡ true → first ≡ second
same_stations [] [] same = refl
same_stations [] (b ∷ second) same = absurd (true≢false (sym same))
same_stations (a ∷ first) [] same = absurd (true≢false (sym same))
same_stations (a ∷ first) (b ∷ second) same =
    let parts = and_parts (nat_eq a.0 b.0) (are_same_stations first second) same in
    let make : ℕ → StationId = λ n. record { 0 = n } in
    ap (λ (s : StationId). s ∷ first) (ap make (same_number a.0 b.0 parts.0)) ∙ ap (λ rest. b ∷ rest) (same_stations first second parts.1)

same_shape : (a b : Option ℕ) → is_same_shape a b ≡ true → a ≡ b
same_shape None None same = refl
same_shape None (Some b) same = absurd (true≢false (sym same))
same_shape (Some a) None same = absurd (true≢false (sym same))
same_shape (Some a) (Some b) same = ap Some (same_number a b same)

-- patterns that are found to be one are one
same_pattern : (a b : Pattern) → is_same_pattern a b ≡ true → a ≡ b
same_pattern a b same =
    let parts = and_parts (nat_eq a.line.0 b.line.0) (are_same_stations a.stops b.stops && is_same_shape a.shape b.shape) same in
    let others = and_parts (are_same_stations a.stops b.stops) (is_same_shape a.shape b.shape) parts.1 in
    let make : ℕ → LineId = λ n. record { 0 = n } in
    let line : a.line ≡ b.line = ap make (same_number a.line.0 b.line.0 parts.0) in
    let stops : a.stops ≡ b.stops = same_stations a.stops b.stops others.0 in
    let shape : a.shape ≡ b.shape = same_shape a.shape b.shape others.1 in
    λ i. record { line = line i; stops = stops i; shape = shape i }

-- the patterns that were seen of all trips are those of the feed
pub seen_all : (n : ℕ) (lines : List (Option ℕ)) (stations : List (List StationId)) (shapes : List (Option ℕ)) (seen : List Pattern)
    → n ≡ length lines → length stations ≡ length lines → length shapes ≡ length lines
    → seen ≡ firsts_behind is_same_pattern [] (trip_patterns (take n lines) (take n stations) (take n shapes))
    → seen ≡ patterns_of lines stations shapes
seen_all n lines stations shapes seen all as_many as_many_shapes same =
    same
    ∙ firsts_behind-none is_same_pattern same_pattern (trip_patterns (take n lines) (take n stations) (take n shapes))
    ∙ ap (λ xs. firsts is_same_pattern (trip_patterns xs (take n stations) (take n shapes))) (take_all n lines (omega (arith, all)))
    ∙ ap (λ xs. firsts is_same_pattern (trip_patterns lines xs (take n shapes))) (take_all n stations (omega (arith, all, as_many)))
    ∙ ap (λ xs. firsts is_same_pattern (trip_patterns lines stations xs)) (take_all n shapes (omega (arith, all, as_many_shapes)))
