use Rattle.std.proofs.Common.{ℕ, List, ◌<◌, ◌+◌, get_or, length, refl, sym, subst, ◌∙◌, take, arith}
use Rattle.std.specs.Prelude.{All}
use Rattle.std.proofs.lemmas.List.{get_or_default, take_all}
use Rattle.transit_feed.specs.declared.pattern.Pattern.{Pattern}
use Rattle.std.proofs.lemmas.List.Folds.{list_any_more}
use Rattle.map_base.specs.declared.ids.StationId.{StationId}
use Rattle.feed_courses.specs.Shown.{serves}
use Rattle.line_calls.specs.Tables.{among, lists_in, no_pattern, pattern_at, served_by, Notes}
use Rattle.line_calls.proofs.Noting.{notes_none, notes_then, same_count}
use Rattle.line_calls.proofs.table.note_line.Goals as goal

pub loop-number-init : goal.loop-number-init
loop-number-init c = record { count = refl; notes = notes_none c.args.line (served_by c.args.patterns.now (take 0 c.args.numbers.now)) (lists_in c.args.table.now.items) (λ s. refl) }

pub note_stops-requires : goal.note_stops-requires
note_stops-requires c =
    let k = get_or c.args.numbers.now c.loop-number.number-index 0 in
    let low = c.requires.known c.loop-number.number-index 0 c.loop-number-test.true in
    let stops = c.requires.stops k c.index-patterns-number.result low in
    subst (λ (list : List StationId). All (λ (s : StationId). s.0 < length c.loop-number.table.items) list) (sym c.as_slice.ensures)
    (subst (λ (n : ℕ). All (λ (s : StationId). s.0 < n) (get_or c.args.patterns.now k c.index-patterns-number.result).stops) (sym c.loop-number.invariant.count) stops)

pub loop-number-preserved : goal.loop-number-preserved
loop-number-preserved c =
    let patterns = c.args.patterns.now in
    let numbers = c.args.numbers.now in
    let i = c.loop-number.number-index in
    let k = get_or numbers i 0 in
    let old = c.args.table.now.items in
    let mid = c.loop-number.table.items in
    let new = c.note_stops.new.table.items in
    record {
      count = same_count mid new c.in_ok-note_stops.ensures.each ∙ c.loop-number.invariant.count;
      notes = notes_then c.args.line (served_by patterns (take i numbers)) (among (pattern_at patterns k).stops) (served_by patterns (take (i + 1) numbers)) (lists_in old) (lists_in mid) (lists_in new)
          (λ s. list_any_more (λ (n : ℕ). serves s (pattern_at patterns n)) numbers i 0 c.loop-number-test.true) c.loop-number.invariant.notes
          (subst (λ (p : Pattern). Notes c.args.line (among p.stops) (lists_in mid) (lists_in new)) (get_or_default patterns k c.index-patterns-number.result no_pattern (c.requires.known i 0 c.loop-number-test.true))
          (subst (λ (stops : List StationId). Notes c.args.line (among stops) (lists_in mid) (lists_in new)) c.as_slice.ensures c.in_ok-note_stops.ensures));
    }

pub returns : goal.returns
returns c =
    subst (λ (numbers : List ℕ). Notes c.args.line (served_by c.args.patterns.now numbers) (lists_in c.args.table.now.items) (lists_in c.loop-number.table.items))
    (take_all c.loop-number.number-index c.args.numbers.now (omega arith)) c.loop-number.invariant.notes
