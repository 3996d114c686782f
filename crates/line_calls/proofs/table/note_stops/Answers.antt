use Rattle.std.proofs.Common.{ℕ, List, ◌<◌, ◌+◌, ◌==◌, get_or, refl, sym, subst, ◌∙◌, take, arith}
use Rattle.std.proofs.lemmas.List.{take_all}
use Rattle.std.proofs.lemmas.List.Folds.{list_any_more}
use Rattle.map_base.specs.declared.ids.StationId.{StationId}
use Rattle.line_calls.specs.Tables.{among, is_station, lists_in, Notes}
use Rattle.line_calls.proofs.Noting.{notes_none, notes_then, same_count}
use Rattle.line_calls.proofs.table.note_stops.Goals as goal

abbrev none : StationId
none = record { 0 = 0 }

pub loop-stop-init : goal.loop-stop-init
loop-stop-init c = record { count = refl; notes = notes_none c.args.line (among (take 0 c.args.stops.now)) (lists_in c.args.table.now.items) (λ s. refl) }

pub note_call-requires : goal.note_call-requires
note_call-requires c = subst (λ (n : ℕ). (get_or c.args.stops.now c.loop-stop.stop-index none).0 < n) (sym c.loop-stop.invariant.count) (c.requires c.loop-stop.stop-index none c.loop-stop-test.true)

pub loop-stop-preserved : goal.loop-stop-preserved
loop-stop-preserved c =
    let stops = c.args.stops.now in
    let i = c.loop-stop.stop-index in
    let old = c.args.table.now.items in
    let mid = c.loop-stop.table.items in
    let new = c.note_call.new.table.items in
    record {
      count = same_count mid new c.in_ok-note_call.ensures.each ∙ c.loop-stop.invariant.count;
      notes = notes_then c.args.line (among (take i stops)) (is_station (get_or stops i none)) (among (take (i + 1) stops)) (lists_in old) (lists_in mid) (lists_in new)
          (λ s. list_any_more (λ (t : StationId). t.0 == s) stops i none c.loop-stop-test.true) c.loop-stop.invariant.notes c.in_ok-note_call.ensures;
    }

pub returns : goal.returns
returns c =
    subst (λ (stops : List StationId). Notes c.args.line (among stops) (lists_in c.args.table.now.items) (lists_in c.loop-stop.table.items))
    (take_all c.loop-stop.stop-index c.args.stops.now (omega arith)) c.loop-stop.invariant.notes
