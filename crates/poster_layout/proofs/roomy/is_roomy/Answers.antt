use Rattle.std.proofs.Common.{[], map, ap, sym, ◌∙◌, ◌++◌, arith}
use Rattle.std.specs.Prelude.{List}
use Rattle.std.proofs.lemmas.List.{at_drop_all}
use Rattle.poster_plan.specs.declared.plan.Mark.{Mark}
use Rattle.poster_plan.specs.declared.plan.Piece.{Piece}
use Rattle.poster_plan.specs.Pitches.{is_roomy, mark_thing, none_clash, piece_thing}
use Rattle.poster_layout.proofs.Clashing.{mark_apart, mark_met, piece_apart, piece_met}
use Rattle.poster_layout.proofs.roomy.is_roomy.Goals as goal

pub loop-mark-init : goal.loop-mark-init
loop-mark-init c =
    let u = c.args.pitch in
    record {
      table = c.in_ok-table.ensures.table;
      left = ap (λ ts. none_clash ts (map (mark_thing u) c.as_slice-marks.result.now ++ map (piece_thing u) c.as_slice-pieces.result.now)) c.in_ok-table.ensures.none
          ∙ ap (λ (ms : List Mark). none_clash [] (map (mark_thing u) ms ++ map (piece_thing u) c.as_slice-pieces.result.now)) c.as_slice-marks.ensures
          ∙ ap (λ (ps : List Piece). none_clash [] (map (mark_thing u) c.args.plan.now.marks ++ map (piece_thing u) ps)) c.as_slice-pieces.ensures;
    }

pub loop-mark-preserved : goal.loop-mark-preserved
loop-mark-preserved c =
    let after = c.in_ok-apart.ensures.table c.if-not-apart.false in
    record {
      table = after.0;
      left = mark_apart c.args.pitch c.as_slice-marks.result.now c.as_slice-pieces.result.now c.loop-mark.mark-index c.mark-item.result c.loop-mark.table.things.items c.put_apart.new.table.things.items c.mark_thing.result (is_roomy c.args.pitch c.args.plan.now) c.loop-mark-test.true
          (c.mark_thing.ensures.value ∙ ap (mark_thing c.args.pitch) c.mark-item.is) (sym c.in_ok-apart.ensures.apart ∙ c.if-not-apart.false) after.1 c.loop-mark.invariant.left;
    }

pub returns-then-not-apart : goal.returns-then-not-apart
returns-then-not-apart c =
    mark_met c.args.pitch c.as_slice-marks.result.now c.as_slice-pieces.result.now c.loop-mark.mark-index c.mark-item.result c.loop-mark.table.things.items c.mark_thing.result (is_roomy c.args.pitch c.args.plan.now) c.loop-mark-test.true
    (c.mark_thing.ensures.value ∙ ap (mark_thing c.args.pitch) c.mark-item.is) (sym c.in_ok-apart.ensures.apart ∙ c.if-not-apart.true) c.loop-mark.invariant.left

pub loop-piece-init : goal.loop-piece-init
loop-piece-init c = record {
  table = c.loop-mark.invariant.table;
  left = sym (at_drop_all (λ (ms : List Mark). none_clash c.loop-mark.table.things.items (map (mark_thing c.args.pitch) ms ++ map (piece_thing c.args.pitch) c.as_slice-pieces.result.now)) c.as_slice-marks.result.now c.loop-mark.mark-index (omega arith))
      ∙ c.loop-mark.invariant.left;
}

pub loop-piece-preserved : goal.loop-piece-preserved
loop-piece-preserved c =
    let after = c.in_ok-free.ensures.table c.if-not-free.false in
    record {
      table = after.0;
      left = piece_apart c.args.pitch c.as_slice-pieces.result.now c.loop-piece.piece-index _ c.loop-piece.table.things.items c.put_apart-in-loop-piece.new.table.things.items c.piece_thing.result (is_roomy c.args.pitch c.args.plan.now) c.loop-piece-test.true
          c.piece_thing.ensures.value (sym c.in_ok-free.ensures.apart ∙ c.if-not-free.false) after.1 c.loop-piece.invariant.left;
    }

pub returns-then-not-free : goal.returns-then-not-free
returns-then-not-free c =
    piece_met c.args.pitch c.as_slice-pieces.result.now c.loop-piece.piece-index _ c.loop-piece.table.things.items c.piece_thing.result (is_roomy c.args.pitch c.args.plan.now) c.loop-piece-test.true
    c.piece_thing.ensures.value (sym c.in_ok-free.ensures.apart ∙ c.if-not-free.true) c.loop-piece.invariant.left

pub returns : goal.returns
returns c =
    sym (at_drop_all (λ (ps : List Piece). none_clash c.loop-piece.table.things.items (map (piece_thing c.args.pitch) ps)) c.as_slice-pieces.result.now c.loop-piece.piece-index (omega arith))
    ∙ c.loop-piece.invariant.left
