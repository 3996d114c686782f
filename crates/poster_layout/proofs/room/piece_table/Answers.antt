use Rattle.std.proofs.Common.{List, [], ◌∷◌, ◌++◌, map, take, ap, sym, ◌∙◌, arith}
use Rattle.std.proofs.lemmas.List.{map_more, take_all}
use Rattle.poster_plan.specs.declared.things.Thing.{Thing}
use Rattle.poster_layout.specs.Rooms.{free_piece}
use Rattle.poster_layout.proofs.room.piece_table.Goals as goal

pub loop-piece-preserved : goal.loop-piece-preserved
loop-piece-preserved c =
    let thing = free_piece c.args.pitch in
    let i = c.loop-piece.piece-index in
    record {
      table = c.in_ok-put.ensures.table;
      things = c.in_ok-put.ensures.things
          ∙ ap (λ (ts : List Thing). ts ++ c.free_piece.result ∷ []) c.loop-piece.invariant.things
          ∙ ap (λ (t : Thing). map thing (take i c.args.pieces.now) ++ t ∷ []) c.free_piece.ensures.value
          ∙ sym (map_more thing c.args.pieces.now i _ c.loop-piece-test.true);
    }

pub returns-clause-things : goal.returns-clause-things
returns-clause-things c = c.loop-piece.invariant.things ∙ ap (map (free_piece c.args.pitch)) (take_all c.loop-piece.piece-index c.args.pieces.now (omega arith))
