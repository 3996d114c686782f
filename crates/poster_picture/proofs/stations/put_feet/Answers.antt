use Rattle.std.proofs.Common.{List, map, ap, ◌∙◌, arith}
use Rattle.std.proofs.lemmas.List.{take_all}
use Rattle.map_base.specs.declared.ids.LineId.{LineId}
use Rattle.poster_rules.specs.Posters.{Stand}
use Rattle.poster_picture.specs.Feet.{with_stands, Gathered}
use Rattle.poster_picture.specs.Sheets.{plain}
use Rattle.poster_picture.proofs.Gathering.{stand_more}
use Rattle.poster_picture.proofs.stations.put_feet.Goals as goal

pub loop-line-preserved : goal.loop-line-preserved
loop-line-preserved c =
    stand_more (plain c.args.sheet) c.args.n.0 c.args.callers.now c.args.s.0 (record { seen = c.args.seen.now.items; path = c.args.path.now.items }) (record { seen = c.loop-line.seen.items; path = c.loop-line.path.items }) (record { seen = c.put_line.new.seen.items; path = c.put_line.new.path.items })
    c.order_of-line-items.result.now c.loop-line.line-index (record { 0 = 0 }) c.loop-line-test.true c.loop-line.invariant c.in_ok-put_line.ensures

pub returns : goal.returns
returns c =
    let start : Gathered = record { seen = c.args.seen.now.items; path = c.args.path.now.items } in
    c.loop-line.invariant
    ∙ ap (λ (ls : List LineId). with_stands (plain c.args.sheet) c.args.n.0 c.args.callers.now start (map (λ (a : LineId). let t : Stand = record { seg = c.args.s.0; line = a } in t) ls)) (take_all c.loop-line.line-index c.order_of-line-items.result.now (omega arith) ∙ c.order_of-line-items.ensures)
