use Rattle.std.proofs.Common.{◌≡◌, true, false, ◌&&◌, Bool, get_or, ap, sym, ◌∙◌, arith}
use Rattle.std.specs.List.{list_all}
use Rattle.std.proofs.lemmas.List.{take_all}
use Rattle.std.proofs.lemmas.List.Folds.{list_all_at, list_all_more}
use Rattle.map_base.specs.declared.ids.SegId.{SegId}
use Rattle.svg_writer.specs.Picture.{ends_at, walk_at}
use Rattle.poster_rules.specs.Stations.{is_level, port_at}
use Rattle.poster_graph.proofs.stations.leaves_level.Goals as goal

abbrev none : SegId
none = record { 0 = 0 }

pub returns-then-not-is_level : goal.returns-then-not-is_level
returns-then-not-is_level c =
    let round = c.round_of-round.result.now in
    let i = c.loop-s.s-index in
    let test : SegId → Bool = λ s. is_level (port_at c.args.n.0 (ends_at c.args.served.graph.now.ends s.0) (walk_at c.args.served.drawing.now.walks s.0)) in
    let here : test (get_or round i none) ≡ false = sym (c.is_level.ensures ∙ ap is_level c.port_at.ensures) ∙ c.if-not-is_level.true in
    sym (list_all_at test round i none c.loop-s-test.true here) ∙ ap (list_all test) c.round_of-round.ensures

pub loop-s-preserved : goal.loop-s-preserved
loop-s-preserved c =
    let round = c.round_of-round.result.now in
    let i = c.loop-s.s-index in
    let test : SegId → Bool = λ s. is_level (port_at c.args.n.0 (ends_at c.args.served.graph.now.ends s.0) (walk_at c.args.served.drawing.now.walks s.0)) in
    let here : test (get_or round i none) ≡ true = sym (c.is_level.ensures ∙ ap is_level c.port_at.ensures) ∙ c.if-not-is_level.false in
    list_all_more test round i none c.loop-s-test.true ∙ ap (λ (b : Bool). b && test (get_or round i none)) c.loop-s.invariant ∙ here

pub returns : goal.returns
returns c =
    let test : SegId → Bool = λ s. is_level (port_at c.args.n.0 (ends_at c.args.served.graph.now.ends s.0) (walk_at c.args.served.drawing.now.walks s.0)) in
    sym c.loop-s.invariant ∙ ap (list_all test) (take_all c.loop-s.s-index c.round_of-round.result.now (omega arith) ∙ c.round_of-round.ensures)
