use Rattle.std.proofs.Common.{◌≡◌, ◌<◌, List, [], fold, get_or, length, map, ap, ◌∙◌, arith}
use Rattle.std.specs.List.{flat_map}
use Rattle.std.proofs.lemmas.List.{get_or_default, take_all}
use Rattle.map_base.specs.declared.ids.LineId.{LineId}
use Rattle.map_base.specs.declared.ids.SegId.{SegId}
use Rattle.poster_rules.specs.Posters.{first_stands, foot_on, stands_at, stands_on, with_corner, Stand}
use Rattle.poster_picture.specs.Feet.{with_stands, Gathered}
use Rattle.poster_picture.specs.Sheets.{plain}
use Rattle.poster_picture.proofs.Gathering.{gathered, stands_more}
use Rattle.poster_picture.proofs.Sorting.{no_segment}
use Rattle.poster_picture.proofs.stations.feet_at.Goals as goal

pub loop-i-preserved : goal.loop-i-preserved
loop-i-preserved c =
    let sheet = plain c.args.sheet in
    let n = c.args.n.0 in
    let callers = c.args.callers.now in
    let segments = c.in_ok-segments.segments.items in
    let i = c.loop-i.i in
    let before : Gathered = record { seen = c.loop-i.seen.items; path = c.loop-i.path.items } in
    let low : i < length segments = omega arith in
    let read : c.index.result.now ≡ get_or segments i no_segment = c.index.ensures ∙ get_or_default segments i c.index.result.now no_segment low in
    stands_more sheet n callers (record { seen = []; path = [] }) before (record { seen = c.put_feet.new.seen.items; path = c.put_feet.new.path.items }) segments i no_segment low c.loop-i.invariant
    (c.in_ok-put_feet.ensures ∙ ap (λ (s : SegId). with_stands sheet n callers before (stands_on sheet s)) read)

pub returns : goal.returns
returns c = λ e.
    let sheet = plain c.args.sheet in
    let n = c.args.n.0 in
    let callers = c.args.callers.now in
    let start : Gathered = record { seen = []; path = [] } in
    ap (λ (g : Gathered). g.path) (c.loop-i.invariant ∙ ap (λ (ss : List SegId). with_stands sheet n callers start (flat_map (stands_on sheet) ss)) (take_all c.loop-i.i c.in_ok-segments.segments.items (omega arith) ∙ c.in_ok-segments.ensures))
    ∙ gathered sheet n callers [] [] (stands_at sheet n)
    ∙ ap (λ (ls : List LineId). fold with_corner [] (map (λ (t : Stand). foot_on sheet n t.seg t.line) (first_stands ls [] (stands_at sheet n)))) e
