use Rattle.std.proofs.Common.{◌≡◌, sym, ◌∙◌, ap, subst, ◌+◌, ◌-◌, List, [], ◌∷◌, ◌++◌, Option, Vec, length, length-append}
use Rattle.std.specs.Global.{Global}
use Rattle.std.specs.Option.{IfSome}
use Rattle.shape_track.specs.declared.best_places.BestPlace.{BestPlace}
use Rattle.shape_track.specs.BestPlaces.{IsRow, LeadsOn, AreRowsOf}
use Rattle.shape_track.specs.Samples.{point_at}
use Rattle.shape_track.proofs.NearbyLemmas.{rows_begun, rows_go_on}
use Rattle.shape_track.proofs.nearby.rows_within.Goals as goal

pub loop-later-init : goal.loop-later-init
loop-later-init c =
    let r = c.in_ok-last_place.field-0 in
    let pushed : c.push.new.self.items ≡ r ∷ [] = c.in_ok-push.ensures.items ∙ ap (λ (rs : List (List BestPlace)). rs ++ r ∷ []) c.in_ok-rows.ensures.items in
    record {
      count = ap length pushed;
      rows = subst (λ (rs : List (List BestPlace)). AreRowsOf c.args.samples.now c.args.stations.now c.args.reach.limit rs) (sym pushed)
          (rows_begun c.args.samples.now c.args.stations.now c.args.reach.limit r c.requires.some c.in_ok-last_place.ensures);
    }

pub loop-later-preserved : goal.loop-later-preserved
loop-later-preserved c =
    let samples = c.args.samples.now in
    let stations = c.args.stations.now in
    let limit = c.args.reach.limit in
    let rows = c.loop-later.rows.items in
    let n = c.loop-later.later in
    let station = point_at stations (length stations - 1 - n) in
    let r = c.of.result in
    let entries : IsRow (length samples) limit c.in-Some.row.items =
    subst (λ (o : Option (Vec BestPlace Global)). IfSome o (λ (v : Vec BestPlace Global). IsRow (length samples) limit v.items)) c.in-Some.is c.in_ok-row.ensures.row in
    let led : LeadsOn samples station limit c.as_slice.result.now c.in-Some.row.items =
    subst (λ (o : Option (Vec BestPlace Global)). IfSome o (λ (v : Vec BestPlace Global). LeadsOn samples station limit c.as_slice.result.now v.items)) c.in-Some.is c.in_ok-row.ensures.led in
    let leads : LeadsOn samples station limit c.index.result.now c.in-Some.row.items =
    subst (λ (later : List BestPlace). LeadsOn samples station limit later c.in-Some.row.items) c.as_slice.ensures led in
    record {
      count = ap length c.in_ok-push-2.ensures.items ∙ length-append rows (r ∷ []) ∙ ap (λ m. m + 1) c.loop-later.invariant.count;
      rows = subst (λ (rs : List (List BestPlace)). AreRowsOf samples stations limit rs) (sym c.in_ok-push-2.ensures.items)
          (rows_go_on samples stations limit rows c.index.result.now r n c.loop-later.invariant.count c.loop-later-test.true c.loop-later.invariant.rows c.index.ensures
          (subst (λ (row : List BestPlace). IsRow (length samples) limit row) (sym c.of.ensures) entries)
          (subst (λ (row : List BestPlace). LeadsOn samples station limit c.index.result.now row) (sym c.of.ensures) leads));
    }
