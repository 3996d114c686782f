use Rattle.std.proofs.Common.{◌≡◌, sym, subst, ℕ, List, [], ◌++◌, Some, drop, arith, append-nil}
use Rattle.std.proofs.lemmas.List.{drop_all}
use Rattle.map_base.specs.declared.point.Point.{Point}
use Rattle.shape_track.specs.declared.best_places.BestPlace.{BestPlace}
use Rattle.shape_track.specs.Snaps.{IsSnapFrom}
use Rattle.shape_track.specs.BestPlaces.{IsPlaceFrom}
use Rattle.shape_track.proofs.RowLemmas.{nothing_snapped}
use Rattle.shape_track.proofs.NearbyLemmas.{place_goes_on}
use Rattle.shape_track.proofs.nearby.places_along.Goals as goal

pub loop-index-preserved : goal.loop-index-preserved
loop-index-preserved c =
    let samples = c.args.samples.now in
    let stations = c.args.stations.now in
    let floor = c.loop-index.floor in
    let place = c.in-Some.place in
    let to : IsPlaceFrom c.index-rows-stations.result floor (Some place) = subst (λ (r : List BestPlace). IsPlaceFrom r floor (Some place)) c.as_slice-row.ensures c.in-Some.ensures in
    let both =
    place_goes_on samples stations c.args.limit c.args.rows.now c.index-rows-stations.result c.loop-index.places.items c.loop-index.index floor place c.loop-index-test.true c.requires.count c.requires.rows
    c.index-rows-stations.is c.loop-index.invariant.floor to c.loop-index.invariant.leads in
    record {
      floor = both.0;
      leads = λ rest snap. subst (λ (ps : List ℕ). IsSnapFrom 0 samples stations (ps ++ rest)) (sym c.in_ok-push.ensures.items) (both.1 rest snap);
    }

pub returns : goal.returns
returns c =
    let samples = c.args.samples.now in
    let stations = c.args.stations.now in
    let none : drop c.loop-index.index stations ≡ [] = drop_all c.loop-index.index stations (omega arith) in
    subst (λ (ps : List ℕ). IsSnapFrom 0 samples stations ps) (append-nil c.loop-index.places.items)
    (c.loop-index.invariant.leads [] (subst (λ (ss : List Point). IsSnapFrom c.loop-index.floor samples ss []) (sym none) (nothing_snapped samples c.loop-index.floor)))
