use Rattle.std.proofs.Common.{◌≡◌, sym, subst, ℕ, ◌-◌, ◌<◌, ◌^◌, List, [], ◌++◌, true, length, drop, arith, append-nil}
use Rattle.std.proofs.lemmas.List.{drop_all}
use Rattle.map_base.specs.declared.point.Point.{Point}
use Rattle.shape_track.specs.Snaps.{IsSnap, IsSnapFrom}
use Rattle.shape_track.specs.Sweeps.{taken_at}
use Rattle.shape_track.proofs.RowLemmas.{nothing_snapped, snap_goes_on, row_at, row_whole}
use Rattle.shape_track.proofs.snapping.far_snap.Goals as goal

pub first_taken-floor-requires-clause-floor : goal.first_taken-floor-requires-clause-floor
first_taken-floor-requires-clause-floor c =
    let samples = c.args.samples.now in
    let stations = c.args.stations.now in
    let leads = row_at samples stations c.in_ok-rows.rows.items c.index.result.now c.loop-index.index c.loop-index-test.true c.in_ok-rows.ensures.count c.in_ok-rows.ensures.rows c.index.ensures in
    subst (λ (n : ℕ). c.loop-index.floor < n) (sym (row_whole samples stations c.index.result.now c.loop-index.index c.loop-index-test.true leads).0) c.loop-index.invariant.floor

pub first_taken-floor-requires-clause-short : goal.first_taken-floor-requires-clause-short
first_taken-floor-requires-clause-short c =
    let samples = c.args.samples.now in
    let stations = c.args.stations.now in
    let leads = row_at samples stations c.in_ok-rows.rows.items c.index.result.now c.loop-index.index c.loop-index-test.true c.in_ok-rows.ensures.count c.in_ok-rows.ensures.rows c.index.ensures in
    subst (λ (n : ℕ). n < 2 ^ 32) (sym (row_whole samples stations c.index.result.now c.loop-index.index c.loop-index-test.true leads).0) c.requires.short

pub first_taken-floor-requires-clause-last : goal.first_taken-floor-requires-clause-last
first_taken-floor-requires-clause-last c =
    let samples = c.args.samples.now in
    let stations = c.args.stations.now in
    let leads = row_at samples stations c.in_ok-rows.rows.items c.index.result.now c.loop-index.index c.loop-index-test.true c.in_ok-rows.ensures.count c.in_ok-rows.ensures.rows c.index.ensures in
    let whole = row_whole samples stations c.index.result.now c.loop-index.index c.loop-index-test.true leads in
    subst (λ (n : ℕ). taken_at c.index.result.now (n - 1) ≡ true) (sym whole.0) whole.1

pub overflow_cast-floor : goal.overflow_cast-floor
overflow_cast-floor c =
    let samples = c.args.samples.now in
    let stations = c.args.stations.now in
    let leads = row_at samples stations c.in_ok-rows.rows.items c.index.result.now c.loop-index.index c.loop-index-test.true c.in_ok-rows.ensures.count c.in_ok-rows.ensures.rows c.index.ensures in
    let count : length c.index.result.now ≡ length samples = (row_whole samples stations c.index.result.now c.loop-index.index c.loop-index-test.true leads).0 in
    let below : c.first_taken-floor.result < 2 ^ 32 = omega (arith, c.first_taken-floor.ensures.place, count, c.requires.short) in
    record { fits = below }

pub loop-index-preserved : goal.loop-index-preserved
loop-index-preserved c =
    let samples = c.args.samples.now in
    let stations = c.args.stations.now in
    let index = c.loop-index.index in
    let place = c.first_taken-floor.result in
    let places = c.loop-index.places.items in
    let leads = row_at samples stations c.in_ok-rows.rows.items c.index.result.now index c.loop-index-test.true c.in_ok-rows.ensures.count c.in_ok-rows.ensures.rows c.index.ensures in
    let count : length c.index.result.now ≡ length samples = (row_whole samples stations c.index.result.now index c.loop-index-test.true leads).0 in
    let within : place < length samples = subst (λ (n : ℕ). place < n) count c.first_taken-floor.ensures.place in
    record {
      floor = within;
      leads = λ rest snap.
          subst (λ (ps : List ℕ). IsSnapFrom 0 samples stations (ps ++ rest)) (sym c.in_ok-push.ensures.items)
          (snap_goes_on samples stations places c.index.result.now index c.loop-index.floor place c.loop-index-test.true leads within c.first_taken-floor.ensures.leads c.loop-index.invariant.leads rest snap);
    }

pub returns : goal.returns
returns c =
    let samples = c.args.samples.now in
    let stations = c.args.stations.now in
    let none : drop c.loop-index.index stations ≡ [] = drop_all c.loop-index.index stations (omega arith) in
    let snap : IsSnap samples stations c.loop-index.places.items = subst (λ (ps : List ℕ). IsSnapFrom 0 samples stations ps) (append-nil c.loop-index.places.items)
    (c.loop-index.invariant.leads [] (subst (λ (ss : List Point). IsSnapFrom c.loop-index.floor samples ss []) (sym none) (nothing_snapped samples c.loop-index.floor))) in
    snap
