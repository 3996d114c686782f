use Rattle.std.proofs.Common.{◌≡◌, sym, ◌∙◌, ap, subst, ℕ, ◌+◌, ◌-◌, Bool, List, [], ◌∷◌, ◌++◌, length, drop, take, arith, length-append}
use Rattle.map_base.specs.declared.point.Point.{Point}
use Rattle.shape_track.specs.Sweeps.{AreLeastCosts, AreBounded, IsSweptDown, Leads}
use Rattle.shape_track.specs.Rows.{LeadsFirst, AreRows}
use Rattle.shape_track.specs.Samples.{point_at}
use Rattle.shape_track.proofs.Leading.{swept_least, leads_of}
use Rattle.shape_track.proofs.RowLemmas.{written_whole, rows_pushed, one_before}
use Rattle.shape_track.proofs.snapping.rows_of.Goals as goal

pub loop-later-preserved : goal.loop-later-preserved
loop-later-preserved c =
    let samples = c.args.samples.now in
    let stations = c.args.stations.now in
    let later = c.loop-later.later in
    let before = c.loop-later.invariant in
    let old = c.loop-later.costs.items in
    let new = c.swept.new.costs in
    let row = c.in_ok-swept.field-0 in
    let station = point_at stations (length stations - 1 - later) in
    let rest = drop (length stations - later) stations in
    let count : length new ≡ length samples = c.swept.auto.costs ∙ ap length c.deref_mut.ensures.value ∙ before.costs.count in
    let swept_here : IsSweptDown samples station c.deref_mut.result.now new row 0 = c.in_ok-swept.ensures.swept in
    let swept : IsSweptDown samples station old new row 0 = subst (λ (xs : List ℕ). IsSweptDown samples station xs new row 0) c.deref_mut.ensures.value swept_here in
    let written : take c.loop-later.costs.len (new ++ drop (length new) old) ≡ new =
    written_whole new old c.loop-later.costs.len (c.swept.auto.costs ∙ c.deref_mut.ensures.len) (sym (ap length c.deref_mut.ensures.value) ∙ c.deref_mut.ensures.len) in
    let row_count : length row ≡ length samples = c.in_ok-swept.ensures.count in
    let leads : Leads samples station rest row = leads_of samples station rest old new row before.costs swept count row_count c.requires.some in
    let before_all : drop (length stations - 1 - later) stations ≡ station ∷ rest = one_before stations later (omega arith) in
    let sum : length stations - (later + 1) ≡ length stations - 1 - later = omega arith in
    let rows : AreRows samples stations (c.loop-later.rows.items ++ row ∷ []) =
    rows_pushed samples stations c.loop-later.rows.items row later before.count before.rows (subst (λ (ss : List Point). LeadsFirst samples ss row) (sym before_all) leads) in
    let least : AreLeastCosts samples (station ∷ rest) new = swept_least samples station rest old new row before.costs swept count in
    let bounded : AreBounded (later + 1) new = c.in_ok-swept.ensures.bounded in
    record {
      count = ap length c.in_ok-push.ensures.items ∙ length-append c.loop-later.rows.items (row ∷ []) ∙ ap (λ n. n + 1) before.count;
      rows = subst (λ (rs : List (List Bool)). AreRows samples stations rs) (sym c.in_ok-push.ensures.items) rows;
      costs = subst (λ (n : ℕ). AreLeastCosts samples (drop n stations) (take c.loop-later.costs.len (new ++ drop (length new) old))) (sym sum)
          (subst (λ (ss : List Point). AreLeastCosts samples ss (take c.loop-later.costs.len (new ++ drop (length new) old))) (sym before_all)
          (subst (λ (xs : List ℕ). AreLeastCosts samples (station ∷ rest) xs) (sym written) least));
      bounded = subst (λ (xs : List ℕ). AreBounded (later + 1) xs) (sym written) bounded;
    }
