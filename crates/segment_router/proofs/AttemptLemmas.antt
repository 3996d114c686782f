-- Attempts, one after another.
use Rattle.std.proofs.Common.{◌≡◌, refl, sym, ◌∙◌, ap, ℕ, ◌+◌, ◌<◌, ◌≤◌, Bool, true, false, cond, List, [], ◌∷◌, ◌++◌, length, get_or, drop, Some, None, Result, Ok, Err, is_ok, append_assoc, append-nil, arith}
use Rattle.std.specs.List.{AllByRecursion, filter, flat_map}
use Rattle.std.proofs.lemmas.Bool.{cond_both}
use Rattle.std.proofs.lemmas.List.{drop_more}
use Rattle.map_base.specs.declared.ids.SegId.{SegId}
use Rattle.map_base.specs.declared.point.Point.{Point}
use Rattle.map_method.specs.declared.drawing_plan.DrawingPlan.{DrawingPlan}
use Rattle.map_method.specs.declared.spread.Spread.{Spread}
use Rattle.map_method.specs.declared.spread.Spread.TheVariants.{Percent, Auto}
use Rattle.map_method.specs.Methods.{IsSpread}
use Rattle.graph_core.specs.declared.parts.GraphParts.{GraphParts}
use Rattle.graph_core.specs.Consistent.{IsConsistent}
use Rattle.octi_grid.specs.declared.point.GridPoint.{GridPoint}
use Rattle.octi_grid.specs.Walks.{PlainWalk}
use Rattle.octi_grid.specs.Legal.{legal}
use Rattle.grid_board.specs.Boards.{contains}
use Rattle.grid_board.specs.Points.{are_near, is_near}
use Rattle.segment_router.specs.declared.attempts.Attempt.{Attempt}
use Rattle.start_positions.specs.declared.placing.Placing.{Placing}
use Rattle.start_positions.specs.Cells.{cell_side, is_too_fine}
use Rattle.start_positions.specs.Homes.{grid_under, placing_at}
use Rattle.segment_router.specs.Routes.{routes_from}
use Rattle.start_positions.specs.Homes.{IsPlacing}
use Rattle.segment_router.specs.Routing.{attempts_of, attempts_on, first_drawn, grids_between, is_between, nothing_drawn, or_else, percents_of, routes_at, IsAttempt}
use Rattle.start_positions.specs.Cells.{limit_found, limit_of}
use Rattle.start_positions.specs.Spreads.{spread_offsets}
use Rattle.start_positions.proofs.GridLemmas.{fine_enough, grid_near}
use Rattle.start_positions.proofs.HomeFacts.{placing_fits}
use Rattle.segment_router.proofs.LegalRoutes.{legal_routes, route_each_segment}
use Rattle.segment_router.proofs.NearRoutes.{routes_near}
use Rattle.start_positions.proofs.SpreadLemmas.{of_mapped, spread_each}

pub drawn_now : (graph : GraphParts) (cell : ℕ) (outcome : Result (List PlainWalk) SegId) (rest : List Attempt) → is_ok outcome ≡ true → first_drawn graph cell outcome rest ≡ outcome
drawn_now graph cell (Ok walks) [] e = refl
drawn_now graph cell (Ok walks) (b ∷ rest) e = refl
drawn_now graph cell (Err s) rest e = cc

-- where there is no limit, the cell is not too small
pub no_limit : (ps : List Point) (cell : ℕ) → limit_of ps cell ≡ None → is_too_fine ps cell ≡ false
no_limit ps cell e = by_test (is_too_fine ps cell) refl e
  where
    by_test : (t : Bool) (is : is_too_fine ps cell ≡ t) → cond t (Some (limit_found ps cell)) None ≡ None → is_too_fine ps cell ≡ false
    by_test true is clash = cc
    by_test false is same = is

-- a drawing that comes of attempts is that of one placing
pub record IsDrawnFrom (graph : GraphParts) (walks : List PlainWalk) : Type 0 where
  pub placing : Placing
  pub placed : IsPlacing graph placing
  pub near : (p : GridPoint) → contains (grid_under placing) p ≡ true → is_near 1800 p ≡ true
  pub drawn : routes_from graph placing ≡ Ok walks

-- an attempt has an offset for each node
pub one_offset_each : (graph : GraphParts) (percent : ℕ) → IsConsistent graph → length (spread_offsets graph.places percent) ≡ length graph.kinds
one_offset_each graph percent fit = spread_each graph.places percent ∙ fit.place_each

drawn_here : (graph : GraphParts) (cell : ℕ) (a : Attempt) (walks : List PlainWalk) → IsConsistent graph → is_too_fine graph.places cell ≡ false → IsAttempt a → routes_at graph cell a ≡ Ok walks
    → IsDrawnFrom graph walks
drawn_here graph cell a walks fit fine one e = record {
  placing = placing_at graph cell a.fineness (spread_offsets graph.places a.percent);
  placed = placing_fits graph cell a.fineness (spread_offsets graph.places a.percent) fit one.fine fine (one_offset_each graph a.percent fit);
  near = grid_near graph.places (cell_side graph.places cell) a.fineness (fine_enough graph.places cell a.fineness fine one.fine);
  drawn = e;
}

drawn_from : (graph : GraphParts) (cell : ℕ) (before : Result (List PlainWalk) SegId) (attempts : List Attempt) (walks : List PlainWalk) → IsConsistent graph → is_too_fine graph.places cell ≡ false
    → AllByRecursion IsAttempt attempts → ((ws : List PlainWalk) → before ≡ Ok ws → IsDrawnFrom graph ws) → first_drawn graph cell before attempts ≡ Ok walks → IsDrawnFrom graph walks
drawn_from graph cell before [] walks fit fine all known e = known walks e
drawn_from graph cell before (a ∷ rest) walks fit fine all known e =
    by_first before refl e
    (λ f. drawn_from graph cell (routes_at graph cell a) rest walks fit fine all.1 (λ ws g. drawn_here graph cell a ws fit fine all.0 g) f)
  where
    by_first : (o : Result (List PlainWalk) SegId) → before ≡ o → or_else o (first_drawn graph cell (routes_at graph cell a) rest) ≡ Ok walks
        → (first_drawn graph cell (routes_at graph cell a) rest ≡ Ok walks → IsDrawnFrom graph walks) → IsDrawnFrom graph walks
    by_first (Ok ws) is e later = known walks (is ∙ e)
    by_first (Err s) is e later = later e

nothing_known : (graph : GraphParts) (ws : List PlainWalk) → nothing_drawn ≡ Ok ws → IsDrawnFrom graph ws
nothing_known graph ws e = cc

-- so it is legal, with a walk for each segment
pub drawn_legal : (graph : GraphParts) (cell : ℕ) (attempts : List Attempt) (walks : List PlainWalk) → IsConsistent graph → is_too_fine graph.places cell ≡ false
    → AllByRecursion IsAttempt attempts → first_drawn graph cell nothing_drawn attempts ≡ Ok walks → legal graph walks ≡ true
drawn_legal graph cell attempts walks fit fine all e =
    let from = drawn_from graph cell nothing_drawn attempts walks fit fine all (nothing_known graph) e in
    legal_routes graph from.placing walks fit from.placed from.drawn

pub drawn_each : (graph : GraphParts) (cell : ℕ) (attempts : List Attempt) (walks : List PlainWalk) → IsConsistent graph → is_too_fine graph.places cell ≡ false
    → AllByRecursion IsAttempt attempts → first_drawn graph cell nothing_drawn attempts ≡ Ok walks → length walks ≡ length graph.ends
drawn_each graph cell attempts walks fit fine all e =
    let from = drawn_from graph cell nothing_drawn attempts walks fit fine all (nothing_known graph) e in
    route_each_segment graph from.placing walks fit from.placed from.drawn

-- and its grid points lie near the origin
pub drawn_near : (graph : GraphParts) (cell : ℕ) (attempts : List Attempt) (walks : List PlainWalk) → IsConsistent graph → is_too_fine graph.places cell ≡ false
    → AllByRecursion IsAttempt attempts → first_drawn graph cell nothing_drawn attempts ≡ Ok walks → are_near 1800 walks ≡ true
drawn_near graph cell attempts walks fit fine all e =
    let from = drawn_from graph cell nothing_drawn attempts walks fit fine all (nothing_known graph) e in
    routes_near graph from.placing walks 1800 fit from.placed from.near from.drawn

-- ---- the attempts

all_both : {X : Type 0} (P : X → Type 0) (xs ys : List X) → AllByRecursion P xs → AllByRecursion P ys → AllByRecursion P (xs ++ ys)
all_both P [] ys a b = b
all_both P (x ∷ xs) ys a b = (a.0, all_both P xs ys a.1 b)

all_filtered : {X : Type 0} (P : X → Type 0) (p : X → Bool) (xs : List X) → AllByRecursion P xs → AllByRecursion P (filter p xs)
all_filtered P p [] a = tt
all_filtered P p (x ∷ xs) a =
    let rest = all_filtered P p xs a.1 in
    cond_both (p x) (x ∷ filter p xs) (filter p xs) (AllByRecursion P) (λ e. (a.0, rest)) (λ e. rest)

all_flat : {X Y : Type 0} (f : X → List Y) (P : X → Type 0) (Q : Y → Type 0) (xs : List X) → ((x : X) → P x → AllByRecursion Q (f x)) → AllByRecursion P xs → AllByRecursion Q (flat_map f xs)
all_flat f P Q [] each a = tt
all_flat f P Q (x ∷ xs) each a = all_both Q (f x) (flat_map f xs) (each x a.0) (all_flat f P Q xs each a.1)

abbrev IsGrid : ℕ → Type 0
IsGrid fineness = (0 < fineness) × (fineness ≤ 16)

abbrev IsPart : ℕ → Type 0
IsPart percent = percent ≤ 100

grids_fit : (coarsest finest : ℕ) → AllByRecursion IsGrid (grids_between coarsest finest)
grids_fit coarsest finest =
    all_filtered IsGrid (is_between coarsest finest) (1 ∷ 2 ∷ 4 ∷ 8 ∷ 16 ∷ [])
    ((omega arith, omega arith), ((omega arith, omega arith), ((omega arith, omega arith), ((omega arith, omega arith), ((omega arith, omega arith), tt)))))

percents_fit : (spread : Spread) → IsSpread spread → AllByRecursion IsPart (percents_of spread)
percents_fit (Percent percent) h = (h, tt)
percents_fit Auto h =
    (omega arith, (omega arith, (omega arith, (omega arith, (omega arith, (omega arith, (omega arith, (omega arith, (omega arith, (omega arith, (omega arith, tt)))))))))))

attempts_on_fit : (percents : List ℕ) → AllByRecursion IsPart percents → (fineness : ℕ) → IsGrid fineness → AllByRecursion IsAttempt (attempts_on percents fineness)
attempts_on_fit percents parts fineness grid =
    of_mapped (λ (percent : ℕ). let a : Attempt = record { fineness = fineness; percent = percent } in a) IsPart IsAttempt percents
    (λ percent part. record { some = grid.0; fine = grid.1; within = part }) parts

pub attempts_fit : (plan : DrawingPlan) → IsSpread plan.spread → AllByRecursion IsAttempt (attempts_of plan)
attempts_fit plan h =
    all_flat (attempts_on (percents_of plan.spread)) IsGrid IsAttempt (grids_between plan.coarsest plan.finest)
    (attempts_on_fit (percents_of plan.spread) (percents_fit plan.spread h)) (grids_fit plan.coarsest plan.finest)

-- one more of a list that is filtered, or of one from whose elements lists come
pub filter_more : {X : Type 0} (p : X → Bool) (xs : List X) (i : ℕ) (d : X) (done : List X) → i < length xs
    → (done ++ cond (p (get_or xs i d)) (get_or xs i d ∷ []) []) ++ filter p (drop (i + 1) xs) ≡ done ++ filter p (drop i xs)
filter_more p xs i d done h =
    by_test (p (get_or xs i d)) ∙ ap (λ (ys : List _). done ++ filter p ys) (sym (drop_more xs i d h))
  where
    by_test : (t : Bool) → (done ++ cond t (get_or xs i d ∷ []) []) ++ filter p (drop (i + 1) xs) ≡ done ++ cond t (get_or xs i d ∷ filter p (drop (i + 1) xs)) (filter p (drop (i + 1) xs))
    by_test true = append_assoc done (get_or xs i d ∷ []) (filter p (drop (i + 1) xs))
    by_test false = ap (λ (ys : List _). ys ++ filter p (drop (i + 1) xs)) (append-nil done)

pub flat_more : {X Y : Type 0} (f : X → List Y) (xs : List X) (i : ℕ) (d : X) (done : List Y) → i < length xs
    → (done ++ f (get_or xs i d)) ++ flat_map f (drop (i + 1) xs) ≡ done ++ flat_map f (drop i xs)
flat_more f xs i d done h =
    append_assoc done (f (get_or xs i d)) (flat_map f (drop (i + 1) xs)) ∙ ap (λ (ys : List _). done ++ flat_map f ys) (sym (drop_more xs i d h))
