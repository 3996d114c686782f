use Rattle.std.proofs.Common.{◌≡◌, sym, ◌∙◌, ap, subst, true, false, length, List, Bool}
use Rattle.std.specs.List.{list_all}
use Rattle.octi_grid.specs.declared.point.GridPoint.{GridPoint}
use Rattle.octi_grid.specs.Walks.{doubled_of, points_of}
use Rattle.grid_board.specs.Boards.{BoardFlags, IsBoard, IsKept, contains, doubled_bounds, parts_of, without_walk}
use Rattle.grid_board.proofs.Marks.{length-flagged}
use Rattle.grid_board.proofs.OnBoards.{freed_by, kept_bounds, kept_freed, length-kept, seen_all_inside, shown_freed}
use Rattle.grid_board.proofs.Ways.{first_holds, last_holds}
use Rattle.grid_board.proofs.board.Board.remove_walk.Goals as goal

pub flag_walk-requires-clause-bounds : goal.flag_walk-requires-clause-bounds
flag_walk-requires-clause-bounds c =
    let b : BoardFlags = record { bounds = c.self.inside.bounds; nodes = c.self.inside.nodes.items; taken = c.self.inside.taken } in
    kept_bounds b c.self.invariant

pub flag_walk-requires-clause-inside : goal.flag_walk-requires-clause-inside
flag_walk-requires-clause-inside c =
    let b : BoardFlags = record { bounds = c.self.inside.bounds; nodes = c.self.inside.nodes.items; taken = c.self.inside.taken } in
    seen_all_inside b c.args.self.now (points_of c.args.walk.now) c.self.view_is c.requires.inside

pub keep_point-requires-clause-bounds : goal.keep_point-requires-clause-bounds
keep_point-requires-clause-bounds c =
    let b : BoardFlags = record { bounds = c.self.inside.bounds; nodes = c.self.inside.nodes.items; taken = c.self.inside.taken } in
    kept_bounds b c.self.invariant

pub keep_point-requires-clause-flags : goal.keep_point-requires-clause-flags
keep_point-requires-clause-flags c =
    let b : BoardFlags = record { bounds = c.self.inside.bounds; nodes = c.self.inside.nodes.items; taken = c.self.inside.taken } in
    ap length c.flag_walk.ensures ∙ length-flagged (doubled_bounds b.bounds) false (doubled_of c.args.walk.now) b.taken ∙ c.self.invariant.doubled_points

pub keep_point-requires-clause-inside : goal.keep_point-requires-clause-inside
keep_point-requires-clause-inside c =
    let b : BoardFlags = record { bounds = c.self.inside.bounds; nodes = c.self.inside.nodes.items; taken = c.self.inside.taken } in
    subst (λ (p : GridPoint). contains b.bounds p ≡ true) (sym c.start.ensures)
    (first_holds (contains b.bounds) c.args.walk.now.start c.args.walk.now.steps (seen_all_inside b c.args.self.now (points_of c.args.walk.now) c.self.view_is c.requires.inside))

pub keep_point-requires-2-clause-bounds : goal.keep_point-requires-2-clause-bounds
keep_point-requires-2-clause-bounds c =
    let b : BoardFlags = record { bounds = c.self.inside.bounds; nodes = c.self.inside.nodes.items; taken = c.self.inside.taken } in
    kept_bounds b c.self.invariant

pub keep_point-requires-2-clause-flags : goal.keep_point-requires-2-clause-flags
keep_point-requires-2-clause-flags c =
    let b : BoardFlags = record { bounds = c.self.inside.bounds; nodes = c.self.inside.nodes.items; taken = c.self.inside.taken } in
    ap length c.keep_point.ensures
    ∙ length-kept b.bounds c.flag_walk.new.taken c.start.result c.args.keeps_start
    ∙ ap length c.flag_walk.ensures
    ∙ length-flagged (doubled_bounds b.bounds) false (doubled_of c.args.walk.now) b.taken
    ∙ c.self.invariant.doubled_points

pub keep_point-requires-2-clause-inside : goal.keep_point-requires-2-clause-inside
keep_point-requires-2-clause-inside c =
    let b : BoardFlags = record { bounds = c.self.inside.bounds; nodes = c.self.inside.nodes.items; taken = c.self.inside.taken } in
    subst (λ (p : GridPoint). contains b.bounds p ≡ true) (sym c.end_of.ensures)
    (last_holds (contains b.bounds) c.args.walk.now.start c.args.walk.now.steps (seen_all_inside b c.args.self.now (points_of c.args.walk.now) c.self.view_is c.requires.inside))

pub invariant_of-self : goal.invariant_of-self
invariant_of-self c =
    let b : BoardFlags = record { bounds = c.self.inside.bounds; nodes = c.self.inside.nodes.items; taken = c.self.inside.taken } in
    let inside : list_all (contains b.bounds) (points_of c.args.walk.now) ≡ true = seen_all_inside b c.args.self.now (points_of c.args.walk.now) c.self.view_is c.requires.inside in
    subst (λ (ts : List Bool). IsKept (record { bounds = b.bounds; nodes = b.nodes; taken = ts }))
    (sym (freed_by b c.args.walk.now c.args.keeps_start c.args.keeps_end c.start.result c.end_of.result c.flag_walk.new.taken c.keep_point.new.taken c.keep_point-2.new.taken c.flag_walk.ensures c.start.ensures c.keep_point.ensures c.end_of.ensures c.keep_point-2.ensures))
    (kept_freed b c.args.walk.now c.args.keeps_start c.args.keeps_end c.self.invariant inside
    (last_holds (contains b.bounds) c.args.walk.now.start c.args.walk.now.steps inside)
    (subst (λ (x : BoardFlags). IsBoard (without_walk (parts_of x) c.args.walk.now c.args.keeps_start c.args.keeps_end)) (sym c.self.view_is) c.requires.board))

pub returns : goal.returns
returns c =
    let b : BoardFlags = record { bounds = c.self.inside.bounds; nodes = c.self.inside.nodes.items; taken = c.self.inside.taken } in
    let inside : list_all (contains b.bounds) (points_of c.args.walk.now) ≡ true = seen_all_inside b c.args.self.now (points_of c.args.walk.now) c.self.view_is c.requires.inside in
    ap (λ (ts : List Bool). parts_of (record { bounds = b.bounds; nodes = b.nodes; taken = ts }))
    (freed_by b c.args.walk.now c.args.keeps_start c.args.keeps_end c.start.result c.end_of.result c.flag_walk.new.taken c.keep_point.new.taken c.keep_point-2.new.taken c.flag_walk.ensures c.start.ensures c.keep_point.ensures c.end_of.ensures c.keep_point-2.ensures)
    ∙ shown_freed b c.args.walk.now c.args.keeps_start c.args.keeps_end c.self.invariant.doubled_points inside
    (last_holds (contains b.bounds) c.args.walk.now.start c.args.walk.now.steps inside)
    ∙ ap (λ (x : BoardFlags). without_walk (parts_of x) c.args.walk.now c.args.keeps_start c.args.keeps_end) c.self.view_is
