-- The words and lemmas of other rooms that proofs here cite most, in one place.
pub use Rattle.std.specs.Int.{bit_at}
pub use Rattle.std.specs.List.{cons_option, filter_map, flat_map, list_all, list_any, range_with_len, sum_by, zip}
pub use Rattle.std.specs.List.{AllByRecursion}
pub use Rattle.std.specs.Prelude.{filter, int_lt, nat_le, nat_lt, not, option_map, slice_index, unsigned_abs, unwrap_or}
pub use Rattle.std.specs.Prelude.{vec_items, ◌&&◌, All, IfOk, OnOk}
pub use Rattle.std.proofs.Math.Nat.{div-le_self, mul-le-mul_left, mul-le-mul_right}
pub use Rattle.std.proofs.lemmas.Bool.{and_from, and_parts, cases_Bool, cases_eq, cases_lt, eq-eqb, eqb-true, le-leb}
pub use Rattle.std.proofs.lemmas.Bool.{leb-false, leb-true, lt-leb, lt-ltb, ltb-true, ne_eqb, not-true, or_cases}
pub use Rattle.std.proofs.lemmas.Bool.{or_left, or_right, true≢false}
pub use Rattle.std.proofs.lemmas.Bool.Decides.{nat_tests}
pub use Rattle.std.proofs.lemmas.Int.{ints, to_z-of_z}
pub use Rattle.std.proofs.lemmas.List.{append-nil, at_drop_all, at_drop_more, drop_all, drop_more, flat_map_more}
pub use Rattle.std.proofs.lemmas.List.{get_or-drop, get_or-map, get_or-replicate, get_or_default, get_or_past}
pub use Rattle.std.proofs.lemmas.List.{get_or_read, length-map, length-replicate, length_push, map-append, map_more}
pub use Rattle.std.proofs.lemmas.List.{replicate_more, reverse-append, set-get_or, take-append-drop, take_all}
pub use Rattle.std.proofs.lemmas.List.{take_more}
pub use Rattle.std.proofs.lemmas.List.FromFn.{fill_by_all, get_or-map-range_with_len, length-map-range_with_len}
pub use Rattle.std.proofs.lemmas.List.Sums.{fold-append, fold_more, sum_by-cons, sum_by_more, sum_by_push}
pub use Rattle.map_base.specs.declared.ids.NodeId.{NodeId}
pub use Rattle.map_base.specs.declared.ids.SegId.{SegId}
pub use Rattle.graph_core.specs.Consistent.{AreSorted, IsBefore, IsConsistent, IsJoin}
pub use Rattle.graph_core.specs.declared.parts.GraphParts.{GraphParts}
pub use Rattle.line_chains.specs.Chains.{end_after, end_of, last_seg, round_of}
pub use Rattle.line_chains.specs.declared.chain.Chain.{Chain}
pub use Rattle.line_chains.specs.declared.chain.ChainStep.{ChainStep}
pub use Rattle.octi_grid.specs.Costs.{clockwise_from, step_cost, turn_between, way_cost}
pub use Rattle.octi_grid.specs.Legal.{are_clockwise, is_among, is_even, legs_of, port_of, port_where, puts_by, Leg, Put}
pub use Rattle.octi_grid.specs.Walks.{cost_of, doubled_of, end_point, end_port, last_of, points_of, start_port, IsWalk}
pub use Rattle.octi_grid.specs.Walks.{PlainWalk}
pub use Rattle.octi_grid.specs.Ways.{after, are_one, doubled, east_of, north_of, number_of, points_from, reverse_of}
pub use Rattle.octi_grid.specs.Ways.{step_from, IsWithin}
pub use Rattle.octi_grid.specs.declared.dir.Dir.{Dir}
pub use Rattle.octi_grid.specs.declared.point.GridPoint.{GridPoint}
pub use Rattle.octi_grid.proofs.CostLemmas.{number_small, turn_none, turn_small}
pub use Rattle.octi_grid.proofs.Fronts.{clockwise_fewer, IsSameOrNone}
pub use Rattle.octi_grid.proofs.Members.{all_at, among_at, among_from, any_at, any_from, are_one-refl, are_one_from}
pub use Rattle.octi_grid.proofs.Members.{false_from, from_flat_map, in_append, in_flat_map, in_left, in_right}
pub use Rattle.octi_grid.proofs.Members.{one_point, same_test, In}
pub use Rattle.octi_grid.proofs.WayLemmas.{after-append, after-replicate, east_small, list_all-points-append}
pub use Rattle.octi_grid.proofs.WayLemmas.{north_small, reach}
pub use Rattle.grid_board.specs.Boards.{contains, doubled_bounds, empty_board, is_inside, parts_of, with_kept}
pub use Rattle.grid_board.specs.Boards.{with_node, with_walk, without_node, without_walk, AreBounds, BoardFlags}
pub use Rattle.grid_board.specs.Boards.{BoardParts, IsBoard}
pub use Rattle.grid_board.specs.Points.{are_near, is_near}
pub use Rattle.grid_board.specs.declared.bounds.Bounds.{Bounds}
pub use Rattle.walk_search.specs.Moves.{direction}
pub use Rattle.walk_search.specs.Routes.{allows, directions, if_within, route}
pub use Rattle.walk_search.proofs.Crossing.{turn_back}
pub use Rattle.walk_search.proofs.Turning.{number_of-direction, step_back}
pub use Rattle.segment_router.specs.Ports.{allowed_mask, distance_to, gaps_of, gaps_to, is_allowed, port_in, stops_from}
pub use Rattle.segment_router.specs.Ports.{turned_over, with_port, with_stop, Stop}
pub use Rattle.segment_router.specs.Routes.{end_at, has_doubled, port_at_node, port_by}
pub use Rattle.segment_router.proofs.MaskLemmas.{allowed_known, ends_round}
pub use Rattle.segment_router.proofs.OrderLemmas.{read_at}
pub use Rattle.segment_router.proofs.Places.{all_in, all_place, in_at, same_seg, seg_at}
pub use Rattle.segment_router.proofs.RoutingLemmas.{bounds_read, known_more, round_within}
pub use Rattle.segment_router.proofs.SettledLemmas.{nowhere}
pub use Rattle.drawing_weights.specs.Drawn.{points_all, IsDrawn, IsShort}
pub use Rattle.drawing_weights.specs.Scales.{apart_weight_by, join_same, joined_pairs, node_weight_by, scale_of}
pub use Rattle.drawing_weights.specs.Scales.{turn_at, turn_over, turns_over, walk_weight_by, weight_by, Scale}
pub use Rattle.drawing_weights.specs.Weights.{point_of, turns_of}
pub use Rattle.drawing_weights.proofs.ShortWalks.{doubled_there, short_inside}
pub use Rattle.run_laying.specs.Attempts.{attempted_on, bounds_past, comes_over_point, has_node, if_lighter, improving}
pub use Rattle.run_laying.specs.Attempts.{inner_nodes, is_inner, is_on_runs, may_move, may_move_to, point_in_attempt}
pub use Rattle.run_laying.specs.Attempts.{stands_at, walk_beside, walks_in, without_runs, Attempt}
pub use Rattle.run_laying.specs.Drawings.{IsOnBoard}
pub use Rattle.run_laying.specs.Laying.{all_laid, board_of, board_under, first_seg_of, from_low, if_laid, laid}
pub use Rattle.run_laying.specs.Laying.{laid_along, last_seg_of, run_walk, standing_point, standing_points, with_piece}
pub use Rattle.run_laying.specs.Laying.{with_pieces, Sketch}
pub use Rattle.run_laying.specs.Pieces.{cut_place, cuts_at, even_places, even_steps, piece_of, pieces_of, point_at}
pub use Rattle.run_laying.specs.Pieces.{reversed_walk}
pub use Rattle.run_laying.specs.Runs.{AreBeside, AreOnce, AreSteps, IsFitting, IsRun, LeadsTo, MeetAlone}
pub use Rattle.run_laying.specs.Searches.{after_attempt, after_pass, after_passes, attempts_by, attempts_of_length}
pub use Rattle.run_laying.specs.Searches.{found_with, Found}
pub use Rattle.run_laying.specs.Sketches.{is_standing, lifted, point_of_node, stood, walk_in, with_walk_of, IsEndOf}
pub use Rattle.run_laying.specs.Sketches.{IsFreeFor, IsLegalSketch, IsMeeting}
pub use Rattle.run_laying.proofs.Attempted.{beside_off, laid_on, laying_of, still_clear, HasWalk, IsClearFor, IsLaidOn}
pub use Rattle.run_laying.proofs.Cuts.{first_start_port, second_end_port, some_end, some_first, split_end}
pub use Rattle.run_laying.proofs.EvenCuts.{cuts_of, length-pieces, length-points, AreCuts}
pub use Rattle.run_laying.proofs.Kept.{clear_for, first_leads, first_outer, inner_step, kept_sketch, last_outer}
pub use Rattle.run_laying.proofs.Kept.{no_loop, IsKept}
pub use Rattle.run_laying.proofs.LaidRuns.{keeps_lifted, keeps_standing, laid_further, same_bounds, same_walk}
pub use Rattle.run_laying.proofs.LaidRuns.{to_stands, IsCut, IsLaying}
pub use Rattle.run_laying.proofs.Reversed.{back_again, back_end, back_within, turned, twice}
pub use Rattle.run_laying.proofs.RunFacts.{contains_in, end_below, in_round, inner_of, inner_off, leads_from, leads_to}
pub use Rattle.run_laying.proofs.RunFacts.{once_first, step_of, IsInner}
pub use Rattle.run_laying.proofs.Shown.{board_fits, in_standing, in_walks, node_shown, settled_there, shown_node}
pub use Rattle.run_laying.proofs.Shown.{stands_below}
pub use Rattle.run_laying.proofs.Turned.{port_from, port_to, turned_of, IsTurned}
pub use Rattle.run_laying.proofs.Whole.{whole_legal, IsComplete}
pub use Rattle.drawing_search.specs.Alike.{AreAlike}
pub use Rattle.drawing_search.specs.Bounds.{gains_at_least, least_between, limit_between, overs_by, with_first_by}
pub use Rattle.drawing_search.specs.Bounds.{with_last_by, with_walk_by, AreOvers, HaveBounds, HaveLeast, IsBoundOf}
pub use Rattle.drawing_search.specs.Bounds.{IsLeastOf, IsSmallLeast, IsSmallOver}
pub use Rattle.drawing_search.specs.Changes.{all_moved, has_room, is_open, moved_by, stood_at, walked_by, without_run}
pub use Rattle.drawing_search.specs.Changes.{without_walks, AreApart, AreLayable, AreLiftable, AreTakable, CanStand}
pub use Rattle.drawing_search.specs.Changes.{CanStandEach, CanWalk, CanWalkEach, IsLiftable, IsTakable, StandsAfter}
pub use Rattle.drawing_search.specs.Gains.{apart_in, first_point, has_segment, no_join, node_weight_in, pairs_at}
pub use Rattle.drawing_search.specs.Gains.{run_gain, same_as_next, segment_weight, sketch_weight, step_gain, steps_gain}
pub use Rattle.drawing_search.specs.Gains.{turn_by, turn_if, turn_in, turns_by, turns_from, turns_in, walk_weight_if}
pub use Rattle.drawing_search.specs.Gains.{AreOnGraph, IsField}
pub use Rattle.drawing_search.specs.Least.{allowed_dirs, diagonal, free_nodes, is_free_node, least_beside, least_by}
pub use Rattle.drawing_search.specs.Least.{never, ports_for, straight_way, turn_price, turns_at_least}
pub use Rattle.drawing_search.specs.Lifting.{attempt_by, points_along, put_back, walk_along, walks_along, CameOf}
pub use Rattle.drawing_search.specs.Lifting.{CanPutBack, IsAttempted, IsLifted, IsTaken, IsTriedFrom}
pub use Rattle.drawing_search.specs.Searched.{attempts_in, attempts_of, found_on, IsSearched, IsSearchedOn}
pub use Rattle.drawing_search.specs.Shown.{bare_sketch, sketch_of, whole_sketch}
pub use Rattle.drawing_search.specs.Tracks.{piece_along, IsTrack}
pub use Rattle.drawing_search.specs.Tries.{after_tries, after_try, if_below, point_then, stands_then, stays_standing}
pub use Rattle.drawing_search.specs.Tries.{taken_off, tried, walk_left, with_tried, without, AreAllLaid, IsRunLaid}
pub use Rattle.drawing_search.specs.Tries.{IsSettled, Tried}
pub use Rattle.drawing_search.specs.Trying.{laid_within, walks_of, IsLaid, IsWhole}
pub use Rattle.drawing_search.specs.declared.group.Group.{Group}
pub use Rattle.drawing_search.specs.declared.group.Vector.{Vector}
pub use Rattle.drawing_search.specs.declared.least.LeastTurns.{LeastTurns}
pub use Rattle.drawing_search.specs.declared.lifting.Lifted.{Lifted}
