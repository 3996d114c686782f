use Rattle.std.proofs.Common.{◌≡◌, refl, sym, ◌∙◌, ap, ap₂, subst, ◌<◌, Bool, is_some, List, Option, Some, None, length, get_or, set, inl, inr, arith, length-set}
use Rattle.line_chains.specs.Chains.{ends_of}
use Rattle.drawing_search.proofs.Common.{board_of, end_below, list_any, parts_of, points_of, read_at, round_of}
use Rattle.drawing_search.proofs.Common.{sketch_of, walk_in, with_walk_of, without_walk, GraphParts, IsBoard, NodeId}
use Rattle.drawing_search.proofs.Common.{PlainWalk, SegId, Sketch}
use Rattle.drawing_search.proofs.TakenOff.{has_walk_at}
use Rattle.drawing_search.proofs.BoardsOf.{all_inside_kept, bare_shown, bare_view, freed_board, freed_shown, freed_view}
use Rattle.drawing_search.proofs.sketch.Sketch.take_walk.Goals as goal

abbrev no_ends : NodeId × NodeId
no_ends = (record { 0 = 0 }, record { 0 = 0 })

-- other walks keep the ends
kept_by : (g : GraphParts) (j : Sketch) (s : SegId) (n m : NodeId) (ws : List (Option PlainWalk)) (kept : Bool) → kept ≡ list_any (λ (t : SegId). is_some (get_or ws t.0 None)) (round_of g m) → ws ≡ set j.walks s.0 None → n ≡ m
    → kept ≡ has_walk_at g (with_walk_of j s None) n
kept_by g j s n m ws kept is left same =
    is ∙ ap (λ (os : List (Option PlainWalk)). list_any (λ (t : SegId). is_some (get_or os t.0 None)) (round_of g m)) left ∙ ap (has_walk_at g (with_walk_of j s None)) (sym same)

pub take_at-requires : goal.take_at-requires
take_at-requires c =
    let there = ap (λ (j : Sketch). length j.walks) c.self.view_is in
    omega (arith, there, c.requires.segment, c.requires.legal.walks_each)

-- a segment without a walk stays as it is
pub invariant_of-self : goal.invariant_of-self
invariant_of-self c =
    let s = c.self.inside in
    let k = c.args.self.now in
    let none : walk_in k c.args.s ≡ None = ap (λ (j : Sketch). walk_in j c.args.s) (sym c.self.view_is) ∙ sym c.in_err-walk.ensures.walk in
    bare_shown s.board s.points.items s.stand.items s.walks.items k c.self.invariant c.self.view_is c.args.s none
    ∙ ap (λ (ws : List (Option PlainWalk)). board_of (sketch_of s.board s.points.items s.stand.items ws)) (sym c.in_err-walk.ensures.rest)

pub returns-in_err-walk-clause-walk : goal.returns-in_err-walk-clause-walk
returns-in_err-walk-clause-walk c = c.from_residual.ensures ∙ c.in_err-walk.ensures.walk ∙ ap (λ (j : Sketch). walk_in j c.args.s) c.self.view_is

pub returns-in_err-walk-clause-rest : goal.returns-in_err-walk-clause-rest
returns-in_err-walk-clause-rest c =
    let s = c.self.inside in
    let k = c.args.self.now in
    let none : walk_in k c.args.s ≡ None = ap (λ (j : Sketch). walk_in j c.args.s) (sym c.self.view_is) ∙ sym c.in_err-walk.ensures.walk in
    ap (λ (ws : List (Option PlainWalk)). sketch_of s.board s.points.items s.stand.items ws) c.in_err-walk.ensures.rest
    ∙ bare_view s.board s.points.items s.stand.items s.walks.items k c.self.invariant c.self.view_is c.args.s none

-- the ends of the segment, and the walks that are left, as they are read
pub has_walk_at-keeps_start-requires : goal.has_walk_at-keeps_start-requires
has_walk_at-keeps_start-requires c =
    let g = c.args.graph.now in
    let e : ends_of g c.args.s ≡ c.ends.result = read_at g.ends c.args.s.0 c.ends.result no_ends c.ends.ensures in
    record {
      graph = c.requires.graph;
      node = subst (λ (v : NodeId × NodeId). v.0.0 < length g.kinds) e (end_below g c.requires.graph c.args.s (ends_of g c.args.s).0.0 c.requires.segment (inl refl));
      walks =
          ap length c.deref.ensures.value ∙ ap length c.in_ok-walk.ensures.rest ∙ length-set c.self.inside.walks.items c.args.s.0 None
          ∙ ap (λ (j : Sketch). length j.walks) c.self.view_is ∙ c.requires.legal.walks_each;
    }

pub has_walk_at-keeps_end-requires : goal.has_walk_at-keeps_end-requires
has_walk_at-keeps_end-requires c =
    let g = c.args.graph.now in
    let e : ends_of g c.args.s ≡ c.ends.result = read_at g.ends c.args.s.0 c.ends.result no_ends c.ends.ensures in
    record {
      graph = c.requires.graph;
      node = subst (λ (v : NodeId × NodeId). v.1.0 < length g.kinds) e (end_below g c.requires.graph c.args.s (ends_of g c.args.s).1.0 c.requires.segment (inr refl));
      walks =
          ap length c.deref-2.ensures.value ∙ ap length c.in_ok-walk.ensures.rest ∙ length-set c.self.inside.walks.items c.args.s.0 None
          ∙ ap (λ (j : Sketch). length j.walks) c.self.view_is ∙ c.requires.legal.walks_each;
    }

pub remove_walk-requires : goal.remove_walk-requires
remove_walk-requires c =
    let s = c.self.inside in
    let k = c.args.self.now in
    let has : walk_in k c.args.s ≡ Some c.in_ok-walk.walk = ap (λ (j : Sketch). walk_in j c.args.s) (sym c.self.view_is) ∙ sym c.in_ok-walk.ensures.walk in
    let g = c.args.graph.now in
    let j : Sketch = sketch_of s.board s.points.items s.stand.items s.walks.items in
    let w = c.in_ok-walk.walk in
    let e : ends_of g c.args.s ≡ c.ends.result = read_at g.ends c.args.s.0 c.ends.result no_ends c.ends.ensures in
    record {
      inside = all_inside_kept s.board s.points.items s.stand.items s.walks.items k c.self.invariant c.self.view_is (points_of c.in_ok-walk.walk) (c.requires.legal.within c.args.s c.in_ok-walk.walk has);
      board =
          let has : walk_in k c.args.s ≡ Some w = ap (λ (x : Sketch). walk_in x c.args.s) (sym c.self.view_is) ∙ sym c.in_ok-walk.ensures.walk in
          let low = kept_by g j c.args.s (ends_of g c.args.s).0 c.ends.result.0 c.deref.result.now c.has_walk_at-keeps_start.result c.has_walk_at-keeps_start.ensures (c.deref.ensures.value ∙ c.in_ok-walk.ensures.rest) (ap (λ (v : NodeId × NodeId). v.0) e) in
          let up = kept_by g j c.args.s (ends_of g c.args.s).1 c.ends.result.1 c.deref-2.result.now c.has_walk_at-keeps_end.result c.has_walk_at-keeps_end.ensures (c.deref-2.ensures.value ∙ c.in_ok-walk.ensures.rest) (ap (λ (v : NodeId × NodeId). v.1) e) in
          subst IsBoard (sym (ap₂ (λ (x y : Bool). without_walk (parts_of s.board) w x y) low up))
          (freed_board s.board s.points.items s.stand.items s.walks.items k c.self.invariant c.self.view_is g c.requires.graph c.requires.legal c.args.s w has c.requires.segment);
    }

pub invariant_of-self-2 : goal.invariant_of-self-2
invariant_of-self-2 c =
    let s = c.self.inside in
    let k = c.args.self.now in
    let g = c.args.graph.now in
    let j : Sketch = sketch_of s.board s.points.items s.stand.items s.walks.items in
    let w = c.in_ok-walk.walk in
    let d = c.remove_walk.new.self in
    let e : ends_of g c.args.s ≡ c.ends.result = read_at g.ends c.args.s.0 c.ends.result no_ends c.ends.ensures in
    let has : walk_in k c.args.s ≡ Some w = ap (λ (x : Sketch). walk_in x c.args.s) (sym c.self.view_is) ∙ sym c.in_ok-walk.ensures.walk in
    let low = kept_by g j c.args.s (ends_of g c.args.s).0 c.ends.result.0 c.deref.result.now c.has_walk_at-keeps_start.result c.has_walk_at-keeps_start.ensures (c.deref.ensures.value ∙ c.in_ok-walk.ensures.rest) (ap (λ (v : NodeId × NodeId). v.0) e) in
    let up = kept_by g j c.args.s (ends_of g c.args.s).1 c.ends.result.1 c.deref-2.result.now c.has_walk_at-keeps_end.result c.has_walk_at-keeps_end.ensures (c.deref-2.ensures.value ∙ c.in_ok-walk.ensures.rest) (ap (λ (v : NodeId × NodeId). v.1) e) in
    freed_shown s.board s.points.items s.stand.items s.walks.items k c.self.invariant c.self.view_is g c.requires.graph c.requires.legal c.args.s w has c.requires.segment d
    (c.remove_walk.ensures ∙ ap₂ (λ (x y : Bool). without_walk (parts_of s.board) w x y) low up)
    ∙ ap (λ (ws : List (Option PlainWalk)). board_of (sketch_of d s.points.items s.stand.items ws)) (sym c.in_ok-walk.ensures.rest)

pub returns-clause-walk : goal.returns-clause-walk
returns-clause-walk c = c.in_ok-walk.ensures.walk ∙ ap (λ (j : Sketch). walk_in j c.args.s) c.self.view_is

pub returns-clause-rest : goal.returns-clause-rest
returns-clause-rest c =
    let s = c.self.inside in
    let k = c.args.self.now in
    let g = c.args.graph.now in
    let j : Sketch = sketch_of s.board s.points.items s.stand.items s.walks.items in
    let w = c.in_ok-walk.walk in
    let d = c.remove_walk.new.self in
    let e : ends_of g c.args.s ≡ c.ends.result = read_at g.ends c.args.s.0 c.ends.result no_ends c.ends.ensures in
    let has : walk_in k c.args.s ≡ Some w = ap (λ (x : Sketch). walk_in x c.args.s) (sym c.self.view_is) ∙ sym c.in_ok-walk.ensures.walk in
    let low = kept_by g j c.args.s (ends_of g c.args.s).0 c.ends.result.0 c.deref.result.now c.has_walk_at-keeps_start.result c.has_walk_at-keeps_start.ensures (c.deref.ensures.value ∙ c.in_ok-walk.ensures.rest) (ap (λ (v : NodeId × NodeId). v.0) e) in
    let up = kept_by g j c.args.s (ends_of g c.args.s).1 c.ends.result.1 c.deref-2.result.now c.has_walk_at-keeps_end.result c.has_walk_at-keeps_end.ensures (c.deref-2.ensures.value ∙ c.in_ok-walk.ensures.rest) (ap (λ (v : NodeId × NodeId). v.1) e) in
    ap (λ (ws : List (Option PlainWalk)). sketch_of d s.points.items s.stand.items ws) c.in_ok-walk.ensures.rest
    ∙ freed_view s.board s.points.items s.stand.items s.walks.items k c.self.invariant c.self.view_is g c.requires.graph c.requires.legal c.args.s w has c.requires.segment d
    (c.remove_walk.ensures ∙ ap₂ (λ (x y : Bool). without_walk (parts_of s.board) w x y) low up)
