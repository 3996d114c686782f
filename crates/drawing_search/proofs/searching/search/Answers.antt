use Rattle.std.proofs.Common.{◌∙◌, sym, ap, subst}
use Rattle.drawing_search.proofs.Common.{are_near, attempts_of, bounds_past, points_all, scale_of, IsDrawn}
use Rattle.drawing_search.proofs.Beginning.{begun_searched, can_begin, has_begun}
use Rattle.drawing_search.proofs.searching.search.Goals as goal

pub points_of-requires-clause-drawn : goal.points_of-requires-clause-drawn
points_of-requires-clause-drawn c = subst (IsDrawn c.args.graph.now) (sym (c.deref.ensures.value ∙ c.into_vec-walks.ensures)) c.requires.drawn

pub bounds_past-requires-clause-near : goal.bounds_past-requires-clause-near
bounds_past-requires-clause-near c = ap (are_near 1900) (c.deref-3.ensures.value ∙ c.into_vec-walks.ensures) ∙ c.requires.near

pub sketch_of-requires : goal.sketch_of-requires
sketch_of-requires c =
    let g = c.args.graph.now in
    let ws = c.args.drawing.walks in
    let first = c.in_ok-first.ensures ∙ ap (points_all g) (c.deref.ensures.value ∙ c.into_vec-walks.ensures) in
    let bounds = c.in_ok-bounds.ensures ∙ ap (bounds_past c.args.margin) (c.deref-3.ensures.value ∙ c.into_vec-walks.ensures) in
    let can = can_begin g c.nodes-nodes.ensures.fits ws c.requires.drawn c.requires.near c.args.margin c.requires.margin c.deref-4.result.now c.in_ok-bounds.bounds c.into_vec-walks.result.items (c.deref-4.ensures.value ∙ first) bounds c.into_vec-walks.ensures in
    record {
      graph = c.nodes-nodes.ensures.fits;
      bounds = can.bounds_fit;
      points = can.points;
      walks = can.each;
      inside = can.inside;
      even = can.even;
      within = can.within;
    }

-- the field of the search, and the drawing that it begins with
pub passes-requires : goal.passes-requires
passes-requires c =
    let g = c.args.graph.now in
    let ws = c.args.drawing.walks in
    let first = c.in_ok-first.ensures ∙ ap (points_all g) (c.deref.ensures.value ∙ c.into_vec-walks.ensures) in
    let bounds = c.in_ok-bounds.ensures ∙ ap (bounds_past c.args.margin) (c.deref-3.ensures.value ∙ c.into_vec-walks.ensures) in
    let can = can_begin g c.nodes-nodes.ensures.fits ws c.requires.drawn c.requires.near c.args.margin c.requires.margin c.deref-2.result.now c.in_ok-bounds.bounds c.into_vec-walks.result.items (c.deref-2.ensures.value ∙ first) bounds c.into_vec-walks.ensures in
    let begun = has_begun g c.nodes-nodes.ensures.fits ws c.requires.drawn c.requires.near c.args.margin c.requires.margin c.deref-4.result.now c.in_ok-bounds.bounds c.into_vec-walks.result.items (c.deref-4.ensures.value ∙ first) bounds c.into_vec-walks.ensures c.in_ok-sketch.sketch c.in_ok-sketch.ensures in
    record {
      field = record {
        graph = c.nodes-nodes.ensures.fits;
        pairs = c.in_ok-pairs.ensures;
        turns = c.requires.small;
        overs = c.requires.overs;
        aparts = c.requires.aparts;
        held = c.requires.held;
        first = can.points;
        near = can.near;
      };
      first = c.deref-2.ensures.value ∙ first ∙ sym (ap (points_all g) begun.walks);
      legal = begun.legal;
      whole = begun.whole;
      fitting = c.requires.fitting;
      apart = c.requires.apart;
      lengths = c.requires.lengths;
    }

pub returns : goal.returns
returns c =
    let g = c.args.graph.now in
    let ws = c.args.drawing.walks in
    let first = c.in_ok-first.ensures ∙ ap (points_all g) (c.deref.ensures.value ∙ c.into_vec-walks.ensures) in
    let bounds = c.in_ok-bounds.ensures ∙ ap (bounds_past c.args.margin) (c.deref-3.ensures.value ∙ c.into_vec-walks.ensures) in
    begun_searched g c.nodes-nodes.ensures.fits ws c.requires.drawn c.requires.near c.args.margin c.requires.margin c.deref-4.result.now c.in_ok-bounds.bounds c.into_vec-walks.result.items (c.deref-4.ensures.value ∙ first) bounds c.into_vec-walks.ensures c.in_ok-sketch.sketch c.in_ok-sketch.ensures (scale_of c.args.by) (attempts_of c.args.groups.now) c.args.at_once c.args.most c.passes.result c.passes.ensures
