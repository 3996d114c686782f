use Rattle.std.proofs.Common.{length, refl, ap, arith}
use Rattle.gtfs_fields.proofs.Cuts.{piece_at, cut_within}
use Rattle.gtfs_fields.proofs.pieces.Pieces.at.Goals as goal

pub bounds_of-start-requires : goal.bounds_of-start-requires
bounds_of-start-requires c =
    let low = cut_within c.self.inside.ends.items c.self.inside.bytes.items c.args.self.now c.args.place c.self.view_is c.requires in
    omega (arith, ap length c.deref.ensures.value)

pub slice_bounds-result-count : goal.slice_bounds-result-count
slice_bounds-result-count c =
    (piece_at c.self.inside.ends.items c.self.inside.bytes.items c.args.self.now c.args.place c.deref.result.now c.bounds_of-start.result.0 c.bounds_of-start.result.1 c.self.view_is c.self.invariant c.requires c.deref.ensures.value c.bounds_of-start.ensures.start c.bounds_of-start.ensures.end).rises

pub slice_bounds-result-start : goal.slice_bounds-result-start
slice_bounds-result-start c =
    (piece_at c.self.inside.ends.items c.self.inside.bytes.items c.args.self.now c.args.place c.deref.result.now c.bounds_of-start.result.0 c.bounds_of-start.result.1 c.self.view_is c.self.invariant c.requires c.deref.ensures.value c.bounds_of-start.ensures.start c.bounds_of-start.ensures.end).rises

pub slice_bounds-result-end : goal.slice_bounds-result-end
slice_bounds-result-end c =
    let piece = piece_at c.self.inside.ends.items c.self.inside.bytes.items c.args.self.now c.args.place c.deref.result.now c.bounds_of-start.result.0 c.bounds_of-start.result.1 c.self.view_is c.self.invariant c.requires c.deref.ensures.value c.bounds_of-start.ensures.start c.bounds_of-start.ensures.end in
    omega (arith, ap length c.deref-2.ensures.value)

pub returns : goal.returns
returns c =
    let piece = piece_at c.self.inside.ends.items c.self.inside.bytes.items c.args.self.now c.args.place c.deref.result.now c.bounds_of-start.result.0 c.bounds_of-start.result.1 c.self.view_is c.self.invariant c.requires c.deref.ensures.value c.bounds_of-start.ensures.start c.bounds_of-start.ensures.end in
    rw (piece.is, c.deref-2.ensures.value) refl
