use Rattle.std.proofs.Common.{length, sym, ap, arith}
use Rattle.gtfs_fields.proofs.Cuts.{piece_at, cut_within}
use Rattle.gtfs_fields.proofs.rows.Rows.width.Goals as goal

pub bounds_of-start-requires : goal.bounds_of-start-requires
bounds_of-start-requires c =
    let low = cut_within c.self.inside.ends.items c.self.inside.fields c.args.self.now c.args.row c.self.view_is c.requires in
    omega (arith, ap length c.deref.ensures.value)

pub overflow_sub-result : goal.overflow_sub-result
overflow_sub-result c =
    let piece = piece_at c.self.inside.ends.items c.self.inside.fields c.args.self.now c.args.row c.deref.result.now c.bounds_of-start.result.0 c.bounds_of-start.result.1 c.self.view_is c.self.invariant c.requires c.deref.ensures.value c.bounds_of-start.ensures.start c.bounds_of-start.ensures.end in
    omega arith

pub returns : goal.returns
returns c =
    sym (piece_at c.self.inside.ends.items c.self.inside.fields c.args.self.now c.args.row c.deref.result.now c.bounds_of-start.result.0 c.bounds_of-start.result.1 c.self.view_is c.self.invariant c.requires c.deref.ensures.value c.bounds_of-start.ensures.start c.bounds_of-start.ensures.end).size
