use Rattle.std.proofs.Common.{length, ap, arith}
use Rattle.gtfs_fields.proofs.Cuts.{piece_at, cut_within}
use Rattle.gtfs_fields.proofs.TextRows.{row_ascii}
use Rattle.gtfs_fields.proofs.rows.Rows.is_ascii.Goals as goal

pub bounds_of-start-requires : goal.bounds_of-start-requires
bounds_of-start-requires c =
    let low = cut_within c.self.inside.ends.items c.self.inside.fields c.args.self.now c.args.row c.self.view_is c.requires in
    omega (arith, ap length c.deref.ensures.value)

pub are_ascii-requires-clause-to : goal.are_ascii-requires-clause-to
are_ascii-requires-clause-to c =
    (piece_at c.self.inside.ends.items c.self.inside.fields c.args.self.now c.args.row c.deref.result.now c.bounds_of-start.result.0 c.bounds_of-start.result.1 c.self.view_is c.self.invariant c.requires c.deref.ensures.value c.bounds_of-start.ensures.start c.bounds_of-start.ensures.end).fits

pub returns-then-start-end : goal.returns-then-start-end
returns-then-start-end c good =
    let piece = piece_at c.self.inside.ends.items c.self.inside.fields c.args.self.now c.args.row c.deref.result.now c.bounds_of-start.result.0 c.bounds_of-start.result.1 c.self.view_is c.self.invariant c.requires c.deref.ensures.value c.bounds_of-start.ensures.start c.bounds_of-start.ensures.end in
    row_ascii c.self.inside.fields _ c.bounds_of-start.result.0 c.bounds_of-start.result.1 piece (c.are_ascii.ensures good)
