use Rattle.std.proofs.Common.{[], length, sym, ap, ◌∙◌, arith}
use Rattle.gtfs_fields.proofs.Cuts.{piece_at, piece_item, cut_within}
use Rattle.gtfs_fields.proofs.rows.Rows.field.Goals as goal

pub bounds_of-start-requires : goal.bounds_of-start-requires
bounds_of-start-requires c =
    let low = cut_within c.self.inside.ends.items c.self.inside.fields c.args.self.now c.args.row c.self.view_is c.requires.row in
    omega (arith, ap length c.deref.ensures.value)

pub overflow_add-start : goal.overflow_add-start
overflow_add-start c =
    let piece = piece_at c.self.inside.ends.items c.self.inside.fields c.args.self.now c.args.row c.deref.result.now c.bounds_of-start.result.0 c.bounds_of-start.result.1 c.self.view_is c.self.invariant c.requires.row c.deref.ensures.value c.bounds_of-start.ensures.start c.bounds_of-start.ensures.end in
    omega (arith, c.requires.column)

pub at-requires : goal.at-requires
at-requires c =
    let piece = piece_at c.self.inside.ends.items c.self.inside.fields c.args.self.now c.args.row c.deref.result.now c.bounds_of-start.result.0 c.bounds_of-start.result.1 c.self.view_is c.self.invariant c.requires.row c.deref.ensures.value c.bounds_of-start.ensures.start c.bounds_of-start.ensures.end in
    omega (arith, c.requires.column)

pub returns : goal.returns
returns c =
    let piece = piece_at c.self.inside.ends.items c.self.inside.fields c.args.self.now c.args.row c.deref.result.now c.bounds_of-start.result.0 c.bounds_of-start.result.1 c.self.view_is c.self.invariant c.requires.row c.deref.ensures.value c.bounds_of-start.ensures.start c.bounds_of-start.ensures.end in
    c.at.ensures ∙ sym (piece_item c.self.inside.fields _ c.bounds_of-start.result.0 c.bounds_of-start.result.1 c.args.column [] piece c.requires.column)
