use Rattle.std.proofs.Common.{ℕ, List, length, ap, ◌-◌, take, drop, subst, arith}
use Rattle.std.specs.Str.{IsAscii, IsNotAscii}
use Rattle.std.proofs.lemmas.Bool.{MatchBool-at_true}
use Rattle.gtfs_fields.proofs.Cuts.{cut_within}
use Rattle.gtfs_fields.proofs.TextRows.{spans}
use Rattle.gtfs_fields.proofs.pieces.Pieces.are_ascii.Goals as goal

pub bounds_of-start-requires : goal.bounds_of-start-requires
bounds_of-start-requires c =
    let low = cut_within c.self.inside.ends.items c.self.inside.bytes.items c.args.self.now c.args.from c.self.view_is (omega (arith, c.requires.from, c.requires.to)) in
    omega (arith, ap length c.deref.ensures.value)

pub bounds_of-end-requires : goal.bounds_of-end-requires
bounds_of-end-requires c =
    let low = cut_within c.self.inside.ends.items c.self.inside.bytes.items c.args.self.now (c.args.to - 1) c.self.view_is (omega (arith, c.requires.from, c.requires.to)) in
    omega (arith, ap length c.deref-2.ensures.value)

pub slice_bounds-is_ascii-count : goal.slice_bounds-is_ascii-count
slice_bounds-is_ascii-count c =
    (spans c.self.inside.ends.items c.self.inside.bytes.items c.args.self.now c.args.from c.args.to c.deref.result.now c.deref-2.result.now c.bounds_of-start.result.0 c.bounds_of-end.result.1 c.self.view_is c.self.invariant c.requires.from c.requires.to c.deref.ensures.value c.deref-2.ensures.value c.bounds_of-start.ensures.start c.bounds_of-end.ensures.end).rises

pub slice_bounds-is_ascii-start : goal.slice_bounds-is_ascii-start
slice_bounds-is_ascii-start c =
    (spans c.self.inside.ends.items c.self.inside.bytes.items c.args.self.now c.args.from c.args.to c.deref.result.now c.deref-2.result.now c.bounds_of-start.result.0 c.bounds_of-end.result.1 c.self.view_is c.self.invariant c.requires.from c.requires.to c.deref.ensures.value c.deref-2.ensures.value c.bounds_of-start.ensures.start c.bounds_of-end.ensures.end).rises

pub slice_bounds-is_ascii-end : goal.slice_bounds-is_ascii-end
slice_bounds-is_ascii-end c =
    let span = (spans c.self.inside.ends.items c.self.inside.bytes.items c.args.self.now c.args.from c.args.to c.deref.result.now c.deref-2.result.now c.bounds_of-start.result.0 c.bounds_of-end.result.1 c.self.view_is c.self.invariant c.requires.from c.requires.to c.deref.ensures.value c.deref-2.ensures.value c.bounds_of-start.ensures.start c.bounds_of-end.ensures.end) in
    omega (arith, span.fits, ap length c.deref-3.ensures.value)

pub returns : goal.returns
returns c good =
    let span = (spans c.self.inside.ends.items c.self.inside.bytes.items c.args.self.now c.args.from c.args.to c.deref.result.now c.deref-2.result.now c.bounds_of-start.result.0 c.bounds_of-end.result.1 c.self.view_is c.self.invariant c.requires.from c.requires.to c.deref.ensures.value c.deref-2.ensures.value c.bounds_of-start.ensures.start c.bounds_of-end.ensures.end) in
    let part : List ℕ → List ℕ = λ items. take (c.bounds_of-end.result.1 - c.bounds_of-start.result.0) (drop c.bounds_of-start.result.0 items) in
    span.ascii (subst (λ (items : List ℕ). IsAscii (part items)) c.deref-3.ensures.value (MatchBool-at_true (IsAscii (part c.deref-3.result.now)) (IsNotAscii (part c.deref-3.result.now)) good c.is_ascii.ensures.cases))
