use Rattle.std.proofs.Common.{◌≡◌, arith, rules, sym, subst, ap, ◌∙◌, take, drop, length}
use Rattle.std.proofs.lemmas.Result.{err_from_is_err_and}
use Rattle.std.specs.Io.KnownBytes.{Consumes}
use Rattle.std.proofs.KnownBytes.{Consumes-trans}
use Rattle.files_door.proofs.ReadSoFar.{at_end, at_stop, front_of, stop_cause}
use Rattle.files_door.proofs.reading.read_rest.Goals as goal

pub returns-then-count-eq0-clause-whole : goal.returns-then-count-eq0-clause-whole
returns-then-count-eq0-clause-whole g c =
    at_end (g.F.Files.rest c.args.files.now) (g.F.Files.rest c.loop-bytes.files) c.args.most c.loop-bytes.bytes c.loop-bytes.invariant.read (c.in_ok-count.ensures.end c.if-count-eq0.true (omega (arith, c.deref_mut.ensures.len))) (search rules)

pub returns-in_err-count-clause-whole : goal.returns-in_err-count-clause-whole
returns-in_err-count-clause-whole g c =
    let p = err_from_is_err_and c.from_residual-in_err-count.result c.from_residual-in_err-count.ensures.1 in
    rw (p.1, p.2) (at_stop (g.F.Files.rest c.args.files.now) c.args.most c.in_err-count.field-0.0)

pub returns-in_err-count-clause-cause : goal.returns-in_err-count-clause-cause
returns-in_err-count-clause-cause g c =
    let p = err_from_is_err_and c.from_residual-in_err-count.result c.from_residual-in_err-count.ensures.1 in
    rw (p.1, p.2) (stop_cause c.args.most (g.F.Files.faults c.args.files.now) (g.F.Files.faults c.loop-bytes.files) (g.F.Files.faults c.read.new.self) c.in_err-count.field-0.0 c.read.result c.loop-bytes.invariant.later c.in_err-count.was c.read.ensures.cause)

pub loop-bytes-preserved : goal.loop-bytes-preserved
loop-bytes-preserved g c =
    let rest = g.F.Files.rest c.args.files.now in
    let mid = g.F.Files.rest c.loop-bytes.files in
    let new = g.F.Files.rest c.read.new.self in
    let count = c.in_ok-count.count in
    let into = c.read.new.into in
    let len = c.loop-bytes.piece.len in
    let behind = drop (length into) c.loop-bytes.piece.items in
    let read = c.in_ok-count.ensures in
    let front : take count c.deref.result.now ≡ take count into =
    ap (take count) c.deref.ensures.value ∙ front_of count len into behind read.bound (omega (arith, read.bound, c.deref_mut.ensures.len)) in
    let consumed : Consumes mid new (take count c.deref.result.now) = subst (Consumes mid new) (sym front) read.bytes in
    record {
      room = omega (arith, c.deref_mut.ensures.len);
      within = c.in_ok-append.ensures.within;
      read = subst (Consumes rest new) (sym c.in_ok-append.ensures.appended) (Consumes-trans rest mid new c.loop-bytes.bytes.items (take count c.deref.result.now) c.loop-bytes.invariant.read consumed);
      told = c.in_ok-count.ensures.told ∙ c.loop-bytes.invariant.told;
      later = omega (arith, c.in_ok-count.ensures.cause.later, c.loop-bytes.invariant.later);
    }
