use Rattle.std.proofs.Common.{length, arith, ap, ◌∙◌, sym, drop, get_or}
use Rattle.std.proofs.lemmas.List.{take_rest}
use Rattle.files_door.proofs.Places.{begun_read}
use Rattle.files_door.proofs.steady_files.unread.Goals as goal

pub slice_bounds-result-count : goal.slice_bounds-result-count
slice_bounds-result-count c =
    let same = begun_read c.args.files.now c.args.begun c.in-Some.place c.index-files-place.result c.deref.result.now c.in-Some.is (c.requires.begun c.in-Some.place c.in-Some.is) c.deref.ensures.value in
    omega (arith, ap length same, c.requires.read)

pub slice_bounds-result-start : goal.slice_bounds-result-start
slice_bounds-result-start c =
    let same = begun_read c.args.files.now c.args.begun c.in-Some.place c.index-files-place.result c.deref.result.now c.in-Some.is (c.requires.begun c.in-Some.place c.in-Some.is) c.deref.ensures.value in
    omega (arith, ap length same, c.requires.read)

pub returns-in-Some : goal.returns-in-Some
returns-in-Some c =
    let same = begun_read c.args.files.now c.args.begun c.in-Some.place c.index-files-place.result c.deref.result.now c.in-Some.is (c.requires.begun c.in-Some.place c.in-Some.is) c.deref.ensures.value in
    let held = (get_or c.args.files.now c.in-Some.place c.index-files-place.result).1 in
    record {
      unread = take_rest c.deref.result.now c.args.read ∙ ap (drop c.args.read) (sym same);
      fits = omega (arith, ap length same, c.deref.ensures.len, held.ok, held.small);
    }
