use Rattle.std.proofs.Common.{◌∙◌, ℕ, List, Ok, Vec, option_map, length, refl, ap, subst, arith}
use Rattle.std.specs.declared.alloc.Global.{Global}
use Rattle.std.proofs.lemmas.Result.{err_from_is_err_and}
use Rattle.table_rows.specs.declared.why.Table.TheVariants as tables
use Rattle.table_rows.specs.Outcome.{Answers}
use Rattle.table_rows.specs.Folder.{file_outcome}
use Rattle.gtfs_tables.specs.Steps.{OfFolder, FailsAt, feed_after_trips, feed_after_shapes, before_shapes, before_stop_times}
use Rattle.sequence_tables.specs.Shapes.{shapes_of_file}
use Rattle.gtfs_tables.proofs.StepLemmas.{step_unread, step_refused, step_went_on}
use Rattle.gtfs_tables.proofs.StepCases.{shapes_later}
use Rattle.gtfs_tables.proofs.GoodShapes.{good_shapes}
use Rattle.gtfs_tables.proofs.FewRows.{few_bytes, few_of_bytes, few_option}
use Rattle.gtfs_tables.proofs.whole_feed.after_trips.Goals as goal

pub returns-in_err-bytes-clause-read : goal.returns-in_err-bytes-clause-read
returns-in_err-bytes-clause-read g c =
    step_unread tables.Shapes (file_outcome) (shapes_of_file c.args.trips.now)
    (λ shapes f. feed_after_shapes c.args.routes c.args.stops c.args.trips.now shapes f) (λ shapes f t. before_stop_times t) (λ f. feed_after_trips c.args.routes c.args.stops c.args.trips.now f) (λ f t. before_shapes c.args.trips.now f t)
    (λ file f. refl) (λ f. refl) (shapes_later c.args.trips.now)
    (g.F.Files.told c.args.files.now) c.args.folder.now
    (g.F.Files.faults c.args.files.now) (g.F.Files.faults c.file_in.new.files) (λ tables. tables) c.in_err-bytes.field-0.0 c.from_residual.result
    (err_from_is_err_and c.from_residual.result c.from_residual.ensures.1)
    c.in_err-bytes.ensures.read

pub returns-in_err-shapes-clause-read : goal.returns-in_err-shapes-clause-read
returns-in_err-shapes-clause-read g c =
    step_refused tables.Shapes (file_outcome) (shapes_of_file c.args.trips.now)
    (λ shapes f. feed_after_shapes c.args.routes c.args.stops c.args.trips.now shapes f) (λ shapes f t. before_stop_times t) (λ f. feed_after_trips c.args.routes c.args.stops c.args.trips.now f) (λ f t. before_shapes c.args.trips.now f t)
    (λ file f. refl) (λ f. refl) (shapes_later c.args.trips.now)
    (g.F.Files.told c.args.files.now) c.args.folder.now
    (g.F.Files.faults c.args.files.now) (g.F.Files.faults c.file_in.new.files) (λ tables. tables) c.in_err-shapes.field-0.0 c.from_residual-in_err-shapes.result
    (err_from_is_err_and c.from_residual-in_err-shapes.result c.from_residual-in_err-shapes.ensures.1)
    (option_map {T = Vec ℕ Global} {U = List ℕ} (λ v. v.items) c.in_ok-bytes.bytes)
    c.in_ok-bytes.ensures.read c.in_err-shapes.ensures

pub shapes_in_file-requires-clause-few : goal.shapes_in_file-requires-clause-few
shapes_in_file-requires-clause-few g c =
    let of = c.in_ok-bytes.ensures.read in
    few_option of.file c.in_ok-bytes.bytes of.holds

pub shapes_in_file-requires-clause-few_trips : goal.shapes_in_file-requires-clause-few_trips
shapes_in_file-requires-clause-few_trips g c = omega (arith, c.requires.trips.as_many_shapes, c.requires.trips.few)

pub after_shapes-requires-clause-shapes : goal.after_shapes-requires-clause-shapes
after_shapes-requires-clause-shapes g c =
    let bytes = option_map {T = Vec ℕ Global} {U = List ℕ} (λ v. v.items) c.in_ok-bytes.bytes in
    let of = c.in_ok-bytes.ensures.read in
    good_shapes (length c.args.routes.lines) c.args.trips.now c.requires.trips bytes c.in_ok-shapes.shapes
    (λ all e. few_of_bytes all (few_bytes of.file all (of.holds ∙ ap Ok e)))
    c.in_ok-shapes.ensures

pub returns-clause-read : goal.returns-clause-read
returns-clause-read g c =
    step_went_on tables.Shapes (file_outcome) (shapes_of_file c.args.trips.now)
    (λ shapes f. feed_after_shapes c.args.routes c.args.stops c.args.trips.now shapes f) (λ shapes f t. before_stop_times t) (λ f. feed_after_trips c.args.routes c.args.stops c.args.trips.now f) (λ f t. before_shapes c.args.trips.now f t)
    (λ file f. refl) (λ f. refl) (shapes_later c.args.trips.now)
    (g.F.Files.told c.args.files.now) c.args.folder.now
    (g.F.Files.faults c.args.files.now) (g.F.Files.faults c.file_in.new.files) (g.F.Files.faults c.after_shapes.new.files) (λ tables. tables)
    (option_map {T = Vec ℕ Global} {U = List ℕ} (λ v. v.items) c.in_ok-bytes.bytes) c.in_ok-shapes.shapes c.after_shapes.result
    c.file_in.ensures.later c.after_shapes.ensures.later
    c.in_ok-bytes.ensures.read c.in_ok-shapes.ensures
    (subst (λ told. OfFolder told c.args.folder.now (λ f. Answers (FailsAt (before_stop_times) (g.F.Files.faults c.file_in.new.files) (g.F.Files.faults c.after_shapes.new.files)) (λ tables. tables) c.after_shapes.result (feed_after_shapes c.args.routes c.args.stops c.args.trips.now c.in_ok-shapes.shapes f))) c.file_in.ensures.kept c.after_shapes.ensures.read)
