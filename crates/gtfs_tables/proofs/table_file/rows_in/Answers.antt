use Rattle.std.proofs.Common.{◌≡◌, ℕ, List, Option, Ok, Result, Err, Vec, option_map, ap, sym, subst, ◌∙◌}
use Rattle.std.specs.declared.alloc.Global.{Global}
use Rattle.std.proofs.lemmas.Result.{err_from_is_err_and}
use Rattle.table_rows.specs.declared.fault.FeedFault.{FeedFault}
use Rattle.table_rows.specs.Cells.{Row}
use Rattle.gtfs_tables.specs.Steps.{OfFile}
use Rattle.table_rows.specs.Folder.{file_outcome, required_rows}
use Rattle.table_rows.specs.Outcome.{Answers, Refuses, rose_at, never}
use Rattle.gtfs_tables.specs.Feed.{table_outcome}
use Rattle.gtfs_tables.proofs.StepLemmas.{of_file_weaker, refuses_then, answers_after}
use Rattle.gtfs_tables.proofs.FewRows.{few_rows}
use Rattle.gtfs_tables.proofs.table_file.rows_in.Goals as goal

pub returns-in_err-bytes-clause-read : goal.returns-in_err-bytes-clause-read
returns-in_err-bytes-clause-read g c =
    let table = c.args.table in
    let told = g.F.Files.told c.args.files.now in
    let reads = rose_at table (g.F.Files.faults c.args.files.now) (g.F.Files.faults c.file_in.new.files) in
    let p = err_from_is_err_and c.from_residual.result c.from_residual.ensures.1 in
    let refused : FeedFault → Result (List Row) FeedFault = λ f. Err f in
    subst (λ (r : Result (List Row) FeedFault). OfFile told c.args.folder.now table (λ file. Answers reads (λ rows. rows) r (table_outcome table file))) (sym (p.1 ∙ ap refused p.2))
    (of_file_weaker told c.args.folder.now table
    (λ file. Refuses reads c.in_err-bytes.field-0.0 (file_outcome file))
    (λ file. Refuses reads c.in_err-bytes.field-0.0 (table_outcome table file))
    (λ file refused. refuses_then {A = Option (List ℕ)} {B = List Row} reads reads c.in_err-bytes.field-0.0 (file_outcome file) (required_rows table) (λ other at. at) refused)
    c.in_err-bytes.ensures.read)

pub returns-clause-read : goal.returns-clause-read
returns-clause-read g c =
    let table = c.args.table in
    let reads = rose_at table (g.F.Files.faults c.args.files.now) (g.F.Files.faults c.file_in.new.files) in
    let bytes = option_map {T = Vec ℕ Global} {U = List ℕ} (λ v. v.items) c.in_ok-bytes.bytes in
    of_file_weaker (g.F.Files.told c.args.files.now) c.args.folder.now table
    (λ file. file_outcome file ≡ Ok bytes)
    (λ file. Answers reads (λ rows. rows) c.required_rows.result (table_outcome table file))
    (λ file is. answers_after {A = Option (List ℕ)} {B = List Row} {C = List Row} never reads (λ rows. rows) c.required_rows.result (file_outcome file) bytes (required_rows table) (λ other at. absurd at) is c.required_rows.ensures)
    c.in_ok-bytes.ensures.read

pub returns-clause-few : goal.returns-clause-few
returns-clause-few g c =
    few_rows c.args.table (c.in_ok-bytes.ensures.read).file (option_map {T = Vec ℕ Global} {U = List ℕ} (λ v. v.items) c.in_ok-bytes.bytes) c.required_rows.result (c.in_ok-bytes.ensures.read).holds c.required_rows.ensures
