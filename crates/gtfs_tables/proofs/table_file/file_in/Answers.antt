use Rattle.std.proofs.Common.{ℕ, List, Vec, option_map}
use Rattle.std.specs.declared.alloc.Global.{Global}
use Rattle.table_rows.specs.Folder.{file_outcome}
use Rattle.table_rows.specs.Outcome.{Answers, rose_at}
use Rattle.gtfs_tables.proofs.StepLemmas.{of_file}
use Rattle.gtfs_tables.proofs.table_file.file_in.Goals as goal

pub returns-clause-read : goal.returns-clause-read
returns-clause-read g c =
    of_file (g.F.Files.told c.args.files.now) c.args.folder.now c.args.table
    (λ file. Answers (rose_at c.args.table (g.F.Files.faults c.args.files.now) (g.F.Files.faults c.bytes_of.new.files)) (option_map {T = Vec ℕ Global} {U = List ℕ} (λ v. v.items)) c.bytes_of.result (file_outcome file))
    c.bytes_of.ensures.told c.bytes_of.ensures.untold
