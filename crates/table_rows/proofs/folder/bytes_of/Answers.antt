use Rattle.std.proofs.Common.{Some, ℕ, List, Option, Result, Vec, option_map, sym, subst, arith}
use Rattle.std.specs.declared.alloc.Global.{Global}
use Rattle.table_rows.specs.declared.fault.FeedFault.{FeedFault}
use Rattle.table_rows.specs.Folder.{file_outcome}
use Rattle.table_rows.specs.Outcome.{Answers, rose_at}
use Rattle.table_rows.proofs.FolderLemmas.{file_outcome-short, some_file}
use Rattle.table_rows.proofs.folder.bytes_of.Goals as goal

pub returns-in-Ok-clause-untold : goal.returns-in-Ok-clause-untold
returns-in-Ok-clause-untold g c =
    (Some c.in-Ok.bytes.items, file_outcome-short c.in-Ok.bytes.items (omega (arith, c.in-Ok.ensures.within, c.in-Ok.bytes.ok)))

pub returns-clause-untold : goal.returns-clause-untold
returns-clause-untold g c =
    let before = g.F.Files.faults c.args.files.now in
    let now = g.F.Files.faults c.read_all.new.files in
    let P : Result (Option (Vec ℕ Global)) FeedFault → Type 0 =
    λ r. (file : Option (List ℕ)) × Answers (rose_at c.args.table before now) (option_map {T = Vec ℕ Global} {U = List ℕ} (λ v. v.items)) r (file_outcome file) in
    subst P (sym c.not_read.ensures) (some_file c.in-Err.fault c.args.table before now c.in-Err.ensures.cause)
