use Rattle.std.proofs.Common.{◌≡◌, ◌≤◌, ◌<◌, ◌-◌, vec_len}
use Rattle.std.specs.Io.KnownBytes.{Consumes}
use Rattle.files_door.proofs.reading.read_rest.Given as goal

-- what was read so far is the front of what was unread
abbrev pub invariant-loop-bytes : goal.invariant-loop-bytes
invariant-loop-bytes g l =
    let files = g.F.Files in
    record {
      room : 0 < vec_len l.piece;
      within : vec_len l.bytes ≤ l.most;
      read : Consumes (files.rest l.fn.files) (files.rest l.files) l.bytes.items;
      told : files.told l.files ≡ files.told l.fn.files;
      later : files.faults l.fn.files ≤ files.faults l.files;
    }

abbrev pub decreases-loop-bytes : goal.decreases-loop-bytes
decreases-loop-bytes g l = l.most - vec_len l.bytes
