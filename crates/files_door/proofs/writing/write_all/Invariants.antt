use Rattle.std.proofs.Common.{◌≡◌, ◌≤◌, ◌-◌, take, length}
use Rattle.files_door.specs.Acts.{Does, puts}
use Rattle.files_door.proofs.writing.write_all.Given as goal

-- the first bytes were appended
abbrev pub invariant-loop-done : goal.invariant-loop-done
invariant-loop-done g l =
    let sinks = g.S.Sinks in
    record {
      within : l.done ≤ length l.bytes;
      front : Does (puts (sinks.current l.fn.sinks) (take l.done l.bytes)) (sinks.written l.fn.sinks) (sinks.written l.sinks);
      current : sinks.current l.sinks ≡ sinks.current l.fn.sinks;
      later : sinks.faults l.fn.sinks ≤ sinks.faults l.sinks;
    }

abbrev pub decreases-loop-done : goal.decreases-loop-done
decreases-loop-done g l = length l.bytes - l.done
