use Rattle.std.proofs.Common.{◌≡◌, ℕ, ◌-◌, ◌-ℤ◌, unsigned_abs, length}
use Rattle.feed_courses.specs.Runs.{IsRun}
use Rattle.feed_courses.proofs.apart.Apart.first_free.Given as goal

abbrev pub invariant-loop-next : goal.invariant-loop-next
invariant-loop-next l = record { same : l.self ≡ l.initial.self; run : (steps : ℕ) × IsRun l.initial.self l.fn.point l.free steps }

abbrev pub decreases-loop-next : goal.decreases-loop-next
decreases-loop-next l = length l.self - unsigned_abs (l.free.x -ℤ l.fn.point.x)
