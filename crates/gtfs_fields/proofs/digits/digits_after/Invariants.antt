use Rattle.std.proofs.Common.{◌≡◌, ◌≤◌, drop}
use Rattle.gtfs_fields.specs.Digits.{with_digits}
use Rattle.gtfs_fields.proofs.digits.digits_after.Given as goal

abbrev pub invariant-loop-byte : goal.invariant-loop-byte
invariant-loop-byte l = (with_digits l.most l.longer (drop l.byte-index l.text) ≡ with_digits l.most l.number l.text) × (l.longer ≤ l.most)
