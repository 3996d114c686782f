use Rattle.std.proofs.Common.{◌≡◌, ◌≤◌, ◌-◌, ◌*◌, ◌^◌}
use Rattle.gtfs_fields.specs.Digits.{up_to}
use Rattle.gtfs_fields.proofs.digits.zeros_after.Given as goal

abbrev pub invariant-loop : goal.invariant-loop
invariant-loop l = (up_to l.most (l.longer * 10 ^ (l.zeros - l.counter)) ≡ up_to l.most (l.number * 10 ^ l.zeros)) × (l.longer ≤ l.most)
