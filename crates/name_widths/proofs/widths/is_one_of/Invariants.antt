use Rattle.std.proofs.Common.{◌≡◌, ℕ, false, ◌==◌, take}
use Rattle.std.specs.List.{list_any}
use Rattle.name_widths.proofs.widths.is_one_of.Given as goal

-- none of the characters so far is it
abbrev pub invariant-loop-known : goal.invariant-loop-known
invariant-loop-known l = list_any (λ (k : ℕ). k == l.code) (take l.known-index l.list) ≡ false
