use Rattle.std.proofs.Common.{◌≡◌, IfSome, drop}
use Rattle.std.specs.List.{find}
use Rattle.output_guard.proofs.clash.first_same.Given as goal

-- the first one is the first one of the rest
abbrev pub invariant-loop-other : goal.invariant-loop-other
invariant-loop-other g l = IfSome (g.D.Leads.same l.fn.disk) (λ same. find (same l.output) l.others ≡ find (same l.output) (drop l.other-index l.others))
