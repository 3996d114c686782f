use Rattle.std.proofs.Common.{◌≡◌, ◌||◌, drop}
use Rattle.order_proof.specs.Plain.{plain_children}
use Rattle.order_proof.specs.Trees.{lines_of, is_among}
use Rattle.order_proof.proofs.forms.is_among.Given as goal

-- it is that of one of those before, or of those that are left
abbrev pub invariant-loop-other : goal.invariant-loop-other
invariant-loop-other l = (l.among || is_among (lines_of (plain_children (drop l.other-index l.children))) l.line) ≡ is_among (lines_of (plain_children l.children)) l.line
