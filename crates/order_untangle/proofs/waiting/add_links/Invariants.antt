use Rattle.std.proofs.Common.{take}
use Rattle.std.specs.List.{All}
use Rattle.std.specs.Prelude.{IfSome}
use Rattle.order_untangle.specs.Waits.{StillWait, LinkWaits, PairWaits}
use Rattle.order_untangle.proofs.waiting.add_links.Given as goal

abbrev pub invariant-loop-term : goal.invariant-loop-term
invariant-loop-term l = record {
  kept : StillWait l.initial.merges.keys l.merges.keys;
  links : All (LinkWaits l.merges.keys) (take l.term-index l.terms);
  waits : IfSome l.last (PairWaits l.merges.keys);
}
