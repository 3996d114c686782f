use Rattle.message_texts.specs.Meant.{IsNearestBelow}
use Rattle.message_texts.proofs.meant_word.nearest.Given as goal

abbrev pub invariant-loop-place : goal.invariant-loop-place
invariant-loop-place l = IsNearestBelow l.word l.known l.place l.best
