use Rattle.std.proofs.Common.{refl}
use Rattle.order_untangle.proofs.WorkLemmas.{none_looked, one_more_looked}
use Rattle.order_untangle.proofs.work.look_at_all.Goals as goal

pub loop-s-init : goal.loop-s-init
loop-s-init c = none_looked c.args.terms.now.terms c.args.waiting.now.merges.keys c.args.waiting.now.divides.keys

pub loop-s-preserved : goal.loop-s-preserved
loop-s-preserved c =
    one_more_looked c.args.terms.now.terms (record { 0 = c.loop-s.s }) c.loop-s.s c.loop-s.waiting.merges.keys c.look_again.new.waiting.merges.keys
    c.loop-s.waiting.divides.keys c.look_again.new.waiting.divides.keys refl c.loop-s.invariant
    c.in_ok-look_again.ensures.kept c.in_ok-look_again.ensures.links c.in_ok-look_again.ensures.divides
