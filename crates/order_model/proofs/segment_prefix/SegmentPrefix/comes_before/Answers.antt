use Rattle.std.proofs.Common.{sym}
use Rattle.order_model.proofs.TableLemmas.{before_in}
use Rattle.order_model.proofs.segment_prefix.SegmentPrefix.comes_before.Goals as goal

pub returns : goal.returns
returns c =
    rw (c.place_of.ensures.place, c.place_of-2.ensures.place)
    (sym (before_in c.args.self.now.placed c.args.a c.args.b c.place_of.ensures.short c.requires.differ))
