use Rattle.std.proofs.Common.{◌∙◌, ℕ, ap}
use Rattle.order_model.specs.Places.{place_in}
use Rattle.order_model.specs.Looks.{first_at}
use Rattle.order_model.proofs.LookLemmas.{first_by_place}
use Rattle.order_model.proofs.segment_prefix.SegmentPrefix.stands_first.Goals as goal

pub returns : goal.returns
returns c =
    c.first_at.ensures ∙ (ap (λ (i : ℕ). first_at i c.place_of-2.result) c.place_of.ensures.place ∙ (ap (first_at (place_in c.args.self.now.placed c.args.a)) c.place_of-2.ensures.place
    ∙ first_by_place c.args.self.now.placed c.args.a c.args.b c.place_of.ensures.short c.requires.differ))
