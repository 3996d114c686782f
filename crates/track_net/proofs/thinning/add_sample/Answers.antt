use Rattle.std.proofs.Common.{◌≡◌, sym, ◌∙◌, ap, false, List, length, arith}
use Rattle.map_base.specs.declared.point.Point.{Point}
use Rattle.track_net.specs.Nearness.{has_near}
use Rattle.track_net.specs.Nets.{with_sample}
use Rattle.track_net.proofs.ThinLemmas.{length-with_new_sample}
use Rattle.track_net.proofs.CellLemmas.{AreKept-pushed}
use Rattle.track_net.proofs.thinning.add_sample.Goals as goal

pub returns-then-len-ge-MOST_POINTS-clause-cause :
    goal.returns-then-len-ge-MOST_POINTS-clause-cause
returns-then-len-ge-MOST_POINTS-clause-cause c =
    let none : has_near c.args.near c.args.points.now.items c.args.sample ≡ false =
    sym (ap (λ (ps : List Point). has_near c.args.near ps c.args.sample) c.deref.ensures.value) ∙ c.in_default.ensures in
    let more = length-with_new_sample c.args.near c.args.points.now.items c.args.sample none in
    c.too_many.ensures (length (with_sample c.args.near c.args.points.now.items c.args.sample)) (omega (arith, more, c.args.points.now.ok))

pub returns-clause-theirs : goal.returns-clause-theirs
returns-clause-theirs c =
    AreKept-pushed c.args.near c.args.points.now.items c.push.new.self.items c.args.sample c.args.cells.now c.keep.new.cells c.cell_at.result c.requires.theirs c.in_ok-push.ensures.items
    c.cell_at.ensures.value c.in_ok-keep.ensures
