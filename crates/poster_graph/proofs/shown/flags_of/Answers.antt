use Rattle.std.proofs.Common.{List, Bool, false, get_or, length, ◌∙◌, ap, sym, subst, arith}
use Rattle.std.proofs.lemmas.List.{take_all}
use Rattle.map_base.specs.declared.ids.LineId.{LineId}
use Rattle.poster_graph.specs.Flags.{is_on, AreFlags}
use Rattle.poster_graph.proofs.Flags.{none_flagged, segment_flagged}
use Rattle.poster_graph.proofs.Written.{written_whole}
use Rattle.poster_graph.proofs.shown.flags_of.Goals as goal

pub loop-s-init : goal.loop-s-init
loop-s-init c = none_flagged c.args.count c.args.graph.now.lines c.in_ok-flags.flags.items (c.in_ok-flags.ensures.items_if_clones_equal (λ y e. e))

pub loop-s-preserved : goal.loop-s-preserved
loop-s-preserved c =
    let written = written_whole c.show_lines.new.flags c.loop-s.flags.items c.loop-s.flags.len (sym (c.show_lines.ensures.each ∙ c.deref_mut.ensures.len)) in
    record {
      each = ap length written ∙ c.show_lines.ensures.each ∙ ap length c.deref_mut.ensures.value ∙ c.loop-s.invariant.each;
      of = λ n low. ap (λ (flags : List Bool). get_or flags n false) written
          ∙ segment_flagged c.args.graph.now.lines c.loop-s.s n c.lines.result.now (get_or c.deref_mut.result.now n false) (get_or c.show_lines.new.flags n false) (omega (arith, c.nodes-nodes.ensures.fits.lines_each)) c.lines.ensures
          (ap (λ (flags : List Bool). get_or flags n false) c.deref_mut.ensures.value ∙ c.loop-s.invariant.of n low) (c.show_lines.ensures.flagged n (omega (arith, low, c.loop-s.invariant.each, ap length c.deref_mut.ensures.value)));
    }

pub returns : goal.returns
returns c =
    subst (λ (lists : List (List LineId)). AreFlags c.args.count (is_on lists) c.loop-s.flags.items)
    (take_all c.loop-s.s c.args.graph.now.lines (omega (arith, c.nodes-nodes.ensures.fits.lines_each))) c.loop-s.invariant
