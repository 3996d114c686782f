use Rattle.std.proofs.Common.{◌≡◌, ℕ, List, Bool, Option, false, get_or, length, replicate, ◌∙◌, ap, sym, arith}
use Rattle.std.specs.List.{list_any}
use Rattle.std.proofs.lemmas.List.{get_or-replicate, length-replicate, take_all}
use Rattle.poster_rules.specs.Texts.{all_rests, are_same, rest_at}
use Rattle.poster_graph.specs.Words.{is_second_by, text_in}
use Rattle.poster_graph.proofs.Words.{ends_are, second_more}
use Rattle.poster_graph.proofs.Written.{written_whole}
use Rattle.poster_graph.proofs.texts.second_platforms.Goals as goal

pub loop-s-init : goal.loop-s-init
loop-s-init c =
    let none : c.in_ok-seconds.seconds.items ≡ replicate c.nodes.result false = c.in_ok-seconds.ensures.items_if_clones_equal (λ y e. e) in
    record {
      each = ap length none ∙ length-replicate c.nodes.result false ∙ c.nodes.ensures.count;
      of = λ n low. ap (λ fs. get_or fs n false) none ∙ get_or-replicate c.nodes.result n false false (omega (arith, low, c.nodes.ensures.count));
    }

pub rest_at-requires-clause-node : goal.rest_at-requires-clause-node
rest_at-requires-clause-node c =
    let ends = ends_are c.args.graph.now c.nodes.ensures.fits c.loop-s.s c.ends.result (omega arith) c.ends.ensures in
    omega (arith, ends.0, ends.1)

pub rest_at-requires-in-loop-s-clause-node : goal.rest_at-requires-in-loop-s-clause-node
rest_at-requires-in-loop-s-clause-node c = (ends_are c.args.graph.now c.nodes.ensures.fits c.loop-s.s c.ends.result (omega arith) c.ends.ensures).1

pub note_second-requires : goal.note_second-requires
note_second-requires c =
    let ends = ends_are c.args.graph.now c.nodes.ensures.fits c.loop-s.s c.ends.result (omega arith) c.ends.ensures in
    omega (arith, ends.1, c.loop-s.invariant.each)

pub loop-s-preserved : goal.loop-s-preserved
loop-s-preserved c =
    let rests = all_rests c.args.names.now c.args.graph.now in
    let written = written_whole c.note_second.new.seconds c.loop-s.seconds.items c.loop-s.seconds.len (sym (c.note_second.ensures.each ∙ c.deref_mut.ensures.len)) in
    record {
      each = ap length written ∙ c.note_second.ensures.each ∙ ap length c.deref_mut.ensures.value ∙ c.loop-s.invariant.each;
      of = λ n low. ap (λ (flags : List Bool). get_or flags n false) written
          ∙ second_more rests c.args.graph.now.ends c.loop-s.s n c.ends.result c.are_same-same.result (get_or c.deref_mut.result.now n false) (get_or c.note_second.new.seconds n false) (omega arith) c.ends.ensures
          (c.are_same-same.ensures
          ∙ ap (λ (o : Option (List ℕ)). are_same o (text_in c.rest_at-in-loop-s.result)) c.rest_at.ensures
          ∙ ap (are_same (rest_at rests c.ends.result.0.0)) c.rest_at-in-loop-s.ensures)
          (ap (λ (flags : List Bool). get_or flags n false) c.deref_mut.ensures.value ∙ c.loop-s.invariant.of n low) (c.note_second.ensures.flagged n);
    }

pub returns : goal.returns
returns c = record {
  each = c.loop-s.invariant.each;
  of = λ n low. c.loop-s.invariant.of n low ∙ ap (list_any (is_second_by (all_rests c.args.names.now c.args.graph.now) n)) (take_all c.loop-s.s c.args.graph.now.ends (omega arith));
}
