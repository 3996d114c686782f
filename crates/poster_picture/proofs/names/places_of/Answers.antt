use Rattle.std.proofs.Common.{◌≡◌, List, Option, None, get_or, length, replicate, ap, sym, ◌∙◌, rules, arith}
use Rattle.std.proofs.lemmas.List.{length-replicate, take_all}
use Rattle.poster_plan.specs.declared.layout.Printed.{Printed}
use Rattle.poster_rules.specs.Posters.{printed_of}
use Rattle.poster_graph.proofs.Written.{written_whole}
use Rattle.poster_picture.proofs.Noting.{none_noted, printed_more}
use Rattle.poster_picture.proofs.names.places_of.Goals as goal

pub loop-name-init : goal.loop-name-init
loop-name-init c =
    let none : c.in_ok-places.places.items ≡ replicate c.args.count None = c.in_ok-places.ensures.items_if_clones_equal (search rules) in
    record { each = ap length none ∙ length-replicate c.args.count None; noted = λ i low. none_noted c.args.count i c.in_ok-places.places.items none low }

pub loop-name-preserved : goal.loop-name-preserved
loop-name-preserved c =
    let written = written_whole c.note_place.new.places c.loop-name.places.items c.loop-name.places.len (sym (c.note_place.ensures.each ∙ c.deref_mut.ensures.len)) in
    record {
      each = ap length written ∙ c.note_place.ensures.each ∙ ap length c.deref_mut.ensures.value ∙ c.loop-name.invariant.each;
      noted = λ i low. ap (λ (ps : List (Option Printed)). get_or ps i None) written
          ∙ printed_more c.args.printed.now c.loop-name.name-index i _ (get_or c.loop-name.places.items i None) (get_or c.deref_mut.result.now i None) (get_or c.note_place.new.places i None) c.loop-name-test.true
          (c.note_place.ensures.places i (omega (arith, low, c.loop-name.invariant.each, ap length c.deref_mut.ensures.value)))
          (ap (λ (ps : List (Option Printed)). get_or ps i None) c.deref_mut.ensures.value) (c.loop-name.invariant.noted i low);
    }

pub returns-clause-places : goal.returns-clause-places
returns-clause-places c = λ i low. c.loop-name.invariant.noted i low ∙ ap (λ (ps : List Printed). printed_of ps i) (take_all c.loop-name.name-index c.args.printed.now (omega arith))
