use Rattle.std.proofs.Common.{◌≡◌, ◌∙◌, ap, sym, subst, length, refl}
use Rattle.order_model.specs.Places.{places_in}
use Rattle.order_model.specs.Prefixes.{with_last, first_placed, ArePlacedLines}
use Rattle.order_model.proofs.PrefixLemmas.{first_placed_fits}
use Rattle.order_model.proofs.TableLemmas.{none_table}
use Rattle.order_model.proofs.segment_prefix.SegmentPrefix.unchosen.Goals as goal

pub put_last-requires-clause-places : goal.put_last-requires-clause-places
put_last-requires-clause-places c =
    c.in_ok-places.ensures.items_if_clones_equal (λ y e. e) ∙ none_table c.args.lines.now (length c.args.lines.now) refl
    ∙ ap (places_in c.args.lines.now) (sym c.in_ok-placed.ensures.items)

pub invariant_of-result : goal.invariant_of-result
invariant_of-result c =
    let same : c.in_ok-copy.copy.items ≡ c.args.lines.now = c.in_ok-copy.ensures.items_if_clones_equal (λ x y e. e) in
    let placed : c.put_last.new.placed.items ≡ first_placed c.args.lines.now = c.put_last.ensures.items ∙ ap (with_last c.args.lines.now) c.in_ok-placed.ensures.items in record {
      rising = rw same c.requires.rising;
      short = rw same c.requires.short;
      fits = rw same (subst (ArePlacedLines c.args.lines.now) (sym placed) (first_placed_fits c.args.lines.now c.requires.rising));
      room = rw same c.put_last.ensures.room;
      places = rw same c.put_last.ensures.places;
    }
