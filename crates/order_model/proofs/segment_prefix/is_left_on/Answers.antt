use Rattle.std.proofs.Common.{◌≡◌, ◌≢◌, ◌∙◌, ◌==◌, ◌&&◌, false, not, ap, sym, get_or, true≢false, eq-eqb}
use Rattle.order_model.specs.Places.{has_line, place_of, no_place}
use Rattle.order_model.proofs.PlaceLemmas.{no_line}
use Rattle.order_model.proofs.TableLemmas.{not_at_rank}
use Rattle.order_model.proofs.segment_prefix.is_left_on.Goals as goal

pub returns-then-ne : goal.returns-then-ne
returns-then-ne c =
    let differ : (get_or c.args.lines.now c.rank-i.result no_line).0 ≢ c.args.line.0 =
    λ e. true≢false (sym c.if-ne.true ∙ c.ne.ensures ∙ ap not (eq-eqb (get_or c.args.lines.now c.rank-i.result no_line).0 c.args.line.0 e)) in
    let absent : has_line c.args.lines.now c.args.line ≡ false = not_at_rank c.args.lines.now c.args.line c.rank-i.result c.rank-i.ensures.place differ in
    sym (ap (λ b. b && (get_or c.args.places.now (place_of c.args.lines.now c.args.line) 0 == no_place)) absent)
