use Rattle.std.proofs.Common.{◌≡◌, ◌∙◌, ◌||◌, false, not, sym, ap, ◌==◌, eq-eqb}
use Rattle.order_model.specs.Places.{no_place, place_in}
use Rattle.order_model.specs.Prefixes.{is_placed}
use Rattle.order_model.proofs.LookLemmas.{has_place}
use Rattle.order_model.proofs.segment_prefix.SegmentPrefix.is_decided.Goals as goal

pub returns-else-a_placed : goal.returns-else-a_placed
returns-else-a_placed c =
    let none : is_placed c.args.self.now.placed c.args.a ≡ false =
    sym (has_place c.args.self.now.placed c.args.a c.place_of-a_placed.ensures.short) ∙ ap not (eq-eqb (place_in c.args.self.now.placed c.args.a) no_place (sym c.place_of-a_placed.ensures.place ∙ c.if-a_placed.false)) in
    ap (λ n. not (n == no_place)) c.place_of-b_placed.ensures.place ∙ has_place c.args.self.now.placed c.args.b c.place_of-a_placed.ensures.short
    ∙ ap (λ t. t || is_placed c.args.self.now.placed c.args.b) (sym none)
