use Rattle.std.proofs.Common.{◌∙◌}
use Rattle.std.proofs.lemmas.List.{length-map}
use Rattle.std.proofs.lemmas.Result.{on_ok_weaker}
use Rattle.order_model.specs.Places.{tables_of}
use Rattle.dual_shares.proofs.Grouping.{items_of, term_added}
use Rattle.dual_shares.proofs.groups.add_term.Goals as goal

pub returns : goal.returns
returns c =
    on_ok_weaker c.push_where-2.result
    (λ second. term_added c.args.term c.args.n c.args.part.now (tables_of c.args.groups.now.items) (tables_of c.push_where.new.groups.items) (tables_of c.push_where-2.new.groups.items)
    c.place_in_part.result c.other_place.result c.ends_of.result.0 c.ends_of.result.1 c.ends_of.ensures.seg c.ends_of.ensures.other c.requires.rising
    (length-map c.args.groups.now.items items_of ∙ c.requires.each) c.place_in_part.ensures c.other_place.ensures.one c.other_place.ensures.two c.in_ok-push_where.ensures second)
    c.push_where-2.ensures
