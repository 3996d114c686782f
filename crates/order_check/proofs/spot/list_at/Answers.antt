use Rattle.std.proofs.Common.{◌≡◌, ◌∙◌, List, sym, ap, length, arith}
use Rattle.std.proofs.lemmas.List.{length-map}
use Rattle.order_check.specs.declared.spot.Spot.{Spot}
use Rattle.order_check.specs.declared.spot.SpotTerm.{SpotTerm}
use Rattle.order_check.specs.Spots.{listed, term_lists, with_term}
use Rattle.order_check.proofs.SpotLists.{noted, with_each, listed_more, place_within}
use Rattle.order_check.proofs.spot.list_at.Goals as goal

pub add_to-requires : goal.add_to-requires
add_to-requires c = omega (arith, c.in_ok-k.ensures.index, place_within c.args.table.now.spots.keys c.args.spot, c.requires.each)

pub returns-clause-each : goal.returns-clause-each
returns-clause-each c =
    let spots : List Spot = c.args.table.now.spots.keys in
    let lists : List (List SpotTerm) = term_lists c.args.table.now.lists.items in
    let before : length lists ≡ length spots = length-map c.args.table.now.lists.items (λ v. v.items) ∙ c.requires.each in
    sym (length-map c.add_to.new.lists.items (λ v. v.items)) ∙ ap length c.in_ok-add_to.ensures ∙ ap (λ n. length (with_term lists n c.args.t)) c.in_ok-k.ensures.index
    ∙ with_each spots lists c.args.spot c.args.t before ∙ ap length (sym c.in_ok-k.ensures.keys)

pub returns-clause-listed : goal.returns-clause-listed
returns-clause-listed c = λ u.
    (let spots : List Spot = c.args.table.now.spots.keys in
    let lists : List (List SpotTerm) = term_lists c.args.table.now.lists.items in
    let before : length lists ≡ length spots = length-map c.args.table.now.lists.items (λ v. v.items) ∙ c.requires.each in
    ap (λ ks. listed ks (term_lists c.add_to.new.lists.items) u) c.in_ok-k.ensures.keys
    ∙ ap (λ ls. listed (noted spots c.args.spot) ls u) (c.in_ok-add_to.ensures ∙ ap (λ n. with_term lists n c.args.t) c.in_ok-k.ensures.index)
    ∙ listed_more spots lists c.args.spot c.args.t u before)
