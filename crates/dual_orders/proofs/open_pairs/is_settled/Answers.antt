use Rattle.std.proofs.Common.{◌≡◌, length, sym, ◌∙◌}
use Rattle.dual_ascent.specs.OpenPairs.{leads}
use Rattle.dual_orders.proofs.Chains.{leads_by, settled_once, settled_back}
use Rattle.dual_orders.proofs.open_pairs.is_settled.Goals as goal

pub returns-then-has_place : goal.returns-then-has_place
returns-then-has_place c = λ pairs tells chain.
    (let a = c.args.average.lesser in
    let b = c.args.average.greater in
    let is : c.has_place.result ≡ leads (length pairs) pairs a b =
    leads_by pairs c.args.lines.now c.args.direct.now a b c.args.chain c.place_of-i.result c.place_of-j.result
    c.all_ahead.result c.has_place.result tells chain c.requires.two.first_on c.requires.two.second_on
    c.place_of-i.ensures.place c.place_of-j.ensures.place c.all_ahead.ensures c.has_place.ensures in
    settled_once (leads (length pairs) pairs a b) (leads (length pairs) pairs b a) (sym is ∙ c.if-has_place.true))

pub returns : goal.returns
returns c = λ pairs tells chain.
    (let a = c.args.average.lesser in
    let b = c.args.average.greater in
    let is : c.has_place.result ≡ leads (length pairs) pairs a b =
    leads_by pairs c.args.lines.now c.args.direct.now a b c.args.chain c.place_of-i.result c.place_of-j.result
    c.all_ahead.result c.has_place.result tells chain c.requires.two.first_on c.requires.two.second_on
    c.place_of-i.ensures.place c.place_of-j.ensures.place c.all_ahead.ensures c.has_place.ensures in
    let back : c.has_place-2.result ≡ leads (length pairs) pairs b a =
    leads_by pairs c.args.lines.now c.args.direct.now b a c.args.chain c.place_of-j.result c.place_of-i.result
    c.all_ahead-2.result c.has_place-2.result tells chain c.requires.two.second_on c.requires.two.first_on
    c.place_of-j.ensures.place c.place_of-i.ensures.place c.all_ahead-2.ensures c.has_place-2.ensures in
    settled_back c.has_place-2.result (leads (length pairs) pairs a b) (leads (length pairs) pairs b a)
    (sym is ∙ c.if-has_place.false) back)
