use Rattle.std.proofs.Common.{◌<◌, ◌∙◌, ◌++◌, ◌∷◌, [], sym, ap, map, set, length, arith}
use Rattle.std.proofs.lemmas.List.{map-append, map-set, length-map, get_or-map}
use Rattle.order_check.proofs.SpotLists.{with_new, with_at}
use Rattle.order_check.proofs.spot.add_to.Goals as goal

pub returns-then-k-len : goal.returns-then-k-len
returns-then-k-len c =
    ap (map (λ v. v.items)) c.in_ok-push-2.ensures.items ∙ map-append (λ v. v.items) c.args.lists.now.items (c.push.new.self ∷ [])
    ∙ ap (λ xs. map (λ v. v.items) c.args.lists.now.items ++ xs ∷ []) c.in_ok-push.ensures.items
    ∙ ap (λ xs. map (λ v. v.items) c.args.lists.now.items ++ (xs ++ c.args.t ∷ []) ∷ []) c.new-list.ensures.items
    ∙ with_new (map (λ v. v.items) c.args.lists.now.items) c.args.k c.args.t (omega (arith, c.if-k-len.true, length-map c.args.lists.now.items (λ v. v.items)))

pub returns : goal.returns
returns c =
    let below : c.args.k < length c.args.lists.now.items = omega (arith, c.requires, c.if-k-len.false, c.len.ensures) in
    map-set (λ v. v.items) c.args.lists.now.items c.args.k c.push-2.new.self
    ∙ ap (λ xs. set (map (λ v. v.items) c.args.lists.now.items) c.args.k xs)
    (c.in_ok-push-3.ensures.items ∙ ap (λ v. v.items ++ c.args.t ∷ []) c.index_mut.ensures.value
    ∙ ap (λ xs. xs ++ c.args.t ∷ []) (sym (get_or-map (λ v. v.items) c.args.lists.now.items c.args.k c.index_mut.result.now [] below)))
    ∙ with_at (map (λ v. v.items) c.args.lists.now.items) c.args.k c.args.t (omega (arith, below, length-map c.args.lists.now.items (λ v. v.items)))
