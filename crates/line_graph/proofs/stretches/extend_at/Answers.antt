use Rattle.std.proofs.Common.{◌∙◌, ◌<◌, ◌++◌, ◌∷◌, [], sym, ap, map, set, length, arith}
use Rattle.std.proofs.lemmas.List.{map-append, map-set, length-map, get_or-map}
use Rattle.line_graph.proofs.TableSteps.{extended_new, extended_at}
use Rattle.line_graph.proofs.stretches.extend_at.Goals as goal

pub returns-then-place-len : goal.returns-then-place-len
returns-then-place-len c =
    ap (map (λ v. v.items)) c.in_ok-push.ensures.items ∙ map-append (λ v. v.items) c.args.corridors.now.items (c.in_ok-from_slice.field-0 ∷ [])
    ∙ ap (λ xs. map (λ v. v.items) c.args.corridors.now.items ++ xs ∷ []) c.in_ok-from_slice.ensures.items
    ∙ extended_new (map (λ v. v.items) c.args.corridors.now.items) c.args.place c.args.samples.now (omega (arith, c.if-place-len.true, length-map c.args.corridors.now.items (λ v. v.items)))

pub returns : goal.returns
returns c =
    let below : c.args.place < length c.args.corridors.now.items = omega (arith, c.requires, c.if-place-len.false, c.len.ensures) in
    map-set (λ v. v.items) c.args.corridors.now.items c.args.place c.extend_from_slice.new.self
    ∙ ap (λ xs. set (map (λ v. v.items) c.args.corridors.now.items) c.args.place xs)
    (c.in_ok-extend_from_slice.ensures.items ∙ ap (λ v. v.items ++ c.args.samples.now) c.index_mut.ensures.value
    ∙ ap (λ xs. xs ++ c.args.samples.now) (sym (get_or-map (λ v. v.items) c.args.corridors.now.items c.args.place c.index_mut.result.now [] below)))
    ∙ extended_at (map (λ v. v.items) c.args.corridors.now.items) c.args.place c.args.samples.now (omega (arith, below, length-map c.args.corridors.now.items (λ v. v.items)))
