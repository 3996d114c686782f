use Rattle.std.proofs.Common.{◌≡◌, ℕ, ◌+◌, List, [], ◌∷◌, ◌++◌, length, true, rules, ap, ◌∙◌, arith}
use Rattle.std.specs.Result.{is_ok}
use Rattle.gtfs_fields.proofs.Cuts.{pushed_covers, pushed_cut}
use Rattle.gtfs_fields.proofs.pieces.Pieces.push.Goals as goal

pub invariant_of-self-else-is_err : goal.invariant_of-self-else-is_err
invariant_of-self-else-is_err c =
    let good : is_ok c.push.result ≡ true = search rules in
    let ends = rw good at c.push.ensures.items in
    let bytes = c.in_ok-extend_from_slice.ensures.items in
    let size : c.in_ok-end.end ≡ length c.self.inside.bytes.items + length c.args.text.now = omega (arith, c.in_ok-end.ensures, c.len-start.ensures, c.self.inside.bytes.ok) in
    pushed_covers c.self.inside.ends.items c.push.new.self.items c.self.inside.bytes.items c.extend_from_slice.new.self.items c.args.text.now c.in_ok-end.end c.self.invariant ends bytes size

pub returns-clause-ok : goal.returns-clause-ok
returns-clause-ok c =
    let good : is_ok c.push.result ≡ true = search rules in
    let ends = rw good at c.push.ensures.items in
    let bytes = c.in_ok-extend_from_slice.ensures.items in
    let size : c.in_ok-end.end ≡ length c.self.inside.bytes.items + length c.args.text.now = omega (arith, c.in_ok-end.ensures, c.len-start.ensures, c.self.inside.bytes.ok) in
    pushed_cut c.self.inside.ends.items c.push.new.self.items c.self.inside.bytes.items c.extend_from_slice.new.self.items c.args.text.now c.in_ok-end.end c.self.invariant ends bytes size
    ∙ ap (λ (now : List (List ℕ)). now ++ c.args.text.now ∷ []) c.self.view_is
