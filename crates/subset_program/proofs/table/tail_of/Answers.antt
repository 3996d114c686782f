use Rattle.std.proofs.Common.{◌≡◌, ◌≤◌, sym, ◌∙◌, ap, subst, w64, to_z, of_z, Some}
use Rattle.std.specs.Prelude.{◌+ℤ◌, unsigned_abs, IfSome}
use Rattle.std.specs.Option.{option_map}
use Rattle.std.proofs.lemmas.Int.{to_z-of_z}
use Rattle.least_orders.specs.Subsets.{rest_cost, before_left}
use Rattle.least_orders.proofs.Bounds.{before_left_within}
use Rattle.subset_program.specs.PlainRows.{plain_rows}
use Rattle.subset_program.specs.Tables.{read, tail_cost}
use Rattle.subset_program.proofs.Firsts.{rest_small, tail_small}
use Rattle.subset_program.proofs.table.tail_of.Goals as goal

pub from_last-requires-clause-rest : goal.from_last-requires-clause-rest
from_last-requires-clause-rest c =
    subst (λ o. IfSome o (λ v. unsigned_abs v ≤ 600000000000000000)) (sym c.rest_at-rest.ensures) (rest_small (plain_rows c.args.rows.now) c.requires.rows c.args.set (Some c.args.last))

left_fits : (c : goal.After-rest_at-rest) → to_z w64 (of_z w64 c.left_at-left.result) ≡ c.left_at-left.result
left_fits c = to_z-of_z w64 c.left_at-left.result (record { sfits = c.left_at-left.type_inv })

pub from_last-requires-clause-left : goal.from_last-requires-clause-left
from_last-requires-clause-left c =
    subst (λ v. unsigned_abs v ≤ 32000000000000000) (sym (left_fits c ∙ c.left_at-left.ensures)) (before_left_within (plain_rows c.args.rows.now) c.requires.rows c.args.set c.args.last)

told : (c : goal.After-from_last) → c.from_last.result ≡ tail_cost (plain_rows c.args.rows.now) c.args.set c.args.last
told c =
    let same : to_z w64 (of_z w64 c.left_at-left.result) ≡ before_left (plain_rows c.args.rows.now) c.args.set c.args.last =
    to_z-of_z w64 c.left_at-left.result (record { sfits = c.left_at-left.type_inv }) ∙ c.left_at-left.ensures in
    c.from_last.ensures
    ∙ (ap (λ o. option_map (λ v. v +ℤ to_z w64 (of_z w64 c.left_at-left.result)) o) c.rest_at-rest.ensures
    ∙ ap (λ l. option_map (λ v. v +ℤ l) (rest_cost (plain_rows c.args.rows.now) c.args.set (Some c.args.last))) same)

pub written-requires : goal.written-requires
written-requires c =
    subst (λ o. IfSome o (λ v. unsigned_abs v ≤ 600000000000000000)) (sym (told c)) (tail_small (plain_rows c.args.rows.now) c.requires.rows c.args.set c.args.last)

pub returns : goal.returns
returns c =
    let same : to_z w64 (of_z w64 c.left_at-left.result) ≡ before_left (plain_rows c.args.rows.now) c.args.set c.args.last =
    to_z-of_z w64 c.left_at-left.result (record { sfits = c.left_at-left.type_inv }) ∙ c.left_at-left.ensures in
    record {
      with_left = same;
      at_least = ap read (to_z-of_z w64 c.written.result (record { sfits = c.written.type_inv })) ∙ (c.written.ensures ∙ told c.before);
    }
