use Rattle.std.proofs.Common.{◌≡◌, ℕ, cond, Some, ◌∙◌, refl, ap, length, arith}
use Rattle.std.specs.HashMap.{get}
use Rattle.label_place.specs.declared.grid.Entry.{Entry}
use Rattle.label_place.specs.declared.grid.Grid.{Grid}
use Rattle.label_place.specs.Grids.{is_cell}
use Rattle.label_place.proofs.Links.{linked_more, meets_more}
use Rattle.label_place.proofs.grid.Grid.put_at.Goals as goal

pub returns : goal.returns
returns c =
    let old = c.args.self.now in
    let e : Entry = record { cell = c.args.cell; thing = c.args.thing; earlier = c.copied-earlier.result } in
    let new : Grid = record { side = old.side; heads = c.insert.new.self; entries = c.push.new.self } in
    let count : c.len-place.result ≡ length old.entries.items = omega (arith, c.len-place.ensures, old.entries.ok.0) in
    record {
      linked =
          linked_more old new e c.requires.linked c.requires.thing refl c.in_ok-push.ensures.items (c.copied-earlier.ensures ∙ c.get.ensures.value ∙ c.requires.linked.heads c.args.cell)
          (λ q. c.in_ok-insert.ensures.updates.0 q ∙ ap (λ (n : ℕ). cond (is_cell c.args.cell q) (Some n) (get is_cell old.heads q)) count);
      side = refl;
      found = meets_more old new e c.in_ok-push.ensures.items;
    }
