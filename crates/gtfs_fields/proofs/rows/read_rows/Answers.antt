use Rattle.std.proofs.Common.{ap, List, ℕ, ◌≡◌, ◌+◌, ◌∷◌, ◌++◌, [], length, ◌∙◌, sym, refl, length-append, append_assoc, arith}
use Rattle.std.proofs.lemmas.List.{append-nil}
use Rattle.csv.specs.Records.{fields_of}
use Rattle.gtfs_fields.specs.Pieces.{cut}
use Rattle.gtfs_fields.specs.RowsLeft.{rows_left}
use Rattle.gtfs_fields.proofs.Cuts.{pushed_covers, pushed_cut}
use Rattle.gtfs_fields.proofs.rows.read_rows.Goals as goal

pub loop-ends-init : goal.loop-ends-init
loop-ends-init c =
    rw (c.new-ends.ensures.items, c.in_ok-fields.ensures) (record {
      plain = c.in_ok-reader.ensures.plain;
      covers = refl;
      all = sym c.in_ok-reader.ensures.left;
    })

pub loop-ends-smaller : goal.loop-ends-smaller
loop-ends-smaller c =
    let takes = ap rows_left (sym c.deref_mut.ensures.value) ∙ (rw c.if-branch.true at c.in_ok-read_next.ensures.takes) in
    omega (arith, ap length takes)

pub loop-ends-preserved : goal.loop-ends-preserved
loop-ends-preserved c =
    let row = fields_of c.read_next.new.row in
    let rows = cut 0 c.loop-ends.ends.items c.loop-ends.fields in
    let left = rows_left c.read_next.new.reader in
    let takes = ap rows_left (sym c.deref_mut.ensures.value) ∙ (rw c.if-branch.true at c.in_ok-read_next.ensures.takes) in
    let fields = c.in_ok-push_fields.ensures in
    let ends = c.in_ok-push.ensures.items in
    let size : c.in_ok-place_of.field-0 ≡ length c.loop-ends.fields + length row = c.in_ok-place_of.ensures ∙ c.len.ensures ∙ ap length fields ∙ length-append c.loop-ends.fields row in
    let now = pushed_cut c.loop-ends.ends.items c.push.new.self.items c.loop-ends.fields c.push_fields.new.fields row c.in_ok-place_of.field-0 c.loop-ends.invariant.covers ends fields size in
    record {
      plain = c.in_ok-read_next.ensures.plain;
      covers = pushed_covers c.loop-ends.ends.items c.push.new.self.items c.loop-ends.fields c.push_fields.new.fields row c.in_ok-place_of.field-0 c.loop-ends.invariant.covers ends fields size;
      all = c.loop-ends.invariant.all ∙ ap (λ (later : List (List (List ℕ))). rows ++ later) takes ∙ sym (append_assoc rows (row ∷ []) left) ∙ ap (λ (front : List (List (List ℕ))). front ++ left) (sym now);
    }

pub returns : goal.returns
returns c =
    let rows = cut 0 c.loop-ends.ends.items c.loop-ends.fields in
    let takes = ap rows_left (sym c.deref_mut.ensures.value) ∙ (rw c.if-branch.false at c.in_ok-read_next.ensures.takes) in
    sym (c.loop-ends.invariant.all ∙ ap (λ (later : List (List (List ℕ))). rows ++ later) takes ∙ append-nil rows)
