use Rattle.std.proofs.Common.{◌≡◌, ℕ, get_or, ap, sym, ◌∙◌, arith}
use Rattle.std.proofs.lemmas.List.{get_or_read}
use Rattle.poster_plan.specs.Things.{clash}
use Rattle.poster_table.specs.Tables.{no_thing, thing_at}
use Rattle.poster_table.proofs.Finding.{any_here, any_none, any_past}
use Rattle.poster_table.proofs.table.Table.clashes_in.Goals as goal

pub index-requires : goal.index-requires
index-requires c = omega (arith, c.requires c.loop-number.number-index 0 c.loop-number-test.true, c.args.self.now.things.ok.0)

pub loop-number-preserved : goal.loop-number-preserved
loop-number-preserved c =
    let things = c.args.self.now.things.items in
    let numbers = c.args.numbers.now in
    let i = c.loop-number.number-index in
    let read : c.index.result.now ≡ thing_at things (get_or numbers i 0) = get_or_read things (get_or numbers i 0) c.index.result.now (c.requires i 0 c.loop-number-test.true) c.index.ensures no_thing in
    any_past (λ (k : ℕ). clash c.args.thing (thing_at things k)) numbers i 0 c.loop-number-test.true (ap (clash c.args.thing) (sym read) ∙ sym c.clash.ensures ∙ c.if-clash.false) c.loop-number.invariant

pub returns-then-clash : goal.returns-then-clash
returns-then-clash c =
    let things = c.args.self.now.things.items in
    let numbers = c.args.numbers.now in
    let i = c.loop-number.number-index in
    let read : c.index.result.now ≡ thing_at things (get_or numbers i 0) = get_or_read things (get_or numbers i 0) c.index.result.now (c.requires i 0 c.loop-number-test.true) c.index.ensures no_thing in
    any_here (λ (k : ℕ). clash c.args.thing (thing_at things k)) numbers i 0 c.loop-number-test.true (ap (clash c.args.thing) (sym read) ∙ sym c.clash.ensures ∙ c.if-clash.true)

pub returns : goal.returns
returns c = any_none (λ (k : ℕ). clash c.args.thing (thing_at c.args.self.now.things.items k)) c.args.numbers.now c.loop-number.number-index (omega arith) c.loop-number.invariant
