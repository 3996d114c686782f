use Rattle.std.proofs.Common.{◌≡◌, ◌<◌, ℕ, true, false, get_or, Option, ap, sym, ◌∙◌, subst, arith}
use Rattle.std.specs.Prelude.{IfSome}
use Rattle.std.proofs.lemmas.List.{get_or_read}
use Rattle.label_place.specs.declared.grid.Entry.{Entry}
use Rattle.label_place.specs.Grids.{hits_upto, meets, no_entry, IsThing}
use Rattle.label_place.proofs.Links.{at_entry, earlier_ok, earlier_less, from_head, head_ok, left_over, past_entry, IsHere}
use Rattle.label_place.proofs.grid.Grid.meets_at.Goals as goal

pub loop-at-init : goal.loop-at-init
loop-at-init c =
    let g = c.args.self.now in
    let q = c.args.cell in
    record {
      left = ap (hits_upto c.args.bounds q g.entries.items) (c.copied-at.ensures ∙ c.get.ensures.value) ∙ from_head g c.args.bounds q c.requires.linked;
      here = head_ok g q c.copied-at.result c.requires.linked (c.copied-at.ensures ∙ c.get.ensures.value);
    }

pub index-entry-requires : goal.index-entry-requires
index-entry-requires c =
    let here : IsHere c.args.self.now c.args.cell c.in-Some.i = subst (λ (o : Option ℕ). IfSome o (IsHere c.args.self.now c.args.cell)) c.in-Some.is c.loop-at.invariant.here in
    omega (arith, here.0, c.args.self.now.entries.ok.0)

pub meets-requires-clause-thing : goal.meets-requires-clause-thing
meets-requires-clause-thing c =
    let g = c.args.self.now in
    let i = c.in-Some.i in
    let here : IsHere g c.args.cell i = subst (λ (o : Option ℕ). IfSome o (IsHere g c.args.cell)) c.in-Some.is c.loop-at.invariant.here in
    let read : c.index-entry.result.now ≡ get_or g.entries.items i no_entry = get_or_read g.entries.items i _ here.0 c.index-entry.ensures no_entry in
    subst (λ (e : Entry). IsThing e.thing) (sym read) (c.requires.linked.things i here.0)

pub loop-at-preserved : goal.loop-at-preserved
loop-at-preserved c =
    let g = c.args.self.now in
    let q = c.args.cell in
    let i = c.in-Some.i in
    let here : IsHere g q i = subst (λ (o : Option ℕ). IfSome o (IsHere g q)) c.in-Some.is c.loop-at.invariant.here in
    let read : c.index-entry.result.now ≡ get_or g.entries.items i no_entry = get_or_read g.entries.items i _ here.0 c.index-entry.ensures no_entry in
    let missed : meets c.args.bounds (get_or g.entries.items i no_entry).thing ≡ false = subst (λ (e : Entry). meets c.args.bounds e.thing ≡ false) read (sym c.meets.ensures ∙ c.if-meets.false) in
    record {
      left = ap (λ (e : Entry). hits_upto c.args.bounds q g.entries.items e.earlier) read
          ∙ past_entry g c.args.bounds q i c.requires.linked here.0 here.1 missed
          ∙ ap (hits_upto c.args.bounds q g.entries.items) (sym c.in-Some.is) ∙ c.loop-at.invariant.left;
      here = subst (λ (e : Entry). IfSome e.earlier (IsHere g q)) (sym read) (earlier_ok g q i c.requires.linked here);
    }

pub loop-at-smaller : goal.loop-at-smaller
loop-at-smaller c =
    let g = c.args.self.now in
    let q = c.args.cell in
    let i = c.in-Some.i in
    let here : IsHere g q i = subst (λ (o : Option ℕ). IfSome o (IsHere g q)) c.in-Some.is c.loop-at.invariant.here in
    let read : c.index-entry.result.now ≡ get_or g.entries.items i no_entry = get_or_read g.entries.items i _ here.0 c.index-entry.ensures no_entry in
    subst (λ (e : Entry). left_over e.earlier < left_over c.loop-at.at) (sym read) (earlier_less g q i c.loop-at.at c.requires.linked here c.in-Some.is)

pub returns-then-meets : goal.returns-then-meets
returns-then-meets c =
    let g = c.args.self.now in
    let q = c.args.cell in
    let i = c.in-Some.i in
    let here : IsHere g q i = subst (λ (o : Option ℕ). IfSome o (IsHere g q)) c.in-Some.is c.loop-at.invariant.here in
    let read : c.index-entry.result.now ≡ get_or g.entries.items i no_entry = get_or_read g.entries.items i _ here.0 c.index-entry.ensures no_entry in
    let met : meets c.args.bounds (get_or g.entries.items i no_entry).thing ≡ true = subst (λ (e : Entry). meets c.args.bounds e.thing ≡ true) read (sym c.meets.ensures ∙ c.if-meets.true) in
    sym (at_entry g c.args.bounds q i here.0 here.1 met)
    ∙ ap (hits_upto c.args.bounds q g.entries.items) (sym c.in-Some.is) ∙ c.loop-at.invariant.left
