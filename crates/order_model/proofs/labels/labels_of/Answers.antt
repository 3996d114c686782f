use Rattle.std.proofs.Common.{◌≡◌, ◌∙◌, ℕ, get_or, length, take, ◌++◌, ◌∷◌, [], sym, List}
use Rattle.std.specs.List.{All}
use Rattle.std.proofs.lemmas.List.{take_more}
use Rattle.std.proofs.lemmas.List.Elements.{All-take, All-get_or}
use Rattle.order_model.specs.declared.term.Term.{Term}
use Rattle.order_model.specs.declared.term.Term.TheVariants.{Side}
use Rattle.order_model.specs.Costs.{IsReadable}
use Rattle.order_model.specs.Parts.{AreLabels, PointWithin, joined_by}
use Rattle.order_model.proofs.Classes.{own_labels_tell, labels_after, written_back}
use Rattle.order_model.proofs.Pointing.{own_of_labels, within_first}
use Rattle.order_model.proofs.labels.labels_of.Goals as goal

pub loop-term-init : goal.loop-term-init
loop-term-init c =
    let ls : List ℕ = c.in_ok-parents.parents.items in (
      ls,
      own_labels_tell c.args.count ls c.in_ok-parents.ensures.len c.in_ok-parents.ensures.own,
      within_first ls c.args.count c.in_ok-parents.ensures.len c.in_ok-parents.ensures.own,
    )

pub loop-term-preserved : goal.loop-term-preserved
loop-term-preserved c =
    let i = c.loop-term.term-index in
    let terms : List Term = c.args.terms.now in
    let x : Term = get_or terms i (Side (record { 0 = 0 }) (record { 0 = 0 }) (record { 0 = 0 }) 0) in
    let ls : List ℕ = c.loop-term.invariant.0 in
    let tell : AreLabels (take i terms) c.args.count ls = c.loop-term.invariant.1 in
    let before : All (IsReadable c.args.count) (take i terms) = All-take (IsReadable c.args.count) i terms c.requires in
    let here : IsReadable c.args.count x = All-get_or (IsReadable c.args.count) terms i _ c.loop-term-test.true c.requires in
    let after : AreLabels (take i terms ++ x ∷ []) c.args.count (joined_by ls x) = labels_after (take i terms) c.args.count ls x tell before here in
    let within : PointWithin (joined_by ls x) c.join_by.new.parents =
    c.join_by.ensures.within ls (own_of_labels (take i terms) c.args.count ls tell) (rw c.as_mut_slice.ensures.value c.loop-term.invariant.2) in
    let same_len : length c.loop-term.parents.items ≡ c.loop-term.parents.len = sym c.loop-term.parents.ok.0 in
    let new_len : length c.join_by.new.parents ≡ c.loop-term.parents.len =
    within.each ∙ after.each ∙ sym tell.each ∙ sym c.loop-term.invariant.2.each ∙ same_len in
    rw (
      take_more terms i (Side (record { 0 = 0 }) (record { 0 = 0 }) (record { 0 = 0 }) 0) c.loop-term-test.true,
      written_back c.loop-term.parents.items c.join_by.new.parents c.loop-term.parents.len same_len new_len,
    ) (joined_by ls x, after, within)
