use Rattle.std.proofs.Common.{◌≡◌, ℕ, ℤ, pos, Vec, w64, to_z, of_z, FitsSigned, get_or, rules, sym, ◌∙◌, ap, arith}
use Rattle.std.specs.Global.{Global}
use Rattle.std.proofs.lemmas.Int.{to_z-of_z}
use Rattle.kept_trees.proofs.Listing.{listed_more, listed_same, listed_whole, listed_rises}
use Rattle.kept_trees.proofs.walked.listed.Goals as goal
use Rattle.kept_trees.proofs.walked.listed.Goals.{then-prices-k-ne0+in_ok-push, else-prices-k-ne0}

pub loop-k-preserved : goal.loop-k-preserved
loop-k-preserved c =
    let price : ℤ = get_or c.args.prices.now c.loop-k.k (pos 0) in
    let fits : FitsSigned w64 price = search rules in
    let same : to_z w64 (of_z w64 price) ≡ price = to_z-of_z w64 price fits in
    elim c.if-prices-k-ne0.branch [
      | then-prices-k-ne0+in_ok-push w ↦
          ap (λ (v : Vec (ℕ × ℤ) Global). v.items) w.list-is
          ∙ (w.in_ok-push.ensures.items
          ∙ listed_more c.args.prices.now c.loop-k.k
          (to_z w64 (of_z w64 price)) c.loop-k.list.items c.loop-k-test.true same
          (λ e. w.if-prices-k-ne0.true (ap (of_z w64) (sym same ∙ e))) c.loop-k.invariant)
      | else-prices-k-ne0 w ↦
          ap (λ (v : Vec (ℕ × ℤ) Global). v.items) w.list-is
          ∙ listed_same c.args.prices.now c.loop-k.k
          (to_z w64 (of_z w64 price)) c.loop-k.list.items c.loop-k-test.true same
          (ap (to_z w64) w.if-prices-k-ne0.false) c.loop-k.invariant
    ]

pub of-requires : goal.of-requires
of-requires c = listed_rises c.args.prices.now c.loop-k.list.items
    (listed_whole c.args.prices.now c.loop-k.k c.loop-k.list.items (omega arith) c.loop-k.invariant)
