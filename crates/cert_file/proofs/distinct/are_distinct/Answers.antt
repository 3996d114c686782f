use Rattle.std.proofs.Common.{ℕ, List, subst, sym}
use Rattle.std.specs.List.Sorted.{IsPermutation, IsNonDecreasing}
use Rattle.std.proofs.lemmas.List.Sorted.{IsNonDecreasingBy-from_sort}
use Rattle.cert_file.specs.Forms.{numbers_of_lines}
use Rattle.cert_file.proofs.DistinctLines.{rise_is}
use Rattle.cert_file.proofs.distinct.are_distinct.Goals as goal

pub returns : goal.returns
returns c =
    let sorted = c.as_slice.result.now in
    let lines = c.args.lines.now in
    let moved : IsPermutation (numbers_of_lines lines) sorted =
    subst (λ (xs : List ℕ). IsPermutation xs sorted) c.in_ok-numbers.ensures
    (subst (λ (ys : List ℕ). IsPermutation c.in_ok-numbers.numbers.items ys) (sym c.as_slice.ensures.value) c.sort_unstable.ensures.permutation) in
    let order : IsNonDecreasing sorted =
    subst (λ (ys : List ℕ). IsNonDecreasing ys) (sym c.as_slice.ensures.value) (IsNonDecreasingBy-from_sort (λ (x : ℕ). x) c.sort_unstable.new.self.items c.sort_unstable.ensures.sorted) in
    rise_is lines sorted c.rise.result moved order c.rise.ensures
