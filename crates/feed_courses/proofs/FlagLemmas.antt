-- Flagged numbers are those that pass a test.
use Rattle.std.proofs.Common.{◌≡◌, ◌∙◌, ap, ℕ, ◌≤◌, Bool, List, Vec, Result, Ok, Err, length, filter, map, take}
use Rattle.std.specs.Global.{Global}
use Rattle.std.specs.List.{range_with_len}
use Rattle.std.specs.Result.{IfOk}
use Rattle.std.proofs.lemmas.List.{take_all}
use Rattle.std.proofs.lemmas.List.Elements.{filter_agree}
use Rattle.feed_courses.specs.Flags.{flag_at, flagged}

flagged-is : (flags : List Bool) (test : ℕ → Bool) (count : ℕ) → length flags ≡ count → ((k : ℕ) → flag_at flags k ≡ test k) → flagged flags ≡ filter test (range_with_len 0 count)
flagged-is flags test count count_is same = filter_agree (flag_at flags) test same (range_with_len 0 (length flags)) ∙ ap (λ n. filter test (range_with_len 0 n)) count_is

-- where the flags are those of a test over the elements so far, and all are gone through, the test's numbers are flagged
pub flagged-of_all : {A P E : Type 0} (now : A → P) (test : List P → ℕ → Bool) (items : List A) (i count : ℕ) (flags shown : List Bool) (r : Result (Vec ℕ Global) E) → length items ≤ i → shown ≡ flags → length flags ≡ count →
    ((k : ℕ) → flag_at flags k ≡ test (map now (take i items)) k) → IfOk r (λ ns. ns.items ≡ flagged shown) → IfOk r (λ ns. ns.items ≡ filter (test (map now items)) (range_with_len 0 count))
flagged-of_all now test items i count flags shown (Ok ns) all same count_is flagged_are is =
    is ∙ ap flagged same ∙ flagged-is flags (test (map now items)) count count_is (λ k. flagged_are k ∙ ap (λ xs. test (map now xs) k) (take_all i items all))
flagged-of_all now test items i count flags shown (Err e) all same count_is flagged_are is = tt
