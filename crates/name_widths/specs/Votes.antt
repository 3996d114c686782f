-- How the word is found with which more than half of names begin: a vote of which one word comes out ahead.
use Rattle.std.specs.Prelude.{ℕ, ◌≡◌, ◌+◌, ◌*◌, ◌≤◌, Bool, false, List, length, map, bytes_eq, Option, Some, None}
use Rattle.name_widths.specs.Words.{count_with}
use Rattle.std.specs.Borrow.{Bor}

-- the texts of lent names
abbrev pub texts_of : List (Bor (List ℕ)) → List (List ℕ)
texts_of names = map (λ (n : Bor (List ℕ)). n.now) names

-- After a vote over names one word leads by so much: twice the number of names with it are at most as many as there are
-- and the lead, and twice those with any other word and the lead are at most as many as there are.
pub record IsVote (names : List (List ℕ)) (word : List ℕ) (lead : ℕ) : Type 0 where
  pub ahead : 2 * count_with names word ≤ length names + lead
  pub behind : (other : List ℕ) → bytes_eq word other ≡ false → 2 * count_with names other + lead ≤ length names

-- a word is this one, if there is one
abbrev pub is_that : List ℕ → Option (Bor (List ℕ)) → Bool
is_that word None = false
is_that word (Some w) = bytes_eq w.now word
