-- Vectors that are written as slices.
use Rattle.std.proofs.Common.{◌≡◌, ℕ, List, ◌++◌, length, drop, take, ap, ◌∙◌}
use Rattle.std.proofs.Math.Seq.{take-append_seam}

-- what a vector of n elements holds then
pub written_whole : {A : Type 0} (new old : List A) (n : ℕ) → n ≡ length new → take n (new ++ drop (length new) old) ≡ new
written_whole new old n e = ap (λ (k : ℕ). take k (new ++ drop (length new) old)) e ∙ take-append_seam new (drop (length new) old)
