use Rattle.std.proofs.Common.{length, ap, arith, ℕ, zero, suc, ◌+◌, ◌≤◌, Bool, true, false, cond, List, ◌∷◌, filter}
use Rattle.drawing_search.proofs.Common.{even_places, is_even, point_at, range_with_len, GridPoint}
use Rattle.drawing_search.proofs.cutting.Track.cuts.Goals as goal

few_kept : (test : ℕ → Bool) (a n : ℕ) → length (filter test (range_with_len a n)) ≤ n
few_kept test a zero = omega arith
few_kept test a (suc n) = by_test (test a) (few_kept test (a + 1) n)
  where
    rest : List ℕ
    rest = filter test (range_with_len (a + 1) n)

    by_test : (t : Bool) → length rest ≤ n → length (cond t (a ∷ rest) rest) ≤ suc n
    by_test true h = omega (arith, h)
    by_test false h = omega (arith, h)

few_even : (ps : List GridPoint) → length (even_places ps) ≤ length ps
few_even ps = few_kept (λ i. is_even (point_at ps i)) 0 (length ps)

pub cuts_among-requires-clause-few : goal.cuts_among-requires-clause-few
cuts_among-requires-clause-few c = omega (arith, few_even c.args.self.now.points.items, ap length c.in_ok-places.ensures, ap length c.deref.ensures.value, c.requires.few)
