-- Steps of the search for the word that was meant.
use Rattle.std.proofs.Common.{◌≡◌, ℕ, ◌+◌, ◌/◌, ◌<◌, ◌≤◌, ◌⊎◌, inl, inr, Bool, true, false, List, length, Option, None, Some, sym, arith}
use Rattle.std.proofs.lemmas.Bool.Decides.{leb_tells}
use Rattle.message_texts.specs.Meant.{IsMeant, IsNearestBelow, distance_at, is_near, near_enough, nearer}

-- a place below the next one is this one, or an earlier one
this_or_earlier : (k n : ℕ) → k < n + 1 → (k ≡ n) ⊎ (k < n)
this_or_earlier k n below = elim (leb_tells n k) [ inl t ↦ inl (omega (arith, t.1, below)) | inr t ↦ inr t.1 ]

-- a bound at a place is one at the same place
at_same : (word : List ℕ) (known : List (List ℕ)) (bound k n : ℕ) → k ≡ n → bound ≤ distance_at word known n → bound ≤ distance_at word known k
at_same word known bound k n same le = rw same le

-- the next word is looked at
pub next_is_nearest : (word : List ℕ) (known : List (List ℕ)) (n edits : ℕ) (best : Option (ℕ × ℕ))
    → IsNearestBelow word known n best → edits ≡ distance_at word known n → IsNearestBelow word known (n + 1) (nearer best n edits)
next_is_nearest word known n edits None none is =
    (omega arith, is, λ k below. at_same word known edits k n (omega (arith, none, below)) (omega (arith, is)))
next_is_nearest word known n edits (Some best) old is =
    elim (leb_tells best.1 edits) [ inl t ↦ rw t.0 (omega (arith, old.0), old.1, kept t.1) | inr t ↦ rw t.0 (omega arith, is, changed t.1) ]
  where
    kept : best.1 ≤ edits → (k : ℕ) → k < n + 1 → best.1 ≤ distance_at word known k
    kept le k below =
        elim (this_or_earlier k n below) [ inl same ↦ at_same word known best.1 k n same (omega (arith, le, is)) | inr earlier ↦ old.2 k earlier ]

    changed : edits < best.1 → (k : ℕ) → k < n + 1 → edits ≤ distance_at word known k
    changed lt k below =
        elim (this_or_earlier k n below) [ inl same ↦ at_same word known edits k n same (omega (arith, is)) | inr earlier ↦ omega (arith, lt, old.2 k earlier) ]

-- the nearest of all words is meant where it is near enough
pub nearest_is_meant : (word : List ℕ) (known : List (List ℕ)) (best : Option (ℕ × ℕ))
    → IsNearestBelow word known (length known) best → IsMeant word known (near_enough word best)
nearest_is_meant word known None none = λ k below. absurd (omega (arith, none, below))
nearest_is_meant word known (Some best) is =
    elim (leb_tells best.1 ((length word + 1) / 3)) [ inl t ↦ rw t.0 (near t.0) | inr t ↦ rw t.0 (far t.1) ]
  where
    near : is_near word best.1 ≡ true → IsMeant word known (Some best.0)
    near e = (is.0, rw (sym is.1) e, λ k below. rw (sym is.1) (is.2 k below))

    far : (length word + 1) / 3 < best.1 → (k : ℕ) → k < length known → is_near word (distance_at word known k) ≡ false
    far lt k below =
        elim (leb_tells (distance_at word known k) ((length word + 1) / 3)) [ inl u ↦ absurd (omega (arith, lt, is.2 k below, u.1)) | inr u ↦ u.0 ]
