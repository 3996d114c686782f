-- Things that are put into buckets.
use Rattle.std.proofs.Common.{◌≡◌, ℕ, zero, suc, ◌+◌, ◌<◌, ◌==◌, Bool, true, false, List, [], ◌∷◌, ◌++◌, length, get_or, set, refl, ap, sym, ◌∙◌, subst, inl, inr, ◌⊎◌, arith, length-set}
use Rattle.std.specs.Prelude.{All, Contains, Vec}
use Rattle.std.specs.Global.{Global}
use Rattle.std.proofs.lemmas.Bool.{eqb-true, eqb-false, ne_eqb}
use Rattle.std.proofs.lemmas.List.Elements.{All-append, All-contains, All-contains_itself, All-nil, All-push, All-weaker}
use Rattle.poster_table.specs.Tables.{bucket_at, PutsIn}
use Rattle.poster_table.proofs.Members.{here as first_in, in_first, in_second}

abbrev Buckets : Type 0
Buckets = List (Vec ℕ Global)

-- nothing is put
pub puts_none : (buckets : Buckets) (number : ℕ) → PutsIn buckets buckets [] number
puts_none buckets number = record {
  count = refl;
  keeps = λ b i at. at;
  has = All-nil (λ (b : ℕ). Contains (bucket_at buckets b) number);
  only = λ b. All-weaker (Contains (bucket_at buckets b)) (λ (i : ℕ). Contains (bucket_at buckets b) i ⊎ (i ≡ number)) (λ i at. inl at) (bucket_at buckets b) (All-contains_itself (bucket_at buckets b));
}

-- into some, and then into others
pub puts_then : (a b c : Buckets) (first second all : List ℕ) (number : ℕ) → all ≡ first ++ second → PutsIn a b first number → PutsIn b c second number → PutsIn a c all number
puts_then a b c first second all number e h k = record {
  count = k.count ∙ h.count;
  keeps = λ bucket i at. k.keeps bucket i (h.keeps bucket i at);
  has =
      subst (All (λ (bucket : ℕ). Contains (bucket_at c bucket) number)) (sym e)
      (All-append (λ (bucket : ℕ). Contains (bucket_at c bucket) number) first second
      (All-weaker (λ (bucket : ℕ). Contains (bucket_at b bucket) number) (λ (bucket : ℕ). Contains (bucket_at c bucket) number) (λ bucket at. k.keeps bucket number at) first h.has) k.has);
  only = λ bucket.
      All-weaker (λ (i : ℕ). Contains (bucket_at b bucket) i ⊎ (i ≡ number)) (λ (i : ℕ). Contains (bucket_at a bucket) i ⊎ (i ≡ number)) (before bucket) (bucket_at c bucket) (k.only bucket);
}
  where
    before : (bucket i : ℕ) → Contains (bucket_at b bucket) i ⊎ (i ≡ number) → Contains (bucket_at a bucket) i ⊎ (i ≡ number)
    before bucket i (inl at) = All-contains (λ (j : ℕ). Contains (bucket_at a bucket) j ⊎ (j ≡ number)) (bucket_at b bucket) i (h.only bucket) at
    before bucket i (inr same) = inr same

-- ---- one bucket

pub bucket_is : (buckets : Buckets) (b : ℕ) (d : Vec ℕ Global) → b < length buckets → bucket_at buckets b ≡ (get_or buckets b d).items
bucket_is [] b d low = absurd (omega arith)
bucket_is (v ∷ vs) zero d low = refl
bucket_is (v ∷ vs) (suc b) d low = bucket_is vs b d (omega (arith, low))

set_here : (buckets : Buckets) (b : ℕ) (e : Vec ℕ Global) → b < length buckets → bucket_at (set buckets b e) b ≡ e.items
set_here [] b e low = absurd (omega arith)
set_here (v ∷ vs) zero e low = refl
set_here (v ∷ vs) (suc b) e low = set_here vs b e (omega (arith, low))

set_there : (buckets : Buckets) (b k : ℕ) (e : Vec ℕ Global) → (b == k) ≡ false → bucket_at (set buckets b e) k ≡ bucket_at buckets k
set_there [] b k e other = refl
set_there (v ∷ vs) zero zero e other = absurd cc
set_there (v ∷ vs) zero (suc k) e other = refl
set_there (v ∷ vs) (suc b) zero e other = refl
set_there (v ∷ vs) (suc b) (suc k) e other = set_there vs b k e (ne_eqb b k (λ is. eqb-false (suc b) (suc k) other (ap suc is)))

-- a number is put into a bucket
pub put_one : (buckets : Buckets) (b : ℕ) (g e : Vec ℕ Global) (number : ℕ) → b < length buckets → g ≡ get_or buckets b g → e.items ≡ g.items ++ number ∷ [] → PutsIn buckets (set buckets b e) (b ∷ []) number
put_one buckets b g e number low here more = record {
  count = length-set buckets b e;
  keeps = λ k i at. keeps k i (b == k) refl at;
  has = All-push (λ (k : ℕ). Contains (bucket_at (set buckets b e) k) number) [] b (All-nil (λ (k : ℕ). Contains (bucket_at (set buckets b e) k) number)) (subst (λ (ns : List ℕ). Contains ns number) (sym grown) (in_second (bucket_at buckets b) (number ∷ []) number (first_in number [])));
  only = λ k. only k (b == k) refl;
}
  where
    old : bucket_at buckets b ≡ g.items
    old = bucket_is buckets b g low ∙ ap (λ (v : Vec ℕ Global). v.items) (sym here)

    grown : bucket_at (set buckets b e) b ≡ bucket_at buckets b ++ number ∷ []
    grown = set_here buckets b e low ∙ more ∙ ap (λ (ns : List ℕ). ns ++ number ∷ []) (sym old)

    keeps : (k i : ℕ) (t : Bool) → (b == k) ≡ t → Contains (bucket_at buckets k) i → Contains (bucket_at (set buckets b e) k) i
    keeps k i true same at =
        let one : b ≡ k = eqb-true b k same in
        subst (λ (j : ℕ). Contains (bucket_at (set buckets b e) j) i) one (subst (λ (ns : List ℕ). Contains ns i) (sym grown) (in_first (bucket_at buckets b) (number ∷ []) i (subst (λ (j : ℕ). Contains (bucket_at buckets j) i) (sym one) at)))
    keeps k i false other at = subst (λ (ns : List ℕ). Contains ns i) (sym (set_there buckets b k e other)) at

    only : (k : ℕ) (t : Bool) → (b == k) ≡ t → All (λ (i : ℕ). Contains (bucket_at buckets k) i ⊎ (i ≡ number)) (bucket_at (set buckets b e) k)
    only k true same =
        let one : b ≡ k = eqb-true b k same in
        subst (λ (j : ℕ). All (λ (i : ℕ). Contains (bucket_at buckets j) i ⊎ (i ≡ number)) (bucket_at (set buckets b e) j)) one
        (subst (All (λ (i : ℕ). Contains (bucket_at buckets b) i ⊎ (i ≡ number))) (sym grown)
        (All-push (λ (i : ℕ). Contains (bucket_at buckets b) i ⊎ (i ≡ number)) (bucket_at buckets b) number
        (All-weaker (Contains (bucket_at buckets b)) (λ (i : ℕ). Contains (bucket_at buckets b) i ⊎ (i ≡ number)) (λ i at. inl at) (bucket_at buckets b) (All-contains_itself (bucket_at buckets b))) (inr refl)))
    only k false other =
        subst (All (λ (i : ℕ). Contains (bucket_at buckets k) i ⊎ (i ≡ number))) (sym (set_there buckets b k e other))
        (All-weaker (Contains (bucket_at buckets k)) (λ (i : ℕ). Contains (bucket_at buckets k) i ⊎ (i ≡ number)) (λ i at. inl at) (bucket_at buckets k) (All-contains_itself (bucket_at buckets k)))

-- one bucket more of nothing
pub none_more : (buckets : Buckets) (v : Vec ℕ Global) → ((b : ℕ) → bucket_at buckets b ≡ []) → v.items ≡ [] → (b : ℕ) → bucket_at (buckets ++ v ∷ []) b ≡ []
none_more [] v none e zero = e
none_more [] v none e (suc b) = refl
none_more (w ∷ ws) v none e zero = none 0
none_more (w ∷ ws) v none e (suc b) = none_more ws v (λ k. none (suc k)) e b
